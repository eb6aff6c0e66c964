-- What was made of logs.
use Rattle.std.proofs.Common.{◌≡◌, ℕ, List, Result, Some, Ok, Err, IfErr, slice_get, length, refl}
use Rattle.std.proofs.Common.{inl}
use Rattle.std.specs.Borrow.{Bor}
use Rattle.retire.specs.declared.event.Event.{Event}
use Rattle.retire.specs.declared.fault.LogFault.TheVariants.{Memory}
use Rattle.rvclass.specs.Image.{Image}
use Rattle.log_streams.specs.Gave.{Gave}
use Rattle.log_streams.specs.Known.{Content}
use Rattle.log_streams.specs.Made.{AreMade, AreMadeBy, AreMadeOfGiven, IsMadeOf, IsMadeOfGiven}
use Rattle.log_streams.specs.declared.illegal_row.IllegalRow.{IllegalRow}
use Rattle.log_streams.specs.declared.logs_fault.LogsFault.{LogsFault}
use Rattle.log_streams.specs.declared.stop.Stop.{Stop}
use Rattle.log_streams.specs.declared.stop.Stop.TheVariants as stop
use Rattle.log_streams.specs.steps.Allowed.{IsMadeAt}

-- An allocation that failed may always be the reason.
abbrev pub MayBeDenied : {X : Type 0} → (List ℕ → ℕ → Result X Stop → Type 0) → Type 0
MayBeDenied IsMade = (path : List ℕ) (hart : ℕ) → IsMade path hart (Err (stop.Unread Memory))

module _ {X : Type 0} (P Q : List ℕ → ℕ → Result X Stop → Type 0)
    (leads : (path : List ℕ) (hart : ℕ) (one : Result X Stop) → P path hart one → Q path hart one) where
  fault-leads : (paths : List (Bor (List ℕ))) (count : ℕ) (end : Result (Unit {0}) LogsFault)
      → IfErr end (λ fault. (slice_get paths count ≡ Some fault.path) × P fault.path.now count (Err fault.why))
      → IfErr end (λ fault. (slice_get paths count ≡ Some fault.path) × Q fault.path.now count (Err fault.why))
  fault-leads paths count (Ok u) h = tt
  fault-leads paths count (Err fault) (at, is) = (at, leads fault.path.now count (Err fault.why) is)

  -- What leads on for each log leads on for all.
  pub all-leads : (paths : List (Bor (List ℕ))) (made : List X) (end : Result (Unit {0}) LogsFault)
      → AreMadeBy P paths made end → AreMadeBy Q paths made end
  all-leads paths made end are = record {
    few = are.few;
    each = λ hart path one at is. leads path.now hart (Ok one) (are.each hart path one at is);
    all = are.all;
    fault = fault-leads paths (length made) end are.fault;
  }

module _ {X : Type 0} (Makes : ℕ → List Event → X → Type 0) (OfIllegal : List Event → IllegalRow → X → Type 0)
    (content : Content) (Gives : List ℕ → Gave → Type 0) (program : Image) (most : ℕ) where
  -- An allocation that failed may be the reason, by what is known of files and by what they gave.
  pub denied-at : MayBeDenied {X = X} (IsMadeAt Makes OfIllegal content Gives program most)
  denied-at path hart = (inl refl, inl refl)

  -- What was made of logs by both was made by what is known of their files.
  pub by-content : (paths : List (Bor (List ℕ))) (made : List X) (end : Result (Unit {0}) LogsFault)
      → AreMadeBy (IsMadeAt Makes OfIllegal content Gives program most) paths made end
      → AreMade Makes OfIllegal content program most paths made end
  by-content =
      all-leads (IsMadeAt Makes OfIllegal content Gives program most)
      (λ path. IsMadeOf Makes OfIllegal (content path) program most) (λ path hart one is. is.0)

  -- It was made by what calls gave of them.
  pub by-given : (paths : List (Bor (List ℕ))) (made : List X) (end : Result (Unit {0}) LogsFault)
      → AreMadeBy (IsMadeAt Makes OfIllegal content Gives program most) paths made end
      → AreMadeOfGiven Makes OfIllegal Gives program most paths made end
  by-given =
      all-leads (IsMadeAt Makes OfIllegal content Gives program most)
      (λ path. IsMadeOfGiven Makes OfIllegal (Gives path) program most) (λ path hart one is. is.1)
