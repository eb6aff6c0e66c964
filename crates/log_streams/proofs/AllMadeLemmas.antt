-- What was made of all logs, of what was made of each.
use Rattle.std.proofs.Common.{◌≡◌, ◌⊎◌, ◌+◌, ◌<◌, ◌++◌, ◌∙◌, ℕ, List, [], ◌∷◌, Option, Some, Result, Ok, Err, map}
use Rattle.std.proofs.Common.{sym, ap, subst, arith, inl, inr, slice_get, slice_index_or, length, length-append}
use Rattle.std.proofs.lemmas.List.{length-map}
use Rattle.std.proofs.lemmas.Option.{slice_get-get_or}
use Rattle.std.specs.Borrow.{Bor}
use Rattle.std.specs.Prelude.{IfErr}
use Rattle.retire.specs.declared.fault.LogFault.TheVariants.{Memory}
use Rattle.log_streams.specs.Made.{AreMadeBy}
use Rattle.log_streams.specs.Refusing.{MayStop}
use Rattle.log_streams.specs.steps.Allowed.{MayBeMade}
use Rattle.log_streams.specs.steps.Places.{AreAllowedFrom, EndsAt, IsTakenUpTo, was_made}
use Rattle.log_streams.specs.declared.logs_fault.LogsFault.{LogsFault}
use Rattle.log_streams.specs.declared.stop.Stop.{Stop}
use Rattle.log_streams.specs.declared.stop.Stop.TheVariants as stop
use Rattle.log_streams.proofs.MadeLemmas.{MayBeDenied}
use Rattle.log_streams.proofs.PlacesLemmas.{end-at, first-place, made-at}

-- So many logs were taken, and so many are left.
taken-length : {X : Type 0} (all rest : List (Option (Result X Stop))) (made : List X) → IsTakenUpTo all rest made
    → length all ≡ length made + length rest
taken-length all rest made whole =
    ap length whole ∙ length-append (map was_made made) rest ∙ ap (λ n. n + length rest) (length-map made was_made)

-- There is a log of which nothing was made.
pub has-next : {X : Type 0} (all : List (Option (Result X Stop))) (made : List X) (why : Stop) (n : ℕ)
    → length all ≡ n → EndsAt all made why → length made < n
has-next all made why n count ends = omega (arith, count, taken-length all (ends.one ∷ ends.rest) made ends.whole)

-- What an index reads is what is at the place.
pub at-index : {A : Type 0} (all : List A) (n i : ℕ) (other : A) → i ≡ n → n < length all
    → slice_get all n ≡ Some (slice_index_or all i other)
at-index all n i other same few =
    slice_get-get_or all n other few ∙ ap (λ i. Some (slice_index_or all i other)) (sym same)

module _ (paths : List (Bor (List ℕ))) (end : Result (Unit {0}) LogsFault)
    (fault : IfErr end (λ fault. (slice_get paths 0 ≡ Some fault.path) × (fault.why ≡ stop.Unread Memory))) where
  -- Nothing was made of any log, since an allocation failed.
  pub none-made-of : {X : Type 0} (IsMade : List ℕ → ℕ → Result X Stop → Type 0) → MayBeDenied IsMade → (made : List X)
      → made ≡ [] → (end ≡ Ok tt → length paths ≡ 0) → AreMadeBy IsMade paths made end
  none-made-of IsMade denied [] none all = record {
    few = omega arith;
    each = λ hart path one at is. cc is;
    all = λ done. sym (all done);
    fault = go end fault;
  }
    where
      go : (end : Result (Unit {0}) LogsFault)
          → IfErr end (λ fault. (slice_get paths 0 ≡ Some fault.path) × (fault.why ≡ stop.Unread Memory))
          → IfErr end (λ fault. (slice_get paths 0 ≡ Some fault.path) × IsMade fault.path.now 0 (Err fault.why))
      go (Ok done) h = tt
      go (Err fault) h =
          (h.0, subst (λ why. IsMade fault.path.now 0 (Err why)) (sym h.1) (denied fault.path.now 0))
  none-made-of IsMade denied (one ∷ made) none all = cc none

  -- So no log was refused.
  pub none-refused : (MayRefuse : Type 0) → IfErr end (λ fault. MayStop MayRefuse fault.why)
  none-refused MayRefuse = go end fault
    where
      go : (end : Result (Unit {0}) LogsFault)
          → IfErr end (λ fault. (slice_get paths 0 ≡ Some fault.path) × (fault.why ≡ stop.Unread Memory))
          → IfErr end (λ fault. MayStop MayRefuse fault.why)
      go (Ok done) h = tt
      go (Err fault) h = subst (MayStop MayRefuse) (sym h.1) tt

module _ {X : Type 0} (IsMade : List ℕ → ℕ → Result X Stop → Type 0) (denied : MayBeDenied IsMade) (MayRefuse : Type 0)
    (paths : List (Bor (List ℕ))) (all : List (Option (Result X Stop))) (count : length all ≡ length paths)
    (allowed : AreAllowedFrom (MayBeMade IsMade MayRefuse paths) 0 all) where
  made-of-each : (made : List X) (rest : List (Option (Result X Stop))) → IsTakenUpTo all rest made → (hart : ℕ)
      (path : Bor (List ℕ)) (one : X) → slice_get paths hart ≡ Some path → slice_get made hart ≡ Some one
      → IsMade path.now hart (Ok one)
  made-of-each made rest whole hart path one path-at one-at =
      let at = made-at (MayBeMade IsMade MayRefuse paths) 0 made rest
      (subst (AreAllowedFrom (MayBeMade IsMade MayRefuse paths) 0) whole allowed) hart one one-at in
      let here = subst (λ place. MayBeMade IsMade MayRefuse paths place (Ok one)) (sym (first-place hart)) at in
      here.0 path path-at

  -- Something was made of each log.
  pub made-of-all : (made : List X) → IsTakenUpTo all [] made → AreMadeBy IsMade paths made (Ok tt)
  made-of-all made whole = record {
    few = omega (arith, count, taken-length all [] made whole);
    each = made-of-each made [] whole;
    all = λ _. omega (arith, count, taken-length all [] made whole);
    fault = tt;
  }

  -- The reason of a log of which nothing is known to be made is one that it may have.
  reason-of : (made : List X) (why : Stop) (ends : EndsAt all made why) → ends.one ≡ Some (Err why)
      → MayBeMade IsMade MayRefuse paths (length made) (Err why)
  reason-of made why ends is =
      subst (λ place. MayBeMade IsMade MayRefuse paths place (Err why)) (sym (first-place (length made)))
      (end-at (MayBeMade IsMade MayRefuse paths) 0 made why ends.rest
      (subst (λ one. AreAllowedFrom (MayBeMade IsMade MayRefuse paths) 0 (map was_made made ++ one ∷ ends.rest)) is
      (subst (AreAllowedFrom (MayBeMade IsMade MayRefuse paths) 0) ends.whole allowed)))

  stopped : (made : List X) (why : Stop) (ends : EndsAt all made why) (path : Bor (List ℕ))
      → slice_get paths (length made) ≡ Some path → IsMade path.now (length made) (Err why)
  stopped made why ends path at = go ends.reason where
    go : (why ≡ stop.Unread Memory) ⊎ (ends.one ≡ Some (Err why)) → IsMade path.now (length made) (Err why)
    go (inl memory) =
        subst (λ why. IsMade path.now (length made) (Err why)) (sym memory) (denied path.now (length made))
    go (inr is) = (reason-of made why ends is).0 path at

  -- The first log of which nothing was made is illegal only where the task may refuse it.
  pub may-stop : (made : List X) (why : Stop) → EndsAt all made why → MayStop MayRefuse why
  may-stop made why ends = go ends.reason where
    go : (why ≡ stop.Unread Memory) ⊎ (ends.one ≡ Some (Err why)) → MayStop MayRefuse why
    go (inl memory) = subst (MayStop MayRefuse) (sym memory) tt
    go (inr is) = (reason-of made why ends is).1

  -- Something was made of each log before one of which nothing was.
  pub made-up-to : (made : List X) (fault : LogsFault) → EndsAt all made fault.why
      → slice_get paths (length made) ≡ Some fault.path → AreMadeBy IsMade paths made (Err fault)
  made-up-to made fault ends at = record {
    few = omega (arith, count, taken-length all (ends.one ∷ ends.rest) made ends.whole);
    each = made-of-each made (ends.one ∷ ends.rest) ends.whole;
    all = λ done. cc done;
    fault = (at, stopped made fault.why ends fault.path at);
  }
