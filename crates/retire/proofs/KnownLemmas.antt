-- What the bytes that a source gave say of all its bytes, where they are known.
use Rattle.std.proofs.Common.{◌≡◌, ◌⊎◌, ◌++◌, ◌∙◌, ℕ, List, Option, Some, None, Ok, Err, IfSome, refl, sym, ap}
use Rattle.std.proofs.Common.{inl, inr}
use Rattle.std.proofs.Common.{append-nil}
use Rattle.std.specs.Io.KnownBytes.{IsAtEnd, Keeps, prepend_known}
use Rattle.retire.specs.HasRead.{IsFirstFault}
use Rattle.retire.specs.Log.{IsReadOrMemory, log_up_to, records_of}
use Rattle.retire.specs.declared.event.Event.{Event}
use Rattle.retire.specs.declared.fault.LogFault.{LogFault}

pub keeps-same : (known : Option (List ℕ)) → Keeps known known
keeps-same None = tt
keeps-same (Some text) = refl

-- At the end of the source all bytes were given.
pub ended-log : (most : ℕ) (known left : Option (List ℕ)) (given : List ℕ) (seen : List Event)
    → Keeps known (prepend_known given left) → IsAtEnd left → log_up_to most (records_of given) ≡ Ok seen
    → IfSome known (λ text. log_up_to most (records_of text) ≡ Ok seen)
ended-log most None left given seen kept end log = tt
ended-log most (Some text) None given seen kept end log = absurd kept
ended-log most (Some text) (Some rest) given seen kept end log =
    ap (λ t. log_up_to most (records_of t)) (sym kept ∙ ap (λ t. given ++ t) end ∙ append-nil given) ∙ log

-- The first fault is that of all bytes.
pub fault-log : (most : ℕ) (known left : Option (List ℕ)) (given : List ℕ) (why : LogFault)
    → Keeps known (prepend_known given left) → IsReadOrMemory why ⊎ IsFirstFault most given left why
    → IfSome known (λ text. IsReadOrMemory why ⊎ (log_up_to most (records_of text) ≡ Err why))
fault-log most None left given why kept f = tt
fault-log most (Some text) None given why kept f = absurd kept
fault-log most (Some text) (Some rest) given why kept (inl denied) = inl denied
fault-log most (Some text) (Some rest) given why kept (inr (inl (end, log))) =
    inr (ap (λ t. log_up_to most (records_of t)) (sym kept ∙ ap (λ t. given ++ t) end ∙ append-nil given) ∙ log)
fault-log most (Some text) (Some rest) given why kept (inr (inr log)) =
    inr (ap (λ t. log_up_to most (records_of t)) (sym kept) ∙ log rest)
