-- Two that see each message in the same way take the same messages.
use Rattle.std.proofs.Common.{◌≡◌, ℕ, Bool, List, ap}
use Rattle.std.proofs.Math.Path.{fun_ext}
use Rattle.message.specs.declared.message.Message.{Message}
use Rattle.frames.specs.Passages.{Sees, spans_after}

-- Each message is seen in the same way.
abbrev pub SeeAlike : Sees → Sees → Type 0
SeeAlike sees other = (message : Message) → sees message ≡ other message

pub spans_alike : (sees other : Sees) (astray : Bool) (n offset : ℕ) (xs : List ℕ) → SeeAlike sees other
    → spans_after sees astray n offset xs ≡ spans_after other astray n offset xs
spans_alike sees other astray n offset xs alike =
    ap (λ (s : Sees). spans_after s astray n offset xs) (fun_ext alike)
