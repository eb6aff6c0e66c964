use Rattle.std.proofs.Common.{◌≡◌, All, Global, Vec, map, take, ℕ}
use Rattle.message.specs.steps.Filling.{AreBytes}
use Rattle.stimulus.proofs.mixing.messages_of.Given as goal

-- The bytes of the harts so far.
abbrev pub invariant-loop-bytes : goal.invariant-loop-bytes
invariant-loop-bytes g l = record {
  left : l.left.items ≡ map (λ (bytes : Vec ℕ Global). bytes.items) (take l.bytes-index l.harts);
  bytes : All AreBytes l.left.items;
}
