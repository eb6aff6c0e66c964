use Rattle.std.proofs.Common.{◌≡◌, not, take}
use Rattle.retire.specs.PlainText.{is_plain}
use Rattle.retire.proofs.boundary.is_plain.Given as goal

-- A quote was found where the bytes so far have one.
abbrev pub invariant-loop-byte : goal.invariant-loop-byte
invariant-loop-byte l = not l.found ≡ is_plain (take l.byte-index l.text)
