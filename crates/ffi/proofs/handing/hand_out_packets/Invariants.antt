-- The numbers of the first packets were written.
use Rattle.ffi.proofs.WrittenInTurn.{AreWritten}
use Rattle.ffi.specs.Numbers.{numbers_of}
use Rattle.ffi.proofs.handing.hand_out_packets.Given as goal

abbrev pub invariant-loop-place : goal.invariant-loop-place
invariant-loop-place l = AreWritten numbers_of l.given l.fn.packets l.place l.packets
