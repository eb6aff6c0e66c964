-- What `decode` prints, from what was written of the harts.
use Rattle.std.proofs.Common.{◌≡◌, ◌⊎◌, inl, inr, refl, ℕ, ◌+◌, List, [], ◌∷◌, Bool, true, false, Option, Some, None, Err}
use Rattle.std.specs.Io.KnownBytes.{Keeps}
use Rattle.std.specs.Prelude.{⊤, ◌&&◌, not}
use Rattle.captures.specs.declared.outcome.CaptureFault.{CaptureFault}
use Rattle.captures.specs.declared.outcome.CaptureFault.TheVariants as capture
use Rattle.decoder.specs.declared.fault.DecodeFault.TheVariants as decode
use Rattle.message.specs.declared.fault.MessageFault.TheVariants as message
use Rattle.message.specs.Range.{selects}
use Rattle.message.specs.declared.range.HartRange.{HartRange}
use Rattle.retire.specs.declared.fault.WriteFault.{WriteFault}
use Rattle.retire.specs.declared.fault.WriteFault.TheVariants as write
use Rattle.rvclass.specs.Fetch.{words_of}
use Rattle.rvclass.specs.Image.{Image}
use Rattle.captures.specs.Decoded.{IsDecodedOf}
use Rattle.parallel_decode.specs.Surveyed.{NeverMemory}
use Rattle.parallel_decode.specs.Written.{BeginsHartsOf}
use Rattle.command_inputs.specs.Begun.{IsCutOf}
use Rattle.command_inputs.specs.Faults.{write_fault}
use Rattle.command_inputs.specs.Printed.{IsPrintingDenied}
use Rattle.command_inputs.specs.declared.fault.Fault.TheVariants as fault
use Rattle.capture_commands.proofs.DecodedRuns.{decodes}
use Rattle.capture_commands.specs.Decoded.{WritesDecoded}
use Rattle.capture_commands.specs.Decoding.{end_of_capture_of, end_of_harts_of}
use Rattle.capture_commands.specs.declared.reason.CaptureReason.{CaptureReason}

-- A fault of writing is one that denies printing, once the run can write.
pub write_denied_once : (CanWrite : Type 0) → CanWrite → (why : WriteFault)
    → IsPrintingDenied CanWrite (write_fault {W = CaptureReason} why)
write_denied_once CanWrite can write.Write = inr (refl, can)
write_denied_once CanWrite can write.Memory = inl refl

pub write_denied : (why : WriteFault) → IsPrintingDenied ⊤ (write_fault {W = CaptureReason} why)
write_denied why = write_denied_once ⊤ tt why

-- Memory alone is reported as memory.
pub write_memory : (why : WriteFault) → write_fault {W = CaptureReason} why ≡ fault.Memory → why ≡ write.Memory
write_memory write.Write is = cc
write_memory write.Memory is = refl

-- The flags of harts end at no want of memory.
harts_end : (range : HartRange) (hart : ℕ) (closed : List Bool) → end_of_harts_of range hart closed ≡ Err fault.Memory
    → ⊥
harts_end range hart [] is = cc
harts_end range hart (flag ∷ closed) is =
    by_flag (selects range hart && not flag) refl (harts_end range (hart + 1) closed)
  where
    by_flag : (stays : Bool) → (selects range hart && not flag) ≡ stays
        → (end_of_harts_of range (hart + 1) closed ≡ Err fault.Memory → ⊥) → ⊥
    by_flag true stays others = let end = rw stays at is in cc
    by_flag false stays others = others (rw stays at is)

-- Nor does decoding, where it did not stop at one.
pub never_memory : (range : HartRange) (stop : Option (ℕ × CaptureFault)) (closed : List Bool) → NeverMemory stop
    → end_of_capture_of range stop closed ≡ Err fault.Memory → ⊥
never_memory range None closed never is = harts_end range 0 closed is
never_memory range (Some (number, capture.Message message.Short)) closed never is = cc
never_memory range (Some (number, capture.Message message.BadLength)) closed never is = cc
never_memory range (Some (number, capture.Message message.Read)) closed never is = cc
never_memory range (Some (number, capture.Message message.Write)) closed never is = cc
never_memory range (Some (number, capture.Message message.BadHeader)) closed never is = cc
never_memory range (Some (number, capture.Demux why)) closed never is = cc
never_memory range (Some (number, capture.Mode)) closed never is = cc
never_memory range (Some (number, capture.Decode decode.NotOpened)) closed never is = cc
never_memory range (Some (number, capture.Decode decode.OffProgram)) closed never is = cc
never_memory range (Some (number, capture.Decode decode.MissedNotify)) closed never is = cc
never_memory range (Some (number, capture.Decode decode.Branches)) closed never is = cc
never_memory range (Some (number, capture.Decode decode.WrongPlace)) closed never is = cc
never_memory range (Some (number, capture.Decode decode.WrongPrivilege)) closed never is = cc
never_memory range (Some (number, capture.Decode decode.AfterClose)) closed never is = cc
never_memory range (Some (number, capture.Decode decode.Memory)) closed never is = never refl

-- A prefix of the logs was written that a capture decodes to, or nothing.
pub harts_cut : (harts : ℕ) (range : HartRange) (program : Image) (bytes : List ℕ) (old new : Option (List ℕ))
    → Keeps old new ⊎ BeginsHartsOf range (IsDecodedOf range (words_of program) harts bytes) old new
    → IsCutOf (WritesDecoded harts range program bytes) old new
harts_cut harts range program bytes old new (inl keeps) = inl keeps
harts_cut harts range program bytes old new (inr begins) = inr (record {
  printed = record { text = _; ended = end_of_capture_of range begins.stop begins.closed };
  prints = decodes harts range program bytes begins.lists begins.closed begins.stop begins.decoded;
  begun = begins.begun;
})
