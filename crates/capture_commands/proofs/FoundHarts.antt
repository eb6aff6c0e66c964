-- What is found of the harts of a capture.
use Rattle.std.proofs.Common.{◌≡◌, ◌∙◌, ℕ, List, Option, Some, None, Err, length, refl}
use Rattle.std.specs.Prelude.{◌≢◌}
use Rattle.captures.specs.declared.outcome.CaptureFault.{CaptureFault}
use Rattle.captures.specs.declared.outcome.CaptureFault.TheVariants as capture
use Rattle.decoder.specs.declared.fault.DecodeFault.TheVariants as decode
use Rattle.message.specs.declared.fault.MessageFault.TheVariants as message
use Rattle.command_inputs.specs.declared.fault.Fault.TheVariants as fault
use Rattle.comparing.proofs.DecodedHarts.{gots_many}
use Rattle.comparing.proofs.SomeHarts.{of_same}
use Rattle.comparing.specs.Compared.{of_harts}
use Rattle.comparing.specs.steps.Held.{count_in}
use Rattle.message.specs.declared.range.HartRange.{HartRange}
use Rattle.parallel_decode.specs.Surveyed.{NeverMemory}
use Rattle.retire.specs.declared.event.Event.{Event}
use Rattle.rvclass.specs.Words.{Words}
use Rattle.capture_commands.specs.Comparison.{end_of_stop}
use Rattle.capture_commands.specs.declared.surveyed.Surveyed.{Surveyed}
use Rattle.capture_commands.specs.steps.Surveyed.{AreFound, gots_in}

-- Decoding does not stop for want of memory.
pub no_memory : (stop : Option (ℕ × CaptureFault)) → NeverMemory stop → end_of_stop stop ≢ Err fault.Memory
no_memory None never is = cc
no_memory (Some (number, capture.Message message.Short)) never is = cc
no_memory (Some (number, capture.Message message.BadLength)) never is = cc
no_memory (Some (number, capture.Message message.Read)) never is = cc
no_memory (Some (number, capture.Message message.Write)) never is = cc
no_memory (Some (number, capture.Message message.BadHeader)) never is = cc
no_memory (Some (number, capture.Demux why)) never is = cc
no_memory (Some (number, capture.Mode)) never is = cc
no_memory (Some (number, capture.Decode decode.NotOpened)) never is = cc
no_memory (Some (number, capture.Decode decode.OffProgram)) never is = cc
no_memory (Some (number, capture.Decode decode.MissedNotify)) never is = cc
no_memory (Some (number, capture.Decode decode.Branches)) never is = cc
no_memory (Some (number, capture.Decode decode.WrongPlace)) never is = cc
no_memory (Some (number, capture.Decode decode.WrongPrivilege)) never is = cc
no_memory (Some (number, capture.Decode decode.AfterClose)) never is = cc
no_memory (Some (number, capture.Decode decode.Memory)) never is = never refl

-- There is something of as many harts as there are lists of places.
pub gots_found : (range : HartRange) (words : Words) (found : Surveyed) (lists : List (List Event))
    → AreFound words found lists → length (gots_in range lists found) ≡ length (of_harts range found.places.items)
gots_found range words found lists are =
    of_same range _ found.places.items
    (gots_many (count_in found.counts.items) 0 lists found.closed.items are.flags ∙ are.placed.count)
