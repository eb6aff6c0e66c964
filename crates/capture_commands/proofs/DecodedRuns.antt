-- What `decode` prints, from what was found.
use Rattle.std.proofs.Common.{◌≡◌, refl, ℕ, Bool, List, Option, Result, sym, subst, Ok}
use Rattle.captures.specs.declared.outcome.CaptureFault.{CaptureFault}
use Rattle.message.specs.declared.range.HartRange.{HartRange}
use Rattle.retire.specs.declared.event.Event.{Event}
use Rattle.rvclass.specs.Fetch.{words_of}
use Rattle.rvclass.specs.Image.{Image}
use Rattle.command_inputs.specs.declared.words.Decode.{Decode}
use Rattle.command_inputs.proofs.Beginnings.{cut_leads}
use Rattle.command_inputs.proofs.Runs.{leads_on}
use Rattle.command_inputs.specs.Begun.{IsCutOf}
use Rattle.command_inputs.specs.Printed.{PrintsUnlessDenied}
use Rattle.capture_commands.specs.CountedHarts.{HasHartBelow}
use Rattle.capture_commands.specs.Faults.{Fault, Printed}
use Rattle.command_inputs.specs.declared.status.Status.{Status}
use Rattle.parallel_decode.specs.HartsText.{harts_text_of}
use Rattle.captures.specs.Decoded.{IsDecodedOf}
use Rattle.capture_commands.specs.Decoded.{CanWriteLogs, CanWriteLogsOf, WritesDecoded}
use Rattle.capture_commands.specs.Decoded.{WritesLogs, WritesLogsOf}
use Rattle.capture_commands.specs.Decoding.{end_of_capture_of}

-- The logs are printed, and the end is that of decoding.
pub decodes : (harts : ℕ) (range : HartRange) (program : Image) (bytes : List ℕ) (lists : List (List Event))
    (closed : List Bool) (stop : Option (ℕ × CaptureFault))
    → IsDecodedOf range (words_of program) harts bytes lists closed stop
    → WritesDecoded harts range program bytes
    (record { text = harts_text_of range 0 lists; ended = end_of_capture_of range stop closed })
decodes harts range program bytes lists closed stop decoded = record {
  lists = lists;
  closed = closed;
  stop = stop;
  decoded = decoded;
  text = refl;
  ended = refl;
}

module _ (asked : Decode) (range : HartRange) (program : Image) (bytes : List ℕ) (lossy : Bool)
    (is : asked.lossy ≡ lossy) (u : Unit {0}) (has : HasHartBelow asked.harts range bytes (Ok u)) where
  -- What is written of the logs is what is written of the capture.
  logs_lead : (printed : Printed) → WritesLogs lossy asked.harts range program bytes printed
      → WritesLogsOf asked.lossy asked.harts range program bytes printed
  logs_lead printed writes =
      (Ok u, has, subst (λ l. WritesLogs l asked.harts range program bytes printed) (sym is) writes)

  pub logs_printed : (ended : Result Status Fault) (old new : Option (List ℕ))
      → PrintsUnlessDenied (WritesLogs lossy asked.harts range program bytes)
      (CanWriteLogs lossy asked.harts range program bytes) ended old new
      → PrintsUnlessDenied (WritesLogsOf asked.lossy asked.harts range program bytes)
      (CanWriteLogsOf asked.lossy asked.harts range program bytes) ended old new
  logs_printed ended old new =
      leads_on (WritesLogs lossy asked.harts range program bytes)
      (WritesLogsOf asked.lossy asked.harts range program bytes)
      (CanWriteLogs lossy asked.harts range program bytes)
      (CanWriteLogsOf asked.lossy asked.harts range program bytes) ended old new logs_lead
      (λ can. (u, has, subst (λ l. CanWriteLogs l asked.harts range program bytes) (sym is) can))

  -- And a cut of it is one of that.
  pub logs_cut : (old new : Option (List ℕ)) → IsCutOf (WritesLogs lossy asked.harts range program bytes) old new
      → IsCutOf (WritesLogsOf asked.lossy asked.harts range program bytes) old new
  logs_cut old new =
      cut_leads (WritesLogs lossy asked.harts range program bytes)
      (WritesLogsOf asked.lossy asked.harts range program bytes) old new logs_lead
