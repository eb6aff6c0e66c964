-- What is made of logs before it is written.
use Rattle.std.specs.Prelude.{◌≡◌, ℕ, ◌+◌, All, Bool, true, false, List, [], ◌∷◌, ◌++◌, Option, Some, None, Result}
use Rattle.std.specs.Prelude.{Ok, Err, length}
use Rattle.std.specs.Prelude.{if◌then◌else◌}
use Rattle.std.specs.List.{flat_map}
use Rattle.std.specs.declared.alloc.Global.{Global}
use Rattle.std.specs.declared.vec.Vec.{Vec}
use Rattle.captures.specs.HexLines.{hex_line}
use Rattle.encoder.specs.Payloads.{payloads}
use Rattle.log_streams.specs.Known.{Content}
use Rattle.legalpath.specs.LegalUpTo.{IsLegalUpTo}
use Rattle.legalpath.specs.ProgramLog.{ProgramLog}
use Rattle.captures.specs.Returned.{IsLongLegalLog}
use Rattle.log_streams.specs.declared.logs_fault.LogsFault.{LogsFault}
use Rattle.captures.specs.Bounds.{AreWithin, most_counted}
use Rattle.captures.specs.Measures.{measures_of}
use Rattle.captures.specs.declared.measures.Measures.{Measures}
use Rattle.message.specs.Capture.{message_bytes}
use Rattle.message.specs.Numbered.{messages_from}
use Rattle.message.specs.declared.fault.MessageFault.{MessageFault}
use Rattle.message.specs.declared.header.Header.{Header}
use Rattle.message.specs.declared.message.Message.{Message}
use Rattle.payload.specs.declared.mode.Mode.{Mode}
use Rattle.rvclass.specs.Image.{Image}
use Rattle.command_inputs.specs.declared.words.Encode.{Encode}
use Rattle.command_inputs.specs.Faults.{Path, stop_fault}
use Rattle.command_inputs.specs.FoundLogs.{AreLegalLogsUpTo}
use Rattle.command_inputs.specs.declared.fault.Fault.TheVariants as fault
use Rattle.log_commands.specs.Faults.{Fault}
use Rattle.log_commands.specs.Parts.{all_harts, first_hart, part_start}
use Rattle.log_commands.specs.declared.reason.LogReason.{LogReason}

module _ {X : Type 0} (Makes : ℕ → ProgramLog → X → Type 0) where
  -- This is made of these logs, which are those of harts from this number on.
  abbrev pub AreMadeFrom : ℕ → List ProgramLog → List X → Type 0
  AreMadeFrom hart [] [] = Unit {0}
  AreMadeFrom hart [] (one ∷ made) = ⊥
  AreMadeFrom hart (log ∷ logs) [] = ⊥
  AreMadeFrom hart (log ∷ logs) (one ∷ made) = Makes hart log one × AreMadeFrom (hart + 1) logs made

  -- The logs at these paths are legal, of at most so many rows each, and this is made of them. The first is at
  -- place 0.
  pub record AreMadeOfLogs (most : ℕ) (content : Content) (program : Image) (paths : List Path) (made : List X)
      : Type 0 where
    pub logs : List ProgramLog
    pub legal : AreLegalLogsUpTo {W = LogReason} most content program paths (Ok logs)
    pub few : All (λ (log : ProgramLog). IsLegalUpTo most log.program log.events) logs
    pub each : AreMadeFrom 0 logs made

-- What was made of logs, or the fault of the log at which it ended.
abbrev pub all_or_fault : {X : Type 0} → Vec X Global → Result (Unit {0}) LogsFault
    → Result (Vec X Global) Fault
all_or_fault made (Ok end) = Ok made
all_or_fault made (Err fault) = Err (stop_fault fault.path fault.why)

-- Whether the messages are made as lines of hexadecimal: if these are asked for, and the messages are not mixed after.
abbrev pub lines_made : Option ℕ → Bool → Bool
lines_made None hex = hex
lines_made (Some seed) hex = false

-- What a message is written as in the form that is asked for: lines of hexadecimal, or the bytes of a capture.
abbrev pub form_text : Bool → Message → List ℕ
form_text true = hex_line
form_text false = message_bytes

-- These bytes are the messages of the log at this place, each written as `text_of` says. The log at place 0 is that of
-- the first hart.
abbrev pub AreMessagesOf : (Message → List ℕ) → ℕ → Mode → ℕ → ℕ → ProgramLog → Vec ℕ Global → Type 0
AreMessagesOf text_of period mode first place log bytes =
    bytes.items ≡ flat_map text_of (messages_from (first + place) 0 (payloads period mode log))

-- These bytes are the messages of legal logs, in the form in which they are made for what is asked. The first log is that
-- of the first hart.
abbrev pub AreAskedMessages : Encode → List ProgramLog → List (Vec ℕ Global) → Type 0
AreAskedMessages asked logs made =
    All IsLongLegalLog logs × AreMadeFrom (AreMessagesOf (form_text (lines_made asked.mixed asked.hex)) asked.period asked.mode
    (first_hart asked.first)) 0 logs made

-- Where messages were not written, the output failed.
abbrev pub output_or : Result (Unit {0}) MessageFault → Result (Unit {0}) Fault
output_or (Ok done) = Ok done
output_or (Err why) = Err fault.Output

-- The bytes that were made of logs, one after the other.
abbrev pub joined : List (Vec ℕ Global) → List ℕ
joined made = flat_map (λ bytes. bytes.items) made

-- What the header has that is asked for with this many logs.
abbrev pub asked_header : Encode → ℕ → Header
asked_header asked logs = record { mode = asked.mode; period = asked.period; harts = all_harts asked.of logs }

-- What is written before the messages of this many logs: before lines of hexadecimal nothing.
abbrev pub start_of : Encode → ℕ → List ℕ
start_of asked logs =
    if asked.hex then []
    else part_start asked.version (first_hart asked.first) (asked_header asked logs)

-- What is written of the bytes that were made of logs, in the form that is asked for.
abbrev pub written_of : Encode → List (Vec ℕ Global) → List ℕ
written_of asked made = start_of asked (length made) ++ joined made

-- These are the measures of a log, and they can be added up.
abbrev pub AreMeasuresOf : ℕ → Mode → ℕ → ProgramLog → Measures → Type 0
AreMeasuresOf period mode hart log measures =
    (measures ≡ measures_of period mode log) × AreWithin most_counted measures
