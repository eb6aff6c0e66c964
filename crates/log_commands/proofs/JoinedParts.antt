-- The parts of a capture, joined one after the other, are the capture of all logs.
use Rattle.std.proofs.Common.{◌≡◌, ◌≤◌, ◌∙◌, ℕ, zero, suc, ◌+◌, Bool, true, false, List, [], ◌∷◌, ◌++◌, Option, None}
use Rattle.std.proofs.Common.{ap, ap₂, append_assoc, arith, if◌then◌else◌, length, refl, subst, sym}
use Rattle.std.proofs.Math.Dec.{eqb-suc-zero}
use Rattle.std.proofs.lemmas.Grind.{flat_map-append}
use Rattle.std.proofs.lemmas.List.{length-append}
use Rattle.std.specs.List.{flat_map}
use Rattle.captures.proofs.MessageTexts.{capture_is, messages_of_harts-append}
use Rattle.captures.specs.HexLines.{hex_line, hex_text}
use Rattle.captures.specs.Messages.{messages_of_harts}
use Rattle.captures.specs.Versions.{capture_of, start_bytes}
use Rattle.legalpath.specs.ProgramLog.{ProgramLog}
use Rattle.message.specs.Capture.{capture, message_bytes}
use Rattle.message.specs.declared.header.Header.{Header}
use Rattle.message.specs.declared.header.Version.{Version}
use Rattle.message.specs.declared.message.Message.{Message}
use Rattle.payload.specs.declared.mode.Mode.{Mode}
use Rattle.command_inputs.specs.declared.words.Encode.{Encode}
use Rattle.log_commands.specs.Encoding.{messages_in_order, written}
use Rattle.log_commands.specs.Joining.{AllLogsAreOnePart, AreParts, AsksPart, PartRun, PartsAreJoined, complete_text}
use Rattle.log_commands.specs.Joining.{logs_of_runs, text_of_runs}
use Rattle.log_commands.specs.Parts.{all_harts, first_hart, messages_text, part_start, part_text}

-- Messages of harts, each written as `text` says, and then those of the harts after them.
harts_joined : (text : Message → List ℕ) (period : ℕ) (mode : Mode) (hart : ℕ) (logs more : List ProgramLog)
    → flat_map text (messages_of_harts period mode hart logs)
    ++ flat_map text (messages_of_harts period mode (hart + length logs) more)
    ≡ flat_map text (messages_of_harts period mode hart (logs ++ more))
harts_joined text period mode hart logs more =
    sym (flat_map-append text (messages_of_harts period mode hart logs)
    (messages_of_harts period mode (hart + length logs) more))
    ∙ ap (flat_map text) (sym (messages_of_harts-append period mode hart logs more))

-- No header comes before the messages of harts after hart 0.
no_start : (version : Version) (hart : ℕ) (header : Header) → 1 ≤ hart → part_start version hart header ≡ []
no_start version zero header some = absurd (omega (arith, some))
no_start version (suc hart) header some =
    ap (λ none. if none then start_bytes version header else []) (eqb-suc-zero hart)

module _ (hex : Bool) (version : Version) (period : ℕ) (mode : Mode) (harts : ℕ) where
  -- What is written of a part that is asked for.
  part_written : (hart : ℕ) (asked : Encode) (logs : List ProgramLog)
      → AsksPart hex version period mode harts hart asked
      → written asked logs ≡ part_text hex version period mode hart harts logs
  part_written hart asked logs asks =
      ap (λ mixed. messages_text asked.hex asked.version asked.period asked.mode (first_hart asked.first)
      (all_harts asked.of (length logs))
      (messages_in_order mixed asked.period asked.mode (first_hart asked.first) logs)) asks.in_order
      ∙ ap (λ hex. part_text hex asked.version asked.period asked.mode (first_hart asked.first)
      (all_harts asked.of (length logs)) logs) asks.in_form
      ∙ ap (λ version. part_text hex version asked.period asked.mode (first_hart asked.first)
      (all_harts asked.of (length logs)) logs) asks.in_version
      ∙ ap (λ period. part_text hex version period asked.mode (first_hart asked.first)
      (all_harts asked.of (length logs)) logs) asks.at_period
      ∙ ap (λ mode. part_text hex version period mode (first_hart asked.first)
      (all_harts asked.of (length logs)) logs) asks.in_mode
      ∙ ap (λ of. part_text hex version period mode (first_hart asked.first)
      (all_harts of (length logs)) logs) asks.of_harts
      ∙ ap (λ hart. part_text hex version period mode hart harts logs) asks.from_hart

  -- There is a log for each hart.
  logs_counted : (hart : ℕ) (runs : List PartRun) → AreParts hex version period mode harts hart runs
      → hart + length (logs_of_runs runs) ≡ harts
  logs_counted hart [] are = omega (arith, are)
  logs_counted hart (run ∷ runs) (asks, some, are) =
      let rest = logs_counted (hart + length run.1) runs are in
      let both = length-append run.1 (logs_of_runs runs) in
      omega (arith, rest, both)

module _ (version : Version) (period : ℕ) (mode : Mode) (harts : ℕ) where
  -- The lines of parts are those of all their logs.
  lines_joined : (hart : ℕ) (runs : List PartRun) → AreParts true version period mode harts hart runs
      → text_of_runs runs ≡ hex_text (messages_of_harts period mode hart (logs_of_runs runs))
  lines_joined hart [] are = refl
  lines_joined hart (run ∷ runs) (asks, some, are) =
      ap (λ text. text ++ text_of_runs runs) (part_written true version period mode harts hart run.0 run.1 asks)
      ∙ ap (λ text. hex_text (messages_of_harts period mode hart run.1) ++ text)
      (lines_joined (hart + length run.1) runs are)
      ∙ harts_joined hex_line period mode hart run.1 (logs_of_runs runs)

  -- The bytes of parts after that of hart 0 are the messages of their logs.
  later_joined : (hart : ℕ) (runs : List PartRun) → 1 ≤ hart → AreParts false version period mode harts hart runs
      → text_of_runs runs ≡ flat_map message_bytes (messages_of_harts period mode hart (logs_of_runs runs))
  later_joined hart [] after are = refl
  later_joined hart (run ∷ runs) after (asks, some, are) =
      let header : Header = record { mode = mode; period = period; harts = harts } in
      ap (λ text. text ++ text_of_runs runs)
      (part_written false version period mode harts hart run.0 run.1 asks
      ∙ ap (λ start. start ++ capture (messages_of_harts period mode hart run.1)) (no_start version hart header after)
      ∙ capture_is (messages_of_harts period mode hart run.1))
      ∙ ap (λ text. flat_map message_bytes (messages_of_harts period mode hart run.1) ++ text)
      (later_joined (hart + length run.1) runs (omega (arith, after)) are)
      ∙ harts_joined message_bytes period mode hart run.1 (logs_of_runs runs)

  -- With that of hart 0 they are the capture of all logs.
  bytes_joined : (runs : List PartRun) → 1 ≤ harts → AreParts false version period mode harts 0 runs
      → text_of_runs runs ≡ capture_of version period mode (logs_of_runs runs)
  bytes_joined [] some are = absurd (omega (arith, some, are))
  bytes_joined (run ∷ runs) some (asks, first, are) =
      let header : Header = record { mode = mode; period = period; harts = harts } in
      let start = start_bytes version header in
      let here = flat_map message_bytes (messages_of_harts period mode 0 run.1) in
      let logs = logs_of_runs (run ∷ runs) in
      let all : length logs ≡ harts =
      subst (λ n. n ≡ harts) (omega arith) (logs_counted false version period mode harts 0 (run ∷ runs)
      (asks, first, are)) in
      ap (λ text. text ++ text_of_runs runs)
      (part_written false version period mode harts 0 run.0 run.1 asks
      ∙ ap (λ bytes. start ++ bytes) (capture_is (messages_of_harts period mode 0 run.1)))
      ∙ ap (λ text. (start ++ here) ++ text)
      (later_joined (0 + length run.1) runs (omega (arith, first)) are)
      ∙ append_assoc start here
      (flat_map message_bytes (messages_of_harts period mode (0 + length run.1) (logs_of_runs runs)))
      ∙ ap (λ bytes. start ++ bytes)
      (harts_joined message_bytes period mode 0 run.1 (logs_of_runs runs)
      ∙ sym (capture_is (messages_of_harts period mode 0 logs)))
      ∙ ap (λ harts. start_bytes version (record { mode = mode; period = period; harts = harts })
      ++ capture (messages_of_harts period mode 0 logs)) (sym all)

-- All parts, as lines or as a capture.
pub parts_joined : PartsAreJoined
parts_joined true version period mode harts runs some are = lines_joined version period mode harts 0 runs are
parts_joined false version period mode harts runs some are = bytes_joined version period mode harts runs some are

-- The logs of all harts.
all_of_them : (hex : Bool) (version : Version) (period : ℕ) (mode : Mode) (first of : Option ℕ) (logs : List ProgramLog)
    → first ≡ None → of ≡ None
    → part_text hex version period mode (first_hart first) (all_harts of (length logs)) logs
    ≡ complete_text hex version period mode logs
all_of_them hex version period mode first of logs none alone =
    ap₂ (λ first of. part_text hex version period mode (first_hart first) (all_harts of (length logs)) logs) none alone

-- Where no count of all harts is given, there is one part.
pub one_part : AllLogsAreOnePart
one_part asked logs none alone in_order =
    ap (λ mixed. messages_text asked.hex asked.version asked.period asked.mode (first_hart asked.first)
    (all_harts asked.of (length logs))
    (messages_in_order mixed asked.period asked.mode (first_hart asked.first) logs)) in_order
    ∙ all_of_them asked.hex asked.version asked.period asked.mode asked.first asked.of logs none alone
