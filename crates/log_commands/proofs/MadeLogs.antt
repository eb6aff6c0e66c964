-- What is made of logs that all have to be legal, and what is written of it.
use Rattle.std.proofs.Common.{◌≡◌, ◌⊎◌, inl, inr, refl, ℕ, suc, ◌+◌, ◌≤◌, List, [], ◌∷◌, ◌++◌, Result, Ok, Err}
use Rattle.std.proofs.Common.{All, Bool, IfErr, IfOk, None, Some, false, if◌then◌else◌, true}
use Rattle.std.proofs.Common.{ap, arith, length, slice_get, subst, sym, take, zero-add, ◌∙◌}
use Rattle.std.proofs.lemmas.Grind.{flat_map-append}
use Rattle.std.proofs.lemmas.List.{take_all}
use Rattle.std.proofs.lemmas.List.Elements.{All-cons, All-nil}
use Rattle.std.specs.List.{AllZip, flat_map}
use Rattle.std.specs.declared.alloc.Global.{Global}
use Rattle.std.specs.declared.vec.Vec.{Vec}
use Rattle.captures.proofs.MessageTexts.{capture_is}
use Rattle.captures.specs.HexLines.{hex_line}
use Rattle.captures.specs.Messages.{messages_of_harts}
use Rattle.encoder.specs.Payloads.{payloads}
use Rattle.log_streams.specs.Known.{Content}
use Rattle.legalpath.specs.LegalUpTo.{IsLegalUpTo}
use Rattle.legalpath.specs.ProgramLog.{ProgramLog, program_log}
use Rattle.log_streams.specs.Made.{AreMade, IsMadeOf}
use Rattle.log_streams.specs.declared.illegal_row.IllegalRow.{IllegalRow}
use Rattle.log_streams.specs.declared.logs_fault.LogsFault.{LogsFault}
use Rattle.captures.specs.Bounds.{AreWithin, most_counted}
use Rattle.captures.specs.Measures.{measures_of_each}
use Rattle.captures.specs.declared.measures.Measures.{Measures}
use Rattle.message.specs.Capture.{message_bytes}
use Rattle.message.specs.Numbered.{messages_from}
use Rattle.message.specs.declared.message.Message.{Message}
use Rattle.payload.specs.declared.mode.Mode.{Mode}
use Rattle.retire.specs.declared.event.Event.{Event}
use Rattle.rvclass.specs.Image.{Image}
use Rattle.command_inputs.specs.declared.words.Encode.{Encode}
use Rattle.command_inputs.proofs.StreamLemmas.{legal_stopped, log_read_in, parted_at}
use Rattle.command_inputs.specs.Faults.{Path, stop_fault}
use Rattle.command_inputs.specs.FoundLogs.{AreLegalLogsUpTo, IsFirstRefusedUpTo, IsLegalLogUpTo}
use Rattle.command_inputs.specs.declared.fault.Fault.TheVariants as fault
use Rattle.log_commands.specs.Faults.{Fault}
use Rattle.log_commands.specs.declared.reason.LogReason.{LogReason}
use Rattle.log_commands.specs.Encoding.{messages_in_order, written}
use Rattle.log_commands.specs.Parts.{all_harts, first_hart, messages_text, part_start, part_text}
use Rattle.log_commands.specs.steps.Made.{AreAskedMessages, AreMadeFrom, AreMadeOfLogs, AreMeasuresOf, AreMessagesOf}
use Rattle.log_commands.specs.steps.Made.{all_or_fault, asked_header, form_text, joined, lines_made, written_of}

module _ {X : Type 0} (Makes : ℕ → ProgramLog → X → Type 0) where
  -- What was made belongs to as many logs.
  pub made_long : (hart : ℕ) (logs : List ProgramLog) (made : List X) → AreMadeFrom Makes hart logs made
      → length logs ≡ length made
  made_long hart [] [] are = refl
  made_long hart [] (one ∷ made) are = elim are [ ]
  made_long hart (log ∷ logs) [] are = elim are [ ]
  made_long hart (log ∷ logs) (one ∷ made) are = ap (λ n. suc n) (made_long (hart + 1) logs made are.1)

  module _ (most : ℕ) (content : Content) (program : Image) where
    -- This is made of the events of a log.
    abbrev OfEvents : ℕ → List Event → X → Type 0
    OfEvents hart events one = Makes hart (program_log program events) one

    -- Nothing is made of an illegal log.
    abbrev OfIllegal : List Event → IllegalRow → X → Type 0
    OfIllegal events row one = ⊥

    -- The legal log at a path, and what was made of it.
    record MadeAt (hart : ℕ) (path : Path) (one : X) : Type 0 where
      pub log : ProgramLog
      pub legal : IsLegalLogUpTo {W = LogReason} most content program path (Ok log)
      pub few : IsLegalUpTo most log.program log.events
      pub makes : Makes hart log one

    made_at : (hart : ℕ) (path : Path) (one : X)
        → IsMadeOf OfEvents OfIllegal (content path.now) program most hart (Ok one) → MadeAt hart path one
    made_at hart path one (inl there) = record {
      log = program_log program there.events;
      legal = record {
        events = Ok there.events;
        read = log_read_in most content path there.events there.read;
        judged = (refl, there.legal.legal);
      };
      few = there.legal;
      makes = there.makes;
    }
    made_at hart path one (inr there) = elim there.makes [ ]

    -- The logs at the first paths are legal, and this is made of them.
    record FrontMade (hart : ℕ) (paths : List Path) (made : List X) : Type 0 where
      pub logs : List ProgramLog
      pub legal : AllZip (λ path log. IsLegalLogUpTo {W = LogReason} most content program path (Ok log))
          (take (length made) paths) logs
      pub few : All (λ (log : ProgramLog). IsLegalUpTo most log.program log.events) logs
      pub each : AreMadeFrom Makes hart logs made

    front_made : (hart : ℕ) (paths : List Path) (made : List X) → length made ≤ length paths
        → ((i : ℕ) (path : Path) (one : X) → slice_get paths i ≡ Some path → slice_get made i ≡ Some one
        → MadeAt (hart + i) path one)
        → FrontMade hart paths made
    front_made hart paths [] few each =
        record { logs = []; legal = tt; few = All-nil (λ (log : ProgramLog). IsLegalUpTo most log.program log.events); each = tt }
    front_made hart [] (one ∷ made) few each = absurd (omega (arith, few))
    front_made hart (path ∷ paths) (one ∷ made) few each =
        let here = each 0 path one refl refl in
        let rest = front_made (hart + 1) paths made (omega (arith, few)) (λ i path one at is.
        subst (λ hart. MadeAt hart path one) (omega arith) (each (suc i) path one at is)) in record {
          logs = here.log ∷ rest.logs;
          legal = (here.legal, rest.legal);
          few = All-cons (λ (log : ProgramLog). IsLegalUpTo most log.program log.events) here.log rest.logs here.few
              rest.few;
          each = (subst (λ hart. Makes hart here.log one) (omega arith) here.makes, rest.each);
        }

    module _ (paths : List Path) where
      fronts : (made : List X) (end : Result (Unit {0}) LogsFault)
          → AreMade OfEvents OfIllegal content program most paths made end → FrontMade 0 paths made
      fronts made end are =
          front_made 0 paths made are.few (λ i path one at is.
          subst (λ hart. MadeAt hart path one) (sym (zero-add i)) (made_at i path one (are.each i path one at is)))

      all_legal : (made : List X) (end : Unit {0})
          → AreMade OfEvents OfIllegal content program most paths made (Ok end)
          → AreMadeOfLogs Makes most content program paths made
      all_legal made end are =
          let front = fronts made (Ok end) are in record {
            logs = front.logs;
            legal = subst (λ paths. AllZip (λ path log. IsLegalLogUpTo {W = LogReason} most content program path
                (Ok log)) paths front.logs)
                (take_all (length made) paths (omega (arith, are.all refl))) front.legal;
            few = front.few;
            each = front.each;
          }

      first_refused : (made : List X) (last : LogsFault)
          → AreMade OfEvents OfIllegal content program most paths made (Err last)
          → (stop_fault {W = LogReason} last.path last.why ≡ fault.Memory)
          ⊎ IsFirstRefusedUpTo {W = LogReason} most content program paths (stop_fault last.path last.why)
      first_refused made last are = is_first (legal_stopped most content program last.path last.why are.fault.1)
        where
          is_first : (stop_fault {W = LogReason} last.path last.why ≡ fault.Memory)
              ⊎ IsLegalLogUpTo {W = LogReason} most content program last.path (Err (stop_fault last.path last.why))
              → (stop_fault {W = LogReason} last.path last.why ≡ fault.Memory)
              ⊎ IsFirstRefusedUpTo {W = LogReason} most content program paths (stop_fault last.path last.why)
          is_first (inl denied) = inl denied
          is_first (inr refused) =
              let front = fronts made (Err last) are in
              let parted = parted_at paths (length made) last.path are.fault.0 in inr (record {
                front = take (length made) paths;
                path = last.path;
                rest = parted.0;
                logs = front.logs;
                whole = parted.1;
                legal = front.legal;
                refused = refused;
              })

      -- Then all logs are legal.
      pub made_of_legal : (made : Vec X Global) (end : Result (Unit {0}) LogsFault)
          (result : Result (Vec X Global) Fault)
          → AreMade OfEvents OfIllegal content program most paths made.items end
          → result ≡ all_or_fault made end
          → IfOk result (λ all. AreMadeOfLogs Makes most content program paths all.items)
      made_of_legal made (Ok end) result are is =
          subst (λ r. IfOk r (λ all. AreMadeOfLogs Makes most content program paths all.items)) (sym is)
          (all_legal made.items end are)
      made_of_legal made (Err last) result are is =
          subst (λ r. IfOk r (λ all. AreMadeOfLogs Makes most content program paths all.items)) (sym is) tt

      -- Else the fault is that of the first log that is not legal.
      pub made_of_none : (made : Vec X Global) (end : Result (Unit {0}) LogsFault)
          (result : Result (Vec X Global) Fault)
          → AreMade OfEvents OfIllegal content program most paths made.items end
          → result ≡ all_or_fault made end
          → IfErr result (λ why. (why ≡ fault.Memory) ⊎ AreLegalLogsUpTo most content program paths (Err why))
      made_of_none made (Ok end) result are is =
          subst (λ r. IfErr r (λ why. (why ≡ fault.Memory) ⊎ AreLegalLogsUpTo most content program paths (Err why)))
          (sym is) tt
      made_of_none made (Err last) result are is =
          subst (λ r. IfErr r (λ why. (why ≡ fault.Memory) ⊎ AreLegalLogsUpTo most content program paths (Err why)))
          (sym is)
          (first_refused made.items last are)

-- The messages of logs, one after the other, are those of their harts.
pub messages_joined : (text_of : Message → List ℕ) (period : ℕ) (mode : Mode) (first place : ℕ) (logs : List ProgramLog)
    (made : List (Vec ℕ Global)) → AreMadeFrom (AreMessagesOf text_of period mode first) place logs made
    → joined made ≡ flat_map text_of (messages_of_harts period mode (first + place) logs)
messages_joined text_of period mode first place [] [] are = refl
messages_joined text_of period mode first place [] (one ∷ made) are = elim are [ ]
messages_joined text_of period mode first place (log ∷ logs) [] are = elim are [ ]
messages_joined text_of period mode first place (log ∷ logs) (one ∷ made) are =
    let next : first + (place + 1) ≡ first + place + 1 = omega arith in
    ap (λ here. here ++ joined made) are.0
    ∙ ap (λ rest. flat_map text_of (messages_from (first + place) 0 (payloads period mode log)) ++ rest)
    (messages_joined text_of period mode first (place + 1) logs made are.1
    ∙ ap (λ hart. flat_map text_of (messages_of_harts period mode hart logs)) next)
    ∙ sym (flat_map-append text_of (messages_from (first + place) 0 (payloads period mode log))
    (messages_of_harts period mode (first + place + 1) logs))

-- The first of the logs is that of the first hart.
all_joined : (text_of : Message → List ℕ) (period : ℕ) (mode : Mode) (first : ℕ) (logs : List ProgramLog)
    (made : List (Vec ℕ Global)) → AreMadeFrom (AreMessagesOf text_of period mode first) 0 logs made
    → joined made ≡ flat_map text_of (messages_of_harts period mode first logs)
all_joined text_of period mode first logs made are =
    let here : first + 0 ≡ first = omega arith in
    messages_joined text_of period mode first 0 logs made are
    ∙ ap (λ hart. flat_map text_of (messages_of_harts period mode hart logs)) here

module _ (asked : Encode) (logs : List ProgramLog) (made : List (Vec ℕ Global)) where
  -- The hart of the first log.
  abbrev first : ℕ
  first = first_hart asked.first

  by_form : (hex : Bool) → AreMadeFrom (AreMessagesOf (form_text hex) asked.period asked.mode first) 0 logs made
      → (if hex then [] else part_start asked.version first (asked_header asked (length made))) ++ joined made
      ≡ part_text hex asked.version asked.period asked.mode first (all_harts asked.of (length logs)) logs
  by_form true are = all_joined hex_line asked.period asked.mode first logs made are
  by_form false are =
      ap (λ count. part_start asked.version first (asked_header asked count) ++ joined made)
      (sym (made_long (AreMessagesOf message_bytes asked.period asked.mode first) 0 logs made are))
      ∙ ap (λ bytes. part_start asked.version first (asked_header asked (length logs)) ++ bytes)
      (all_joined message_bytes asked.period asked.mode first logs made are
      ∙ sym (capture_is (messages_of_harts asked.period asked.mode first logs)))

  -- What is written of the messages of logs is what is asked for, one log after the other.
  pub messages_written : asked.mixed ≡ None → AreAskedMessages asked logs made
      → written_of asked made ≡ written asked logs
  messages_written none are =
      by_form asked.hex
      (subst (λ mixed. AreMadeFrom (AreMessagesOf (form_text (lines_made mixed asked.hex)) asked.period asked.mode first) 0
      logs made) none are.1)
      ∙ ap (λ mixed. messages_text asked.hex asked.version asked.period asked.mode first
      (all_harts asked.of (length logs)) (messages_in_order mixed asked.period asked.mode first logs)) (sym none)

-- The measures of logs are those of each.
pub measures_each : (period : ℕ) (mode : Mode) (hart : ℕ) (logs : List ProgramLog) (made : List Measures)
    → AreMadeFrom (AreMeasuresOf period mode) hart logs made → made ≡ measures_of_each period mode logs
measures_each period mode hart [] [] are = refl
measures_each period mode hart [] (one ∷ made) are = elim are [ ]
measures_each period mode hart (log ∷ logs) [] are = elim are [ ]
measures_each period mode hart (log ∷ logs) (one ∷ made) are =
    let rest = measures_each period mode (hart + 1) logs made are.1 in
    let here = are.0.0 in cc

-- They can be added up.
pub measures_within : (period : ℕ) (mode : Mode) (hart : ℕ) (logs : List ProgramLog) (made : List Measures)
    → AreMadeFrom (AreMeasuresOf period mode) hart logs made → All (AreWithin most_counted) made
measures_within period mode hart [] [] are = All-nil (AreWithin most_counted)
measures_within period mode hart [] (one ∷ made) are = elim are [ ]
measures_within period mode hart (log ∷ logs) [] are = elim are [ ]
measures_within period mode hart (log ∷ logs) (one ∷ made) are =
    All-cons (AreWithin most_counted) one made are.0.1 (measures_within period mode (hart + 1) logs made are.1)
