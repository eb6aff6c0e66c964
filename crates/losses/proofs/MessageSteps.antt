-- What any messages of a hart describe, from one of its messages to the next.
use Rattle.std.proofs.Common.{◌≡◌, ◌≢◌, ◌⊎◌, ◌↔◌, inl, inr, ℕ, zero, suc, ◌+◌, ◌-◌, Bool, true, false}
use Rattle.std.proofs.Common.{List, [], ◌∷◌, ◌++◌, Option, Some, None, Ok, length, slice_get, refl, sym, ap, subst, ◌∙◌}
use Rattle.std.proofs.Common.{arith, append_assoc}
use Rattle.std.specs.Prelude.{◌||◌, slice_set}
use Rattle.std.proofs.lemmas.List.{append-nil}
use Rattle.retire.specs.declared.event.Event.{Event}
use Rattle.rvclass.specs.Words.{Words}
use Rattle.payload.specs.Reading.{reading}
use Rattle.payload.specs.declared.mode.Mode.{Mode}
use Rattle.payload.specs.declared.packet.Packet.{Packet}
use Rattle.decoder.specs.Order.{IsOpen}
use Rattle.decoder.specs.Describes.{Describes}
use Rattle.decoder.specs.declared.decoding.Decoder.{Decoder}
use Rattle.decoder.specs.declared.fault.DecodeFault.{DecodeFault}
use Rattle.decoder.specs.declared.fault.DecodeFault.TheVariants.{Memory, NotOpened}
use Rattle.message.proofs.AnsweringLossy.{answer_lossy-taken}
use Rattle.message.specs.Accepting.{next_of}
use Rattle.message.specs.Harts.{Harts}
use Rattle.message.specs.Lossy.{accepting_lossy, answer_lossy_of, harts_after_found_lossy, harts_after_lossy}
use Rattle.message.specs.Lossy.{state_by_lossy}
use Rattle.message.specs.OfHart.{packet_or_none}
use Rattle.message.specs.declared.hart.Hart.{Hart}
use Rattle.message.specs.declared.message.Message.{Message}
use Rattle.losses.specs.Parts.{LogPart, stretch}
use Rattle.losses.specs.Runs.{Run, first_run, last_trace, longer, missing_behind, mode_in, over_before, packets_behind}
use Rattle.losses.specs.Runs.{run_behind, run_of, runs, runs_on, trace_of_last, trace_of_run}
use Rattle.losses.specs.DescribedParts.{RunsDescribe, MessagesDescribe}
use Rattle.losses.specs.steps.FollowingRuns.{FollowsMessages, FollowsRuns, IsNotDecodedInRun}
use Rattle.losses.proofs.RunLemmas.{describe_push}

-- What is known of a message that the demultiplexer takes.
pub record IsTaken (harts : Harts) (message : Message) (packet : Packet) (missed : ℕ) : Type 0 where
  pub expects : Hart
  pub at : slice_get harts message.hart ≡ Some expects
  pub goes : expects.closed ≡ false
  pub number : expects.expected + missed ≡ message.number
  pub read : reading message.payload ≡ Ok packet
  pub after : harts_after_lossy harts message ≡ slice_set harts message.hart (next_of message.number packet)

pub taken_by : (harts : Harts) (message : Message) (packet : Packet) (missed : ℕ)
    → accepting_lossy harts message ≡ Ok (packet, missed) → IsTaken harts message packet missed
taken_by harts message packet missed value = by_hart (slice_get harts message.hart) refl value
  where
    left_of : (a b : Bool) → (a || b) ≡ false → a ≡ false
    left_of false b is = refl
    left_of true b is = is

    by_hart : (o : Option Hart) → slice_get harts message.hart ≡ o → answer_lossy_of o message ≡ Ok (packet, missed)
        → IsTaken harts message packet missed
    by_hart None at answer = cc
    by_hart (Some h) at answer =
        let t = (answer_lossy-taken (Some h) message packet missed).0 answer in
        record {
          expects = h;
          at = at;
          goes = left_of h.closed _ t.0.0;
          number = t.0.1.0;
          read = t.1;
          after = ap (harts_after_found_lossy harts message) at
              ∙ ap (λ r. slice_set harts message.hart (state_by_lossy h message.number r)) answer;
        }

-- The trace of the last run.
last_of : (mode : Mode) (done : List Run) (run : Run) → trace_of_last mode (done ++ run ∷ []) ≡ trace_of_run mode run
last_of mode [] run = refl
last_of mode (first ∷ []) run = refl
last_of mode (first ∷ next ∷ done) run = last_of mode (next ∷ done) run

module _ (words : Words) (mode : Mode) (messages : List Message) (message : Message) (next missed : ℕ)
    (packet : Packet) (number : next + missed ≡ message.number) (read : reading message.payload ≡ Ok packet)
    (old : Decoder) (seen : List LogPart) (events : List Event)
    (f : FollowsMessages words mode messages next false old seen events) where
  abbrev done : List Run
  done = f.done ++ over_before missed (run_of f.missing f.packets)

  abbrev run : Run
  run = run_of (missing_behind missed f.missing) (packets_behind missed f.packets ++ packet ∷ [])

  -- The runs with one message more.
  whole : (later : List Message)
      → runs_on first_run 0 ((messages ++ message ∷ []) ++ later) ≡ done ++ runs_on run (message.number + 1) later
  whole later =
      let before = run_of f.missing f.packets in
      let missing : message.number - next ≡ missed = omega (arith, number) in
      ap (runs_on first_run 0) (append_assoc messages (message ∷ []) later)
      ∙ f.whole (message ∷ later)
      ∙ ap (λ k. f.done ++ (over_before k before ++ runs_on (longer (run_behind k before)
      (packet_or_none (reading message.payload))) (message.number + 1) later)) missing
      ∙ ap (λ r. f.done ++ (over_before missed before ++ runs_on (longer (run_behind missed before)
      (packet_or_none r)) (message.number + 1) later)) read
      ∙ sym (append_assoc f.done (over_before missed before) (runs_on run (message.number + 1) later))

  -- One message more is collected.
  pub message_more : (closed : Bool) (new : Decoder) (after : List LogPart) (rest : List Event)
      → FollowsRuns words mode done (missing_behind missed f.missing) (packets_behind missed f.packets ++ packet ∷ [])
      (next + missed + 1) closed new after rest
      → FollowsMessages words mode (messages ++ message ∷ []) (message.number + 1) closed new after rest
  message_more closed new after rest follows = record {
    done = done;
    missing = missing_behind missed f.missing;
    packets = packets_behind missed f.packets ++ packet ∷ [];
    whole = whole;
    runs = subst (λ n. FollowsRuns words mode done (missing_behind missed f.missing)
        (packets_behind missed f.packets ++ packet ∷ []) n closed new after rest) (ap (λ n. n + 1) number) follows;
  }

  runs_are : runs (messages ++ message ∷ []) ≡ done ++ run ∷ []
  runs_are = ap (runs_on first_run 0) (sym (append-nil (messages ++ message ∷ []))) ∙ whole []

  -- The number is 0 exactly where nothing is missing and nothing came.
  first_alone : ((missing_behind missed f.missing ≡ 0) × (packets_behind missed f.packets ≡ [])) ↔ (message.number ≡ 0)
  first_alone = by_missed missed number
    where
      nothing : (ps : List Packet) → length ps ≡ 0 → ps ≡ []
      nothing [] is = refl
      nothing (p ∷ ps) is = cc

      by_missed : (k : ℕ) → next + k ≡ message.number
          → ((missing_behind k f.missing ≡ 0) × (packets_behind k f.packets ≡ [])) ↔ (message.number ≡ 0)
      by_missed (suc k) is = (
        λ both. let never = both.0 in cc,
        λ zero_is. let never : ⊥ = omega (arith, is, zero_is) in absurd never,
      )
      by_missed zero is = (
        λ both. let count = (f.runs.from_zero both.0).1 ∙ ap length both.1 in omega (arith, is, count),
        λ zero_is. let beyond = f.runs.beyond in
            (omega (arith, is, zero_is, beyond), nothing f.packets (omega (arith, is, zero_is, beyond))),
      )

  -- Its packet is not decoded.
  pub message_not_decoded : (why : DecodeFault) → why ≢ Memory
      → IsNotDecodedInRun words (mode_in mode (done ++ run ∷ [])) (missing_behind missed f.missing)
      (packets_behind missed f.packets) packet why
      → (hart_messages : List Message) → hart_messages ≡ messages ++ message ∷ []
      → (packet : Packet) × (reading message.payload ≡ Ok packet)
      × ((why ≡ NotOpened) ↔ ((message.number ≡ 0) × ¬ IsOpen packet))
      × ((log : List Event) → ¬ Describes words (last_trace mode hart_messages) log)
  message_not_decoded why not_memory not_decoded hart_messages are = (
    packet,
    read,
    (
      λ is. let o = not_decoded.not_opened.0 is in (first_alone.0 o.0, o.1),
      λ o. not_decoded.not_opened.1 (first_alone.1 o.0, o.1),
    ),
    λ log described. undescribed not_decoded.reason log (subst (λ l. Describes words l log) trace described),
  )
    where
      trace : last_trace mode hart_messages
          ≡ trace_of_run (mode_in mode (done ++ run ∷ [])) run
      trace = ap (last_trace mode) are ∙ ap (λ rs. trace_of_last (mode_in mode rs) rs) runs_are
          ∙ last_of (mode_in mode (done ++ run ∷ [])) done run

      undescribed : (why ≡ Memory)
          ⊎ ((log : List Event) → ¬ Describes words (trace_of_run (mode_in mode (done ++ run ∷ [])) run) log)
          → (log : List Event) → ¬ Describes words (trace_of_run (mode_in mode (done ++ run ∷ [])) run) log
      undescribed (inl memory) log described = not_memory memory
      undescribed (inr none) log described = none log described

-- What a hart's messages describe where its stretch is ended.
pub messages_describe : (words : Words) (mode : Mode) (messages : List Message) (next : ℕ) (closed : Bool)
    (decoder : Decoder) (seen : List LogPart) (events : List Event)
    → FollowsMessages words mode messages next closed decoder seen events
    → MessagesDescribe words mode messages (seen ++ stretch events)
messages_describe words mode messages next closed decoder seen events f =
    let run = run_of f.missing f.packets in
    let all : f.done ++ run ∷ [] ≡ runs messages =
    sym (ap (runs_on first_run 0) (sym (append-nil messages)) ∙ f.whole []) in
    let reads = mode_in mode (f.done ++ run ∷ []) in
    let described = subst (λ l. RunsDescribe words reads (f.done ++ run ∷ []) (l ++ stretch events)) (sym f.runs.so_far)
    (describe_push words reads f.done run f.runs.front events f.runs.before f.runs.follows.described) in
    subst (λ rs. RunsDescribe words (mode_in mode rs) rs (seen ++ stretch events)) all described
