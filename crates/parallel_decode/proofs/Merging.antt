-- What is received of each hart by itself, and what the capture decodes to.
use Rattle.std.proofs.Common.{◌≡◌, ◌<◌, ◌++◌, ℕ, All, List, [], Option, Some, None, Global, drop, length, map}
use Rattle.std.proofs.Common.{slice_get, sym, ap, subst, ◌∙◌, arith}
use Rattle.std.specs.Option.{option_map}
use Rattle.std.specs.declared.vec.Vec.{Vec}
use Rattle.std.proofs.lemmas.List.{length-map}
use Rattle.std.proofs.lemmas.List.Elements.{All-nil}
use Rattle.std.proofs.lemmas.Simd.{map-map}
use Rattle.std.proofs.lemmas.Option.{same_Some, slice_get-map, slice_get_within}
use Rattle.message.specs.Range.{selected}
use Rattle.message.specs.declared.range.HartRange.{HartRange}
use Rattle.retire.specs.declared.event.Event.{Event}
use Rattle.rvclass.specs.Words.{Words}
use Rattle.payload.specs.declared.mode.Mode.{Mode}
use Rattle.decoder.specs.Describes.{Describes}
use Rattle.message.proofs.Elements.{All-slice_get, slice_get-some}
use Rattle.message.specs.Accepted.{AreAccepted, newcomers}
use Rattle.message.specs.Capture.{message_bytes}
use Rattle.message.specs.Cut.{IsMessage}
use Rattle.message.specs.Harts.{newcomer}
use Rattle.message.specs.OfHart.{of_hart, packets_of}
use Rattle.message.specs.declared.message.Message.{Message}
use Rattle.receiver.specs.Holds.{AreDecoded}
use Rattle.captures.proofs.ReachingHarts.{refused_stops}
use Rattle.captures.specs.Decoded.{StopsDecodingOf, StopsOf}
use Rattle.captures.specs.Returned.{IsMemory}
use Rattle.captures.specs.declared.outcome.CaptureFault.{CaptureFault}
use Rattle.parallel_decode.specs.Marks.{AreMarkedLogs, AreRising, IsMark, IsMarkedLog}
use Rattle.parallel_decode.specs.Surveyed.{IsSurvey, NeverMemory}
use Rattle.parallel_decode.specs.declared.mark.Mark.{Mark}
use Rattle.parallel_decode.specs.declared.indexing.Survey.{Survey}
use Rattle.parallel_decode.proofs.Owns.{all_accepted, all_agree, collect-all, logs_decoded}
use Rattle.parallel_decode.proofs.StartLemmas.{starts-read}
use Rattle.parallel_decode.proofs.SurveyLemmas.{never_memory_of}
use Rattle.parallel_decode.specs.Marked.{IsMarkedSurvey}
use Rattle.parallel_decode.specs.declared.ahead.Ahead.{Ahead}
use Rattle.parallel_decode.specs.declared.ahead.Ahead.TheVariants as ahead
use Rattle.parallel_decode.specs.declared.hart.HartEnd.{HartEnd}
use Rattle.parallel_decode.specs.declared.own.Own.{Own}
use Rattle.parallel_decode.specs.declared.surveying.MarkedSurvey.{MarkedSurvey}
use Rattle.parallel_decode.specs.steps.Ends.{AreEnds, IsReceivedHart}
use Rattle.parallel_decode.specs.steps.OwnMessages.{IsOwn}
use Rattle.parallel_decode.specs.steps.Surveying.{AreOwns}
use Rattle.parallel_decode.specs.steps.Walked.{AreWalked, IsAhead, IsRefusal}

-- The message in front of the bytes is said to be refused, or nothing is said.
pub refusal-ahead : (range : HartRange) (words : Words) (harts : ℕ) (announced : Option Mode) (messages : List Message)
    (rest next : List ℕ) (message : Message) → IsMessage message → rest ≡ message_bytes message ++ next
    → (found : Ahead) → IsRefusal range words harts announced (selected range messages) message found
    → IsAhead range words harts announced messages rest found
refusal-ahead range words harts announced messages rest next message is here ahead.End refusal = absurd refusal
refusal-ahead range words harts announced messages rest next message is here ahead.Received refusal = tt
refusal-ahead range words harts announced messages rest next message is here (ahead.Fault why) refusal = (
  subst (StopsDecodingOf range words harts announced (selected range messages) rest) (sym refusal.1)
      (refused_stops range words harts announced (selected range messages) rest refusal.0 (record {
        begins = record { message = message; rest = next; ranges = is; begins = here; refused = refusal.3 };
        of_range = refusal.2;
      })),
  subst (λ f. ¬ IsMemory f) (sym refusal.1) (never_memory_of refusal.0 refusal.4),
)

module _ (range : HartRange) (words : Words) (harts : ℕ) (announced : Option Mode) (bytes : List ℕ)
    (messages : List Message) (places : List (Vec ℕ Global)) (place passed : ℕ)
    (walked : AreWalked range harts bytes messages places place passed) (ends : List HartEnd)
    (are : AreEnds words announced bytes places ends) (whole : All (λ (end : HartEnd). end.refused ≡ None) ends)
    (many : length ends ≡ length places) where
  -- The messages of the harts in the range.
  abbrev own_messages : List Message
  own_messages = selected range messages

  -- What was received of a hart.
  pub record ReceivedAt (hart : ℕ) : Type 0 where
    pub end : HartEnd
    pub is : slice_get ends hart ≡ Some end
    pub received : IsReceivedHart words announced (of_hart hart own_messages) end

  received-at : (hart : ℕ) → hart < harts → ReceivedAt hart
  received-at hart below =
      let count = walked.count in
      let own = slice_get-some places hart (omega (arith, below, count)) in
      let end = slice_get-some ends hart (omega (arith, below, count, many)) in
      record {
        end = end.0;
        is = end.1;
        received = are hart own.0 end.0 own.1 end.1
            (All-slice_get (λ (end : HartEnd). end.refused ≡ None) ends hart end.0 end.1 whole)
            (of_hart hart own_messages) (walked.starts hart own.0 own.1);
      }

  -- So of each hart its messages were received.
  abbrev owns : List Own
  owns = map (λ (end : HartEnd). end.own) ends

  owns-many : length owns ≡ harts
  owns-many = length-map ends (λ (end : HartEnd). end.own) ∙ many ∙ walked.count

  owns-are : AreOwns words announced own_messages owns
  owns-are hart own is =
      let within = slice_get_within owns hart own is in
      let at = received-at hart (omega (arith, within, owns-many)) in (
        at.received.log,
        subst (IsOwn words announced (of_hart hart own_messages) at.received.log)
            (same_Some at.end.own own
            (sym (slice_get-map (λ (end : HartEnd). end.own) ends hart
            ∙ ap (option_map (λ (end : HartEnd). end.own)) at.is) ∙ is)) at.received.own,
      )

  -- All messages are accepted.
  pub merged-accepted : AreAccepted (newcomers harts) own_messages
  merged-accepted = all_accepted words harts announced own_messages walked.of_harts owns owns-many owns-are

  -- What is said of the log of a hart.
  pub record IsLogOf (hart : ℕ) (log : List Event) : Type 0 where
    pub described : Describes words (packets_of hart own_messages) log
    pub marked : (own : Vec ℕ Global) (end : HartEnd) → slice_get places hart ≡ Some own
        → slice_get ends hart ≡ Some end → IsMarkedLog words bytes own.items end.marks.items log

  log-of : (hart : ℕ) → hart < harts → (log : List Event) × IsLogOf hart log
  log-of hart below =
      let at = received-at hart below in
      let received = at.received in
      let on_way = received.on_way in (
        received.log,
        record {
          described = received.own.stands.described;
          marked = λ own end its is.
              subst (λ (end : HartEnd). IsMarkedLog words bytes own.items end.marks.items received.log)
              (same_Some at.end end (sym at.is ∙ is))
              (record {
                messages = of_hart hart own_messages;
                placed = starts-read bytes own.items (of_hart hart own_messages) newcomer (walked.starts hart own its)
                    received.own.accepted;
                described = received.own.stands.described;
                marked = on_way.marked;
                rising = on_way.rising;
              });
        },
      )

  -- The end of a hart whose marks are these.
  end-of : (hart : ℕ) (on_way : Vec Mark Global)
      → slice_get (map (λ (end : HartEnd). end.marks) ends) hart ≡ Some on_way
      → (end : HartEnd) × (slice_get ends hart ≡ Some end) × (end.marks ≡ on_way)
  end-of hart on_way is =
      let within = slice_get_within (map (λ (end : HartEnd). end.marks) ends) hart on_way is in
      let mapped = length-map ends (λ (end : HartEnd). end.marks) in
      let end = slice_get-some ends hart (omega (arith, within, mapped)) in (
        end.0,
        end.1,
        same_Some end.0.marks on_way
            (sym (ap (option_map (λ (end : HartEnd). end.marks)) end.1)
            ∙ sym (slice_get-map (λ (end : HartEnd). end.marks) ends hart) ∙ is),
      )

  -- What is decoded, with the marks on the way.
  merged-marked : (logs : List (List Event)) → length logs ≡ harts
      → ((hart : ℕ) (log : List Event) → slice_get logs hart ≡ Some log → IsLogOf hart log)
      → AreMarkedLogs words bytes places (map (λ (end : HartEnd). end.marks) ends) logs
  merged-marked logs counted each = record {
    count = counted ∙ sym walked.count;
    as_many = length-map ends (λ (end : HartEnd). end.marks) ∙ many;
    each = λ hart own on_way log its is at.
        let end = end-of hart on_way is in
        subst (λ marks. IsMarkedLog words bytes own.items marks.items log) end.2
        ((each hart log at).marked own end.0 its end.1);
  }

  -- What is put together is a survey.
  pub merged : (survey : MarkedSurvey) → StopsOf range words harts announced messages (drop place bytes) survey.fault
      → NeverMemory survey.fault → survey.places.items ≡ places
      → survey.closed.items ≡ map (λ (end : HartEnd). end.own.closed) ends
      → survey.marks.items ≡ map (λ (end : HartEnd). end.marks) ends
      → IsMarkedSurvey range words harts announced bytes survey
  merged survey stops never same closed marks =
      let logs = collect-all IsLogOf harts log-of in record {
        lists = logs.0;
        decoded = record {
          messages = messages;
          rest = drop place bytes;
          ranges = walked.ranges;
          whole = walked.whole;
          accepted = merged-accepted;
          agree = all_agree words harts announced own_messages walked.of_harts owns owns-many owns-are;
          decoded = subst (AreDecoded (λ hart. words) harts own_messages logs.0)
              (map-map (λ (own : Own). own.closed) (λ (end : HartEnd). end.own) ends ∙ sym closed)
              (logs_decoded words harts announced own_messages walked.of_harts owns owns-many owns-are logs.0 logs.1
              (λ hart log is. (logs.2 hart log is).described));
          stops = stops;
        };
        count = ap length same ∙ walked.count;
        placed = λ hart own is.
            let its : slice_get places hart ≡ Some own = ap (λ l. slice_get l hart) (sym same) ∙ is in
            let within = slice_get_within places hart own its in
            let count = walked.count in
            starts-read bytes own.items (of_hart hart own_messages) newcomer (walked.starts hart own its)
            (received-at hart (omega (arith, within, count))).received.own.accepted;
        marked = subst (λ l. AreMarkedLogs words bytes l survey.marks.items logs.0) (sym same)
            (subst (λ l. AreMarkedLogs words bytes places l logs.0) (sym marks) (merged-marked logs.0 logs.1 logs.2));
        never_memory = never;
      }

-- Where decoding stops, by what comes after the messages.
pub stop-end : (range : HartRange) (words : Words) (harts : ℕ) (announced : Option Mode) (messages : List Message)
    (rest : List ℕ) (found : Ahead) → found ≡ ahead.End → IsAhead range words harts announced messages rest found
    → StopsOf range words harts announced messages rest None
stop-end range words harts announced messages rest found is ahead-is =
    subst (IsAhead range words harts announced messages rest) is ahead-is

pub stop-fault : (range : HartRange) (words : Words) (harts : ℕ) (announced : Option Mode) (messages : List Message)
    (rest : List ℕ) (found : Ahead) (why : CaptureFault) (passed : ℕ) → passed ≡ length messages
    → found ≡ ahead.Fault why → IsAhead range words harts announced messages rest found
    → StopsOf range words harts announced messages rest (Some (passed, why)) × NeverMemory (Some (passed, why))
stop-fault range words harts announced messages rest found why passed counted is ahead-is =
    let stops = subst (IsAhead range words harts announced messages rest) is ahead-is in
    ((counted, stops.0), stops.1)

-- A survey without marks has none to be wrong.
pub unmarked : {A B : Type 0} (range : HartRange) (words : Words) (harts : ℕ) (announced : Option Mode)
    (bytes : List ℕ) (survey : Survey A)
    → (marks : List (Vec Mark B)) → All (λ (list : Vec Mark B). list.items ≡ []) marks → length marks ≡ harts
    → (s : IsSurvey range words harts announced bytes survey)
    → AreMarkedLogs words bytes survey.places.items marks s.lists
unmarked {A} {B} range words harts announced bytes survey marks none many s = record {
  count = s.decoded.decoded.lists_count ∙ sym s.count;
  as_many = many ∙ sym s.count;
  each = λ hart own on_way log its at is_log. record {
    messages = of_hart hart (selected range s.decoded.messages);
    placed = s.placed hart own its;
    described = s.decoded.decoded.described hart log is_log;
    marked = subst (All (IsMark words (of_hart hart (selected range s.decoded.messages)) log))
        (sym (All-slice_get (λ (list : Vec Mark B). list.items ≡ []) marks hart on_way at none))
        (All-nil (IsMark words (of_hart hart (selected range s.decoded.messages)) log));
    rising = subst (AreRising 0)
        (sym (All-slice_get (λ (list : Vec Mark B). list.items ≡ []) marks hart on_way at none)) tt;
  };
}
