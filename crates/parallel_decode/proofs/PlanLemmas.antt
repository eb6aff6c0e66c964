-- The stretches of a hart, one mark more at a time.
use Rattle.std.proofs.Common.{◌≡◌, ◌+◌, ◌-◌, ◌≤◌, ◌∙◌, ℕ, zero, suc, true, false, List, [], ◌∷◌, ◌++◌, ap}
use Rattle.std.proofs.Common.{append_assoc, append-nil, arith, drop, length, refl, slice_get, subst, sym, take}
use Rattle.std.proofs.lemmas.Grind.{flat_map-append}
use Rattle.std.proofs.lemmas.List.{take_all}
use Rattle.std.proofs.Math.Seq.{take-add}
use Rattle.std.specs.declared.vec.Vec.{Vec}
use Rattle.retire.specs.Log.{header}
use Rattle.retire.specs.LogText.{event_line, line_of_fields, log_text}
use Rattle.retire.specs.declared.event.Event.{Event}
use Rattle.rvclass.specs.Words.{Words}
use Rattle.decoder.proofs.ExtendingLemmas.{log_goes_on}
use Rattle.decoder.proofs.UniqueLemmas.{one_log}
use Rattle.decoder.specs.Describes.{Describes}
use Rattle.decoder.specs.DecoderStands.{DecoderStands}
use Rattle.decoder.specs.declared.decoding.Decoder.{Decoder}
use Rattle.message.proofs.HartMessages.{packets_in-append}
use Rattle.message.specs.OfHart.{packets_in}
use Rattle.message.specs.declared.message.Message.{Message}
use Rattle.parallel_decode.proofs.SplitLemmas.{rows}
use Rattle.parallel_decode.specs.EachHart.{hart_line}
use Rattle.parallel_decode.specs.HartsText.{head_of}
use Rattle.parallel_decode.proofs.PlaceLemmas.{places-length}
use Rattle.parallel_decode.specs.Marks.{AreRising, IsMark}
use Rattle.parallel_decode.specs.Places.{AreAt, IsAt}
use Rattle.parallel_decode.specs.declared.mark.Mark.{Mark}
use Rattle.parallel_decode.proofs.StretchLemmas.{text_push}
use Rattle.parallel_decode.specs.declared.stretch.Stretch.{Stretch}
use Rattle.parallel_decode.specs.steps.Planning.{IsMarkedHart}
use Rattle.parallel_decode.specs.steps.Stretches.{HaveText, IsStretch, head_if, stretch_text}

-- The first messages are at the first places, and the others at the others.
places-take : (bytes places : List ℕ) (messages : List Message) (n : ℕ) → AreAt bytes places messages
    → AreAt bytes (take n places) (take n messages)
places-take bytes places messages zero are = tt
places-take bytes [] [] (suc n) are = tt
places-take bytes [] (message ∷ messages) (suc n) are = absurd are
places-take bytes (place ∷ places) [] (suc n) are = absurd are
places-take bytes (place ∷ places) (message ∷ messages) (suc n) are =
    (are.0, places-take bytes places messages n are.1)

places-drop : (bytes places : List ℕ) (messages : List Message) (n : ℕ) → AreAt bytes places messages
    → AreAt bytes (drop n places) (drop n messages)
places-drop bytes places messages zero are = are
places-drop bytes [] [] (suc n) are = tt
places-drop bytes [] (message ∷ messages) (suc n) are = absurd are
places-drop bytes (place ∷ places) [] (suc n) are = absurd are
places-drop bytes (place ∷ places) (message ∷ messages) (suc n) are = places-drop bytes places messages n are.1

-- The first messages up to an end are those up to a place before it, and those between.
first_parted : (messages : List Message) (from to : ℕ) → from ≤ to
    → packets_in (take to messages)
    ≡ packets_in (take from messages) ++ packets_in (take (to - from) (drop from messages))
first_parted messages from to ordered =
    ap (λ n. packets_in (take n messages)) (let n : to ≡ from + (to - from) = omega (arith, ordered) in n)
    ∙ ap packets_in (take-add from (to - from) messages)
    ∙ packets_in-append (take from messages) (take (to - from) (drop from messages))

module _ {A : Type 0} (words : Words) (bytes : List ℕ) (places : List (Vec ℕ A)) (hart count : ℕ) (marks : List Mark)
    (log : List Event) (m : IsMarkedHart words bytes places hart count marks log) where
  abbrev messages : List Message
  messages = m.marked.messages

  as_many : length m.own.items ≡ length messages
  as_many = places-length (IsAt bytes) m.own.items messages m.marked.placed

  -- The messages from one on up to another are a stretch, of the events that they add.
  cut_at : (stretch : Stretch) (before part : List Event) → stretch.hart ≡ hart → stretch.from ≤ stretch.to
      → stretch.to ≤ length messages
      → DecoderStands words (packets_in (take stretch.from messages)) before stretch.decoder
      → Describes words (packets_in (take stretch.to messages)) (before ++ part)
      → IsStretch words bytes places stretch part
  cut_at stretch before part here ordered within stands described = record {
    lies = record {
      own = m.own;
      hart = ap (λ h. slice_get places h) here ∙ m.own_is;
      ordered = ordered;
      within = omega (arith, within, as_many);
    };
    is_part = record {
      packets = packets_in (take stretch.from messages);
      before = before;
      stands = stands;
      only = λ other is. one_log words m.program (packets_in (take stretch.from messages)) other before is
          stands.described;
      messages = take (stretch.to - stretch.from) (drop stretch.from messages);
      placed = places-take bytes (drop stretch.from m.own.items) (drop stretch.from messages)
          (stretch.to - stretch.from) (places-drop bytes m.own.items messages stretch.from m.marked.placed);
      described = subst (λ ps. Describes words ps (before ++ part))
          (first_parted messages stretch.from stretch.to ordered) described;
    };
  }

  module _ (text : List ℕ) where
    -- The stretches up to the next one add the lines before the hart's rows and the rows of these events, but for the
    -- lines that the next one adds.
    pub record Cut (left : List Mark) (next : Stretch) (stretches : List Stretch) : Type 0 where
      pub before : List Event
      pub rest : List Event
      pub whole : log ≡ before ++ rest
      pub hart_is : next.hart ≡ hart
      pub within : next.from ≤ length messages
      pub stands : DecoderStands words (packets_in (take next.from messages)) before next.decoder
      pub rising : AreRising next.from left
      pub done : List ℕ
      pub have : HaveText words bytes places stretches (text ++ done)
      pub done_is : done ++ head_if next.is_first hart ≡ head_of hart ++ rows before

    -- At first the hart's first messages come next.
    pub cut_none : (decoder : Decoder) (stretches : List Stretch) (to : ℕ) → DecoderStands words [] [] decoder
        → HaveText words bytes places stretches text
        → Cut marks (record { hart = hart; is_first = true; decoder = decoder; from = 0; to = to })
        stretches
    cut_none decoder stretches to stands have = record {
      before = [];
      rest = log;
      whole = refl;
      hart_is = refl;
      within = omega arith;
      stands = stands;
      rising = m.marked.rising;
      done = [];
      have = subst (HaveText words bytes places stretches) (sym (append-nil text)) have;
      done_is = sym (append-nil (head_of hart));
    }

    module _ (left : List Mark) (next : Stretch) (stretches : List Stretch) (cut : Cut left next stretches) where
      -- One stretch more, of the events that come next.
      added : (to : ℕ) (part : List Event)
          → IsStretch words bytes places (record next { to = to }) part
          → HaveText words bytes places (stretches ++ record next { to = to } ∷ [])
          (text ++ (cut.done ++ (head_if next.is_first hart ++ rows part)))
      added to part is =
          let stretch = record next { to = to } in
          subst (HaveText words bytes places (stretches ++ stretch ∷ []))
          (append_assoc text cut.done (stretch_text stretch part)
          ∙ ap (λ h. text ++ (cut.done ++ (head_if next.is_first h ++ rows part))) cut.hart_is)
          (text_push words bytes places stretches (text ++ cut.done) stretch part cut.have is)

      -- The lines before the hart's rows and the rows of more events.
      more_done : (part : List Event) → cut.done ++ (head_if next.is_first hart ++ rows part)
          ≡ head_of hart ++ rows (cut.before ++ part)
      more_done part =
          sym (append_assoc cut.done (head_if next.is_first hart) (rows part))
          ∙ ap (λ l. l ++ rows part) cut.done_is
          ∙ append_assoc (head_of hart) (rows cut.before) (rows part)
          ∙ ap (λ l. head_of hart ++ l) (sym (flat_map-append event_line cut.before part))

      -- The stretch up to a mark.
      pub cut_more : (mark : Mark) (later : List Mark) → left ≡ mark ∷ later
          → IsMark words messages log mark
          → Cut later (record {
            hart = hart;
            is_first = false;
            decoder = mark.decoder;
            from = mark.taken;
            to = count;
          }) (stretches ++ record next { to = mark.taken } ∷ [])
      cut_more mark later parts is =
          let rising : AreRising next.from (mark ∷ later) = subst (AreRising next.from) parts cut.rising in
          let ordered : next.from ≤ mark.taken = omega (arith, rising.0) in
          let between = packets_in (take (mark.taken - next.from) (drop next.from messages)) in
          let goes = log_goes_on words m.program (packets_in (take next.from messages)) between cut.before is.before
          cut.stands.described
          (subst (λ ps. Describes words ps is.before) (first_parted messages next.from mark.taken ordered)
          is.stands.described) in
          let stretch = cut_at (record next { to = mark.taken }) cut.before goes.rest cut.hart_is ordered is.within
          cut.stands
          (subst (Describes words (packets_in (take mark.taken messages))) goes.is is.stands.described) in
          record {
            before = is.before;
            rest = is.rest;
            whole = is.whole;
            hart_is = refl;
            within = is.within;
            stands = is.stands;
            rising = rising.1;
            done = cut.done ++ (head_if next.is_first hart ++ rows goes.rest);
            have = added mark.taken goes.rest stretch;
            done_is =
                append-nil (cut.done ++ (head_if next.is_first hart ++ rows goes.rest))
                ∙ more_done goes.rest ∙ ap (λ l. head_of hart ++ rows l) (sym goes.is);
          }

      -- The stretch up to the end.
      pub cut_all : next.to ≡ count
          → HaveText words bytes places (stretches ++ next ∷ []) (text ++ (hart_line hart ++ log_text log))
      cut_all end =
          let same : count ≡ length messages = m.counted ∙ as_many in
          let all = take_all next.to messages (omega (arith, end, same)) in
          let within : next.from ≤ next.to = let few = cut.within in omega (arith, few, end, same) in
          let stretch = cut_at next cut.before cut.rest cut.hart_is within (omega (arith, end, same)) cut.stands
          (subst (λ ms. Describes words (packets_in ms) (cut.before ++ cut.rest)) (sym all)
          (subst (Describes words (packets_in messages)) cut.whole m.marked.described)) in
          let line : cut.done ++ (head_if next.is_first hart ++ rows cut.rest) ≡ hart_line hart ++ log_text log =
          more_done cut.rest ∙ ap (λ l. head_of hart ++ rows l) (sym cut.whole)
          ∙ append_assoc (hart_line hart) (line_of_fields header) (rows log) in
          subst (λ l. HaveText words bytes places (stretches ++ next ∷ []) (text ++ l)) line
          (added next.to cut.rest stretch)
