-- The messages of a hart that are followed, and one more.
use Rattle.std.proofs.Common.{◌≡◌, ◌∙◌, ◌<◌, ◌+◌, ◌++◌, ℕ, All, Bool, true, false, List, [], ◌∷◌, Option, None, Some, Result, Ok, Err}
use Rattle.std.proofs.Common.{ap, arith, cond, length, map, refl, subst, sym, true≢false, append_assoc}
use Rattle.std.proofs.lemmas.Bool.{eq-eqb}
use Rattle.std.proofs.lemmas.Bool.Decides.{nat_tests}
use Rattle.std.proofs.lemmas.List.{length-append, map_push}
use Rattle.std.proofs.lemmas.List.Elements.{All-cons, All-head, All-nil, All-push, All-tail}
use Rattle.std.specs.Prelude.{IfErr, IfOk, is_some, nat_le, option_map}
use Rattle.decoder.specs.DecoderStands.{DecoderStands}
use Rattle.decoder.specs.Describes.{Describes}
use Rattle.decoder.specs.Settling.{waits}
use Rattle.decoder.specs.declared.decoding.Decoder.{Decoder}
use Rattle.listing.proofs.ListedMessages.{effects-next}
use Rattle.listing.proofs.TakenMessages.{waiting-next}
use Rattle.listing.specs.Effect.{Effect, HasEffect, HaveEffects, last_is_waiting}
use Rattle.listing.specs.PacketEnding.{read_closes, read_waits}
use Rattle.listing.specs.Placed.{PlacedMessage}
use Rattle.message.proofs.HartMessages.{last_is_closing-next, packets_of-next}
use Rattle.message.specs.OfHart.{of_hart, packets_in, packets_of}
use Rattle.message.specs.declared.message.Message.{Message}
use Rattle.payload.specs.ClosedTrace.{last_is_closing}
use Rattle.payload.specs.Closing.{is_closing_packet}
use Rattle.payload.specs.Reading.{reading}
use Rattle.payload.specs.declared.fault.PackFault.{PackFault}
use Rattle.payload.specs.declared.packet.Packet.{Packet}
use Rattle.retire.specs.declared.event.Event.{Event}
use Rattle.rvclass.specs.Words.{Words}
use Rattle.comparing.specs.Sources.{ComesBefore, EndsRefused, IsRefused, Settles, Step, last_step, messages_in}
use Rattle.comparing.specs.Sources.{source_message, waited}
use Rattle.comparing.specs.declared.source.RowSource.{RowSource}
use Rattle.comparing.specs.declared.source.RowSource.TheVariants as source
use Rattle.comparing.specs.declared.source.SourceMessage.{SourceMessage}
use Rattle.comparing.specs.declared.source.SourcingFault.{SourcingFault}
use Rattle.comparing.specs.declared.source.SourcingFault.TheVariants.{Memory, Stops}
use Rattle.comparing.specs.declared.trail.Trail.{Trail}
use Rattle.comparing.specs.steps.Following.{Found, GoesOn, IsDecodedOn, IsFollowed, last_of, trail_after, waited_by}

abbrev placed_in : List Step → List PlacedMessage
placed_in steps = map (λ (step : Step). step.0) steps

abbrev effects_in : List Step → List Effect
effects_in steps = map (λ (step : Step). step.1) steps

-- The messages of a hart alone are those of the hart.
of_own : (hart : ℕ) (messages : List Message) → All (λ (m : Message). m.hart ≡ hart) messages
    → of_hart hart messages ≡ messages
of_own hart [] own = refl
of_own hart (m ∷ messages) own =
    let here = All-head (λ (m : Message). m.hart ≡ hart) m messages own in
    let rest = All-tail (λ (m : Message). m.hart ≡ hart) m messages own in
    ap (λ same. cond same (m ∷ of_hart hart messages) (of_hart hart messages)) (eq-eqb m.hart hart here)
    ∙ ap (λ l. m ∷ l) (of_own hart messages rest)

-- Placed messages of a hart are messages of the hart.
all_own : (hart : ℕ) (steps : List Step) → All (λ (other : PlacedMessage). other.message.hart ≡ hart) (placed_in steps)
    → All (λ (m : Message). m.hart ≡ hart) (messages_in steps)
all_own hart [] own = All-nil (λ (m : Message). m.hart ≡ hart)
all_own hart (step ∷ steps) own =
    let Is = λ (other : PlacedMessage). other.message.hart ≡ hart in
    All-cons (λ (m : Message). m.hart ≡ hart) step.0.message (messages_in steps)
    (All-head Is step.0 (placed_in steps) own) (all_own hart steps (All-tail Is step.0 (placed_in steps) own))

-- One step more is the last.
last-next : (before : Option Step) (steps : List Step) (step : Step) → last_step before (steps ++ step ∷ []) ≡ Some step
last-next before [] step = refl
last-next before (first ∷ steps) step = last-next (Some first) steps step

-- What waits is what is held to wait.
waited_is : (last : Option Step) → waited_by (option_map last_of last) ≡ waited last
waited_is None = refl
waited_is (Some step) = refl

module _ (words : Words) (steps : List Step) (one : PlacedMessage) (packet : Packet) (events added : List Event)
    (before after : Decoder) (read : reading one.message.payload ≡ Ok packet)
    (own : All (λ (m : Message). m.hart ≡ one.message.hart) (messages_in steps))
    (stands : DecoderStands words (packets_in (messages_in steps)) events before)
    (stands_after : DecoderStands words (packets_in (messages_in steps) ++ packet ∷ []) (events ++ added) after) where
  abbrev hart : ℕ
  hart = one.message.hart

  abbrev packets : List Packet
  packets = packets_in (messages_in steps)

  -- What the message does.
  abbrev pub effect : Effect
  effect = record {
    added = added;
    rows = length (events ++ added);
    waits = waits packet;
    closes = is_closing_packet packet;
  }

  same : packets_of hart (messages_in steps) ≡ packets
  same = ap packets_in (of_own hart (messages_in steps) own)

  next : packets_of hart (messages_in steps ++ one.message ∷ []) ≡ packets ++ packet ∷ []
  next = packets_of-next (messages_in steps) one.message packet read ∙ ap (λ l. l ++ packet ∷ []) same

  has : HasEffect words (messages_in steps) one.message effect
  has = record {
    earlier = events;
    described_before = subst (λ ps. Describes words ps events) (sym same) stands.described;
    described = subst (λ ps. Describes words ps (events ++ added)) (sym next) stands_after.described;
    counted = refl;
    waiting = sym (ap last_is_waiting next ∙ waiting-next packets packet);
    closing = sym (ap last_is_closing next ∙ last_is_closing-next packets packet);
  }

  -- The messages with this one have their effects.
  pub have_more : HaveEffects words [] (messages_in steps) (effects_in steps)
      → HaveEffects words [] (messages_in (steps ++ (one, effect) ∷ [])) (effects_in (steps ++ (one, effect) ∷ []))
  have_more have =
      subst (λ ms. HaveEffects words [] ms (effects_in (steps ++ (one, effect) ∷ [])))
      (sym (map_push (λ (step : Step). step.0.message) steps (one, effect)))
      (subst (λ es. HaveEffects words [] (messages_in steps ++ one.message ∷ []) es)
      (sym (map_push (λ (step : Step). step.1) steps (one, effect)))
      (effects-next words [] (messages_in steps) (effects_in steps) one.message effect have has))

  -- Their packets are those before and this one.
  pub packets_more : packets_in (messages_in (steps ++ (one, effect) ∷ [])) ≡ packets ++ packet ∷ []
  packets_more =
      ap packets_in (map_push (λ (step : Step). step.0.message) steps (one, effect))
      ∙ ap packets_in (sym (of_own hart (messages_in steps ++ one.message ∷ [])
      (All-push (λ (m : Message). m.hart ≡ hart) (messages_in steps) one.message own refl)))
      ∙ next

module _ (words : Words) (placed : List PlacedMessage) (one : PlacedMessage) (at : SourceMessage)
    (is_at : source_message one ≡ at)
    (own : All (λ (other : PlacedMessage). other.message.hart ≡ one.message.hart) placed) where
  -- The row was decoded before.
  pub found_stays : (row : ℕ) (from : RowSource) → Settles words placed row from
      → Settles words (placed ++ one ∷ []) row from
  found_stays row from s = record {
    before = s.before;
    step = s.step;
    after = s.after ++ one ∷ [];
    whole = ap (λ l. l ++ one ∷ []) s.whole ∙ append_assoc (placed_in s.before) (s.step.0 ∷ s.after) (one ∷ []);
    have = s.have;
    fewer = s.fewer;
    reached = s.reached;
    is = s.is;
  }

  -- The message is decoded.
  module _ (old : Trail) (decoder : Decoder) (read : Result Packet PackFault) (count : ℕ)
      (read_is : read ≡ reading one.message.payload) (steps : List Step) (events : List Event)
      (are : placed_in steps ≡ placed) (none : old.found ≡ None) (comes : ComesBefore words old.hart.row steps)
      (stands : DecoderStands words (packets_in (messages_in steps)) events old.decoder)
      (rows_are : old.rows ≡ length events) (last_is : old.last ≡ option_map last_of (last_step None steps))
      (on : IsDecodedOn words (packets_in (messages_in steps)) events read decoder count) where
    abbrev trail : Trail
    trail = record old { decoder = decoder }

    abbrev new : Trail
    new = trail_after trail at count (read_waits read) (read_closes read)

    unpacked : reading one.message.payload ≡ Ok on.packet
    unpacked = sym read_is ∙ on.is

    messages_own : All (λ (m : Message). m.hart ≡ one.message.hart) (messages_in steps)
    messages_own =
        all_own one.message.hart steps
        (subst (All (λ (other : PlacedMessage). other.message.hart ≡ one.message.hart)) (sym are) own)

    abbrev step : Step
    step = (one, effect words steps one on.packet events on.added old.decoder decoder unpacked messages_own stands on.stands)

    have : HaveEffects words [] (messages_in (steps ++ step ∷ [])) (effects_in (steps ++ step ∷ []))
    have = have_more words steps one on.packet events on.added old.decoder decoder unpacked messages_own stands on.stands comes.have

    rows_after : old.rows + count ≡ length (events ++ on.added)
    rows_after =
        let all = length-append events on.added in
        let counted = on.counted in omega (arith, rows_are, counted, all)

    placed_after : placed_in (steps ++ step ∷ []) ≡ placed ++ one ∷ []
    placed_after = map_push (λ (step : Step). step.0) steps step ∙ ap (λ l. l ++ one ∷ []) are

    -- The row is decoded now,
    reaches : nat_le old.hart.row (old.rows + count) ≡ true
        → Settles words (placed ++ one ∷ []) old.hart.row
        (source.Settles at (old.rows + count) count (waited_by old.last))
    reaches is = record {
      before = steps;
      step = step;
      after = [];
      whole = ap (λ l. l ++ one ∷ []) (sym are);
      have = have;
      fewer = comes.fewer;
      reached = grind (arith, nat_tests, is, rows_after);
      is =
          ap (λ at. source.Settles at (old.rows + count) count (waited_by old.last)) (sym is_at)
          ∙ ap (λ rows. source.Settles (source_message one) rows count (waited_by old.last)) rows_after
          ∙ ap (λ count. source.Settles (source_message one) (length (events ++ on.added)) count (waited_by old.last)) on.counted
          ∙ ap (source.Settles (source_message one) (length (events ++ on.added)) (length on.added))
          (ap waited_by last_is ∙ waited_is (last_step None steps));
    }

    -- or it is not.
    goes_on : nat_le old.hart.row (old.rows + count) ≡ false
        → IsFollowed words (placed ++ one ∷ []) (record trail {
          rows = old.rows + count;
          last = Some (record { message = at; waits = read_waits read; closes = read_closes read });
        })
    goes_on is =
        GoesOn (steps ++ step ∷ []) (events ++ on.added) placed_after none
        (record {
          have = have;
          fewer = All-push (λ (step : Step). step.1.rows < old.hart.row) steps step comes.fewer
              (grind (arith, nat_tests, is, rows_after));
        })
        (subst (λ ps. DecoderStands words ps (events ++ on.added) decoder)
        (sym (packets_more words steps one on.packet events on.added old.decoder decoder unpacked messages_own stands on.stands))
        on.stands) rows_after
        (ap (λ at. Some (record { message = at; waits = read_waits read; closes = read_closes read })) (sym is_at)
        ∙ ap (λ read. Some (record { message = source_message one; waits = read_waits read; closes = read_closes read })) on.is
        ∙ ap (option_map last_of) (sym (last-next None steps step)))

    pub followed_more : IsFollowed words (placed ++ one ∷ []) new
    followed_more = by (nat_le old.hart.row (old.rows + count)) refl
      where
        by : (b : Bool) → nat_le old.hart.row (old.rows + count) ≡ b → IsFollowed words (placed ++ one ∷ []) new
        by true is = rw is (Found (source.Settles at (old.rows + count) count (waited_by old.last)) refl (reaches is))
        by false is = rw is (goes_on is)

module _ (words : Words) (placed : List PlacedMessage) (one : PlacedMessage) (at : SourceMessage)
    (is_at : source_message one ≡ at)
    (own : All (λ (other : PlacedMessage). other.message.hart ≡ one.message.hart) placed) (old : Trail) where
  -- The row was decoded before: nothing changes.
  pub followed_before : is_some old.found ≡ true → IsFollowed words placed old → IsFollowed words (placed ++ one ∷ []) old
  followed_before some (Found from is settles) =
      Found from is (found_stays words placed one at is_at own old.hart.row from settles)
  followed_before some (GoesOn steps events are none comes stands rows last) =
      absurd (true≢false (sym some ∙ ap is_some none))

  module _ (none : is_some old.found ≡ false) (decoder : Decoder) (read : Result Packet PackFault) (count : ℕ)
      (read_is : read ≡ reading one.message.payload) where
    decoded_after : IsFollowed words placed old
        → ((packets : List Packet) (events : List Event) → DecoderStands words packets events old.decoder
        → IsDecodedOn words packets events read decoder count)
        → IsFollowed words (placed ++ one ∷ [])
        (trail_after (record old { decoder = decoder }) at count (read_waits read) (read_closes read))
    decoded_after (Found from is settles) on = absurd (true≢false (sym (ap is_some is) ∙ none))
    decoded_after (GoesOn steps events are not comes stands rows last) on =
        followed_more words placed one at is_at own old decoder read count read_is steps events are not comes stands rows
        last (on (packets_in (messages_in steps)) events stands)

    -- It was not: the message is decoded.
    pub followed_after : IsFollowed words placed old
        → ((packets : List Packet) (events : List Event) → DecoderStands words packets events old.decoder
        → IsDecodedOn words packets events read decoder count)
        → {E : Type 0} (result : Result (Unit {0}) E) (new : Trail) (waits closes : Bool) → waits ≡ read_waits read
        → closes ≡ read_closes read
        → IfOk result (λ done. new ≡ trail_after (record old { decoder = decoder }) at count waits closes)
        → IfOk result (λ done. IsFollowed words (placed ++ one ∷ []) new)
    followed_after followed on (Err why) new waits closes is_waits is_closes is = tt
    followed_after followed on (Ok done) new waits closes is_waits is_closes is =
        subst (IsFollowed words (placed ++ one ∷ []))
        (sym (is ∙ ap (λ waits. trail_after (record old { decoder = decoder }) at count waits closes) is_waits
        ∙ ap (trail_after (record old { decoder = decoder }) at count (read_waits read)) is_closes))
        (decoded_after followed on)

-- The row was not decoded before: decoding does not go on with the message.
module _ (words : Words) (placed : List PlacedMessage) (one : PlacedMessage) (old : Trail)
    (none : is_some old.found ≡ false) (read : Result Packet PackFault) (read_is : read ≡ reading one.message.payload) where
  pub refused_after : IsFollowed words placed old
      → ((packets : List Packet) (events : List Event) → DecoderStands words packets events old.decoder
      → IsRefused words packets read) → EndsRefused words (placed ++ one ∷ []) old.hart.row
  refused_after (Found from is settles) refuses = absurd (true≢false (sym (ap is_some is) ∙ none))
  refused_after (GoesOn steps events are not comes stands rows last) refuses =
      let packets = packets_in (messages_in steps) in
      record {
        before = steps;
        last = one;
        whole = ap (λ l. l ++ one ∷ []) (sym are);
        comes = comes;
        refused = subst (IsRefused words packets) read_is (refuses packets events stands);
      }

-- A fault for want of memory is no other.
pub none_stops : {X : Type 0} (P : Type 0) (result : Result X SourcingFault) → IfErr result (λ why. why ≡ Memory)
    → IfErr result (λ why. why ≡ Stops → P)
none_stops P (Ok done) memory = tt
none_stops P (Err why) memory = λ stops. let both = sym memory ∙ stops in cc
