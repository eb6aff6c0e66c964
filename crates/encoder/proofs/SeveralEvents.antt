-- What an encoder becomes by several events, and what it stands for then.
use Rattle.std.proofs.Common.{◌≡◌, ℕ, ◌+◌, ◌-◌, ◌<◌, ◌≤◌, List, [], ◌∷◌, ◌++◌, Option, None, Some, length, take, drop}
use Rattle.std.proofs.Common.{get_or, refl, sym, ap, subst, ◌∙◌, append_assoc, arith}
use Rattle.std.proofs.lemmas.List.{append-nil, length-append, length-drop, nil_from_length, take-append-drop, take-take}
use Rattle.std.proofs.lemmas.List.{take_all, take_more}
use Rattle.std.proofs.Math.Seq.{take-add}
use Rattle.std.proofs.lemmas.List.Elements.{All-append, All-cons, All-head, All-nil, All-tail, All-take}
use Rattle.std.specs.Prelude.{All, IfSome}
use Rattle.std.specs.Option.{option_to_list}
use Rattle.retire.specs.Is64Bit.{Is64Bit}
use Rattle.retire.specs.declared.event.Event.{Event}
use Rattle.retire.specs.declared.event.Event.TheVariants.{Retire}
use Rattle.rvclass.specs.Words.{Words}
use Rattle.legalpath.proofs.FollowOnLemmas.{follow_on_split}
use Rattle.legalpath.specs.Legal.{Legal}
use Rattle.payload.specs.Profile.{InProfile}
use Rattle.payload.specs.declared.mode.Mode.{Mode}
use Rattle.payload.specs.declared.packet.Packet.{Packet}
use Rattle.encoder.specs.EncoderStands.{EncoderStands}
use Rattle.encoder.specs.PacketsSoFar.{packets_so_far}
use Rattle.encoder.specs.steps.Becomes.{Becomes, GivesNothing, encoder_after_all, given_all}
use Rattle.encoder.specs.steps.Stepping.{given, encoder_after}
use Rattle.encoder.specs.declared.encoder.Encoder.{Encoder}
use Rattle.encoder.proofs.ProfileLemmas.{IsEven, so_far_in_profile, profile_behind}
use Rattle.encoder.proofs.StandsOn.{pushes_any, stands_after}

-- The events from a place on, as many as there are, are all of them.
pub rest_from : (at : ℕ) (events : List Event) → take (length events - at) (drop at events) ≡ drop at events
rest_from at events =
    let rest = length-drop at events in take_all (length events - at) (drop at events) (omega (arith, rest))

module _ (words : Words) where
  after-append : (e : Encoder) (xs ys : List Event)
      → encoder_after_all words e (xs ++ ys) ≡ encoder_after_all words (encoder_after_all words e xs) ys
  after-append e [] ys = refl
  after-append e (x ∷ xs) ys = after-append (encoder_after words e x) xs ys

  given-append : (e : Encoder) (xs ys : List Event)
      → given_all words e (xs ++ ys) ≡ given_all words e xs ++ given_all words (encoder_after_all words e xs) ys
  given-append e [] ys = refl
  given-append e (x ∷ xs) ys =
      let e' = encoder_after words e x in
      let behind = given_all words (encoder_after_all words e' xs) ys in
      ap (λ l. given words e x ++ l) (given-append e' xs ys)
      ∙ sym (append_assoc (given words e x) (given_all words e' xs) behind)

  -- One event is taken by one step.
  becomes_one : (e e' : Encoder) (event : Event) (packets : List Packet) → Is64Bit event
      → e' ≡ encoder_after words e event → packets ≡ given words e event → Becomes words e (event ∷ []) e' packets
  becomes_one e e' event packets fits is gives = record {
    numbers = All-cons Is64Bit event [] fits (All-nil Is64Bit);
    after = is;
    given = gives ∙ sym (append-nil (given words e event));
  }

  -- Events are taken behind others, and their packets come behind those of the others.
  becomes_both : (e e' e'' : Encoder) (xs ys : List Event) (ps qs : List Packet) → Becomes words e xs e' ps
      → Becomes words e' ys e'' qs → Becomes words e (xs ++ ys) e'' (ps ++ qs)
  becomes_both e e' e'' xs ys ps qs first then = record {
    numbers = All-append Is64Bit xs ys first.numbers then.numbers;
    after = then.after ∙ ap (λ mid. encoder_after_all words mid ys) first.after ∙ sym (after-append e xs ys);
    given = ap (λ l. l ++ qs) first.given
        ∙ ap (λ l. given_all words e xs ++ l) (then.given ∙ ap (λ mid. given_all words mid ys) first.after)
        ∙ sym (given-append e xs ys);
  }

  -- Events are taken behind those that were taken, which gave nothing.
  pub becomes_on : (e mid e' : Encoder) (events : List Event) (taken count : ℕ) (packets : List Packet)
      → Becomes words e (take taken events) mid [] → Becomes words mid (take count (drop taken events)) e' packets
      → Becomes words e (take (taken + count) events) e' packets
  becomes_on e mid e' events taken count packets first then =
      subst (λ l. Becomes words e l e' packets) (sym (take-add taken count events))
      (becomes_both e mid e' (take taken events) (take count (drop taken events)) [] packets first then)

  -- One event is taken behind those that were taken, which gave nothing.
  pub becomes_more : (e mid e' : Encoder) (events : List Event) (at : ℕ) (packets : List Packet)
      → at < length events → Becomes words e (take at events) mid [] → Is64Bit (get_or events at (Retire 0 0 0))
      → e' ≡ encoder_after words mid (get_or events at (Retire 0 0 0))
      → packets ≡ given words mid (get_or events at (Retire 0 0 0)) → Becomes words e (take (at + 1) events) e' packets
  becomes_more e mid e' events at packets within first fits is gives =
      let event = get_or events at (Retire 0 0 0) in
      subst (λ l. Becomes words e l e' packets) (sym (take_more events at (Retire 0 0 0) within))
      (becomes_both e mid e' (take at events) (event ∷ []) [] packets first
      (becomes_one mid e' event packets fits is gives))

  front_nothing : {X : Type 0} (xs ys : List X) → [] ≡ xs ++ ys → [] ≡ xs
  front_nothing xs ys none =
      let counted = ap length none in
      let joined = length-append xs ys in sym (nil_from_length xs (omega (arith, counted, joined)))

  -- Of events that give nothing, the first give nothing either.
  pub front_gives_nothing : (e e' : Encoder) (events : List Event) (count all : ℕ) → count ≤ all
      → Becomes words e (take all events) e' [] → GivesNothing words e (take count events)
  front_gives_nothing e e' events count all few becomes =
      let front = take count (take all events) in
      let back = drop count (take all events) in
      subst (GivesNothing words e) (take-take count all events few) (record {
        numbers = All-take Is64Bit count (take all events) becomes.numbers;
        after = refl;
        given = front_nothing (given_all words e front) (given_all words (encoder_after_all words e front) back)
            (becomes.given ∙ ap (given_all words e) (sym (take-append-drop count (take all events)))
            ∙ given-append e front back);
      })

  -- A log is legal with the first of these events where it is with all of them.
  pub legal_part : (log events : List Event) (count : ℕ) → Legal words (log ++ events)
      → Legal words (log ++ take count events)
  legal_part log events count legal =
      let front = take count events in
      let back = drop count events in
      let parted : (log ++ front) ++ back ≡ log ++ events =
      append_assoc log front back ∙ ap (λ l. log ++ l) (take-append-drop count events) in
      (follow_on_split words None (log ++ front) back (subst (Legal words) (sym parted) legal)).0

module _ (words : Words) (period : ℕ) (mode : Mode) where
  -- An encoder stands for these events behind a log, and these packets are what they give.
  pub record Stands (log events : List Event) (e : Encoder) (packets : List Packet) : Type 0 where
    pub stands : EncoderStands words period mode (log ++ events) e
    pub more : packets_so_far words period mode (log ++ events) ≡ packets_so_far words period mode log ++ packets
    pub legal : Legal words (log ++ events)

  stands_all : (log events : List Event) (e : Encoder) → EncoderStands words period mode log e
      → Legal words (log ++ events) → All Is64Bit events
      → Stands log events (encoder_after_all words e events) (given_all words e events)
  stands_all log [] e stands legal numbers = record {
    stands = subst (λ l. EncoderStands words period mode l e) (sym (append-nil log)) stands;
    more = ap (packets_so_far words period mode) (append-nil log)
        ∙ sym (append-nil (packets_so_far words period mode log));
    legal = legal;
  }
  stands_all log (event ∷ events) e stands legal numbers =
      let first = log ++ event ∷ [] in
      let joined : first ++ events ≡ log ++ event ∷ events = append_assoc log (event ∷ []) events in
      let legal' : Legal words (first ++ events) = subst (Legal words) (sym joined) legal in
      let pushed = pushes_any words period mode log e event stands (legal_part words log (event ∷ events) 1 legal) in
      let e' = encoder_after words e event in
      let grown : EncoderStands words period mode first e' =
      stands_after words period mode log e event (All-head Is64Bit event events numbers) stands pushed in
      let rest = stands_all first events e' grown legal' (All-tail Is64Bit event events numbers) in record {
        stands = subst (λ l. EncoderStands words period mode l (encoder_after_all words e' events)) joined rest.stands;
        more = ap (packets_so_far words period mode) (sym joined) ∙ rest.more
            ∙ ap (λ l. l ++ given_all words e' events) pushed.more
            ∙ append_assoc (packets_so_far words period mode log) (given words e event) (given_all words e' events);
        legal = legal;
      }

  -- An encoder that stands for a log goes on to stand for it with the events that it takes.
  pub stands_by : (log front : List Event) (e e' : Encoder) (packets : List Packet)
      → EncoderStands words period mode log e → Legal words (log ++ front)
      → Becomes words e front e' packets → Stands log front e' packets
  stands_by log front e e' packets stands legal becomes =
      let all = stands_all log front e stands legal becomes.numbers in record {
        stands = subst (EncoderStands words period mode (log ++ front)) (sym becomes.after) all.stands;
        more = all.more ∙ ap (λ l. packets_so_far words period mode log ++ l) (sym becomes.given);
        legal = legal;
      }

  -- The packet that the encoder gives is of the profile.
  pub profile_by : (log events : List Event) (e : Encoder) (packet : Option Packet) → IsEven words
      → Stands log events e (option_to_list packet) → IfSome packet InProfile
  profile_by log events e packet even stands =
      of_list packet (profile_behind (packets_so_far words period mode log) (option_to_list packet)
      (packets_so_far words period mode (log ++ events)) stands.more
      (so_far_in_profile words even period mode (log ++ events) stands.stands.numbers stands.legal))
    where
      of_list : (packet : Option Packet) → All InProfile (option_to_list packet) → IfSome packet InProfile
      of_list None all = tt
      of_list (Some packet) all = All-head InProfile packet [] all
