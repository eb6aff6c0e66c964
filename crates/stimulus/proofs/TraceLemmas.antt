-- The packets that are given of a hart's trace.
use Rattle.std.proofs.Common.{◌≡◌, ◌⊎◌, ◌∙◌, ◌+◌, ◌<◌, ◌≤◌, ℕ, zero, suc, All, Bool, true, false, List, [], ◌∷◌, ◌++◌, Option}
use Rattle.std.proofs.Common.{Some, None, ap, arith, if◌then◌else◌, inl, inr, length, refl, subst, sym, take}
use Rattle.std.proofs.lemmas.Bool.{cases_lt, le-ltb, lt-ltb}
use Rattle.std.proofs.lemmas.List.{append-nil, length-append, nil_from_length, take_all}
use Rattle.std.proofs.lemmas.List.Elements.{All-cons, All-nil}
use Rattle.std.specs.Prelude.{nat_lt}
use Rattle.retire.specs.Log.{most_long_rows}
use Rattle.retire.specs.declared.event.Event.{Event}
use Rattle.rvclass.specs.Words.{Words}
use Rattle.legalpath.specs.Legal.{Legal}
use Rattle.encoder.proofs.StandsOn.{pushes_any}
use Rattle.encoder.specs.EncoderStands.{EncoderStands}
use Rattle.encoder.specs.Packets.{closing_packet, packets}
use Rattle.encoder.specs.PacketsSoFar.{packets_so_far}
use Rattle.encoder.specs.declared.due.Due.{Due}
use Rattle.encoder.specs.declared.encoder.Encoder.{Encoder}
use Rattle.encoder.specs.declared.rule.Rule.{Rule}
use Rattle.encoder.specs.declared.rule.Rule.TheVariants as by
use Rattle.encoder.specs.steps.Stepping.{due_next, given as made_due, handler_packet, is_handler_due, is_quiet, packets_before}
use Rattle.encoder.specs.steps.Stepping.{packets_by, packets_for_rule, rule_of_held}
use Rattle.payload.specs.Profile.{InProfile}
use Rattle.payload.specs.declared.mode.Mode.{Mode}
use Rattle.payload.specs.declared.packet.Packet.{Packet}
use Rattle.payload.specs.declared.packet.Packet.TheVariants as packet
use Rattle.payload.specs.declared.packet.Support.TheVariants.{Open}
use Rattle.stimulus.specs.Mixed.{Plan, Stand, closes, events_for, events_of, fewest_up_to, given, given_by, has_turn}
use Rattle.stimulus.specs.Mixed.{known_packets, unsent}
use Rattle.stimulus.specs.Walk.{walked}
use Rattle.stimulus.specs.Walked.{HasWalked, Walks}
use Rattle.stimulus.specs.declared.hart.Hart.{Hart}
use Rattle.stimulus.specs.declared.sender.Phase.{Phase}
use Rattle.stimulus.specs.declared.sender.Phase.TheVariants as phase
use Rattle.stimulus.specs.declared.sender.Tracer.{Tracer}
use Rattle.stimulus.specs.declared.walk.Walk.{Walk}
use Rattle.stimulus.specs.steps.Sending.{AreFewest, Gives, HasGiven, IsIn}
use Rattle.stimulus.proofs.WalkLemmas.{walked_none}

-- An event makes at most one packet due.
module _ (e : Encoder) where
  by_rule : (r : Rule) (held : Event) (outcomes : List Bool) (mode : Mode) (reported : ℕ)
      → length (packets_by r held outcomes mode reported) ≤ 1
  by_rule (by.Trap handler) held outcomes mode reported = omega arith
  by_rule by.Handler held outcomes mode reported = omega arith
  by_rule by.Sync held outcomes mode reported = omega arith
  by_rule (by.Target cut_off) held outcomes mode reported = omega arith
  by_rule by.Explicit held outcomes mode reported = omega arith
  by_rule by.Notify held outcomes mode reported = omega arith
  by_rule by.MapOrNothing held outcomes mode reported = omega arith

  for_rule : (held : Option Event) (rule : Option Rule) (next : Event) (after : Due)
      → length (packets_for_rule e held rule next after) ≤ 1
  for_rule None rule next after = omega arith
  for_rule (Some held) None next after = omega arith
  for_rule (Some held) (Some rule) next after = go (is_handler_due after)
    where
      go : (b : Bool) → length (if b then handler_packet held next ∷ []
          else packets_by rule held e.pending e.mode e.reported) ≤ 1
      go true = omega arith
      go false = by_rule rule held e.pending e.mode e.reported

  pub one_packet : (words : Words) (event : Event) → length (made_due words e event) ≤ 1
  one_packet words event = go (is_quiet words e e.held event (due_next e event))
    where
      go : (b : Bool) → length (if b then [] else packets_before words e e.held event (due_next e event)) ≤ 1
      go true = omega arith
      go false =
          for_rule e.held (rule_of_held words e.held e.due event (due_next e event)) event (due_next e event)

-- The fewest events after which so many packets are known.
module _ (words : Words) (plan : Plan) (hart count : ℕ) where
  abbrev known : ℕ → ℕ
  known events = length (known_packets words plan hart events)

  abbrev up_to : ℕ → ℕ
  up_to most = fewest_up_to most words plan hart count

  up_to_none : up_to 0 ≡ 0
  unfolding fewest_up_to
  up_to_none = refl

  up_to_more : (most : ℕ) → up_to (suc most) ≡ if nat_lt (known (up_to most)) count then suc most else up_to most
  unfolding fewest_up_to
  up_to_more most = refl

  -- They are the most where never so many are known.
  never_known : (most : ℕ) → ((other : ℕ) → other < most → known other < count) → up_to most ≡ most
  never_known zero fewer = up_to_none
  never_known (suc most) fewer =
      let before = never_known most (λ other less. fewer other (omega (arith, less))) in
      up_to_more most ∙ ap (λ n. if nat_lt (known n) count then suc most else n) before
      ∙ ap (λ b. if b then suc most else most) (lt-ltb (known most) count (fewer most (omega arith)))

  -- And else these.
  now_known : (most events : ℕ) → events ≤ most → ((other : ℕ) → other < events → known other < count)
      → count ≤ known events → up_to most ≡ events
  now_known zero events at fewer enough = let none : 0 ≡ events = omega (arith, at) in up_to_none ∙ none
  now_known (suc most) events at fewer enough =
      go (cases_lt most events) (λ below. now_known most events below fewer enough)
    where
      go : (most < events) ⊎ (events ≤ most) → (events ≤ most → up_to most ≡ events) → up_to (suc most) ≡ events
      go (inl past) before =
          let same : suc most ≡ events = omega (arith, past, at) in ap up_to same ∙ never_known events fewer
      go (inr below) before =
          up_to_more most ∙ ap (λ n. if nat_lt (known n) count then suc most else n) (before below)
          ∙ ap (λ b. if b then suc most else events) (le-ltb (known events) count enough)

  -- So many events a hart runs.
  pub events_are : (events : ℕ) → events ≤ most_long_rows → AreFewest words plan hart count events
      → events_for words plan hart count ≡ events
  unfolding events_for
  events_are events few fewest = go fewest.reached
    where
      go : (count ≤ known events) ⊎ (events ≡ most_long_rows) → up_to most_long_rows ≡ events
      go (inl enough) = now_known most_long_rows events few fewest.fewer enough
      go (inr all) = ap up_to (sym all) ∙ never_known events fewest.fewer

module _ (words : Words) (plan : Plan) (hart : ℕ) where
  abbrev pub so_far : List Event → List Packet
  so_far seen = packets_so_far words plan.period plan.mode seen

  -- What is known after the events that a hart has given.
  known_is : (h : Hart) (seen : List Event) → HasWalked words (plan.start hart) seen h
      → known_packets words plan hart h.given ≡ so_far seen
  known_is h seen has = sym (ap (λ (w : List Event × Walk). so_far w.0) has.walked)

  -- What is known after none.
  pub known_first : known_packets words plan hart 0 ≡ so_far []
  known_first = sym (ap (λ (w : List Event × Walk). so_far w.0) (walked_none words (plan.start hart)))

  -- No events are the fewest for as many packets.
  pub fewest_none : (turns count : ℕ) → count ≡ 0 → turns ≤ 1 → AreFewest words plan hart turns count
  fewest_none turns count none few =
      let one : length (known_packets words plan hart 0) ≡ 1 = ap length known_first in
      subst (AreFewest words plan hart turns) (sym none) (record {
        fewer = λ other less. let never : ⊥ = omega (arith, less) in absurd never;
        reached = inl (omega (arith, few, one));
      })

  module _ (stand : Stand) (count : ℕ) (few : count ≤ most_long_rows)
      (fewest : AreFewest words plan hart stand.turns count) where
    -- What a hart has given while its trace is open.
    pub open_given : stand.is_closed ≡ false → length (known_packets words plan hart count) ≤ stand.turns
        → given words plan hart stand ≡ known_packets words plan hart count
    unfolding given
    open_given is all =
        ap (λ b. given_by b words plan hart stand.turns) is
        ∙ ap (λ n. take stand.turns (known_packets words plan hart n))
        (events_are words plan hart stand.turns count few fewest)
        ∙ take_all stand.turns (known_packets words plan hart count) all

    -- And once it is closed.
    pub closed_given : stand.is_closed ≡ true
        → given words plan hart stand ≡ packets words plan.period plan.mode (events_of words plan hart count)
    unfolding given
    closed_given is =
        ap (λ b. given_by b words plan hart stand.turns) is
        ∙ ap (λ n. packets words plan.period plan.mode (events_of words plan hart n))
        (events_are words plan hart stand.turns count few fewest)

  -- Before the first turn.
  pub unsent_given : given words plan hart unsent ≡ []
  unfolding given
  unsent_given = refl

  -- After it.
  pub first_given : given words plan hart (has_turn unsent) ≡ so_far []
  first_given =
      let one : length (known_packets words plan hart 0) ≡ 1 = ap length known_first in
      open_given (has_turn unsent) 0 (omega arith) (fewest_none 1 0 refl (omega arith)) refl (omega (arith, one))
      ∙ known_first

  -- A hart that closes its trace before its first turn opens it first.
  pub closed_first : given words plan hart (closes unsent)
      ≡ so_far [] ++ closing_packet words plan.period [] ∷ []
  closed_first =
      closed_given (closes unsent) 0 (omega arith) (fewest_none 0 0 refl (omega arith)) refl
      ∙ sym (ap (λ (w : List Event × Walk). packets words plan.period plan.mode w.0)
      (walked_none words (plan.start hart)))

  pub closed_second : given words plan hart (closes (has_turn unsent)) ≡ given words plan hart (closes unsent)
  closed_second =
      closed_given (closes (has_turn unsent)) 0 (omega arith) (fewest_none 1 0 refl (omega arith)) refl
      ∙ sym (closed_given (closes unsent) 0 (omega arith) (fewest_none 0 0 refl (omega arith)) refl)

  -- Of a hart that has run no event nothing was given.
  pub given_none : (h : Hart) (e : Encoder) → HasWalked words (plan.start hart) [] h
      → EncoderStands words plan.period plan.mode [] e
      → HasGiven words plan hart unsent (record { hart = h; encoder = e; phase = phase.Fresh })
  given_none h e walked stands = record {
    seen = [];
    walked = walked;
    stands = stands;
    fewest = fewest_none 0 h.given (sym walked.counted) (omega arith);
    is_in = (sym walked.counted, refl);
  }

  module _ (stand : Stand) (t : Tracer) (has : HasGiven words plan hart stand t) where
    short : t.hart.given ≤ most_long_rows
    short = let few = has.walked.short in let counted = has.walked.counted in omega (arith, few, counted)

    module _ (fresh : t.phase ≡ phase.Fresh) where
      pub is_fresh : (t.hart.given ≡ 0) × (stand ≡ unsent)
      is_fresh = subst (λ p. IsIn words plan hart p t.hart.given stand) fresh has.is_in

      none_seen : has.seen ≡ []
      none_seen = nil_from_length has.seen (has.walked.counted ∙ is_fresh.0)

      -- Of a hart of which nothing was given, the encoder has taken no event.
      pub stands_fresh : EncoderStands words plan.period plan.mode [] t.encoder
      stands_fresh = subst (λ seen. EncoderStands words plan.period plan.mode seen t.encoder) none_seen has.stands

      -- The packet that opens the trace is given.
      pub opened : (e' : Encoder) (opening : Packet) (packets : List Packet) → packets ≡ opening ∷ []
          → e' ≡ t.encoder → so_far [] ≡ opening ∷ []
          → Gives words plan hart stand (has_turn stand) (record {
            hart = t.hart;
            encoder = e';
            phase = phase.Open;
          }) packets
      opened e' opening packets one same is =
          let one_known : length (known_packets words plan hart 0) ≡ 1 = ap length known_first in
          let tracer : Tracer = record { hart = t.hart; encoder = e'; phase = phase.Open } in
          subst (λ s. Gives words plan hart s (has_turn s) tracer packets) (sym is_fresh.1) (record {
            has = record {
              seen = has.seen;
              walked = has.walked;
              stands = subst (EncoderStands words plan.period plan.mode has.seen) (sym same) has.stands;
              fewest = fewest_none 1 t.hart.given is_fresh.0 (omega arith);
              is_in = (
                refl,
                subst (λ n. length (known_packets words plan hart n) ≤ 1) (sym is_fresh.0) (omega (arith, one_known)),
              );
            };
            longer = first_given ∙ is ∙ sym one ∙ sym (ap (λ l. l ++ packets) unsent_given);
          })

    module _ (is_closed : t.phase ≡ phase.Closed) where
      -- After its trace is closed a hart gives nothing.
      pub gives_nothing : (packets : List Packet) → packets ≡ []
          → Gives words plan hart stand (has_turn stand) t packets
      gives_nothing packets none =
          let closed : stand.is_closed ≡ true =
          subst (λ p. IsIn words plan hart p t.hart.given stand) is_closed has.is_in in
          let same : stand ≡ has_turn stand =
          sym (ap (λ b. record stand { turns = if b then stand.turns else stand.turns + 1 }) closed) in
          subst (λ next. Gives words plan hart stand next t packets) same (record {
            has = has;
            longer = sym (ap (λ l. given words plan hart stand ++ l) none ∙ append-nil (given words plan hart stand));
          })

    module _ (is_open : t.phase ≡ phase.Open) where
      in_open : (stand.is_closed ≡ false) × (length (known_packets words plan hart t.hart.given) ≤ stand.turns)
      in_open = subst (λ p. IsIn words plan hart p t.hart.given stand) is_open has.is_in

      given_is : given words plan hart stand ≡ so_far has.seen
      given_is =
          open_given stand t.hart.given short has.fewest in_open.0 in_open.1 ∙ known_is t.hart has.seen has.walked

      -- The packets that are left are given.
      pub closed_on : (left : List Packet)
          → packets words plan.period plan.mode has.seen ≡ so_far has.seen ++ left
          → Gives words plan hart stand (closes stand) (record {
            hart = t.hart;
            encoder = t.encoder;
            phase = phase.Closed;
          }) left
      closed_on left is = record {
        has = record {
          seen = has.seen;
          walked = has.walked;
          stands = has.stands;
          fewest = has.fewest;
          is_in = refl;
        };
        longer = closed_given (closes stand) t.hart.given short has.fewest refl
            ∙ sym (ap (λ (w : List Event × Walk). packets words plan.period plan.mode w.0) has.walked.walked)
            ∙ is ∙ ap (λ l. l ++ left) (sym given_is);
      }

  -- A hart whose trace is open runs on, and no packet more is known.
  pub record Runs (stand : Stand) (t : Tracer) : Type 0 where
    pub seen : List Event
    pub walked : HasWalked words (plan.start hart) seen t.hart
    pub stands : EncoderStands words plan.period plan.mode seen t.encoder
    pub is_open : stand.is_closed ≡ false
    pub fewer : (other : ℕ) → other ≤ t.hart.given → length (known_packets words plan hart other) ≤ stand.turns
    pub reached : (stand.turns ≤ length (known_packets words plan hart t.hart.given)) ⊎ (t.hart.given ≡ most_long_rows)
    pub same : given words plan hart stand ≡ so_far seen

  -- At first it has run no event more.
  pub runs_first : (stand : Stand) (t : Tracer) → HasGiven words plan hart stand t → t.phase ≡ phase.Open → Runs stand t
  runs_first stand t has is_open = record {
    seen = has.seen;
    walked = has.walked;
    stands = has.stands;
    is_open = at.0;
    fewer = λ other few. go other few (cases_lt other t.hart.given);
    reached = has.fewest.reached;
    same = given_is stand t has is_open;
  }
    where
      at : (stand.is_closed ≡ false) × (length (known_packets words plan hart t.hart.given) ≤ stand.turns)
      at = in_open stand t has is_open

      go : (other : ℕ) → other ≤ t.hart.given → (other < t.hart.given) ⊎ (t.hart.given ≤ other)
          → length (known_packets words plan hart other) ≤ stand.turns
      go other few (inl less) = let before = has.fewest.fewer other less in omega (arith, before)
      go other few (inr past) =
          let same : t.hart.given ≡ other = omega (arith, few, past) in
          subst (λ n. length (known_packets words plan hart n) ≤ stand.turns) same at.1

  module _ (stand : Stand) (t : Tracer) (runs : Runs stand t) where
    turns_more : (has_turn stand).turns ≡ stand.turns + 1
    turns_more = ap (λ b. if b then stand.turns else stand.turns + 1) runs.is_open

    module _ (event : Event) (hart' : Hart) (e' : Encoder) (more : List Packet)
        (walked : HasWalked words (plan.start hart) (runs.seen ++ event ∷ []) hart')
        (stands : EncoderStands words plan.period plan.mode (runs.seen ++ event ∷ []) e')
        (is : so_far (runs.seen ++ event ∷ []) ≡ so_far runs.seen ++ more) where
      one_more : hart'.given ≡ t.hart.given + 1
      one_more =
          let before = runs.walked.counted in
          let after = walked.counted in
          omega (arith, before, after, length-append runs.seen (event ∷ []))

      room : t.hart.given < most_long_rows
      room =
          let few = walked.short in
          let after = walked.counted in
          omega (arith, few, after, one_more)

      long : length (known_packets words plan hart hart'.given)
          ≡ length (known_packets words plan hart t.hart.given) + length more
      long =
          ap length (known_is hart' (runs.seen ++ event ∷ []) walked ∙ is) ∙ length-append (so_far runs.seen) more
          ∙ ap (λ n. n + length more) (ap length (sym (known_is t.hart runs.seen runs.walked)))

      -- The event makes no packet due.
      pub runs_on : (p : Phase) → more ≡ [] → Runs stand (record { hart = hart'; encoder = e'; phase = p })
      runs_on p none = record {
        seen = runs.seen ++ event ∷ [];
        walked = walked;
        stands = stands;
        is_open = runs.is_open;
        fewer = λ other few. fewer other few (cases_lt t.hart.given other);
        reached = reached runs.reached;
        same = runs.same ∙ sym (is ∙ ap (λ l. so_far runs.seen ++ l) none ∙ append-nil (so_far runs.seen));
      }
        where
          nothing : length more ≡ 0
          nothing = ap length none

          fewer : (other : ℕ) → other ≤ hart'.given → (t.hart.given < other) ⊎ (other ≤ t.hart.given)
              → length (known_packets words plan hart other) ≤ stand.turns
          fewer other few (inl past) =
              let last : hart'.given ≡ other = omega (arith, few, past, one_more) in
              let before = runs.fewer t.hart.given (omega arith) in
              subst (λ n. length (known_packets words plan hart n) ≤ stand.turns) last
              (omega (arith, before, long, nothing))
          fewer other few (inr before) = runs.fewer other before

          reached : (stand.turns ≤ length (known_packets words plan hart t.hart.given))
              ⊎ (t.hart.given ≡ most_long_rows)
              → (stand.turns ≤ length (known_packets words plan hart hart'.given)) ⊎ (hart'.given ≡ most_long_rows)
          reached (inl enough) = inl (omega (arith, enough, long, nothing))
          reached (inr all) = let never : ⊥ = omega (arith, all, room) in absurd never

      -- It makes one due.
      pub runs_gives : length more ≡ 1 → Gives words plan hart stand (has_turn stand) (record {
        hart = hart';
        encoder = e';
        phase = phase.Open;
      }) more
      runs_gives one = record {
        has = record {
          seen = runs.seen ++ event ∷ [];
          walked = walked;
          stands = stands;
          fewest = fewest;
          is_in = (runs.is_open, all);
        };
        longer = open_given (has_turn stand) hart'.given few fewest runs.is_open all
            ∙ known_is hart' (runs.seen ++ event ∷ []) walked ∙ is ∙ ap (λ l. l ++ more) (sym runs.same);
      }
        where
          few : hart'.given ≤ most_long_rows
          few = let at_most = walked.short in let after = walked.counted in omega (arith, at_most, after)

          reached : (stand.turns ≤ length (known_packets words plan hart t.hart.given))
              ⊎ (t.hart.given ≡ most_long_rows) → (has_turn stand).turns ≤ length (known_packets words plan hart hart'.given)
          reached (inl enough) = omega (arith, enough, long, one, turns_more)
          reached (inr all) = let never : ⊥ = omega (arith, all, room) in absurd never

          fewest : AreFewest words plan hart (has_turn stand).turns hart'.given
          fewest = record {
            fewer = λ other less.
                let before = runs.fewer other (omega (arith, less, one_more)) in omega (arith, before, turns_more);
            reached = inl (reached runs.reached);
          }

          all : length (known_packets words plan hart hart'.given) ≤ (has_turn stand).turns
          all = let before = runs.fewer t.hart.given (omega arith) in omega (arith, before, long, one, turns_more)

    -- The hart gives no event more.
    pub runs_spent : (hart' : Hart) (p : Phase) (packets : List Packet) → packets ≡ [] → p ≡ phase.Open
        → Walks words (plan.start hart) runs.seen None hart'
        → Gives words plan hart stand (has_turn stand) (record { hart = hart'; encoder = t.encoder; phase = p }) packets
    runs_spent hart' p packets none is walks = record {
      has = record {
        seen = runs.seen;
        walked = walks.0;
        stands = runs.stands;
        fewest = fewest;
        is_in = subst (λ p. IsIn words plan hart p hart'.given (has_turn stand)) (sym is) (runs.is_open, all);
      };
      longer = open_given (has_turn stand) hart'.given (omega (arith, spent)) fewest runs.is_open all
          ∙ known_is hart' runs.seen walks.0 ∙ sym runs.same
          ∙ sym (ap (λ l. given words plan hart stand ++ l) none ∙ append-nil (given words plan hart stand));
    }
      where
        spent : hart'.given ≡ most_long_rows
        spent = sym walks.0.counted ∙ walks.1

        same : hart'.given ≡ t.hart.given
        same = sym walks.0.counted ∙ runs.walked.counted

        fewest : AreFewest words plan hart (has_turn stand).turns hart'.given
        fewest = record {
          fewer = λ other less.
              let before = runs.fewer other (omega (arith, less, same)) in omega (arith, before, turns_more);
          reached = inr spent;
        }

        all : length (known_packets words plan hart hart'.given) ≤ (has_turn stand).turns
        all = let before = runs.fewer hart'.given (omega (arith, same)) in omega (arith, before, turns_more)

    -- An event makes at most one packet due.
    pub gives_few : (event : Event) (more : List Packet) → Legal words (runs.seen ++ event ∷ [])
        → so_far (runs.seen ++ event ∷ []) ≡ so_far runs.seen ++ more → length more ≤ 1
    gives_few event more legal is =
        let pushed = pushes_any words plan.period plan.mode runs.seen t.encoder event runs.stands legal in
        let due = made_due words t.encoder event in
        let few = one_packet t.encoder words event in
        let same : length (so_far runs.seen) + length more ≡ length (so_far runs.seen) + length due =
        sym (length-append (so_far runs.seen) more) ∙ ap length (sym is ∙ pushed.more)
        ∙ length-append (so_far runs.seen) due in
        omega (arith, same, few)

-- The packet that opens a trace is of the profile.
pub opening_in_profile : (mode : Mode) (opening : Packet) (packets : List Packet) → packets ≡ opening ∷ []
    → opening ≡ packet.Support (Open mode) → All InProfile packets
opening_in_profile mode opening packets one is =
    subst (All InProfile) (sym one) (All-cons InProfile opening [] (subst InProfile (sym is) tt) (All-nil InProfile))

-- So are none.
pub none_in_profile : (packets : List Packet) → packets ≡ [] → All InProfile packets
none_in_profile packets none = subst (All InProfile) (sym none) (All-nil InProfile)
