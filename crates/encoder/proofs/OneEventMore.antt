-- An event more: what an encoder gives and becomes is what the log's packets ask for.
use Rattle.std.proofs.Common.{◌≡◌, ℕ, ◌≤◌, Bool, true, false, ◌&&◌, not, cond, List, [], ◌∷◌, ◌++◌, length, Option}
use Rattle.std.proofs.Common.{Some, None, refl, sym, ap, subst, ◌∙◌, arith}
use Rattle.std.proofs.lemmas.List.{append-nil}
use Rattle.std.specs.Prelude.{nat_lt}
use Rattle.std.proofs.lemmas.Bool.{and_parts}
use Rattle.retire.specs.Events.{place, is_retirement, outcomes}
use Rattle.retire.specs.declared.event.Event.{Event}
use Rattle.retire.specs.declared.event.Event.TheVariants.{Retire, Trap}
use Rattle.rvclass.specs.Words.{Words}
use Rattle.legalpath.specs.Discontinuity.{is_discontinuity}
use Rattle.legalpath.specs.Right.{Right}
use Rattle.legalpath.specs.Step.{Step}
use Rattle.payload.specs.declared.mode.Mode.{Mode}
use Rattle.payload.specs.declared.packet.Packet.{Packet}
use Rattle.payload.specs.declared.packet.Packet.TheVariants as packet
use Rattle.payload.specs.declared.packet.Support.TheVariants.{Open}
use Rattle.encoder.specs.Due.{due_at, due_of_last}
use Rattle.encoder.specs.Packets.{packet_by, reported_by, reports}
use Rattle.encoder.specs.PacketsSoFar.{is_known, packets_so_far}
use Rattle.encoder.specs.Piece.{is_cut, pieces}
use Rattle.encoder.specs.Rule.{is_some_and, with_handler, rule}
use Rattle.encoder.specs.Spot.{Spot, spots, count_with}
use Rattle.encoder.specs.EncoderStands.{count_all, reported_after_pieces, since_cut, reported_so_far, unreported}
use Rattle.encoder.specs.EncoderStands.{AreLeft, EncoderStands}
use Rattle.encoder.specs.steps.Stepping.{rule_before, is_map_or_nothing, is_handler_due, next_due, packets_by}
use Rattle.encoder.specs.steps.Stepping.{handler_packet, pending_with, left_after, given, encoder_after}
use Rattle.encoder.specs.declared.due.Due.{Due}
use Rattle.encoder.specs.declared.due.Due.TheVariants as due
use Rattle.encoder.specs.declared.encoder.Encoder.{Encoder}
use Rattle.encoder.specs.declared.rule.Rule.TheVariants as by
use Rattle.encoder.proofs.SpotLemmas.{count_all-append, last_or-snoc}
use Rattle.encoder.proofs.PacketsReached.{spot_after, spots-snoc, Reaches, reaches, reaches_cut, reaches_on}
use Rattle.encoder.proofs.RulesByDue.{following, is_known-due, due_at-following, rule-before}
use Rattle.encoder.proofs.CountLemmas.{few_since_cut, left-divides}
use Rattle.encoder.proofs.LogsByLastEvent.{spot_after-following, Views, view_open, view_known, rule_known}
use Rattle.encoder.proofs.LogsByLastEvent.{known-behind, none_before_trap}
use Rattle.encoder.proofs.EventsTaken.{pending_with-outcomes, pending_with-handler, rule_before-IsOwn, quiet_is}
use Rattle.encoder.proofs.EventsTaken.{packets_by-own, rule_before-handler, Does, does_quiet, does_handler, does_loud}

module _ (words : Words) (period : ℕ) (mode : Mode) where
  -- What an encoder gives at an event is what the log's packets so far have more, and its fields are those of the
  -- longer log.
  pub record Pushes (log : List Event) (e : Encoder) (event : Event) : Type 0 where
    pub more : packets_so_far words period mode (log ++ event ∷ [])
        ≡ packets_so_far words period mode log ++ given words e event
    pub between : (encoder_after words e event).between ≡ e.between
    pub in_mode : (encoder_after words e event).mode ≡ e.mode
    pub left : (encoder_after words e event).left ≡ left_after e.between e.left event
    pub held : (encoder_after words e event).held ≡ Some event
    pub asked : (encoder_after words e event).due ≡ due_of_last words period (log ++ event ∷ [])
    pub pending : (encoder_after words e event).pending ≡ outcomes (unreported words period (log ++ event ∷ []))
    pub reported_is : (encoder_after words e event).reported ≡ reported_so_far words period (log ++ event ∷ [])

  pub joined : (log : List Event) (e : Encoder) (event : Event) (ps : List Packet) (r : ℕ) (rest : List Event) (d : Due)
      (ps' : List Packet) (r' : ℕ) (rest' : List Event) (d' : Due) (more : List Packet) (pending : List Bool)
      → Views words period mode log ps r rest d → Views words period mode (log ++ event ∷ []) ps' r' rest' d'
      → Does words e event more pending r' d' → ps' ≡ ps ++ more → pending ≡ outcomes rest' → Pushes log e event
  joined log e event ps r rest d ps' r' rest' d' more pending old new does m p = record {
    more = new.so_far ∙ ap (λ x. packet.Support (Open mode) ∷ x) (m ∙ ap (λ x. ps ++ x) (sym does.gives))
        ∙ ap (λ x. x ++ given words e event) (sym old.so_far);
    between = does.between;
    in_mode = does.in_mode;
    left = does.left;
    held = does.held;
    asked = does.asked ∙ sym new.asked;
    pending = does.pending_is ∙ p ∙ ap outcomes (sym new.rest);
    reported_is = does.reported_is ∙ sym new.reported_is;
  }

  by_cut : {P : Type 0} {b : Bool} → (c : Bool) → b ≡ c → (b ≡ false → P) → (b ≡ true → P) → P
  by_cut true e on cut = cut e
  by_cut false e on cut = on e

  trap_held : (s : Spot) (next : Event) → is_known words (following s next None) ≡ true → is_retirement s.event ≡ false
  trap_held s next k = go (is_retirement s.event) refl
    where
      go : (b : Bool) → is_retirement s.event ≡ b → b ≡ false
      go true e = let no_handler : is_known words (following s next None) ≡ false =
          known-behind words period s next None e in cc
      go false e = refl

  trap_rule : (n : ℕ) (b2 b : Option Event) (held next : Event)
      → is_known words (following (record { number = n; before_that = b2; before = b; event = held; after = None }) next
      None) ≡ true → is_retirement held ≡ false → rule words period
      (record { number = n; before_that = b2; before = b; event = held; after = Some next }) ≡ by.Trap true
  trap_rule n b2 b (Retire at type level) next k t = cc
  trap_rule n b2 b (Trap level irq code epc value) next k t =
      ap by.Trap ((and_parts (is_retirement next) (with_handler words b (Some next)) k).1)

  trap_unreported : (n : ℕ) (b2 b : Option Event) (held next : Event) (d' : Due) → is_retirement held ≡ false
      → is_map_or_nothing (rule_before words held (due_at words period
      (record { number = n; before_that = b2; before = b; event = held; after = None })) next d') ≡ false
  trap_unreported n b2 b (Retire at type level) next d' t = cc
  trap_unreported n b2 b (Trap level irq code epc value) next d' t =
      by_before (is_some_and is_retirement b && not (is_some_and (is_discontinuity words) b))
    where
      by_before : (x : Bool) → is_map_or_nothing (rule_before words (Trap level irq code epc value)
          (cond x due.TrapOrHandler due.Trap) next d') ≡ false
      by_before true = refl
      by_before false = refl

  -- The facts that all cases share, of an encoder that holds an event.
  module _ (front : List Event) (held next : Event) (e : Encoder)
      (stands : EncoderStands words period mode (front ++ held ∷ []) e) (right : Right words held)
      (step : Step words held next) where
    abbrev ss : List Spot
    ss = spots 0 None None front (Some held)

    abbrev here : Spot
    here = spot_after front held None

    abbrev cut_here : Spot
    cut_here = spot_after front held (Some next)

    abbrev there : Spot
    there = following here next None

    abbrev d : Due
    d = due_at words period here

    abbrev d' : Due
    d' = due_at words period there

    there_is : spot_after (front ++ held ∷ []) next None ≡ there
    there_is = spot_after-following front held next None None

    is_held : e.held ≡ Some held
    is_held = stands.held ∙ last_or-snoc None front held

    count_is : count_all 0 (front ++ held ∷ []) ≡ count_with (count_all 0 front) held
    count_is = count_all-append 0 front (held ∷ [])

    next_is : next_due (Some held) d e.left next ≡ d'
    next_is =
        due_at-following words period here next None e.left right
        (left-divides period _ e.left (subst (λ n. AreLeft period n e.left) count_is stands.left))

    grown : (packets : List Packet) (reported : ℕ) (rest : List Event)
        → Reaches words period mode (ss ++ cut_here ∷ []) packets reported rest
        → Reaches words period mode (spots 0 None None (front ++ held ∷ []) (Some next)) packets reported rest
    grown packets reported rest h =
        subst (λ x. Reaches words period mode x packets reported rest) (sym (spots-snoc front held (Some next))) h

    asked : (packets : List Packet) (reported : ℕ) (rest : List Event)
        → Views words period mode ((front ++ held ∷ []) ++ next ∷ []) packets reported rest
        (due_at words period (spot_after (front ++ held ∷ []) next None))
        → Views words period mode ((front ++ held ∷ []) ++ next ∷ []) packets reported rest d'
    asked packets reported rest h =
        subst (λ x. Views words period mode ((front ++ held ∷ []) ++ next ∷ []) packets reported rest x)
        (ap (due_at words period) there_is) h

    -- The held event is a handler.
    after_handler : is_known words here ≡ true → Pushes (front ++ held ∷ []) e next
    after_handler k =
        let base = reaches words period mode ss in
        let retired : is_retirement held ≡ true = (and_parts (is_retirement held) _ k).0 in
        let on : is_known words (spot_after (front ++ held ∷ []) next None) ≡ false =
        ap (is_known words) there_is ∙ known-behind words period here next None retired in
        let ps = reports mode 0 (pieces words period [] ss)
        ++ packet_by mode (reported_after_pieces 0 (pieces words period [] ss)) (since_cut words period [] ss) held
        by.Handler
        ∷ [] in
        let old =
        view_known words period mode front held ps (place held) k
        (reaches_cut words period mode ss here _ _ _ by.Handler base (rule_known words period here k) refl) in
        let new =
        asked ps (place held) (next ∷ []) (view_open words period mode (front ++ held ∷ []) next ps (place held) [] on
        (grown ps (place held) [] (reaches_cut words period mode ss cut_here _ _ _ by.Handler base
        (rule_known words period cut_here k) refl))) in
        let is : is_handler_due d ≡ true = sym (is_known-due words period here) ∙ k in
        let not_next : is_handler_due d' ≡ false =
        sym (is_known-due words period there) ∙ known-behind words period here next None retired in
        let r : rule_before words held d next d' ≡ by.Handler = rule_before-handler words held d next d' is in
        let q : (is_map_or_nothing (rule_before words held d next d') && nat_lt 0 31) ≡ false =
        ap (λ x. is_map_or_nothing x && nat_lt 0 31) r in
        let does =
        does_loud words e held next [] mode (place held) d d' is_held (stands.due ∙ old.asked)
        (stands.pending ∙ ap outcomes old.rest) stands.in_mode (stands.reported ∙ old.reported_is) next_is q not_next in
        let does' : Does words e next [] (pending_with d' next []) (place held) d' =
        subst (λ x. Does words e next (packets_by x held [] mode (place held)) (pending_with d' next [])
        (reported_by x (place held) held) d') r does in
        joined (front ++ held ∷ []) e next ps (place held) [] d ps (place held) (next ∷ []) d' []
        (pending_with d' next []) old new does' (sym (append-nil ps)) (pending_with-outcomes d' [] next not_next)

    -- The next event is a handler, of the trap that is held.
    before_handler : is_known words here ≡ false → is_known words there ≡ true → Pushes (front ++ held ∷ []) e next
    before_handler k k' =
        let trapped : is_retirement held ≡ false = trap_held here next k' in
        let ps = reports mode 0 (pieces words period [] ss) in
        let r = reported_after_pieces 0 (pieces words period [] ss) in
        let base : Reaches words period mode ss ps r [] =
        record { given = refl; reported_is = refl; open_ = none_before_trap words period front held trapped } in
        let old = view_open words period mode front held ps r [] k base in
        let on =
        reaches_on words period mode ss cut_here ps r [] (by.Trap true) base
        (trap_rule _ _ _ held next k' trapped) refl in
        let is : is_known words (spot_after (front ++ held ∷ []) next None) ≡ true =
        ap (is_known words) there_is ∙ k' in
        let ps' = ps ++ handler_packet held next ∷ [] in
        let new =
        asked ps' (place next) [] (view_known words period mode (front ++ held ∷ []) next ps' (place next) is
        (reaches_cut words period mode (spots 0 None None (front ++ held ∷ []) (Some next))
        (spot_after (front ++ held ∷ []) next None) ps r (held ∷ []) by.Handler (grown ps r (held ∷ []) on)
        (rule_known words period (spot_after (front ++ held ∷ []) next None) is) refl)) in
        let due_next : is_handler_due d' ≡ true = sym (is_known-due words period there) ∙ k' in
        let q : (is_map_or_nothing (rule_before words held d next d') && nat_lt (length (outcomes (held ∷ []))) 31)
        ≡ false =
        ap (λ x. x && nat_lt (length (outcomes (held ∷ []))) 31) (trap_unreported _ _ _ held next d' trapped) in
        let does =
        does_handler words e held next (outcomes (held ∷ [])) mode r d d' is_held (stands.due ∙ old.asked)
        (stands.pending ∙ ap outcomes old.rest) stands.in_mode (stands.reported ∙ old.reported_is) next_is q due_next in
        joined (front ++ held ∷ []) e next ps r (held ∷ []) d ps' (place next) [] d' (handler_packet held next ∷ [])
        (pending_with d' next []) old new does refl (pending_with-handler d' next due_next)

    -- Neither is.
    between_handlers : is_known words here ≡ false → is_known words there ≡ false → Pushes (front ++ held ∷ []) e next
    between_handlers k k' =
        let base = reaches words period mode ss in
        let since = since_cut words period [] ss in
        let ps = reports mode 0 (pieces words period [] ss) in
        let r = reported_after_pieces 0 (pieces words period [] ss) in
        let code = rule_before words held d next d' in
        let old = view_open words period mode front held ps r since k base in
        let here_not : is_handler_due d ≡ false = sym (is_known-due words period here) ∙ k in
        let next_not : is_handler_due d' ≡ false = sym (is_known-due words period there) ∙ k' in
        let on : is_known words (spot_after (front ++ held ∷ []) next None) ≡ false =
        ap (is_known words) there_is ∙ k' in
        let rl : rule words period cut_here ≡ code =
        rule-before words period _ _ _ held next None right step next_not in
        let own = rule_before-IsOwn words held d next d' here_not in
        let few : length (outcomes since) ≤ 30 = few_since_cut words period [] ss (omega arith) in
        let pending_was : e.pending ≡ outcomes (since ++ held ∷ []) = stands.pending ∙ ap outcomes old.rest in
        let quiet = quiet_is since held code few own in
        by_cut (is_cut since held code) refl
        (λ c.
        let rest = (since ++ held ∷ []) ++ next ∷ [] in
        let new =
        asked ps r rest (view_open words period mode (front ++ held ∷ []) next ps r (since ++ held ∷ []) on
        (grown ps r (since ++ held ∷ []) (reaches_on words period mode ss cut_here ps r since code base rl c))) in
        let does =
        does_quiet words e held next (outcomes (since ++ held ∷ [])) mode r d d' is_held (stands.due ∙ old.asked)
        pending_was stands.in_mode (stands.reported ∙ old.reported_is) next_is (quiet ∙ ap not c) in
        joined (front ++ held ∷ []) e next ps r (since ++ held ∷ []) d ps r rest d' []
        (pending_with d' next (outcomes (since ++ held ∷ []))) old new does (sym (append-nil ps))
        (pending_with-outcomes d' (since ++ held ∷ []) next next_not))
        (λ c.
        let ps' = ps ++ packet_by mode r since held code ∷ [] in
        let r' = reported_by code r held in
        let new =
        asked ps' r' (next ∷ []) (view_open words period mode (front ++ held ∷ []) next ps' r' [] on
        (grown ps' r' [] (reaches_cut words period mode ss cut_here ps r since code base rl c))) in
        let does =
        does_loud words e held next (outcomes (since ++ held ∷ [])) mode r d d' is_held (stands.due ∙ old.asked)
        pending_was stands.in_mode (stands.reported ∙ old.reported_is) next_is (quiet ∙ ap not c) next_not in
        joined (front ++ held ∷ []) e next ps r (since ++ held ∷ []) d ps' r' (next ∷ []) d'
        (packets_by code held (outcomes (since ++ held ∷ [])) mode r) (pending_with d' next []) old new does
        (ap (λ x. ps ++ x) (sym (packets_by-own since held code mode r own)))
        (pending_with-outcomes d' [] next next_not))

    pub pushes : Pushes (front ++ held ∷ []) e next
    pushes = go (is_known words here) refl (is_known words there) refl
      where
        go : (k : Bool) → is_known words here ≡ k → (k' : Bool) → is_known words there ≡ k'
            → Pushes (front ++ held ∷ []) e next
        go true k k' e = after_handler k
        go false k true e = before_handler k e
        go false k false e = between_handlers k e
