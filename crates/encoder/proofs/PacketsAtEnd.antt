-- The end of a log: what an encoder gives completes the log's packets.
use Rattle.std.proofs.Common.{◌≡◌, ℕ, Bool, true, false, ◌&&◌, not, cond, List, [], ◌∷◌, ◌++◌, Option, Some, None, refl}
use Rattle.std.proofs.Common.{sym, ap, subst, ◌∙◌, inl, inr, append_assoc}
use Rattle.std.specs.List.{last_or}
use Rattle.retire.specs.Events.{place, is_retirement, outcomes}
use Rattle.retire.specs.declared.event.Event.{Event}
use Rattle.retire.specs.declared.event.Event.TheVariants.{Retire, Trap}
use Rattle.rvclass.specs.Words.{Words}
use Rattle.legalpath.specs.Discontinuity.{is_discontinuity}
use Rattle.payload.specs.declared.mode.Mode.{Mode}
use Rattle.payload.specs.declared.packet.Packet.{Packet}
use Rattle.payload.specs.declared.packet.Packet.TheVariants as packet
use Rattle.payload.specs.declared.packet.Support.TheVariants.{Open}
use Rattle.encoder.specs.Due.{due_at}
use Rattle.encoder.specs.Packets.{packet_by, reported_by, reports, last_rule, closing, closing_packet, packets}
use Rattle.encoder.specs.PacketsSoFar.{is_known, packets_so_far}
use Rattle.encoder.specs.Piece.{Piece, is_cut, cut_or_go_on, pieces}
use Rattle.encoder.specs.Rule.{is_some_and, is_handler, is_start, rule}
use Rattle.encoder.specs.Spot.{Spot, spots}
use Rattle.encoder.specs.EncoderStands.{reported_after_pieces, since_cut, EncoderStands}
use Rattle.encoder.specs.steps.Stepping.{rule_at_end, packets_by, is_handler_due, given_at_end}
use Rattle.encoder.specs.declared.due.Due.{Due}
use Rattle.encoder.specs.declared.due.Due.TheVariants as due
use Rattle.encoder.specs.declared.encoder.Encoder.{Encoder}
use Rattle.encoder.specs.declared.rule.Rule.TheVariants as by
use Rattle.encoder.proofs.SpotLemmas.{last_or-snoc, last_rule-snoc}
use Rattle.encoder.proofs.PacketsReached.{spot_after, spots-snoc, Reaches, reaches, reaches_cut, one_more}
use Rattle.encoder.proofs.RulesByDue.{is_known-due}
use Rattle.encoder.proofs.LogsByLastEvent.{by_last, view_open, view_known}
use Rattle.encoder.proofs.EventsTaken.{IsOwn, packets_by-own}

-- The rule of a log's last event is as the code says.
rule-at_end : (words : Words) (period : ℕ) (n : ℕ) (b2 b : Option Event) (held : Event)
    → rule words period (record { number = n; before_that = b2; before = b; event = held; after = None })
    ≡ rule_at_end (due_at words period (record {
      number = n;
      before_that = b2;
      before = b;
      event = held;
      after =
          None;
    }))
rule-at_end words period n b2 b (Retire addr itype priv) =
    by_tests (is_handler words b2 b (Retire addr itype priv)) (is_start period n b priv)
    (is_some_and (is_discontinuity words) b)
  where
    by_tests : (h y z : Bool) → cond h by.Handler (cond y by.Sync (cond z (by.Target false) by.Explicit))
        ≡ rule_at_end (cond h due.Handler (cond y due.Sync (cond z due.Target due.Nothing)))
    by_tests true y z = refl
    by_tests false true z = refl
    by_tests false false true = refl
    by_tests false false false = refl
rule-at_end words period n b2 b (Trap priv interrupt cause epc tval) =
    by_before (is_some_and is_retirement b && not (is_some_and (is_discontinuity words) b))
  where
    by_before : (x : Bool) → by.Trap (x && false) ≡ rule_at_end (cond x due.TrapOrHandler due.Trap)
    by_before true = refl
    by_before false = refl

-- It ends a piece.
cut_at_end : (d : Due) (front : List Event) (held : Event) → is_cut front held (rule_at_end d) ≡ true
cut_at_end due.TrapOrHandler front held = refl
cut_at_end due.Trap front held = refl
cut_at_end due.Handler front held = refl
cut_at_end due.Sync front held = refl
cut_at_end due.Target front held = refl
cut_at_end due.Nothing front held = refl

own_at_end : (d : Due) → is_handler_due d ≡ false → IsOwn (rule_at_end d)
own_at_end due.TrapOrHandler h = tt
own_at_end due.Trap h = tt
own_at_end due.Handler h = cc
own_at_end due.Sync h = tt
own_at_end due.Target h = tt
own_at_end due.Nothing h = tt

handler_at_end : (d : Due) → is_handler_due d ≡ true → rule_at_end d ≡ by.Handler
handler_at_end due.TrapOrHandler h = cc
handler_at_end due.Trap h = cc
handler_at_end due.Handler h = refl
handler_at_end due.Sync h = cc
handler_at_end due.Target h = cc
handler_at_end due.Nothing h = cc

gives_at_end : (e : Encoder) (held : Event) (pending : List Bool) (mode : Mode) (reported : ℕ) (d : Due)
    → e.held ≡ Some held → e.due ≡ d → e.pending ≡ pending → e.mode ≡ mode → e.reported ≡ reported
    → given_at_end e e.held ≡ packets_by (rule_at_end d) held pending mode reported
    ++ packet.Support (closing (rule_at_end d)) ∷ []
gives_at_end e held pending mode reported d h a p m r = rw (h, a, p, m, r) refl

module _ (words : Words) (period : ℕ) (mode : Mode) where
  module _ (front : List Event) (held : Event) (e : Encoder)
      (stands : EncoderStands words period mode (front ++ held ∷ []) e) where
    abbrev ss : List Spot
    ss = spots 0 None None front (Some held)

    abbrev here : Spot
    here = spot_after front held None

    abbrev d : Due
    d = due_at words period here

    abbrev since : List Event
    since = since_cut words period [] ss

    abbrev ps : List Packet
    ps = reports mode 0 (pieces words period [] ss)

    abbrev r : ℕ
    r = reported_after_pieces 0 (pieces words period [] ss)

    abbrev last_packet : Packet
    last_packet = packet_by mode r since held (rule_at_end d)

    is_held : e.held ≡ Some held
    is_held = stands.held ∙ last_or-snoc None front held

    rule_is : rule words period here ≡ rule_at_end d
    rule_is = rule-at_end words period _ _ _ held

    ends : Reaches words period mode (ss ++ here ∷ []) (ps ++ last_packet ∷ []) (reported_by (rule_at_end d) r held) []
    ends = reaches_cut words period mode ss here ps r since (rule_at_end d) (reaches words period mode ss) rule_is
        (cut_at_end d since held)

    closing_is : closing_packet words period (front ++ held ∷ []) ≡ packet.Support (closing (rule_at_end d))
    closing_is =
        let p : Piece = record { front = since; last = held; by = rule_at_end d } in
        let before = pieces words period [] ss in
        ap (λ x. packet.Support (closing (last_rule by.MapOrNothing (pieces words period [] x))))
        (spots-snoc front held None)
        ∙ ap (λ x. packet.Support (closing (last_rule by.MapOrNothing x)))
        (one_more words period ss here since (rule_at_end d) refl rule_is
        ∙ ap (λ b. before ++ cut_or_go_on b p (λ w. [])) (cut_at_end d since held))
        ∙ ap (λ x. packet.Support (closing x)) (last_rule-snoc by.MapOrNothing before p)

    packets_are : packets words period mode (front ++ held ∷ []) ≡ packet.Support (Open mode)
        ∷ (ps ++ last_packet ∷ []) ++ packet.Support (closing (rule_at_end d)) ∷ []
    packets_are =
        ap (λ x. packet.Support (Open mode) ∷ reports mode 0 (pieces words period [] x)
        ++ closing_packet words period (front ++ held ∷ []) ∷ []) (spots-snoc front held None)
        ∙ ap (λ x. packet.Support (Open mode) ∷ x ++ closing_packet words period (front ++ held ∷ []) ∷ []) ends.given
        ∙ ap (λ x. packet.Support (Open mode) ∷ (ps ++ last_packet ∷ []) ++ x ∷ []) closing_is

    open_at_end : is_known words here ≡ false → packets words period mode (front ++ held ∷ [])
        ≡ packets_so_far words period mode (front ++ held ∷ []) ++ given_at_end e e.held
    open_at_end k =
        let old = view_open words period mode front held ps r since k (reaches words period mode ss) in
        let is : is_handler_due d ≡ false = sym (is_known-due words period here) ∙ k in
        let gives =
        gives_at_end e held (outcomes (since ++ held ∷ [])) mode r d is_held (stands.due ∙ old.asked)
        (stands.pending ∙ ap outcomes old.rest) stands.in_mode (stands.reported ∙ old.reported_is) in
        let own = packets_by-own since held (rule_at_end d) mode r (own_at_end d is) in
        packets_are
        ∙ ap (λ x. packet.Support (Open mode) ∷ x) (append_assoc ps (last_packet ∷ [])
        (packet.Support (closing (rule_at_end d)) ∷ []))
        ∙ ap (λ x. packet.Support (Open mode) ∷ ps ++ (x ++ packet.Support (closing (rule_at_end d)) ∷ [])) (sym own)
        ∙ ap (λ x. packet.Support (Open mode) ∷ ps ++ x) (sym gives)
        ∙ ap (λ x. x ++ given_at_end e e.held) (sym old.so_far)

    known_at_end : is_known words here ≡ true → packets words period mode (front ++ held ∷ [])
        ≡ packets_so_far words period mode (front ++ held ∷ []) ++ given_at_end e e.held
    known_at_end k =
        let is : is_handler_due d ≡ true = sym (is_known-due words period here) ∙ k in
        let r_is : rule_at_end d ≡ by.Handler = handler_at_end d is in
        let old =
        view_known words period mode front held (ps ++ last_packet ∷ []) (place held) k
        (subst (λ x. Reaches words period mode (ss ++ here ∷ []) (ps ++ last_packet ∷ []) x [])
        (ap (λ x. reported_by x r held) r_is) ends) in
        let gives =
        gives_at_end e held [] mode (place held) d is_held (stands.due ∙ old.asked)
        (stands.pending ∙ ap outcomes old.rest) stands.in_mode (stands.reported ∙ old.reported_is) in
        packets_are
        ∙ ap (λ x. packet.Support (Open mode) ∷ (ps ++ last_packet ∷ [])
        ++ (x ++ packet.Support (closing (rule_at_end d)) ∷ []))
        (sym (ap (λ x. packets_by x held [] mode (place held)) r_is))
        ∙ ap (λ x. packet.Support (Open mode) ∷ (ps ++ last_packet ∷ []) ++ x) (sym gives)
        ∙ ap (λ x. x ++ given_at_end e e.held) (sym old.so_far)

    pub ends_with : packets words period mode (front ++ held ∷ [])
        ≡ packets_so_far words period mode (front ++ held ∷ []) ++ given_at_end e e.held
    ends_with = go (is_known words here) refl
      where
        go : (k : Bool) → is_known words here ≡ k → packets words period mode (front ++ held ∷ [])
            ≡ packets_so_far words period mode (front ++ held ∷ []) ++ given_at_end e e.held
        go true k = known_at_end k
        go false k = open_at_end k

  empty_ends : (e : Encoder) → e.held ≡ None → packets words period mode [] ≡ packets_so_far words period mode []
      ++ given_at_end e e.held
  empty_ends e h = rw h refl

  -- What an encoder gives at the end completes the packets of its log.
  pub ends_any : (log : List Event) (e : Encoder) → EncoderStands words period mode log e
      → packets words period mode log ≡ packets_so_far words period mode log ++ given_at_end e e.held
  ends_any log e stands = elim (by_last log) [
    | inl is ↦
        subst (λ l. packets words period mode l ≡ packets_so_far words period mode l ++ given_at_end e e.held) (sym is)
        (empty_ends e (stands.held ∙ ap (last_or None) is))
    | inr q ↦
        subst (λ l. packets words period mode l ≡ packets_so_far words period mode l ++ given_at_end e e.held) (sym q.2)
        (ends_with q.0 q.1 e (subst (λ l. EncoderStands words period mode l e) q.2 stands))
  ]
