-- The packets of a legal log describe it, and the first of them describe its first events.
use Rattle.std.proofs.Common.{◌≡◌, ℕ, ◌+◌, List, [], ◌∷◌, ◌++◌, length, take, drop, Option, Some, None, refl, sym, ap}
use Rattle.std.proofs.Common.{subst, ◌∙◌}
use Rattle.std.proofs.Math.Seq.{take-append_seam}
use Rattle.std.proofs.lemmas.List.{take-append-drop}
use Rattle.retire.specs.declared.event.Event.{Event}
use Rattle.retire.specs.declared.event.Event.TheVariants.{Retire, Trap}
use Rattle.rvclass.specs.Words.{Words, IsProgram}
use Rattle.legalpath.specs.Join.{join}
use Rattle.legalpath.specs.Legal.{FollowOn, Legal}
use Rattle.payload.specs.declared.mode.Mode.{Mode}
use Rattle.payload.specs.declared.packet.Packet.TheVariants as packet
use Rattle.payload.specs.declared.packet.Support.TheVariants.{Open}
use Rattle.encoder.specs.Packets.{packets}
use Rattle.encoder.specs.Piece.{pieces, pieces_of}
use Rattle.encoder.specs.Rule.{with_handler}
use Rattle.encoder.specs.Spot.{first_event, spots}
use Rattle.encoder.specs.declared.rule.Rule.{Rule}
use Rattle.encoder.specs.declared.rule.Rule.TheVariants as by
use Rattle.decoder.proofs.ExtendingLemmas.{IsBeginning, front_describes}
use Rattle.decoder.specs.Describes.{Describes}
use Rattle.decoder.specs.ModeOf.{mode_of}
use Rattle.decoder.specs.Order.{MayPrecede, Begins}
use Rattle.decoder.specs.Pieces.{Pieces}
use Rattle.roundtrip.specs.Reach.{stretches, settled_events, reach}
use Rattle.roundtrip.proofs.EventDescribed.{address_in_range, trap_described, in_stretch_described, at_cut_described}
use Rattle.roundtrip.proofs.EventDescribed.{handler_described}
use Rattle.roundtrip.proofs.PacketOrder.{first_is_head, open_precedes}
use Rattle.roundtrip.proofs.RuleFacts.{rule_answers_of}
use Rattle.roundtrip.proofs.RestDescribed.{RestDescribed, NotHandled, State, AtCut, InStretch, AfterTrap}
use Rattle.roundtrip.proofs.RestDescribed.{explicit_before, explicit_in}

module _ (words : Words) (program : IsProgram words) (period : ℕ) (mode : Mode) where
  -- From any event of a log on, its pieces describe its events.
  events_described : (events : List Event) (number : ℕ) (since : Option Event) (front : List Event)
      (before_that before : Option Event) (reported : ℕ) (by_last : Rule) → FollowOn words before events
      → (state : State words period since front before_that before number events reported)
      → RestDescribed words mode since reported by_last front events (explicit_in by_last state)
      (pieces words period front (spots number before_that before events None))
  events_described [] number since front before_that before reported by_last follows (AtCut handled known) =
      record { fit = (tt, refl, tt); whole = refl; head = refl }
  events_described [] number since front before_that before reported by_last follows
      (InStretch quiet known on) = absurd on
  events_described [] number since front before_that before reported by_last follows (AfterTrap handles) = cc
  events_described (Trap priv interrupt cause epc tval ∷ events) number since front before_that before reported by_last
      follows (AtCut handled known) =
      let trap = Trap priv interrupt cause epc tval in
      trap_described words period mode epc priv interrupt cause tval number before reported by_last events _
      (with_handler words before (first_event events None)) refl
      (λ since front reported by_last state. events_described events number since front before
      (Some trap) reported by_last
      follows.2 state)
  events_described (Trap priv interrupt cause epc tval ∷ events) number since front before_that before reported by_last
      follows (InStretch quiet known on) = absurd on
  events_described (Trap priv interrupt cause epc tval ∷ events) number since front before_that before reported by_last
      follows (AfterTrap handles) = cc
  events_described (Retire addr itype priv ∷ events) number since front before_that before reported by_last follows
      (AtCut handled known) =
      let last = Retire addr itype priv in
      at_cut_described words period mode addr itype priv number before_that reported by_last events _
      (address_in_range words program addr itype priv follows.0) before _ handled known
      (rule_answers_of words period number before_that before last (first_event events None))
      (λ since front reported by_last state. events_described events (number + 1) since front before
      (Some last) reported
      by_last follows.2 state)
  events_described (Retire addr itype priv ∷ events) number since front before_that before reported by_last follows
      (InStretch {since = first} {before = previous} quiet known on) =
      let last = Retire addr itype priv in
      in_stretch_described words period mode addr itype priv number before_that reported by_last events _
      (address_in_range words program addr itype priv follows.0) first front previous _ quiet known on
      (rule_answers_of words period number before_that (Some previous) last (first_event events None))
      (λ since front reported by_last state. events_described events (number + 1) since front (Some previous)
      (Some last)
      reported by_last follows.2 state)
  events_described (Retire addr itype priv ∷ events) number since front before_that before reported by_last follows
      (AfterTrap {epc = epc} {priv = level} {interrupt = interrupt} {cause = cause} {tval = tval} handles) =
      let last = Retire addr itype priv in
      let trap = Trap level interrupt cause epc tval in
      handler_described words period mode addr itype priv number before_that reported by_last events _
      (address_in_range words program addr itype priv follows.0) epc level interrupt cause tval _ handles
      (rule_answers_of words period number before_that (Some trap) last (first_event events None))
      (λ since front reported by_last state. events_described events (number + 1) since front (Some trap) (Some last)
      reported by_last follows.2 state)

  first_not_handled : (log : List Event) → NotHandled words None None log
  first_not_handled [] = tt
  first_not_handled (event ∷ events) = refl

  log_described : (log : List Event) → Legal words log
      → RestDescribed words mode None 0 by.MapOrNothing [] log (explicit_before period 0 None by.MapOrNothing log)
      (pieces_of words period log)
  log_described log legal = events_described log 0 None [] None None 0 by.MapOrNothing legal
      (AtCut (first_not_handled log) tt)

  -- The stretches of a log are the whole log.
  pub join-stretches : (log : List Event) → Legal words log → join (stretches words period log) ≡ log
  join-stretches log legal = (log_described log legal).whole

  -- The packets of a legal log have its stretches for their pieces.
  pub packets_have_stretches : (log : List Event) → Legal words log
      → Pieces words mode None 0 (packets words period mode log) None (stretches words period log)
  packets_have_stretches log legal =
      let pieces = pieces_of words period log in
      let order = subst (λ next. MayPrecede (packet.Support (Open mode)) next)
      (sym (first_is_head mode 0 by.MapOrNothing pieces)) (open_precedes mode 0 pieces) in
      (order, refl, (log_described log legal).fit)

  -- The packets of a legal log describe it.
  pub packets_describe : (log : List Event) → Legal words log → Describes words (packets words period mode log) log
  packets_describe log legal =
      record {
        begins = tt;
        pieces = stretches words period log;
        whole = sym (join-stretches log legal);
        legal = legal;
        each = packets_have_stretches log legal;
      }

  -- The first of them describe the events that they settle, with which the log begins.
  pub first_packets_describe_settled : (log : List Event) → Legal words log → (count : ℕ) →
      Describes words (take count (packets words period mode log)) (settled_events words period mode log count)
      × IsBeginning (settled_events words period mode log count) log
  first_packets_describe_settled log legal count =
      let all = packets words period mode log in
      let split : take count all ++ drop count all ≡ all = take-append-drop count all in
      front_describes words (take count all) (drop count all) log
      (record {
        begins = subst Begins (sym split) tt;
        pieces = stretches words period log;
        whole = sym (join-stretches log legal);
        legal = legal;
        each =
            subst (λ ps. Pieces words (mode_of ps) None 0 ps None (stretches words period log)) (sym split)
            (packets_have_stretches log legal);
      })

  -- The events that they settle are the first events of the log, as many as they reach.
  pub take-reach : (log : List Event) → Legal words log → (count : ℕ)
      → take (reach words period mode log count) log ≡ settled_events words period mode log count
  take-reach log legal count =
      let front = settled_events words period mode log count in
      let begins = (first_packets_describe_settled log legal count).1 in
      ap (take (length front)) begins.is ∙ take-append_seam front begins.rest

  -- The first packets of a legal log describe its first events.
  pub first_packets_describe : (log : List Event) → Legal words log → (count : ℕ)
      → Describes words (take count (packets words period mode log)) (take (reach words period mode log count) log)
  first_packets_describe log legal count =
      subst (Describes words (take count (packets words period mode log))) (sym (take-reach log legal count))
      (first_packets_describe_settled log legal count).0
