-- What is said of a packet whose events are in the piece, or are left, or both.
use Rattle.std.proofs.Common.{◌≡◌, ℕ, ◌+◌, ◌<◌, ◌≤◌, List, [], ◌∷◌, ◌++◌, length, Option, sym, ap, subst, ◌∙◌, arith}
use Rattle.std.proofs.Common.{length-append}
use Rattle.std.proofs.lemmas.List.{append_cancel_left}
use Rattle.retire.specs.declared.event.Event.{Event}
use Rattle.rvclass.specs.Words.{Words, IsProgram}
use Rattle.payload.specs.declared.mode.Mode.{Mode}
use Rattle.payload.specs.declared.packet.Packet.{Packet}
use Rattle.payload.specs.declared.packet.Packet.TheVariants as packet
use Rattle.payload.specs.declared.packet.Support.TheVariants as support
use Rattle.decoder.proofs.BeginsAnew.{passing_right, begins_stretch}
use Rattle.decoder.proofs.BothWritten.{both_counted}
use Rattle.decoder.proofs.StandsForOneMore.{stands_right, stands_more}
use Rattle.decoder.proofs.StretchEnds.{stretch_count-gives}
use Rattle.decoder.proofs.UniqueLemmas.{one_log}
use Rattle.decoder.specs.Describes.{Describes}
use Rattle.decoder.specs.Order.{IsOpen, open_packet}
use Rattle.decoder.specs.Resuming.{IsSync, PassesOver}
use Rattle.decoder.specs.DecoderStands.{DecoderStands}
use Rattle.decoder.specs.steps.Planning.{Plans, announced_past, decoder_after}
use Rattle.decoder.specs.steps.Stretches.{AddsBoth, left_of, stretch_count}
use Rattle.decoder.specs.declared.decoding.Decoder.{Decoder}
use Rattle.decoder.specs.declared.added_events.AddedEvents.{AddedEvents}

-- A packet that opens no trace leaves what was announced.
pub announced_kept : (p : Packet) (before mode : Option Mode) → before ≡ mode → (IsOpen p → ⊥) →
    announced_past p before ≡ mode
announced_kept (packet.Sync taken priv address) before mode is opens = is
announced_kept (packet.Trap taken priv cause interrupt handler address tval) before mode is opens = is
announced_kept (packet.Support (support.Open announced)) before mode is opens = absurd (opens tt)
announced_kept (packet.Support support.EndedRep) before mode is opens = is
announced_kept (packet.Support support.EndedNtr) before mode is opens = is
announced_kept (packet.Address taken delta report) before mode is opens = is
announced_kept (packet.Map taken) before mode is opens = is

module _ (words : Words) (d : Decoder) (p : Packet) (first second : AddedEvents)
    (found : Plans words d p first second) where
  -- How many events the packet adds.
  plan_counted : stretch_count first + stretch_count second ≡ length (found.settled ++ found.of_packet)
  plan_counted =
      let a = stretch_count-gives words first found.settled found.gives_settled in
      let b = stretch_count-gives words second found.of_packet found.gives_of_packet in
      omega (arith, a, b, length-append found.settled found.of_packet)

  -- What is to be written has too little room behind what was written, so all has too little behind the old events.
  pub too_little : (old planned : List Event) (len capacity : ℕ) → AddsBoth words first second old planned →
      len ≡ length old → capacity < length planned + (stretch_count (left_of first) + stretch_count (left_of second)) →
      capacity < len + length (found.settled ++ found.of_packet)
  too_little old planned len capacity adds counted full =
      let both = both_counted words first second found.settled found.of_packet found.gives_settled
      found.gives_of_packet old planned adds in
      let all = plan_counted in
      omega (arith, counted, full, both, all)

  module _ (after : Decoder) (is : after ≡ decoder_after d p first second) (old new left : List Event)
      (all : new ++ left ≡ old ++ (found.settled ++ found.of_packet)) where
    pub adds_in_pieces : (packets : List Packet) (before added : List Event) → DecoderStands words packets before d →
        new ++ left ≡ old ++ added → DecoderStands words (packets ++ p ∷ []) (before ++ added) after
    adds_in_pieces packets before added s same =
        let can = found.can (stands_right words packets before d s) in
        let more = stands_more words packets before d p first second found.settled found.of_packet s
        found.gives_settled found.gives_of_packet can in
        let one = append_cancel_left old (found.settled ++ found.of_packet) added (sym all ∙ same) in
        subst (λ x. DecoderStands words (packets ++ p ∷ []) (before ++ added) x) (sym is)
        (subst (λ l. DecoderStands words (packets ++ p ∷ []) (before ++ l) (decoder_after d p first second)) one more)

    pub only_in_pieces : IsProgram words → (packets : List Packet) (before added : List Event) →
        DecoderStands words packets before d → new ++ left ≡ old ++ added → (other : List Event) →
        Describes words (packets ++ p ∷ []) other → other ≡ before ++ added
    only_in_pieces program packets before added s same other described =
        one_log words program (packets ++ p ∷ []) other (before ++ added) described
        (adds_in_pieces packets before added s same).described

    pub begins_in_pieces : (mode : Mode) → PassesOver mode d → IsSync p → (stretch : List Event) →
        new ++ left ≡ old ++ stretch → DecoderStands words (open_packet mode ∷ p ∷ []) stretch after
    begins_in_pieces mode over sync stretch same =
        let more = begins_stretch words mode d over p first second found.settled found.of_packet sync
        found.gives_settled found.gives_of_packet (found.can (passing_right words mode d over)) in
        let one = append_cancel_left old (found.settled ++ found.of_packet) stretch (sym all ∙ same) in
        let trace = open_packet mode ∷ p ∷ [] in
        subst (λ x. DecoderStands words trace stretch x) (sym is)
        (subst (λ l. DecoderStands words trace l (decoder_after d p first second)) one more)

    pub short_in_pieces : (most len len' : ℕ) → stretch_count first + stretch_count second ≤ most + 2 →
        len ≡ length old → len' ≡ length new → len' + length left ≤ len + most + 2
    short_in_pieces most len len' short counted counted' =
        let one = plan_counted in
        let both = ap length all in
        let a = length-append new left in
        let b = length-append old (found.settled ++ found.of_packet) in
        omega (arith, short, counted, counted', one, both, a, b)
