-- The plan of a decoder has the events that can follow, or there are none.
use Rattle.std.proofs.Common.{◌≡◌, ℕ, List, Option, Some, None, sym, ap, subst, ◌∙◌}
use Rattle.std.specs.Prelude.{Result, Ok, Err, OnOk, IfErr}
use Rattle.std.specs.List.{last_or}
use Rattle.retire.specs.declared.event.Event.{Event}
use Rattle.rvclass.specs.Words.{Words, IsProgram}
use Rattle.legalpath.specs.LastPlace.{last_place}
use Rattle.legalpath.specs.Legal.{FollowOn}
use Rattle.payload.specs.AddressField.{aim}
use Rattle.payload.specs.declared.mode.Mode.{Mode}
use Rattle.payload.specs.declared.packet.Packet.{Packet}
use Rattle.decoder.proofs.StretchEnds.{stretch_last-gives, stretch_place-gives, right_after}
use Rattle.decoder.proofs.UniqueLemmas.{address_same}
use Rattle.decoder.specs.Fits.{Fits}
use Rattle.decoder.specs.steps.Stretches.{stretch_last, stretch_place, Suits, SuitsNone, RightBefore}
use Rattle.decoder.specs.steps.Planning.{MayCome, FitsWaiting, Plans, PlansNone, admitted, IsNamed}
use Rattle.decoder.specs.Settling.{settled_by}
use Rattle.decoder.specs.declared.decoding.Decoder.{Decoder}
use Rattle.decoder.specs.declared.fault.DecodeFault.{DecodeFault}
use Rattle.decoder.specs.declared.added_events.AddedEvents.{AddedEvents}
use Rattle.decoder.specs.declared.settling.Waiting.{Waiting}

-- What waits has one piece at most.
waiting_same : (words : Words) → IsProgram words → (mode : Mode) (before : Option Event) (reported : ℕ)
    (waiting : Option Waiting) (p : Packet) (piece other : List Event) →
    FitsWaiting words mode before reported waiting p piece → FitsWaiting words mode before reported waiting p other →
    FollowOn words before piece → FollowOn words before other → piece ≡ other
waiting_same words program mode before reported None p piece other fits fits' follows follows' = fits ∙ sym fits'
waiting_same words program mode before reported (Some waiting) p piece other fits fits' follows follows' =
    address_same words program before waiting.outcomes (aim mode reported waiting.delta) (settled_by (Some p)) piece
    other fits fits' follows follows'

module _ (words : Words) (d : Decoder) (p : Packet) where
  pub plans : (settled of_packet : AddedEvents) (r : Result Unit DecodeFault) → admitted d.phase p ≡ Ok tt →
      MayCome d.phase d.waiting p → Suits words d.last (FitsWaiting words d.mode d.last d.reported d.waiting p) settled
      → OnOk r (Suits words (stretch_last d.last settled)
      (Fits words d.mode (stretch_last d.last settled) (stretch_place d.reported settled) p None) of_packet) →
      OnOk r (Plans words d p settled of_packet)
  plans settled of_packet (Err fault) admits comes first second = tt
  plans settled of_packet (Ok done) admits comes first second =
      let last = stretch_last-gives words d.last settled first.events first.gives in
      let at = stretch_place-gives words d.reported settled first.events first.gives in
      record {
        settled = first.events;
        of_packet = second.events;
        gives_settled = first.gives;
        gives_of_packet = second.gives;
        can = λ right.
            let one = first.fits right in
            let two = second.fits (subst (RightBefore words) (sym last)
            (right_after words d.last first.events right one.1)) in
            let fits = subst (λ l. Fits words d.mode l (stretch_place d.reported settled) p None second.events) last
            two.0 in
            record {
              admits = admits;
              comes = comes;
              settles = one.0;
              settled_follows = one.1;
              fits = subst (λ r. Fits words d.mode (last_or d.last first.events) r p None second.events) at fits;
              follows = subst (λ l. FollowOn words l second.events) last two.1;
            };
      }

  pub plans_none : IsProgram words → (settled : AddedEvents) (r : Result Unit DecodeFault) → admitted d.phase p ≡ Ok tt
      →
      Suits words d.last (FitsWaiting words d.mode d.last d.reported d.waiting p) settled →
      IfErr r (SuitsNone words (stretch_last d.last settled)
      (Fits words d.mode (stretch_last d.last settled) (stretch_place d.reported settled) p None)) →
      IfErr r (PlansNone words d p)
  plans_none program settled (Ok done) admits first none = tt
  plans_none program settled (Err fault) admits first none =
      let last = stretch_last-gives words d.last settled first.events first.gives in
      let at = stretch_place-gives words d.reported settled first.events first.gives in
      record {
        named = subst (λ a. IsNamed a fault) (sym admits) none.named;
        none = λ right piece of_packet can.
            let one = first.fits right in
            let same : piece ≡ first.events = waiting_same words program d.mode d.last d.reported d.waiting p piece
            first.events can.settles one.0 can.settled_follows one.1 in
            let before : last_or d.last piece ≡ stretch_last d.last settled = ap (last_or d.last) same ∙ sym last in
            let reported : last_place d.reported piece ≡ stretch_place d.reported settled =
            ap (last_place d.reported) same ∙ sym at in
            let fits = subst (λ l. Fits words d.mode l (last_place d.reported piece) p None of_packet) before
            can.fits in
            none.none (subst (RightBefore words) (sym last) (right_after words d.last first.events right one.1))
            of_packet (subst (λ r. Fits words d.mode (stretch_last d.last settled) r p None of_packet) reported fits)
            (subst (λ l. FollowOn words l of_packet) before can.follows);
      }
