-- The fault of a packet before the trace was opened.
use Rattle.std.proofs.Common.{◌≡◌, ◌↔◌, ◌⊎◌, inl, inr, Bool, true, false, List, [], Some, None, sym, ap, subst, ◌∙◌}
use Rattle.std.specs.List.{last_or}
use Rattle.std.specs.Prelude.{Ok}
use Rattle.payload.specs.Closing.{is_closing_packet}
use Rattle.payload.specs.declared.packet.Packet.{Packet}
use Rattle.payload.specs.declared.packet.Packet.TheVariants as packet
use Rattle.payload.specs.declared.packet.Support.TheVariants as support
use Rattle.decoder.proofs.StretchEnds.{last_or-last}
use Rattle.decoder.proofs.NextPacket.{Ending, ending}
use Rattle.decoder.specs.Order.{IsOpen}
use Rattle.decoder.specs.steps.Planning.{admitted, admitted_first, IsNamed}
use Rattle.decoder.specs.DecoderStands.{phase_after, running_or_closed}
use Rattle.decoder.specs.declared.fault.DecodeFault.{DecodeFault}
use Rattle.decoder.specs.declared.fault.DecodeFault.TheVariants.{NotOpened}

-- The fault of a first packet.
named_first : (p : Packet) (fault : DecodeFault) → IsNamed (admitted_first p) fault → (fault ≡ NotOpened) ↔ ¬ IsOpen p
named_first (packet.Sync taken priv address) fault named = (λ is opens. opens, λ no. named)
named_first (packet.Trap taken priv cause interrupt handler address tval) fault named = (λ is opens. opens, λ no. named)
named_first (packet.Support (support.Open mode)) fault named =
    (λ is opens. subst (IsNamed (Ok tt)) is named, λ no. absurd (no tt))
named_first (packet.Support support.EndedRep) fault named = (λ is opens. opens, λ no. named)
named_first (packet.Support support.EndedNtr) fault named = (λ is opens. opens, λ no. named)
named_first (packet.Address taken delta report) fault named = (λ is opens. opens, λ no. named)
named_first (packet.Map taken) fault named = (λ is opens. opens, λ no. named)

-- A later packet has another fault.
named_later : (closing : Bool) (p : Packet) (fault : DecodeFault) → IsNamed (admitted (running_or_closed closing) p)
    fault → fault ≡ NotOpened → ⊥
named_later true p fault named is = cc
named_later false p fault named is = subst (IsNamed (Ok tt)) is named

-- The fault is NotOpened exactly where there are no packets yet and this one opens no trace.
pub named_not_opened : (packets : List Packet) (p : Packet) (fault : DecodeFault) →
    IsNamed (admitted (phase_after (last_or None packets)) p) fault → (fault ≡ NotOpened) ↔
    ((packets ≡ []) × ¬ IsOpen p)
named_not_opened packets p fault named = by_last (ending packets)
  where
    by_last : (packets ≡ []) ⊎ Ending packets → (fault ≡ NotOpened) ↔ ((packets ≡ []) × ¬ IsOpen p)
    by_last (inl is) =
        let here = named_first p fault
        (subst (λ l. IsNamed (admitted (phase_after (last_or None l)) p) fault) is named) in
        (λ e. (is, here.0 e), λ no. here.1 no.1)
    by_last (inr e) =
        let last = ap (last_or None) e.is ∙ last_or-last None e.front e.last in
        let there = named_later (is_closing_packet e.last) p fault
        (subst (λ x. IsNamed (admitted (phase_after x) p) fault) last named) in
        (λ is. absurd (there is), λ no. let none : None ≡ Some e.last = sym (ap (last_or None) no.0) ∙ last in cc)
