-- A packet is admitted and may come next exactly where it may follow the last one.
use Rattle.std.proofs.Common.{◌≡◌, ◌⊎◌, inl, inr, ℕ, Bool, true, false, List, [], ◌∷◌, ◌++◌, Some}
use Rattle.std.proofs.Common.{None, refl, sym, ap, subst, ◌∙◌}
use Rattle.std.specs.Prelude.{Ok, is_some}
use Rattle.retire.specs.declared.event.Event.{Event}
use Rattle.legalpath.specs.LastPlace.{last_place}
use Rattle.payload.specs.Closing.{is_closing_packet}
use Rattle.payload.specs.declared.mode.Mode.{Mode}
use Rattle.payload.specs.declared.packet.Packet.{Packet}
use Rattle.payload.specs.declared.packet.Packet.TheVariants as packet
use Rattle.payload.specs.declared.packet.Report.TheVariants as report
use Rattle.payload.specs.declared.packet.Support.TheVariants as support
use Rattle.decoder.specs.Order.{MayFollow, MayPrecede, IsOpen, open_packet}
use Rattle.decoder.specs.Pieces.{reported_after}
use Rattle.decoder.specs.steps.Planning.{MayCome, admitted, admitted_first}
use Rattle.decoder.specs.steps.Planning.{reported_past}
use Rattle.decoder.specs.Settling.{waits}
use Rattle.decoder.specs.DecoderStands.{phase_after, waiting_after, running_or_closed}
use Rattle.decoder.specs.declared.state.Phase.TheVariants.{Unopened, Running}
use Rattle.decoder.specs.declared.settling.Waiting.{Waiting}

-- Packets with a last one.
pub record Ending (packets : List Packet) : Type 0 where
  pub front : List Packet
  pub last : Packet
  pub is : packets ≡ front ++ last ∷ []

-- There are no packets, or there is a last one.
pub ending : (packets : List Packet) → (packets ≡ []) ⊎ Ending packets
ending [] = inl refl
ending (p ∷ []) = inr (record { front = []; last = p; is = refl })
ending (p ∷ q ∷ packets) = more (ending (q ∷ packets))
  where
    more : (q ∷ packets ≡ []) ⊎ Ending (q ∷ packets) → (p ∷ q ∷ packets ≡ []) ⊎ Ending (p ∷ q ∷ packets)
    more (inl none) = cc
    more (inr e) = inr (record { front = p ∷ e.front; last = e.last; is = ap (λ l. p ∷ l) e.is })

-- A packet that opens a trace announces a mode.
pub opening_of : (p : Packet) → IsOpen p → (mode : Mode) × (p ≡ open_packet mode)
opening_of (packet.Sync taken priv address) is = absurd is
opening_of (packet.Trap taken priv cause interrupt handler address tval) is = absurd is
opening_of (packet.Support (support.Open mode)) is = (mode, refl)
opening_of (packet.Support support.EndedRep) is = absurd is
opening_of (packet.Support support.EndedNtr) is = absurd is
opening_of (packet.Address taken delta report) is = absurd is
opening_of (packet.Map taken) is = absurd is

-- The first packet is admitted where it opens the trace, and then it may come.
pub opens : (p : Packet) → IsOpen p → (admitted_first p ≡ Ok tt) × MayCome Unopened None p
opens p is =
    subst (λ q. (admitted_first q ≡ Ok tt) × MayCome Unopened None q) (sym (opening_of p is).1) (refl, refl)

pub opens_only : (p : Packet) → admitted_first p ≡ Ok tt → IsOpen p
opens_only (packet.Sync taken priv address) admits = cc
opens_only (packet.Trap taken priv cause interrupt handler address tval) admits = cc
opens_only (packet.Support (support.Open mode)) admits = tt
opens_only (packet.Support support.EndedRep) admits = cc
opens_only (packet.Support support.EndedNtr) admits = cc
opens_only (packet.Address taken delta report) admits = cc
opens_only (packet.Map taken) admits = cc

-- A packet waits exactly where something waits after it.
pub waits_for : (q : Packet) → is_some (waiting_after (Some q)) ≡ waits q
waits_for (packet.Sync taken priv address) = refl
waits_for (packet.Trap taken priv cause interrupt handler address tval) = refl
waits_for (packet.Support support) = refl
waits_for (packet.Address taken delta report.Plain) = refl
waits_for (packet.Address taken delta report.Updiscon) = refl
waits_for (packet.Address taken delta report.Notify) = refl
waits_for (packet.Map taken) = refl

pub waits_plain : (q : Packet) (waiting : Waiting) → waiting_after (Some q) ≡ Some waiting →
    q ≡ packet.Address waiting.outcomes waiting.delta report.Plain
waits_plain (packet.Sync taken priv address) waiting is = cc
waits_plain (packet.Trap taken priv cause interrupt handler address tval) waiting is = cc
waits_plain (packet.Support support) waiting is = cc
waits_plain (packet.Address taken delta report.Plain) waiting is = cc
waits_plain (packet.Address taken delta report.Updiscon) waiting is = cc
waits_plain (packet.Address taken delta report.Notify) waiting is = cc
waits_plain (packet.Map taken) waiting is = cc

-- A packet may come after another in an open trace exactly where it may follow it.
pub follows : (closing : Bool) (q p : Packet) → MayCome (running_or_closed closing) (waiting_after (Some q)) p →
    MayFollow q p
follows closing q (packet.Sync taken priv address) comes = tt
follows closing q (packet.Trap taken priv cause interrupt handler address tval) comes = tt
follows true q (packet.Support (support.Open mode)) comes = cc
follows false q (packet.Support (support.Open mode)) comes = cc
follows closing q (packet.Support support.EndedRep) comes = sym (waits_for q) ∙ comes
follows closing q (packet.Support support.EndedNtr) comes = tt
follows closing q (packet.Address taken delta report) comes = tt
follows closing q (packet.Map taken) comes = tt

pub precedes : (q p : Packet) → admitted (phase_after (Some q)) p ≡ Ok tt →
    MayCome (phase_after (Some q)) (waiting_after (Some q)) p → MayPrecede q (Some p)
precedes q p admits comes = (running (is_closing_packet q) admits, follows (is_closing_packet q) q p comes)
  where
    running : (closing : Bool) → admitted (running_or_closed closing) p ≡ Ok tt → closing ≡ false
    running true admits = cc
    running false admits = refl

pub comes_after : (q p : Packet) → MayFollow q p → MayCome Running (waiting_after (Some q)) p
comes_after q (packet.Sync taken priv address) follows = tt
comes_after q (packet.Trap taken priv cause interrupt handler address tval) follows = tt
comes_after q (packet.Support (support.Open mode)) follows = absurd follows
comes_after q (packet.Support support.EndedRep) follows = waits_for q ∙ follows
comes_after q (packet.Support support.EndedNtr) follows = tt
comes_after q (packet.Address taken delta report) follows = tt
comes_after q (packet.Map taken) follows = tt

-- A packet that may follow another is admitted after it.
pub admits_after : (q p : Packet) → MayPrecede q (Some p) → (admitted (phase_after (Some q)) p ≡ Ok tt) ×
    MayCome (phase_after (Some q)) (waiting_after (Some q)) p
admits_after q p may =
    let running : running_or_closed false ≡ phase_after (Some q) = ap running_or_closed (sym may.0) in
    subst (λ phase. (admitted phase p ≡ Ok tt) × MayCome phase (waiting_after (Some q)) p) running
    (refl, comes_after q p may.1)

pub reported_past-after : (p : Packet) (reported : ℕ) (piece : List Event) →
    reported_past p reported (last_place reported piece) ≡ reported_after p reported piece
reported_past-after (packet.Sync taken priv address) reported piece = refl
reported_past-after (packet.Trap taken priv cause interrupt handler address tval) reported piece = refl
reported_past-after (packet.Support support) reported piece = refl
reported_past-after (packet.Address taken delta report) reported piece = refl
reported_past-after (packet.Map taken) reported piece = refl
