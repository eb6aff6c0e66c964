-- A packet comes back from its numbers.
use Rattle.std.proofs.Common.{◌≡◌, ℕ, ◌≤◌, ◌==◌, Bool, true, false, List, length, refl, ap, ◌∙◌, arith}
use Rattle.std.specs.Prelude.{not, min}
use Rattle.payload.proofs.OutcomeMaps.{outcomes_of_map}
use Rattle.payload.specs.Limits.{most_outcomes}
use Rattle.payload.specs.Outcomes.{map_of, outcomes_in_map}
use Rattle.payload.specs.Profile.{InProfile}
use Rattle.payload.specs.declared.mode.Mode.TheVariants.{Differential, Full}
use Rattle.payload.specs.declared.packet.Packet.{Packet}
use Rattle.payload.specs.declared.packet.Packet.TheVariants as packet
use Rattle.payload.specs.declared.packet.Report.{Report}
use Rattle.payload.specs.declared.packet.Report.TheVariants.{Plain, Updiscon, Notify}
use Rattle.payload.specs.declared.packet.Support.TheVariants.{Open, EndedRep, EndedNtr}
use Rattle.ffi.specs.Numbers.{flag, number_of_report, numbers_of}
use Rattle.ffi.specs.steps.Reading.{packet_in, report_in}

-- A flag comes back.
pub flag_back : (b : Bool) → not (flag b == 0) ≡ b
flag_back true = refl
flag_back false = refl

-- A report comes back.
report_back : (r : Report) → report_in (number_of_report r) ≡ r
report_back Plain = refl
report_back Updiscon = refl
report_back Notify = refl

-- A small number is not cut.
small : (n : ℕ) → n ≤ 255 → min n 255 ≡ n
small n h = omega arith

-- Outcomes come back.
pub outcomes_back : (os : List Bool) → length os ≤ most_outcomes
    → outcomes_in_map (min (length os) most_outcomes) (map_of os) ≡ os
outcomes_back os few =
    let all : min (length os) most_outcomes ≡ length os = omega arith in
    ap (λ n. outcomes_in_map n (map_of os)) all ∙ outcomes_of_map os

-- A packet of the profile comes back.
pub packet_back : (p : Packet) → InProfile p → packet_in (numbers_of p) ≡ p
packet_back (packet.Sync taken privilege address) h =
    ap (λ t. packet.Sync t (min privilege 255) address) (flag_back taken)
    ∙ ap (λ n. packet.Sync taken n address) (small privilege (omega (arith, h.0.0)))
packet_back (packet.Trap taken privilege cause interrupt handler address tval) h =
    rw (
      flag_back taken,
      flag_back interrupt,
      flag_back handler,
      small privilege (omega (arith, h.0.0)),
      small cause (let below = h.1 in omega arith),
    ) refl
packet_back (packet.Support (Open Differential)) h = refl
packet_back (packet.Support (Open Full)) h = refl
packet_back (packet.Support EndedRep) h = refl
packet_back (packet.Support EndedNtr) h = refl
packet_back (packet.Address outcomes delta report) h = rw (outcomes_back outcomes h.0, report_back report) refl
packet_back (packet.Map outcomes) h =
    ap packet.Map (outcomes_back outcomes (omega (arith, h)))
