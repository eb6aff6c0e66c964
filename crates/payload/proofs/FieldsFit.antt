-- The fields of each packet of the profile fit their widths.
use Rattle.std.proofs.Common.{◌≡◌, ℕ, ◌-◌, ◌/◌, ◌^◌, ◌<◌, ◌≤◌, Bool, true, false, List, [], ◌∷◌, length, refl, subst}
use Rattle.std.proofs.Common.{arith}
use Rattle.isa.specs.Address.{IsAddress}
use Rattle.payload.specs.Fields.{Field, field, total}
use Rattle.payload.specs.Outcomes.{map_width, map_of}
use Rattle.payload.specs.PacketFields.{branch_of, flag_of, trap_fields, unused_bits, branches_fields, fields_with}
use Rattle.payload.specs.PacketFields.{address_fields, report_fields}
use Rattle.payload.specs.Profile.{AreOutcomes, InProfile}
use Rattle.payload.specs.declared.mode.Mode.TheVariants as mode
use Rattle.payload.specs.declared.packet.Packet.{Packet}
use Rattle.payload.specs.declared.packet.Packet.TheVariants as packet
use Rattle.payload.specs.declared.packet.Support.TheVariants as support
use Rattle.payload.specs.declared.packet.Report.{Report}
use Rattle.payload.specs.declared.packet.Report.TheVariants as report
use Rattle.payload.proofs.MapWidths.{map_sizes, map-lt}
use Rattle.payload.proofs.OutcomeMaps.{map_of-lt}
use Rattle.payload.proofs.Parts.{Fit, joined-lt}
use Rattle.payload.proofs.Shortest.{AreSound}

pub total-report_fields : (top : ℕ) (r : Report) → total (report_fields top r) ≡ 3
total-report_fields top report.Plain = refl
total-report_fields top report.Updiscon = refl
total-report_fields top report.Notify = refl

branch-lt : (taken : Bool) → branch_of taken < 2
branch-lt true = omega arith
branch-lt false = omega arith

flag-lt : (holds : Bool) → flag_of holds < 2
flag-lt true = omega arith
flag-lt false = omega arith

report_fit : (top : ℕ) (r : Report) → top < 2 → Fit (report_fields top r)
report_fit top report.Plain h = (omega arith, (omega arith, (omega arith, tt)))
report_fit top report.Updiscon h = (omega arith, (omega arith, (omega arith, tt)))
report_fit top report.Notify h = (omega arith, (omega arith, (omega arith, tt)))

address_fit : (delta : ℕ) (r : Report) → IsAddress delta → Fit (address_fields delta r)
address_fit delta r h = (omega (arith, h.0), report_fit (delta / 2 ^ 63) r (omega (arith, h.0)))

branches_fit : (spare : ℕ) (os : List Bool) (delta : ℕ) (r : Report) → AreOutcomes os
    → spare < 2 ^ (map_width (length os) - length os) → IsAddress delta
    → Fit (branches_fields spare os delta r)
branches_fit spare os delta r few unused h = (
  omega arith,
  (
    omega arith,
    (
      map-lt (length os) (map_width (length os)) (map_of os) spare
          (map_sizes (length os) few).0 (map_of-lt os) unused,
      address_fit delta r h,
    ),
  ),
)

trap_fit : (taken : Bool) (privilege cause : ℕ) (interrupt handler : Bool) (address : ℕ) (behind : List Field)
    → privilege ≤ 3 → cause < 64 → IsAddress address → Fit behind
    → Fit (trap_fields taken privilege cause interrupt handler address behind)
trap_fit taken privilege cause interrupt handler address behind level some h fit = (
  omega arith,
  (
    omega arith,
    (
      branch-lt taken,
      (
        omega (arith, level),
        (some, (flag-lt interrupt, (flag-lt handler, (omega (arith, h.0), fit)))),
      ),
    ),
  ),
)

pub fields_fit : (spare : ℕ) (p : Packet) → InProfile p → spare < 2 ^ unused_bits p → Fit (fields_with spare p)
fields_fit spare (packet.Sync taken privilege address) h unused =
    (omega arith, (omega arith, (branch-lt taken, (omega (arith, h.0.0), (omega (arith, h.1.0), tt)))))
fields_fit spare (packet.Trap taken privilege cause true handler address tval) h unused =
    trap_fit taken privilege cause true handler address [] h.0.0 h.1 h.2 tt
fields_fit spare (packet.Trap taken privilege cause false handler address tval) h unused =
    trap_fit taken privilege cause false handler address (field 64 tval ∷ []) h.0.0 h.1 h.2 (h.3, tt)
fields_fit spare (packet.Support (support.Open mode.Differential)) h unused =
    (omega arith, (omega arith, (omega arith, (omega arith, (omega arith, (omega arith, tt))))))
fields_fit spare (packet.Support (support.Open mode.Full)) h unused =
    (omega arith, (omega arith, (omega arith, (omega arith, (omega arith, (omega arith, tt))))))
fields_fit spare (packet.Support support.EndedRep) h unused =
    (omega arith, (omega arith, (omega arith, (omega arith, (omega arith, (omega arith, tt))))))
fields_fit spare (packet.Support support.EndedNtr) h unused =
    (omega arith, (omega arith, (omega arith, (omega arith, (omega arith, (omega arith, tt))))))
fields_fit spare (packet.Address [] delta r) h unused = (omega arith, address_fit delta r h.1)
fields_fit spare (packet.Address (o ∷ os) delta r) h unused =
    branches_fit spare (o ∷ os) delta r h.0 unused h.1
fields_fit spare (packet.Map os) h unused =
    (omega arith, (omega arith, (subst (λ k. map_of os < 2 ^ k) h (map_of-lt os), tt)))

record IsHeld (fs : List Field) : Type 0 where
  pub some : 1 ≤ total fs
  pub few : total fs ≤ 144

fields_held : (spare : ℕ) (p : Packet) → InProfile p → IsHeld (fields_with spare p)
fields_held spare (packet.Sync taken privilege address) h = record { some = omega arith; few = omega arith }
fields_held spare (packet.Trap taken privilege cause true handler address tval) h =
    record { some = omega arith; few = omega arith }
fields_held spare (packet.Trap taken privilege cause false handler address tval) h =
    record { some = omega arith; few = omega arith }
fields_held spare (packet.Support (support.Open mode)) h = record { some = omega arith; few = omega arith }
fields_held spare (packet.Support support.EndedRep) h = record { some = omega arith; few = omega arith }
fields_held spare (packet.Support support.EndedNtr) h = record { some = omega arith; few = omega arith }
fields_held spare (packet.Address [] delta r) h =
    let tail = total-report_fields (delta / 2 ^ 63) r in record { some = omega arith; few = omega arith }
fields_held spare (packet.Address (o ∷ os) delta r) h =
    let tail = total-report_fields (delta / 2 ^ 63) r in
    let narrow = (map_sizes (length (o ∷ os)) h.0).1 in
    record { some = omega arith; few = omega arith }
fields_held spare (packet.Map os) h = record { some = omega arith; few = omega arith }

pub fields_sound : (spare : ℕ) (p : Packet) → InProfile p → spare < 2 ^ unused_bits p → AreSound (fields_with spare p)
fields_sound spare p h unused =
    let held = fields_held spare p h in
    record { some = held.some; few = held.few; fits = joined-lt (fields_with spare p) (fields_fit spare p h unused) }
