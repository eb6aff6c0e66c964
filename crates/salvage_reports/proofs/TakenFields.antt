-- A message that adds events has the fields of its effect.
use Rattle.std.proofs.Common.{◌≡◌, ◌==◌, List, [], ◌∷◌, ℕ, arith, false, refl}
use Rattle.std.proofs.lemmas.Bool.{ne_eqb}
use Rattle.std.specs.Fmt.{decimal}
use Rattle.std.specs.Prelude.{Bool, Result, codes, length}
use Rattle.retire.specs.declared.event.Event.{Event}
use Rattle.payload.specs.declared.fault.PackFault.{PackFault}
use Rattle.payload.specs.declared.packet.Packet.{Packet}
use Rattle.listing.specs.PacketEnding.{read_closes, read_waits}
use Rattle.listing.specs.Rows.{first_of, flag_field, last_of, place_field}
use Rattle.listing.specs.SettledRows.{first_row, last_row, row_field}
use Rattle.salvaging.specs.Shares.{Adds}
use Rattle.salvaging.specs.Treatments.{treatment_of}
use Rattle.salvage_reports.specs.EffectFields.{TakenHaveTheirEffect}
use Rattle.salvage_reports.specs.Fields.{done_fields, first_place, last_place}

-- One event or more is not none.
some : (event : Event) (events : List Event) → (length (event ∷ events) == 0) ≡ false
some event events = ne_eqb (length (event ∷ events)) 0 (λ e. absurd (omega (arith, e)))

fields_are : (written : List ℕ → List ℕ) (read : Result Packet PackFault) (events : List Event) (far late : Bool) (rows : ℕ)
    → done_fields written read
    (record { treated = record { treatment = treatment_of (Adds events); far = far; late = late }; rows = rows })
    ≡ flag_field (read_waits read) ∷ flag_field (read_closes read) ∷ codes "taken" ∷ written [] ∷ flag_field far
    ∷ flag_field late ∷ [] ∷ decimal (length events) ∷ row_field (first_row rows (length events))
    ∷ row_field (last_row rows (length events)) ∷ place_field (first_of events) ∷ place_field (last_of events) ∷ []
fields_are written read [] far late rows = refl
fields_are written read (event ∷ events) far late rows = rw (some event events) refl

first_is : (events : List Event) → first_place (treatment_of (Adds events)) ≡ first_of events
first_is [] = refl
first_is (event ∷ events) = rw (some event events) refl

last_is : (events : List Event) → last_place (treatment_of (Adds events)) ≡ last_of events
last_is [] = refl
last_is (event ∷ events) = rw (some event events) refl

pub taken_fields : TakenHaveTheirEffect
taken_fields = record { fields = fields_are; first = first_is; last = last_is }
