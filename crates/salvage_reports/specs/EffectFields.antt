-- What a message adds is tabled as a listing without damage tables it.
use Rattle.std.specs.Prelude.{ℕ, ◌≡◌, Bool, List, [], ◌∷◌, Result, codes, length}
use Rattle.std.specs.Fmt.{decimal}
use Rattle.retire.specs.declared.event.Event.{Event}
use Rattle.payload.specs.declared.fault.PackFault.{PackFault}
use Rattle.payload.specs.declared.packet.Packet.{Packet}
use Rattle.listing.specs.PacketEnding.{read_closes, read_waits}
use Rattle.listing.specs.Rows.{first_of, flag_field, last_of, place_field}
use Rattle.listing.specs.SettledRows.{first_row, last_row, row_field}
use Rattle.salvaging.specs.Shares.{Adds}
use Rattle.salvaging.specs.Treatments.{treatment_of}
use Rattle.salvage_reports.specs.Fields.{done_fields, first_place, last_place}

-- A message that adds events has the fields that a listing has for that effect, with what is done with it and whether it is
-- far or late between them, and the names of the same places.
pub record TakenHaveTheirEffect : Type 0 where
  pub fields : (written : List ℕ → List ℕ) (read : Result Packet PackFault) (events : List Event) (far late : Bool) (rows : ℕ)
      → done_fields written read
      (record { treated = record { treatment = treatment_of (Adds events); far = far; late = late }; rows = rows })
      ≡ flag_field (read_waits read) ∷ flag_field (read_closes read) ∷ codes "taken" ∷ written [] ∷ flag_field far
      ∷ flag_field late ∷ [] ∷ decimal (length events) ∷ row_field (first_row rows (length events))
      ∷ row_field (last_row rows (length events)) ∷ place_field (first_of events) ∷ place_field (last_of events) ∷ []
  pub first : (events : List Event) → first_place (treatment_of (Adds events)) ≡ first_of events
  pub last : (events : List Event) → last_place (treatment_of (Adds events)) ≡ last_of events
