-- The fields of what salvaging does with a message.
use Rattle.std.specs.Prelude.{ℕ, ◌==◌, if◌then◌else◌, Bool, List, [], ◌∷◌, Option, Some, None, Result, codes}
use Rattle.std.specs.Fmt.{decimal}
use Rattle.payload.specs.declared.fault.PackFault.{PackFault}
use Rattle.payload.specs.declared.packet.Packet.{Packet}
use Rattle.listing.specs.PacketEnding.{read_closes, read_waits}
use Rattle.listing.specs.Rows.{flag_field, place_field}
use Rattle.listing.specs.SettledRows.{first_row, last_row, row_field}
use Rattle.salvaging.specs.ReasonText.{reason_text}
use Rattle.salvaging.specs.TreatedParts.{taken_by}
use Rattle.salvaging.specs.declared.treatment.Treatment.{Treatment}
use Rattle.salvaging.specs.declared.treatment.Treatment.TheVariants as treatment
use Rattle.salvage_reports.specs.declared.hart_rows.TreatedInRows.{TreatedInRows}

-- The word for what is done with a message.
abbrev pub treatment_field : Treatment → List ℕ
treatment_field treatment.Stranger = codes "stranger"
treatment_field treatment.Copy = codes "copy"
treatment_field treatment.Doubtful = codes "doubtful"
treatment_field (treatment.Bad why) = codes "bad"
treatment_field treatment.Alone = codes "alone"
treatment_field treatment.Passed = codes "passed"
treatment_field (treatment.Taken added) = codes "taken"

-- Why a message is bad, written in this way.
abbrev pub why_field : (List ℕ → List ℕ) → Treatment → List ℕ
why_field written (treatment.Bad why) = written (reason_text why)
why_field written other = written []

-- Whether this is so, of a message that is taken.
abbrev pub taken_flag : Bool → Treatment → List ℕ
taken_flag flag (treatment.Taken added) = flag_field flag
taken_flag flag other = []

-- How many events a message adds that is taken.
abbrev pub count_field : Treatment → List ℕ
count_field (treatment.Taken added) = decimal added.count
count_field other = []

-- A place, if there is an event.
abbrev pub place_if : ℕ → ℕ → Option ℕ
place_if count at = if count == 0 then None else Some at

-- The place of the first event that a message adds, if it adds one, and that of the last.
abbrev pub first_place : Treatment → Option ℕ
first_place (treatment.Taken added) = place_if added.count added.first
first_place other = None

abbrev pub last_place : Treatment → Option ℕ
last_place (treatment.Taken added) = place_if added.count added.last
last_place other = None

-- The fields after those of the packet, which a payload unpacks to, and before the names of places: whether a packet that
-- is taken waits for the one that follows it, and whether it closes its hart; what is done with the message, and why it is
-- bad; whether it is far, and whether it is late; how many events it adds, which rows they are of its hart, and the places
-- of the first and of the last of them.
abbrev pub done_fields : (List ℕ → List ℕ) → Result Packet PackFault → TreatedInRows → List (List ℕ)
done_fields written read one =
    let treated = one.treated in
    taken_flag (read_waits read) treated.treatment ∷ taken_flag (read_closes read) treated.treatment
    ∷ treatment_field treated.treatment ∷ why_field written treated.treatment ∷ flag_field treated.far
    ∷ flag_field treated.late ∷ [] ∷ count_field treated.treatment ∷ row_field (first_row one.rows (taken_by treated.treatment))
    ∷ row_field (last_row one.rows (taken_by treated.treatment)) ∷ place_field (first_place treated.treatment)
    ∷ place_field (last_place treated.treatment) ∷ []
