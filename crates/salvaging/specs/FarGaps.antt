-- What is reported of the gaps of a hart's log, where its far numbers are not believed.
use Rattle.std.specs.Prelude.{ℕ, zero, suc, ◌+◌, ◌-◌, ◌++◌, Bool, true, false, List, [], ◌∷◌, count_by}
use Rattle.salvaging.specs.Entries.{Entry, Used, Doubtful, entry_number}
use Rattle.salvaging.specs.LeftParts.{LeftPart, Missing}
use Rattle.salvaging.specs.Tallies.{next_behind}
use Rattle.salvaging.specs.declared.far_number.FarNumber.{FarNumber}
use Rattle.salvaging.specs.declared.far_number.FarTreatment.{FarTreatment}
use Rattle.salvaging.specs.declared.far_number.FarTreatment.TheVariants as far
use Rattle.salvaging.specs.declared.treatment.Treatment.{Treatment}
use Rattle.salvaging.specs.declared.treatment.Treatment.TheVariants as treatment

-- A gap that is reported, where so many numbers are missing; none where there is none.
abbrev pub reported_gap : ℕ → List ℕ
reported_gap zero = []
reported_gap (suc missing) = suc missing ∷ []

-- What is reported of the gap before an entry, which is far or not, where this is the number after the last one that is
-- believed: 0 before a far number, and else how many numbers are missing, as if no far one had come.
abbrev pub gap_before : Bool → ℕ → Entry → List ℕ
gap_before true next entry = 0 ∷ []
gap_before false next entry = reported_gap (entry_number entry - next)

-- The number after the last one that is believed, behind an entry.
abbrev pub believed_behind : Bool → ℕ → Entry → ℕ
believed_behind true next entry = next
believed_behind false next entry = next_behind entry

-- What is reported of the gaps before each of these entries, by which of them are far.
abbrev pub reported_gaps : ℕ → List Entry → List Bool → List ℕ
reported_gaps next [] flags = []
reported_gaps next (entry ∷ entries) [] = []
reported_gaps next (entry ∷ entries) (flag ∷ flags) =
    gap_before flag next entry ++ reported_gaps (believed_behind flag next entry) entries flags

-- What is done with the message of a far number with which this is done.
abbrev pub treatment_of_far : Treatment → FarTreatment
treatment_of_far (treatment.Taken added) = far.Taken
treatment_of_far treatment.Passed = far.Passed
treatment_of_far other = far.Bad

-- The entry as a far number with whose message this is done.
abbrev pub far_number : Entry → FarTreatment → List FarNumber
far_number (Used number place payload) treatment =
    record { number = number; place = place; treatment = treatment } ∷ []
far_number (Doubtful number first second) treatment = []

-- The same, if the entry is far.
abbrev pub far_if : Bool → Entry → FarTreatment → List FarNumber
far_if true entry treatment = far_number entry treatment
far_if false entry treatment = []

-- The far ones among these entries, by what is kept of what is done with the message of each.
abbrev pub far_among : {M : Type 0} → (M → FarTreatment) → List Entry → List M → List Bool → List FarNumber
far_among treats [] kept flags = []
far_among treats (entry ∷ entries) [] flags = []
far_among treats (entry ∷ entries) (one ∷ kept) [] = []
far_among treats (entry ∷ entries) (one ∷ kept) (flag ∷ flags) =
    far_if flag entry (treats one) ++ far_among treats entries kept flags

-- The message of the far number is decoded.
abbrev pub is_far_taken : FarTreatment → Bool
is_far_taken far.Taken = true
is_far_taken other = false

-- It is passed over.
abbrev pub is_far_passed : FarTreatment → Bool
is_far_passed far.Passed = true
is_far_passed other = false

-- How many far numbers have a message that is decoded, and how many one that is passed over.
abbrev pub far_taken : List FarNumber → ℕ
far_taken numbers = count_by (λ (one : FarNumber). is_far_taken one.treatment) numbers

abbrev pub far_passed : List FarNumber → ℕ
far_passed numbers = count_by (λ (one : FarNumber). is_far_passed one.treatment) numbers

-- The numbers that are believed: those that are used and not far.
abbrev pub believed_numbers : List Entry → List Bool → List ℕ
believed_numbers [] flags = []
believed_numbers (entry ∷ entries) [] = []
believed_numbers (Used number place payload ∷ entries) (false ∷ flags) = number ∷ believed_numbers entries flags
believed_numbers (entry ∷ entries) (flag ∷ flags) = believed_numbers entries flags

-- The number after the last of these; this one where there is none.
abbrev pub number_after : ℕ → List ℕ → ℕ
number_after next [] = next
number_after next (number ∷ numbers) = number_after (number + 1) numbers

-- How many numbers each gap among these parts misses.
abbrev pub missing_in : List LeftPart → List ℕ
missing_in [] = []
missing_in (Missing count ∷ parts) = count ∷ missing_in parts
missing_in (part ∷ parts) = missing_in parts
