-- Counting the messages of a hart that are of another one.
use Rattle.std.specs.Prelude.{ℕ, ◌+◌, Bool, true, false, if◌then◌else◌, List, [], ◌∷◌, Option, Some, None, replicate}
use Rattle.std.specs.Prelude.{slice_get, slice_set}
use Rattle.payload.specs.Same.{same}
use Rattle.payload.specs.declared.by.By.{By}
use Rattle.auditing.specs.Audits.{capped}
use Rattle.auditing.specs.Exchanged.{the_only}
use Rattle.auditing.specs.Ledger.{HartLedger}
use Rattle.auditing.specs.declared.fate.Fate.{Fate}
use Rattle.auditing.specs.declared.fate.Fate.TheVariants as fate

-- Of so many harts none came as another.
abbrev pub none_moved : ℕ → List (List ℕ)
none_moved harts = replicate harts (replicate harts 0)

-- The payload that came is this one, if there is one.
abbrev pub is_payload : By → List ℕ → Option (List ℕ) → Bool
is_payload how came None = false
is_payload how came (Some sent) = same how sent came

-- A hart has a message with this number and this payload.
abbrev pub has_in : By → ℕ → List ℕ → HartLedger → Bool
has_in how number payload own = is_payload how payload (slice_get own.payloads number)

-- Those of these harts, of which the first is this one, that pass a test.
abbrev pub harts_that : (HartLedger → Bool) → ℕ → List HartLedger → List ℕ
harts_that test hart [] = []
harts_that test hart (own ∷ harts) =
    if test own then hart ∷ harts_that test (hart + 1) harts else harts_that test (hart + 1) harts

-- The only hart that has a message with this number and this payload, if there is just one.
abbrev pub owner_in : By → List HartLedger → ℕ → List ℕ → Option ℕ
owner_in how harts number payload = the_only (harts_that (has_in how number payload) 0 harts)

-- A list with the element at a place changed, by that element, if there is one.
abbrev pub changed_found : {A : Type 0} → (A → A) → List A → ℕ → Option A → List A
changed_found change list place None = list
changed_found change list place (Some own) = slice_set list place (change own)

abbrev pub changed_at : {A : Type 0} → (A → A) → List A → ℕ → List A
changed_at change list place = changed_found change list place (slice_get list place)

-- One more, where 2^64 - 1 stays.
abbrev pub counted_once : ℕ → ℕ
counted_once count = capped (count + 1)

-- The counts of all harts with one message more of a hart that is of another one, where SENT has both.
abbrev pub moved_more : List (List ℕ) → ℕ → ℕ → List (List ℕ)
moved_more moves hart owner = changed_at (λ counts. changed_at counted_once counts owner) moves hart

-- The counts after a message of a hart that is not true, by the hart whose it is, if there is one.
abbrev pub moves_by : List (List ℕ) → ℕ → Option ℕ → List (List ℕ)
moves_by moves hart None = moves
moves_by moves hart (Some owner) = moved_more moves hart owner

-- The counts after a message of a hart that is not true, or after another one.
abbrev pub moves_if : Bool → List (List ℕ) → ℕ → Option ℕ → List (List ℕ)
moves_if true moves hart owner = moves_by moves hart owner
moves_if false moves hart owner = moves

-- A message of this fate is not true.
abbrev pub is_untrue : Fate → Bool
is_untrue fate.Stranger = true
is_untrue fate.Changed = true
is_untrue other = false
