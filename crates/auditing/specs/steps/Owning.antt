-- Whose the messages of SENT are, by a table.
use Rattle.std.specs.Prelude.{ℕ, ◌≡◌, ◌==◌, ◌&&◌, ◌+◌, Bool, true, false, List, [], ◌∷◌, Option, Some, None, slice_get}
use Rattle.std.specs.HashMap.{HashMap, get_by}
use Rattle.std.specs.Str.{bytes_eq}
use Rattle.arrayvec.specs.ArrayVec.{ArrayVec}
use Rattle.payload.specs.Same.{known_by}
use Rattle.payload.specs.declared.by.By.{By}
use Rattle.auditing.specs.Ledger.{HartLedger}
use Rattle.auditing.specs.steps.Moving.{owner_in}

-- What a table has with a number and these bytes.
abbrev pub found : {S : Type 0} → HashMap (ℕ × ArrayVec ℕ) (Option ℕ) S → ℕ → List ℕ → Option (Option ℕ)
found table number bytes = get_by (λ (key : ℕ × ArrayVec ℕ). (number == key.0) && bytes_eq bytes key.1.items) table

-- The only hart, if there is just one, by what a table has.
abbrev pub the_owner : Option (Option ℕ) → Option ℕ
the_owner None = None
the_owner (Some owner) = owner

-- The payload, if there is one, is known by these bytes.
abbrev pub is_known_by : By → List ℕ → Option (List ℕ) → Bool
is_known_by how bytes None = false
is_known_by how bytes (Some sent) = bytes_eq bytes (known_by how sent)

-- What a table has after one more hart, which has a message of this kind or not.
abbrev pub owner_after : Bool → ℕ → Option (Option ℕ) → Option (Option ℕ)
owner_after false hart owner = owner
owner_after true hart None = Some (Some hart)
owner_after true hart (Some owner) = Some None

-- What a table has with a number and these bytes after these harts, of which the first is this one.
abbrev pub owners_after : By → ℕ → List ℕ → ℕ → List HartLedger → Option (Option ℕ) → Option (Option ℕ)
owners_after how number bytes hart [] owner = owner
owners_after how number bytes hart (own ∷ harts) owner =
    owners_after how number bytes (hart + 1) harts
    (owner_after (is_known_by how bytes (slice_get own.payloads number)) hart owner)

-- A complete table has the only hart of each number and payload.
abbrev pub KeepsOwners : {S : Type 0} → By → List HartLedger → Bool → HashMap (ℕ × ArrayVec ℕ) (Option ℕ) S → Type 0
KeepsOwners how harts complete table =
    complete ≡ true
    → (number : ℕ) (payload : List ℕ) → the_owner (found table number (known_by how payload)) ≡ owner_in how harts number payload
