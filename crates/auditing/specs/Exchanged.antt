-- Harts whose messages came as those of another hart.
use Rattle.std.specs.Prelude.{ℕ, ◌==◌, ◌&&◌, ◌+◌, not, nat_lt, Bool, false, if◌then◌else◌, List, [], ◌∷◌, map, Option}
use Rattle.std.specs.Prelude.{Some, None}
use Rattle.std.specs.List.{count_by, filter, range_with_len}
use Rattle.message.specs.declared.message.Message.{Message}
use Rattle.auditing.specs.Fates.{is_true}
use Rattle.auditing.specs.Judged.{fates_counted}
use Rattle.auditing.specs.Sent.{harts_in}
use Rattle.auditing.specs.declared.exchange.Exchanged.{Exchanged}
use Rattle.auditing.specs.declared.fate.Fate.TheVariants as fate

-- SENT has the number and the payload of this message, of this hart.
abbrev pub has_of : List Message → Message → ℕ → Bool
has_of sent message hart = is_true sent (record message { hart = hart })

-- The one of these, if there is just one.
abbrev pub the_only : List ℕ → Option ℕ
the_only [] = None
the_only (one ∷ []) = Some one
the_only (one ∷ other ∷ more) = None

-- The hart of which SENT has the number and the payload of this message, if there is just one.
abbrev pub owner_of : List Message → Message → Option ℕ
owner_of sent message = the_only (filter (has_of sent message) (range_with_len 0 (harts_in sent)))

-- A hart is this one, if there is one.
abbrev pub is_hart : ℕ → Option ℕ → Bool
is_hart hart None = false
is_hart hart (Some other) = other == hart

-- A message is of this hart, and is not true: it has number and payload of a message that SENT has of another hart, and
-- of no other.
abbrev pub is_moved : List Message → ℕ → ℕ → Message → Bool
is_moved sent hart other message =
    message.hart == hart && (not (is_true sent message) && is_hart other (owner_of sent message))

-- How many messages of a hart in RECEIVED are not true, and are of another hart in SENT.
abbrev pub moved : List Message → List Message → ℕ → ℕ → ℕ
moved sent received hart other = count_by (is_moved sent hart other) received

-- How many messages of a hart in RECEIVED are not true.
abbrev pub untrue : List Message → List Message → ℕ → ℕ
untrue sent received hart =
    fates_counted sent received hart fate.Changed + fates_counted sent received hart fate.Stranger

-- So many messages are 8 at least, and more than half of these.
abbrev pub is_most : ℕ → ℕ → Bool
is_most count all = not (nat_lt count 8) && nat_lt all (count + count)

-- The first hart that most of these messages are of, by how many are of each hart from this one on.
abbrev pub first_exchanged : ℕ → ℕ → List ℕ → Option Exchanged
first_exchanged hart all [] = None
first_exchanged hart all (count ∷ counts) =
    if is_most count all then Some (record { hart = hart; count = count }) else first_exchanged (hart + 1) all counts

-- The hart that most of a hart's messages are of that came and are not true, if there is one: 8 of them at least, and
-- more than half. There is one such hart at most, since a message is counted for one.
abbrev pub exchanged : List Message → List Message → ℕ → Option Exchanged
exchanged sent received hart =
    first_exchanged 0 (untrue sent received hart) (map (moved sent received hart) (range_with_len 0 (harts_in sent)))
