-- What became of each message of RECEIVED, by the alignments of the harts.
use Rattle.std.specs.Prelude.{ℕ, ◌+◌, ◌==◌, ◌++◌, nat_lt, Bool, true, if◌then◌else◌, List, [], ◌∷◌, Option, Some, None}
use Rattle.std.specs.Prelude.{drop, length, map, slice_get, slice_set}
use Rattle.std.specs.List.{position_or_len}
use Rattle.auditing.specs.Matches.{Flags}
use Rattle.auditing.specs.Cursor.{Cursor}
use Rattle.auditing.specs.declared.arrivals.Arrival.{Arrival}
use Rattle.auditing.specs.declared.arrivals.Arrival.TheVariants as arrival
use Rattle.auditing.specs.declared.arrival_line.Line.{Line}
use Rattle.auditing.specs.declared.arrival_line.Line.TheVariants as line

-- Before the first message of a hart.
abbrev pub start : Flags → Cursor
start flags = record { number = 0; sent = flags.sent; came = flags.came }

-- How many of these flags are not set, up to the first one that is.
abbrev pub skipped : List Bool → ℕ
skipped flags = position_or_len (λ flag. flag) flags

-- A message that is matched: with the next number that is.
abbrev pub matched : ℕ → List Bool → Arrival
matched number sent =
    if nat_lt (skipped sent) (length sent) then arrival.Matched (number + skipped sent) (skipped sent) else
    arrival.Extra

-- What became of the next message of a hart: by its flag, the first of those that are left.
abbrev pub arrival_at : ℕ → List Bool → List Bool → Arrival
arrival_at number sent (true ∷ came) = matched number sent
arrival_at number sent came = arrival.Extra

-- What is left of a hart after its next message, by what became of that message.
abbrev pub after : Cursor → Arrival → Cursor
after own (arrival.Matched number skips) =
    record { number = number + 1; sent = drop (skips + 1) own.sent; came = drop 1 own.came }
after own other = record { number = own.number; sent = own.sent; came = drop 1 own.came }

-- What became of a message of a hart. One of a hart that SENT has not is a stranger.
abbrev pub arrival_of : Option Cursor → Arrival
arrival_of None = arrival.Stranger
arrival_of (Some own) = arrival_at own.number own.sent own.came

-- What is left of all harts after the next message of this hart.
abbrev pub moved : List Cursor → ℕ → Option Cursor → List Cursor
moved cursors hart None = cursors
moved cursors hart (Some own) = slice_set cursors hart (after own (arrival_of (Some own)))

-- The line of a message of a hart at a place of RECEIVED. There is none where it is matched and skips no number.
abbrev pub arrival_line : ℕ → ℕ → Arrival → List Line
arrival_line place hart arrival.Stranger = line.Stranger place hart ∷ []
arrival_line place hart arrival.Extra = line.Extra place hart ∷ []
arrival_line place hart (arrival.Matched number skips) =
    if skips == 0 then [] else line.Skips place hart number skips ∷ []

-- The lines of messages of these harts, one after the other. The first is at this place of RECEIVED.
abbrev pub lines_from : List Cursor → ℕ → List ℕ → List Line
lines_from cursors place [] = []
lines_from cursors place (hart ∷ harts) =
    arrival_line place hart (arrival_of (slice_get cursors hart))
    ++ lines_from (moved cursors hart (slice_get cursors hart)) (place + 1) harts

-- The lines of the messages of RECEIVED, which are of these harts, by the flags of the harts of SENT.
abbrev pub arrival_lines : List Flags → List ℕ → List Line
arrival_lines all harts = lines_from (map start all) 0 harts
