-- The front goes on, and SENT is read before it.
use Rattle.std.specs.Prelude.{ℕ, ◌≡◌, ◌⊎◌, ◌+◌, ◌<◌, Bool, true, false, List, [], Result, Ok, Err}
use Rattle.std.specs.Prelude.{length, slice_get, take}
use Rattle.live.specs.Auditing.{Goes, GoesTo, LiveHolding, Stands, Stops}
use Rattle.live.specs.Course.{Course, looking, moves_near, near_lines, reached}
use Rattle.live.specs.Following.{Audited, EndsWell, FailsAt, IsLeftAt, IsLookFault, Left, Reads, WasAsked}
use Rattle.live.specs.Holding.{Holding}
use Rattle.live.specs.Lines.{Line}
use Rattle.live.specs.Live.{State, Step, judged, read_up_to, standing_now, stays}
use Rattle.live.specs.declared.arrived.Arrived.{Arrived}
use Rattle.live.specs.declared.fault.LookFault.{LookFault}
use Rattle.live.specs.declared.standing.Standing.TheVariants as standing
use Rattle.live.specs.steps.Searching.{is_one}

-- None of so many messages of SENT is of this hart and has this number.
abbrev pub NoneBefore : Audited → ℕ → ℕ → ℕ → Type 0
NoneBefore all read hart number = (k : ℕ) → k < read → is_one hart number (slice_get all.sent k) ≡ false

-- There is a place for one message more, and the front is where it is needed for that.
abbrev pub MakesPlace : Audited → ℕ → (List Line → Type 0) → State → LiveHolding → Left → Type 0
MakesPlace all read Told state own left =
    GoesTo all read Told (moves_near all (read + 1) state) own left
    × (read < (moves_near all (read + 1) state).state.front + all.window)

-- One message more of SENT was read, and it is not the one of this hart with this number; or it is, or SENT has ended; or
-- SENT is not read on.
abbrev pub ReadsNext : Audited → ℕ → (List Line → Type 0) → State → ℕ → ℕ → Result Bool LookFault → LiveHolding
    → Left → Type 0
ReadsNext all read Told state hart number (Ok false) own left =
    (read < length all.sent) × (is_one hart number (slice_get all.sent read) ≡ false)
    × GoesTo all (read + 1) Told (moves_near all (read + 1) state) own left
ReadsNext all read Told state hart number (Ok true) own left =
    ((read ≡ length all.sent) × GoesTo all read Told (stays state) own left × EndsWell all)
    ⊎ ((is_one hart number (slice_get all.sent read) ≡ true)
    × GoesTo all (read + 1) Told (moves_near all (read + 1) state) own left)
ReadsNext all read Told state hart number (Err why) own left = IsLookFault all read why × IsLeftAt all read why left × Told []

-- SENT is read up to the message of this hart with this number, or to its end, and the front is at least a window before
-- that.
abbrev pub reaching : Audited → State → ℕ → ℕ → ℕ → Course
reaching all state hart number asked = record {
  step = moves_near all (read_up_to all.sent hart number) state;
  asked = reached all hart number asked;
  told = near_lines all state;
}

-- Where a message is does not depend on what follows the messages of SENT that were read.
abbrev pub IsSettled : Audited → ℕ → State → Arrived → Type 0
IsSettled all read state one =
    standing_now all.window (take read all.sent) state one.message ≡ standing_now all.window all.sent state one.message

-- A message was looked up: it is decided, or it is beyond the view, or SENT is not read on.
abbrev pub IsJudged : Audited → (List Line → Type 0) → ℕ → State → Arrived → Result Bool LookFault → LiveHolding → Left
    → Type 0
IsJudged all Told asked state one (Ok false) own left =
    (beyond : State → Arrived → Step)
    → Goes all Told (looking all state one.message (judged beyond all.window all.sent state one) asked) own left
IsJudged all Told asked state one (Ok true) own left =
    (standing_now all.window all.sent state one.message ≡ standing.Beyond)
    × Goes all Told (looking all state one.message (stays state) asked) own left
IsJudged all Told asked state one (Err why) own left =
    (beyond : State → Arrived → Step)
    → Stops all Told asked (looking all state one.message (judged beyond all.window all.sent state one) asked) why left

-- SENT was asked for a message up to so often to look a message up, or two, and this was found; or SENT is not read on.
abbrev pub IsFound : Audited → ℕ → ℕ → State → Bool → Result Bool LookFault → Holding → Left → Type 0
IsFound all from to state is (Ok found) own left =
    (found ≡ is) × ((read : ℕ) × Reads all read state.came state.front own left × WasAsked all to read)
IsFound all from to state is (Err why) own left = FailsAt all from to why left

-- The same, by all that is held.
abbrev pub IsAsked : Audited → ℕ → ℕ → State → Bool → Result Bool LookFault → LiveHolding → Left → Type 0
IsAsked all from to state is (Ok found) own left =
    (found ≡ is) × ((read : ℕ) × Stands all read state own left × WasAsked all to read)
IsAsked all from to state is (Err why) own left = FailsAt all from to why left
