-- What the entries of a hart leave of its log.
use Rattle.std.specs.Prelude.{ℕ, zero, suc, ◌≡◌, ◌+◌, ◌-◌, ◌++◌, Bool, true, false, List, [], ◌∷◌, Option, Ok}
use Rattle.std.specs.Prelude.{Result, length}
use Rattle.retire.specs.declared.event.Event.{Event}
use Rattle.rvclass.specs.Words.{Words}
use Rattle.payload.specs.Reading.{reading}
use Rattle.payload.specs.declared.fault.PackFault.{PackFault}
use Rattle.payload.specs.declared.mode.Mode.{Mode}
use Rattle.payload.specs.declared.packet.Packet.{Packet}
use Rattle.decoder.specs.Describes.{Describes}
use Rattle.losses.specs.Runs.{Run, from_sync, longer, mode_or, run_behind, run_of, trace_of_run}
use Rattle.salvaging.specs.Bad.{IsBad, IsGood}
use Rattle.salvaging.specs.Entries.{Entry, Used, Doubtful, next_used}
use Rattle.salvaging.specs.LeftParts.{LeftPart, Missing, BadNumber, DoubtfulNumber, gap, stretch}
use Rattle.salvaging.specs.declared.reason.Reason.{Reason}

-- The packets of a run that give its stretch, where so many numbers were lost before it: all of them in the run from
-- number 0 on, and else those from the first synchronisation packet on.
abbrev pub kept : ℕ → List Packet → List Packet
kept zero packets = packets
kept (suc lost) packets = from_sync packets

-- The run under way is over, whose last number is right before `next`. It leaves a stretch of the one log that its
-- trace describes.
abbrev pub RunLeaves : Words → Mode → Run → ℕ → List LeftPart → Type 0
RunLeaves words mode run next parts =
    (events : List Event) × Describes words (trace_of_run mode run) events
    × (parts ≡ stretch next (length (kept run.missing run.packets)) events)

-- Before a used number so many numbers were lost, which did not come or are doubtful. Where there are any, the run
-- under way is over, and a gap follows its stretch.
abbrev pub LeavesBefore : Words → Mode → Run → ℕ → ℕ → List LeftPart → Type 0
LeavesBefore words mode run next zero parts = parts ≡ []
LeavesBefore words mode run next (suc lost) parts =
    (before : List LeftPart) × RunLeaves words mode run next before × (parts ≡ before ++ Missing (suc lost) ∷ [])

-- The used message with this number and at this place is good or bad, as this says. A good one goes on with the run under way. A bad one
-- ends it, and a new run begins after it, before which numbers are lost: its stretch begins at a synchronisation. What
-- follows leaves the further parts.
abbrev pub UsedLeaves : Words → Mode → Run → ℕ → ℕ → List ℕ → Option ℕ → Bool → (Run → List LeftPart → Type 0)
    → List LeftPart → Type 0
UsedLeaves words mode run number place payload following true FollowingLeaves parts =
    (packet : Packet) × IsGood words mode run payload following packet
    × FollowingLeaves (longer run (packet ∷ [])) parts
UsedLeaves words mode run number place payload following false FollowingLeaves parts =
    (why : Reason) × IsBad words mode run payload following why
    × (before : List LeftPart) × RunLeaves words mode run number before
    × (rest : List LeftPart) × (parts ≡ before ++ BadNumber number place why ∷ rest)
    × FollowingLeaves (run_of 1 []) rest

-- The entries still to come leave these parts, where a run is under way and `next` is the number after its last one. Of
-- each entry `goods` says whether it is used and not bad.
--
-- A doubtful number ends the run under way. It is lost itself, and is counted by the gap after the run.
abbrev pub EntriesLeave : Words → Mode → Run → ℕ → List Entry → List Bool → List LeftPart → Type 0
EntriesLeave words mode run next [] [] parts = RunLeaves words mode run next parts
EntriesLeave words mode run next [] (good ∷ goods) parts = ⊥
EntriesLeave words mode run next (entry ∷ entries) [] parts = ⊥
EntriesLeave words mode run next (Used number place payload ∷ entries) (good ∷ goods) parts =
    (before : List LeftPart) × LeavesBefore words mode run next (number - next) before
    × (rest : List LeftPart) × (parts ≡ before ++ rest)
    × UsedLeaves words mode (run_behind (number - next) run) number place payload (next_used entries) good
    (λ behind. EntriesLeave words mode behind (number + 1) entries goods) rest
EntriesLeave words mode run next (Doubtful number first second ∷ entries) (good ∷ goods) parts =
    (good ≡ false) × (before : List LeftPart) × RunLeaves words mode run next before
    × (rest : List LeftPart) × (parts ≡ before ++ (gap (number - next) ++ DoubtfulNumber number first second ∷ rest))
    × EntriesLeave words mode (run_of 1 []) number entries goods rest

-- The mode that the message with this number announces, where the number is 0 and this was read of it; else this one.
abbrev pub mode_by : ℕ → Mode → Result Packet PackFault → Mode
mode_by zero mode (Ok packet) = mode_or mode packet
mode_by number mode read = mode

-- The mode in which a hart's trace is read: the one that its number 0 announces, where that is used and opens a trace;
-- else this one.
abbrev pub own_mode : Mode → List Entry → Mode
own_mode mode [] = mode
own_mode mode (Used number place payload ∷ entries) = mode_by number mode (reading payload)
own_mode mode (Doubtful number first second ∷ entries) = mode
