-- What is under way of a hart.
use Rattle.std.specs.Prelude.{ℕ, zero, suc, ◌≡◌, ◌≢◌, ◌+◌, ◌-◌, ◌++◌, Bool, true, false, List, [], ◌∷◌, Ok, Option, Some}
use Rattle.std.specs.Prelude.{None}
use Rattle.std.specs.Prelude.{length}
use Rattle.retire.specs.declared.event.Event.{Event}
use Rattle.rvclass.specs.Words.{Words}
use Rattle.payload.specs.Closing.{is_closing_packet}
use Rattle.payload.specs.Reading.{reading}
use Rattle.payload.specs.declared.mode.Mode.{Mode}
use Rattle.payload.specs.declared.packet.Packet.{Packet}
use Rattle.losses.specs.Runs.{Run, longer, mode_of_first, mode_or, run_behind, run_of}
use Rattle.losses.specs.steps.FollowingRuns.{FollowsRun}
use Rattle.salvaging.specs.Bad.{IsBad, IsGood}
use Rattle.salvaging.specs.LeftParts.{LeftPart, BadNumber, DoubtfulNumber, gap, stretch}
use Rattle.salvaging.specs.Leaving.{LeavesBefore, RunLeaves, kept}
use Rattle.salvaging.specs.PartsIn.{parts_in}
use Rattle.salvaging.specs.Shares.{Share, Adds, Passes, Spoils, IsGoodShare}
use Rattle.salvaging.specs.Treatments.{treatment_of}
use Rattle.salvaging.specs.declared.part.Part.{Part}
use Rattle.salvaging.specs.declared.reason.Reason.{Reason}
use Rattle.salvaging.specs.declared.trail.Trail.{Trail}
use Rattle.salvaging.specs.declared.treatment.Treatment.{Treatment}

-- The stretch under way begins with this number, where the packets that give it are so many up to below `next`; or it
-- has not begun, and there are none.
abbrev pub BeginsWith : Option ℕ → ℕ → List Packet → Type 0
BeginsWith None next packets = packets ≡ []
BeginsWith (Some first) next packets = (first + length packets ≡ next) × (packets ≢ [])

-- Numbers are lost before a run, where this is how many.
abbrev pub are_lost : ℕ → Bool
are_lost zero = false
are_lost (suc missing) = true

-- The stretch has begun with this number where it had begun before, or where the packet with the number begins it: any
-- packet does, unless a synchronisation is looked for.
abbrev pub begun_by : Bool → Bool → ℕ → Option ℕ → Option ℕ
begun_by looking sync number (Some first) = Some first
begun_by false sync number None = Some number
begun_by true true number None = Some number
begun_by true false number None = None

-- The next number that is used, where the packet closes the trace.
abbrev pub early : Bool → Option ℕ → Option ℕ
early true following = following
early false following = None

-- A run is under way, `next` is the number after its last one, and the decoder follows it and reads it in this mode. In
-- the run from number 0 on that is the mode which its first packet announces, or the one handed in.
pub record IsUnderWay {A : Type 0} (words : Words) (mode reads : Mode) (run : Run) (next : ℕ) (closed : Bool)
    (trail : Trail A) : Type 0 where
  pub follows : FollowsRun words mode reads run.missing run.packets closed trail.events.items trail.decoder
  pub first_reads : run.missing ≡ 0 → reads ≡ mode_of_first 0 mode run.packets
  pub next_is : trail.next ≡ next
  pub looking : trail.looking ≡ are_lost run.missing
  pub begins : BeginsWith trail.begun next (kept run.missing run.packets)

-- Parts were added after those that were there.
abbrev pub AddsParts : {A : Type 0} → List LeftPart → List (Part A) → List (Part A) → Type 0
AddsParts added old new = parts_in new ≡ parts_in old ++ added

-- The stretch under way became the last part, where it has an event. These packets give it.
pub record EndsStretch {A : Type 0} (next : ℕ) (packets : List Packet) (old new : Trail A) : Type 0 where
  pub added : AddsParts (stretch next (length packets) old.events.items) old.parts.items new.parts.items
  pub none_left : new.events.items ≡ []

-- The run under way was ended: what it leaves was added, and a run after lost numbers is under way.
pub record EndsRun {A : Type 0} (words : Words) (mode reads : Mode) (run : Run) (next : ℕ) (closed : Bool)
    (old new : Trail A) : Type 0 where
  pub left : List LeftPart
  pub leaves : RunLeaves words reads run next left
  pub added : AddsParts left old.parts.items new.parts.items
  pub under_way : (lost : ℕ) → IsUnderWay words mode reads (run_of (suc lost) []) next closed new

-- The trail went on to this number, which is `next` or greater: where numbers are lost before it, the run was ended and
-- a gap added.
pub record GoesOn {A : Type 0} (words : Words) (mode reads : Mode) (run : Run) (next number : ℕ)
    (old new : Trail A) : Type 0 where
  pub left : List LeftPart
  pub leaves : LeavesBefore words reads run next (number - next) left
  pub added : AddsParts left old.parts.items new.parts.items
  pub under_way : IsUnderWay words mode reads (run_behind (number - next) run) number false new

-- The mode in which a run is read with this packet more, where so many numbers are missing before it: the first packet
-- of the run from number 0 on may announce it.
abbrev pub reads_behind : Mode → Mode → ℕ → List Packet → Packet → Mode
reads_behind mode reads zero [] packet = mode_or mode packet
reads_behind mode reads missing packets packet = reads

-- A used message was checked: it is good, and the run under way has its packet more; or it is bad for this reason, and
-- the run is as it was.
abbrev pub Judged : {A : Type 0} → Words → Mode → Mode → Run → ℕ → List ℕ → Option ℕ → Option Reason → Trail A
    → Type 0
Judged words mode reads run number payload following None new =
    (packet : Packet) × IsGood words (reads_behind mode reads run.missing run.packets packet) run payload following
    packet
    × IsUnderWay words mode (reads_behind mode reads run.missing run.packets packet) (longer run (packet ∷ []))
    (number + 1) (is_closing_packet packet) new
Judged words mode reads run number payload following (Some why) new =
    IsBad words reads run payload following why × IsUnderWay words mode reads run number false new

-- The mode stays as it is when the packet of this payload is read after the run.
abbrev pub StaysRead : Mode → Run → List ℕ → Type 0
StaysRead mode run payload =
    (packet : Packet) → reading payload ≡ Ok packet → reads_behind mode mode run.missing run.packets packet ≡ mode

-- What a good message does whose stretch has begun with this number, if it has: these events are added by it.
abbrev pub share_by : Option ℕ → List Event → Share
share_by None events = Passes
share_by (Some first) events = Adds events

-- A bad message with this number was taken: the run under way was ended.
pub record TakesBad {A : Type 0} (words : Words) (mode : Mode) (run : Run) (number place : ℕ) (why : Reason)
    (old new : Trail A) : Type 0 where
  pub left : List LeftPart
  pub leaves : RunLeaves words mode run number left
  pub parts : AddsParts (left ++ BadNumber number place why ∷ []) old.parts.items new.parts.items
  pub under_way : IsUnderWay words mode mode (run_of 1 []) (number + 1) false new

-- A used message was taken after the run under way. It does this, and these parts were added.
abbrev pub Took : {A : Type 0} → Words → Mode → Run → ℕ → ℕ → List ℕ → Option ℕ → Share → List LeftPart → Trail A
    → Type 0
Took words mode run number place payload following (Spoils why) added new =
    IsBad words mode run payload following why
    × (left : List LeftPart) × RunLeaves words mode run number left
    × (added ≡ left ++ BadNumber number place why ∷ [])
    × IsUnderWay words mode mode (run_of 1 []) (number + 1) false new
Took words mode run number place payload following share added new =
    (added ≡ []) × (packet : Packet) × IsGood words mode run payload following packet
    × IsGoodShare words mode run packet share
    × IsUnderWay words mode mode (longer run (packet ∷ [])) (number + 1) (is_closing_packet packet) new

-- A used message with this number was taken, with which this is done.
pub record TakesUsed {A : Type 0} (words : Words) (mode : Mode) (run : Run) (next number place : ℕ)
    (payload : List ℕ) (following : Option ℕ) (treatment : Treatment) (old new : Trail A) : Type 0 where
  pub share : Share
  pub treated : treatment ≡ treatment_of share
  pub before : List LeftPart
  pub leaves : LeavesBefore words mode run next (number - next) before
  pub added : List LeftPart
  pub took : Took words mode (run_behind (number - next) run) number place payload following share added new
  pub parts : AddsParts (before ++ added) old.parts.items new.parts.items

-- A doubtful number was taken.
pub record TakesDoubtful {A : Type 0} (words : Words) (mode : Mode) (run : Run) (next number first second : ℕ)
    (closed : Bool) (old new : Trail A) : Type 0 where
  pub left : List LeftPart
  pub leaves : RunLeaves words mode run next left
  pub parts : AddsParts (left ++ (gap (number - next) ++ DoubtfulNumber number first second ∷ []))
      old.parts.items new.parts.items
  pub under_way : IsUnderWay words mode mode (run_of 1 []) number closed new
