-- What a live audit holds, and what it stands for.
use Rattle.std.specs.Prelude.{ℕ, ◌≡◌, ◌+◌, ◌^◌, ◌<◌, ◌≤◌, ◌++◌, Bool, true, false, List, [], Option, Some, None}
use Rattle.std.specs.Prelude.{Result, Ok, Err, length, slice_get}
use Rattle.live.specs.Course.{Course, ending, moves_near}
use Rattle.live.specs.Following.{Audited, EndsWell, FailsAt, IsLeftAt, IsLookFault, Left, Reads, WasAsked}
use Rattle.live.specs.Holding.{Holding}
use Rattle.live.specs.Lines.{Line}
use Rattle.live.specs.Live.{State, Step, finished, stays}
use Rattle.live.specs.ReceivedLeft.{AllSought, FailsFor}
use Rattle.live.specs.Runs.{no_run}
use Rattle.live.specs.declared.arrived.Arrived.{Arrived}
use Rattle.live.specs.declared.fault.LookFault.{LookFault}
use Rattle.live.specs.declared.fault.ReceivedFault.{ReceivedFault}
use Rattle.live.specs.declared.fault.ReceivedFault.TheVariants as received
use Rattle.live.specs.declared.run.Run.{Run}

-- What is held of SENT; of each hart the message that is undecided, if one is; and of each hart the run that goes on.
pub record LiveHolding : Type 0 where
  pub window : Holding
  pub waiting : List (Option Arrived)
  pub runs : List Run

-- The message of a hart that waits, if the hart is known and one does.
abbrev pub waiting_at : Option (Option Arrived) → Option Arrived
waiting_at None = None
waiting_at (Some one) = one

-- The same, of each hart.
abbrev pub waiting_in : List (Option Arrived) → ℕ → Option Arrived
waiting_in waiting hart = waiting_at (slice_get waiting hart)

-- The run of a hart, if the hart is known.
abbrev pub run_at : Option Run → Run
run_at None = no_run
run_at (Some run) = run

-- The same, of each hart.
abbrev pub runs_in : List Run → ℕ → Run
runs_in runs hart = run_at (slice_get runs hart)

-- What is held agrees with a state. So many messages of SENT were read, and the others are left, with why SENT ends.
-- The message of a hart that waits is one of that hart. There is a window, and there are no more harts than numbers for them.
pub record Stands (all : Audited) (read : ℕ) (state : State) (own : LiveHolding) (left : Left) : Type 0 where
  pub reads : Reads all read state.came state.front own.window left
  pub waiting : waiting_in own.waiting ≡ state.waiting
  pub runs : runs_in own.runs ≡ state.runs
  pub by : state.by ≡ all.by
  pub waits : length own.waiting ≡ all.harts
  pub counts : length own.runs ≡ all.harts
  pub own_hart : (hart : ℕ) (one : Arrived) → state.waiting hart ≡ Some one → one.message.hart ≡ hart
  pub some : 1 ≤ all.window
  pub few : all.harts ≤ 2 ^ 16

-- A step was made, and its lines were handed over. This is held then, where so many messages of SENT were read.
pub record GoesTo (all : Audited) (read : ℕ) (Told : List Line → Type 0) (step : Step) (own : LiveHolding)
    (left : Left) : Type 0 where
  pub stands : Stands all read step.state own left
  pub told : Told step.lines

-- A step was made, and so many messages of SENT were read, as often as it was asked.
abbrev pub Goes : Audited → (List Line → Type 0) → Course → LiveHolding → Left → Type 0
Goes all Told course own left =
    (read : ℕ) × GoesTo all read Told course.step own left × WasAsked all course.asked read

-- SENT could not be read on in a call before which it was asked so often: the lines that are told up to there were handed
-- over, with which those of the step begin.
pub record Stops (all : Audited) (Told : List Line → Type 0) (from : ℕ) (course : Course) (why : LookFault) (left : Left)
    : Type 0 where
  pub fails : FailsAt all from course.asked why left
  pub rest : List Line
  pub parts : course.told fails.asked ++ rest ≡ course.step.lines
  pub told : Told (course.told fails.asked)

-- A step was made, or SENT could not be read on.
abbrev pub Went : {U : Type 0} → Audited → (List Line → Type 0) → ℕ → Course → Result U LookFault → LiveHolding → Left
    → Type 0
Went all Told from course (Ok done) own left = Goes all Told course own left
Went all Told from course (Err why) own left = Stops all Told from course why left

-- RECEIVED has ended, and one message more of SENT was read, with the front at least a window before it; or SENT has ended
-- too, without a fault; or it could not be read on.
abbrev pub ReadsSent : Audited → ℕ → (List Line → Type 0) → State → Result Bool LookFault → LiveHolding → Left → Type 0
ReadsSent all read Told state (Ok false) own left =
    (read < length all.sent) × GoesTo all (read + 1) Told (moves_near all (read + 1) state) own left
ReadsSent all read Told state (Ok true) own left =
    (read ≡ length all.sent) × GoesTo all read Told (stays state) own left × EndsWell all
ReadsSent all read Told state (Err why) own left = IsLookFault all read why × IsLeftAt all read why left × Told []

-- The lines that are left were handed over, and SENT has no fault; or it could not be read on.
abbrev pub Ended : {U : Type 0} → Audited → ℕ → (List Line → Type 0) → State → Result U LookFault → Left → Type 0
Ended all read Told state (Ok done) left = Told (finished all.harts all.window all.sent state).lines × EndsWell all
Ended all read Told state (Err why) left = Stops all Told read (ending all state) why left

-- RECEIVED is read on by what is held, while so many messages of SENT were read, and then more, to look up messages that
-- begin one of the first so many bytes; or SENT could not be read on for that.
abbrev pub StandsOn : {X : Type 0} → Audited → ℕ → State → List ℕ → ℕ → Result X ReceivedFault → LiveHolding → Left → Type 0
StandsOn all read state bytes most (Ok found) own left =
    (more : ℕ) × Stands all more state own left × (read ≤ more) × AllSought all state.front read more bytes most
StandsOn all read state bytes most (Err (received.File why)) own left = Unit {0}
StandsOn all read state bytes most (Err (received.Sent why)) own left =
    FailsFor all state.front read bytes most why left
