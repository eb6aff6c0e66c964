-- What `replay` prints, and how it ends.
use Rattle.std.specs.Prelude.{◌≡◌, ℕ, ◌+◌, ◌<◌, ◌≤◌, ⊤, false, IsFalse, IsSomeAnd, List, [], ◌∷◌, Option, Some, None}
use Rattle.std.specs.Prelude.{◌^◌, Result, Ok, Err, if◌then◌else◌, length, nat_lt, slice_get}
use Rattle.std.specs.Result.{result_map_both}
use Rattle.legalpath.specs.ProgramLog.{ProgramLog}
use Rattle.payload.specs.declared.mode.Mode.{Mode}
use Rattle.message.specs.OfHart.{of_hart}
use Rattle.message.specs.Version.{most_harts}
use Rattle.message.specs.declared.header.Version.TheVariants.{Two}
use Rattle.message.specs.declared.message.Message.{Message}
use Rattle.funnel.specs.declared.turn.Turn.{Turn}
use Rattle.funnel.specs.Schedule.{schedule_of}
use Rattle.bench.specs.Got.{Got, HasGot, got_after, kept}
use Rattle.bench.specs.Replayed.{replayed}
use Rattle.bench.specs.Report.{is_whole, report_text}
use Rattle.bench.specs.declared.stop.Stop.{Stop}
use Rattle.bench.specs.declared.stop.Stop.TheVariants as stop
use Rattle.command_inputs.specs.declared.fault.Fault.TheVariants as fault
use Rattle.command_inputs.specs.declared.words.Replay.{Replay}
use Rattle.command_inputs.specs.FurtherPieces.{base_number}
use Rattle.command_inputs.specs.Faults.{Path}
use Rattle.command_inputs.specs.Found.{IsRead}
use Rattle.command_inputs.specs.FoundLogs.{AreAskedLogs}
use Rattle.log_streams.specs.Known.{Content}
use Rattle.command_inputs.specs.Meaning.{writing_at_once}
use Rattle.command_inputs.specs.Order.{logs_fault}
use Rattle.command_inputs.specs.Printed.{First}
use Rattle.log_commands.specs.Faults.{Fault, Meaning, Once, Printed, schedule_fault}
use Rattle.log_commands.specs.declared.reason.LogReason.TheVariants.{LargeSchedule}
use Rattle.log_commands.specs.Sending.{IsSetting, config_at, end_of_report}

-- The most bytes of a schedule.
abbrev pub most_schedule_bytes : ℕ
most_schedule_bytes = 2 ^ 27

-- The turns that a schedule's bytes spell for this many harts, or the fault where there are too many bytes or they are
-- no schedule.
abbrev pub schedule_in : ℕ → List ℕ → Result (List Turn) Fault
schedule_in harts bytes =
    if nat_lt most_schedule_bytes (length bytes) then Err (fault.Own LargeSchedule) else
    result_map_both (λ turns. turns) schedule_fault (schedule_of harts bytes)

-- The turns of a schedule's bytes, or the fault where they are not read or spell none.
abbrev pub schedule_at : ℕ → Result (List ℕ) Fault → Result (List Turn) Fault
schedule_at harts (Err why) = Err why
schedule_at harts (Ok bytes) = schedule_in harts bytes

-- The turns of the schedule at a path are found, for this many harts.
pub record IsSchedule (content : Content) (harts : ℕ) (path : Path) (found : Result (List Turn) Fault)
    : Type 0 where
  pub bytes : Result (List ℕ) Fault
  pub read : IsRead content path bytes
  pub made : found ≡ schedule_at harts bytes

-- What is received of each hart, from this hart on, where these messages were taken. Of each hart's log as many packets came
-- as there are messages of that hart.
abbrev pub gots_after : ℕ → ℕ → Mode → List ProgramLog → List Message → List Got
gots_after hart period mode [] taken = []
gots_after hart period mode (log ∷ logs) taken =
    kept false (got_after period mode log (length (of_hart hart taken))) ∷ gots_after (hart + 1) period mode logs taken

-- This is received of a hart where the first packets of its log were taken, at most `taken` of them.
abbrev pub IsGotOfSome : ℕ → Mode → ProgramLog → ℕ → Got → Type 0
IsGotOfSome period mode log taken got = (count : ℕ) × (count ≤ taken) × HasGot period mode false log count got

-- That holds of each hart, from this hart on, with the messages of it that were taken.
abbrev pub AreGotOfSome : ℕ → ℕ → Mode → List ProgramLog → List Message → List Got → Type 0
AreGotOfSome hart period mode [] taken [] = ⊤
AreGotOfSome hart period mode [] taken (got ∷ gots) = ⊥
AreGotOfSome hart period mode (log ∷ logs) taken [] = ⊥
AreGotOfSome hart period mode (log ∷ logs) taken (got ∷ gots) =
    IsGotOfSome period mode log (length (of_hart hart taken)) got × AreGotOfSome (hart + 1) period mode logs taken gots

-- Where there is no stop, this is received of all messages that were taken. The only stop is that an allocation for a
-- hart failed. Then fewer packets of that hart were received than messages of it taken, and its closing packet was not
-- received; and of each hart that is received which the first messages that were taken of it give.
abbrev pub AreGot : ℕ → Mode → List ProgramLog → List Message → Option Stop → List Got → Type 0
AreGot period mode logs taken None gots = gots ≡ gots_after 0 period mode logs taken
AreGot period mode logs taken (Some (stop.Memory hart)) gots =
    IsSomeAnd (slice_get gots hart) (λ got. IsFalse got.closed × (got.taken < length (of_hart hart taken)))
    × AreGotOfSome 0 period mode logs taken gots
AreGot period mode logs taken (Some why) gots = ⊥

-- The logs went through the funnel by these turns of the funnel machine, and the report of what is received of them is
-- written.
pub record WritesReport (asked : Replay) (logs : List ProgramLog) (turns : List Turn) (printed : Printed)
    : Type 0 where
  pub stop : Option Stop
  pub gots : List Got
  pub came : AreGot asked.period asked.mode logs
      (replayed asked.period asked.mode asked.capacity logs turns).taken stop gots
  pub text : printed.text ≡ report_text stop gots logs
  pub ended : printed.ended ≡ Ok (end_of_report stop (is_whole stop gots logs))

-- The turns of the schedule are found, and then whether the logs may be sent. Where there is no fault, the report of
-- what is received of these logs by these turns is written.
abbrev pub ReplaysLogs : Content → Replay → List ProgramLog → Printed → Type 0
ReplaysLogs content asked logs =
    First (IsSchedule content (length logs) asked.schedule) (λ turns.
    First (IsSetting (most_harts Two) (length logs) (config_at asked.period asked.mode asked.capacity)) (λ _.
    WritesReport asked logs turns))

-- The bases are looked at first, then the count of logs, the image with its further pieces, and each log. Where there
-- is no fault, the logs are replayed.
abbrev pub Replays : Content → Replay → Printed → Type 0
Replays content asked =
    First (AreAskedLogs content (most_harts Two) asked.program asked.logs.items)
    (ReplaysLogs content asked)

-- The report of a replay of these logs is written once the turns are found, and the logs may be sent.
abbrev pub CanReplayLogs : Content → Replay → List ProgramLog → Type 0
CanReplayLogs content asked logs =
    Once (IsSchedule content (length logs) asked.schedule) (λ _.
    IsSetting (most_harts Two) (length logs) (config_at asked.period asked.mode asked.capacity) (Ok tt))

-- `replay` writes once it has the legal logs and the turns, and the logs may be sent.
abbrev pub CanReplay : Content → Replay → Type 0
CanReplay content asked =
    Once (AreAskedLogs content (most_harts Two) asked.program asked.logs.items)
    (CanReplayLogs content asked)

-- What `replay` means. There may be as many logs as harts of a capture of version 2.
abbrev pub replay_meaning : Replay → Meaning
replay_meaning asked = writing_at_once
    (logs_fault (most_harts Two) (base_number asked.program) (length asked.logs.items))
    (λ content. Replays content asked) (λ content. CanReplay content asked)
