-- What a source's fields mean.
use Rattle.std.specs.Prelude.{ℕ, ◌≡◌, ◌+◌, ◌-◌, ◌≤◌, List, length, take}
use Rattle.rvclass.specs.Fetch.{words_of}
use Rattle.legalpath.specs.ProgramLog.{ProgramLog}
use Rattle.payload.specs.declared.mode.Mode.{Mode}
use Rattle.payload.specs.declared.packet.Packet.{Packet}
use Rattle.encoder.specs.Packets.{packets}
use Rattle.encoder.specs.PacketsSoFar.{packets_so_far}
use Rattle.encoder.specs.SourceAt.{SourceAt}
use Rattle.encoder.specs.EncoderStands.{EncoderStands}
use Rattle.encoder.specs.declared.encoder.Encoder.{Encoder}
use Rattle.encoder.specs.declared.source.Stage.{Stage}
use Rattle.encoder.specs.declared.source.Stage.TheVariants as stage

-- The packets of a log, at a period and in a mode.
abbrev pub packets_of_log : ℕ → Mode → ProgramLog → List Packet
packets_of_log period mode log = packets (words_of log.program) period mode log.events

-- How many packets of a log come before the next one, at this stage and after this many events were taken.
abbrev pub number_at : ℕ → Mode → ProgramLog → Stage → ℕ → ℕ
number_at period mode log stage.Opening taken = 0
number_at period mode log stage.Running taken =
    length (packets_so_far (words_of log.program) period mode (take taken log.events))
number_at period mode log stage.Closing taken = length (packets_of_log period mode log) - 1
number_at period mode log stage.Ended taken = length (packets_of_log period mode log)

-- The position of a source of a log, by its fields.
abbrev pub stands_at : ProgramLog → Encoder → Stage → ℕ → SourceAt
stands_at log encoder stage taken = record {
  log = log;
  period = encoder.between + 1;
  mode = encoder.mode;
  number = number_at (encoder.between + 1) encoder.mode log stage taken;
}

-- This many of all events were taken at this stage: none before Open, at most all while the packets of events come, and
-- all from then on.
abbrev pub AreTakenAtStage : Stage → ℕ → ℕ → Type 0
AreTakenAtStage stage.Opening taken all = taken ≡ 0
AreTakenAtStage stage.Running taken all = taken ≤ all
AreTakenAtStage stage.Closing taken all = taken ≡ all
AreTakenAtStage stage.Ended taken all = taken ≡ all

-- A source's encoder is in the state after the events that were taken.
pub record IsSource (log : ProgramLog) (encoder : Encoder) (stage : Stage) (taken : ℕ) : Type 0 where
  pub within : AreTakenAtStage stage taken (length log.events)
  pub stands : EncoderStands (words_of log.program) (encoder.between + 1) encoder.mode (take taken log.events) encoder
