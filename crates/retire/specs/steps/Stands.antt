-- How far a log is read that comes in pieces.
use Rattle.std.specs.Prelude.{◌≡◌, ◌⊎◌, ◌≤◌, ◌+◌, ◌++◌, Bool, ℕ, List, [], length, Err}
use Rattle.csv.specs.declared.parser.State.TheVariants.{StartRecord}
use Rattle.retire.specs.Log.{IsReadOrMemory, events_up_to, log_up_to, records_of}
use Rattle.retire.specs.steps.RowsLeft.{MayFollow, records_left, with_events}
use Rattle.retire.specs.declared.event.Event.{Event}
use Rattle.retire.specs.declared.fault.LogFault.{LogFault}
use Rattle.retire.specs.declared.log_reader.Stage.{Stage}
use Rattle.retire.specs.declared.log_reader.Stage.TheVariants as stage

-- The log has this fault, whatever follows the bytes that were given, or the source failed.
abbrev pub IsFault : ℕ → List ℕ → Bool → LogFault → Type 0
IsFault most given ended why =
    IsReadOrMemory why
    ⊎ ((more : List ℕ) → MayFollow ended more → log_up_to most (records_of (given ++ more)) ≡ Err why)

-- Of the bytes that were given the last ones are held, and the rows before them have the events that were seen,
-- whatever follows: nothing is used yet, or nothing but a byte order mark and empty lines, or the header and so many
-- rows.
abbrev pub Stands : ℕ → List ℕ → List Event → Bool → Stage → ℕ → List ℕ → Type 0
Stands most given seen ended stage.Start rows held = (seen ≡ []) × (rows ≡ 0) × (given ≡ held)
Stands most given seen ended stage.Header rows held =
    (seen ≡ []) × (rows ≡ 0) × ((more : List ℕ) → MayFollow ended more
    → log_up_to most (records_of (given ++ more)) ≡ log_up_to most (records_left StartRecord (held ++ more)))
Stands most given seen ended stage.Rows rows held =
    (rows ≡ length seen) × (rows ≤ most) × ((more : List ℕ) → MayFollow ended more
    → log_up_to most (records_of (given ++ more))
    ≡ with_events seen (events_up_to most (rows + 1) (records_left StartRecord (held ++ more))))
Stands most given seen ended (stage.Failed why) rows held = IsFault most given ended why
