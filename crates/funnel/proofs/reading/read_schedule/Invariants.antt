-- The turns so far come first, and the rest of the text gives the others.
use Rattle.std.proofs.Common.{◌≡◌, ◌+◌, drop, length}
use Rattle.funnel.specs.Schedule.{schedule_of}
use Rattle.funnel.specs.steps.Words.{turns_behind, turns_then}
use Rattle.funnel.proofs.reading.read_schedule.Given as goal

abbrev pub invariant-loop-byte : goal.invariant-loop-byte
invariant-loop-byte g l =
    schedule_of l.harts l.text
    ≡ turns_then l.turns.items (turns_behind l.harts (length l.turns.items + 1) l.word (drop l.byte-index l.text))
