use Rattle.std.proofs.Common.{◌≡◌, ◌+◌, true}
use Rattle.retire.specs.PlainLog.{ArePlainRows}
use Rattle.retire.specs.steps.ReadsRows.{ReadsFront}
use Rattle.retire.proofs.plain.plain_rows.Given as goal

-- The rows so far were read, and the others are left; where all are plain, so are those.
abbrev pub invariant-loop-before : goal.invariant-loop-before
invariant-loop-before g l = record {
  so_far : ReadsFront l.fn.most l.fn.rows l.fn.is_ended l.fn.text l.fn.events.items l.events.items l.before l.rest;
  plain : l.fn.is_ended ≡ true → ArePlainRows l.fn.most (l.fn.rows + 1) l.fn.text → ArePlainRows l.fn.most (l.before + 1) l.rest;
}
