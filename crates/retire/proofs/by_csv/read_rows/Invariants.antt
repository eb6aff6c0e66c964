use Rattle.std.proofs.Common.{◌≡◌, List, ℕ, Some}
use Rattle.csv.specs.Reading.{Ready, default_config, reader_config, reader_state, reader_trim, source_of}
use Rattle.csv.specs.declared.reader.Trim.TheVariants as trim
use Rattle.retire.specs.steps.ReadsRows.{ReadsRows}
use Rattle.retire.specs.steps.RowsLeft.{MayStartRecord, records_left}
use Rattle.retire.proofs.by_csv.read_rows.Given as goal

-- The rows so far were read, and those that the reader has left are the others.
abbrev pub invariant-loop-before : goal.invariant-loop-before
invariant-loop-before g l = record {
  plain : reader_trim l.reader ≡ trim.None;
  ready : Ready l.reader;
  config : reader_config l.reader ≡ default_config;
  so_far : (text : List ℕ) → source_of g.R.Read.remaining l.fn.reader ≡ Some text
      → MayStartRecord (reader_state l.fn.reader)
      → (y : List ℕ) × (source_of g.R.Read.remaining l.reader ≡ Some y) × MayStartRecord (reader_state l.reader)
      × ReadsRows l.fn.most l.fn.rows (records_left (reader_state l.fn.reader) text) l.fn.events.items l.events.items
      l.before (records_left (reader_state l.reader) y);
}
