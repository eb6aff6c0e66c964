-- The rows of a log and of what is decoded of its hart about the first place where they differ.
use Rattle.std.specs.Prelude.{ℕ, zero, suc, List, Option, None, slice_get}
use Rattle.bench.specs.Verdict.{count_alike}
use Rattle.retire.specs.declared.event.Event.{Event}
use Rattle.comparing.specs.declared.near.NearRows.{NearRows}

-- The row that comes so many before a place of a list, if there is one.
abbrev pub row_before : ℕ → ℕ → List Event → Option Event
row_before zero place rows = slice_get rows place
row_before (suc many) zero rows = None
row_before (suc many) (suc place) rows = row_before many place rows

-- The rows about a place: that of the log and the decoded one, if there is one, and the three decoded ones before it.
abbrev pub rows_about : ℕ → List Event → List Event → NearRows
rows_about place decoded log = record {
  log = slice_get log place;
  decoded = slice_get decoded place;
  one_before = row_before 1 place decoded;
  two_before = row_before 2 place decoded;
  three_before = row_before 3 place decoded;
}

-- The rows about the first place where the lists differ or one of them has no event.
abbrev pub near_rows : List Event → List Event → NearRows
near_rows decoded log = rows_about (count_alike decoded log) decoded log
