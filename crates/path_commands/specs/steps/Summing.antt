-- Adding up the rows of harts.
use Rattle.std.specs.Prelude.{ℕ, ◌+◌, ◌-◌, ◌^◌, ◌&&◌, true, min, None}
use Rattle.auditing.specs.declared.row.HartRow.{HartRow}
use Rattle.path_commands.specs.declared.total.Total.{Total}

-- The sums of no rows.
abbrev pub none_added : Total
none_added = record {
  sent = 0;
  came = 0;
  lost = 0;
  repeated = 0;
  late = 0;
  changed = 0;
  strange = 0;
  too_late = None;
  whole = true;
}

-- A sum and one count more, or 2^128 - 1 where it is greater.
abbrev pub with_one : ℕ → ℕ → ℕ
with_one sum count = min (sum + count) (2 ^ 128 - 1)

-- The sums with one row more.
abbrev pub added : Total → HartRow → Total
added total row = record {
  sent = with_one total.sent row.tally.sent;
  came = with_one total.came row.tally.came;
  lost = with_one total.lost row.tally.lost;
  repeated = with_one total.repeated row.tally.repeated;
  late = with_one total.late row.tally.late;
  changed = with_one total.changed row.tally.changed;
  strange = with_one total.strange row.strange;
  too_late = total.too_late;
  whole = total.whole && row.tally.whole;
}
