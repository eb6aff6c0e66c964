-- What an audit finds of a hart.
use Rattle.std.specs.Prelude.{ℕ, ◌+◌, ◌-◌, nat_lt, Bool, false, List, [], ◌∷◌, Option, Some, None, length, max}
use Rattle.std.specs.List.{filter}
use Rattle.message.specs.declared.message.Message.{Message}
use Rattle.auditing.specs.Exchanged.{exchanged}
use Rattle.auditing.specs.Fates.{true_ones}
use Rattle.auditing.specs.Findings.{greatest_number, latest}
use Rattle.auditing.specs.Judged.{fates_counted}
use Rattle.auditing.specs.Losing.{lost_numbers, lost_runs}
use Rattle.auditing.specs.Tallies.{tally_of}
use Rattle.auditing.specs.declared.fate.Fate.TheVariants as fate
use Rattle.auditing.specs.declared.lost.Lost.{Lost}
use Rattle.auditing.specs.declared.row.HartRow.{HartRow}

-- How many numbers a run has.
abbrev pub numbers_in : Lost → ℕ
numbers_in run = run.last - run.first + 1

-- How many numbers the longest of these runs has, 0 where there is none.
abbrev pub longest_of : List Lost → ℕ
longest_of [] = 0
longest_of (run ∷ runs) = max (numbers_in run) (longest_of runs)

-- What an audit finds of a hart.
abbrev pub row_of : List Message → List Message → ℕ → HartRow
row_of sent received hart = record {
  tally = tally_of sent received hart;
  strange = fates_counted sent received hart fate.Stranger;
  runs = length (lost_runs sent received hart);
  longest = longest_of (lost_runs sent received hart);
  latest = latest sent received hart;
  exchanged = exchanged sent received hart;
}

-- A number is below another one, if there is one.
abbrev pub is_below : Option ℕ → ℕ → Bool
is_below None number = false
is_below (Some other) number = nat_lt number other

-- The numbers of a hart that are lost and below the greatest true number of it that came.
abbrev pub lost_below : List Message → List Message → ℕ → List ℕ
lost_below sent received hart =
    filter (is_below (greatest_number (true_ones sent received) hart)) (lost_numbers sent received hart)
