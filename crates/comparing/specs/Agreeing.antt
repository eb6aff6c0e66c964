-- What is so of the rows about the first difference.
use Rattle.std.specs.Prelude.{ℕ, ◌≡◌, ◌≢◌, ◌≤◌, List, Some, length, slice_get, take}
use Rattle.bench.specs.Verdict.{count_alike}
use Rattle.retire.specs.declared.event.Event.{Event}
use Rattle.comparing.specs.RowsAbout.{row_before}

-- Both lists have the rows before the first difference, and these are the same. Where both have the next row too, these
-- two are not.
pub record AgreeBefore (decoded log : List Event) : Type 0 where
  pub decoded_has : count_alike decoded log ≤ length decoded
  pub log_has : count_alike decoded log ≤ length log
  pub same : take (count_alike decoded log) decoded ≡ take (count_alike decoded log) log
  pub each : (many : ℕ) → 1 ≤ many
      → row_before many (count_alike decoded log) decoded ≡ row_before many (count_alike decoded log) log
  pub differ : (event row : Event) → slice_get decoded (count_alike decoded log) ≡ Some event
      → slice_get log (count_alike decoded log) ≡ Some row → event ≢ row

-- That is so of any lists.
abbrev pub ListsAgreeBefore : Type 0
ListsAgreeBefore = (decoded log : List Event) → AgreeBefore decoded log
