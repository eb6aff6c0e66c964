-- The rows of an audit's table are read back.
use Rattle.std.specs.Prelude.{ℕ, Bool, List, Option}
use Rattle.auditing.specs.declared.exchange.Exchanged.{Exchanged}
use Rattle.auditing.specs.declared.finding.Finding.{Finding}
use Rattle.auditing.specs.declared.lost.Lost.{Lost}
use Rattle.auditing.specs.declared.row.HartRow.{HartRow}
use Rattle.auditing.specs.declared.aligned_counts.AlignedTotal.{AlignedTotal}
use Rattle.auditing.specs.declared.aligned_counts.HartCounts.{HartCounts}
use Rattle.auditing.specs.declared.arrival_line.Line.{Line}
use Rattle.output.specs.ReadBack.{IsReadBack}
use Rattle.path_commands.specs.AlignedRows.{aligned_all_fields, aligned_fields, arrival_fields}
use Rattle.path_commands.specs.AuditRows as row
use Rattle.path_commands.specs.declared.total.Total.{Total}

-- Each row that the table of an audit may have is read back by `csv`, and so are the names of its columns.
pub record AreReadBack : Type 0 where
  pub columns : IsReadBack row.columns
  pub message : (place hart number : ℕ) (its : Finding) (sent : Option (List ℕ)) (came : List ℕ)
      → IsReadBack (row.finding_fields place hart number its sent came)
  pub bytes : (offset count : ℕ) → IsReadBack (row.bytes_fields offset count)
  pub run : (hart : ℕ) (run : Lost) → IsReadBack (row.run_fields hart run)
  pub hart : (hart : ℕ) (its : HartRow) → IsReadBack (row.hart_fields hart its)
  pub exchanged : (hart : ℕ) (its : Exchanged) → IsReadBack (row.exchanged_fields hart its)
  pub all : (total : Total) → IsReadBack (row.all_fields total)
  pub result : (messages : ℕ) (first : Option ℕ) (unlike : Bool) (bytes strangers runs : ℕ) (whole : Bool)
      → IsReadBack (row.result_fields messages first unlike bytes strangers runs whole)
  pub arrival : (one : Line) → IsReadBack (arrival_fields one)
  pub aligned : (hart : ℕ) (counts : HartCounts) (runs longest : ℕ) → IsReadBack (aligned_fields hart counts runs longest)
  pub aligned_all : (total : AlignedTotal) → IsReadBack (aligned_all_fields total)
