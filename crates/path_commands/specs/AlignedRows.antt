-- The fields of the rows of an audit of messages that carry no numbers, as a table.
use Rattle.std.specs.Prelude.{ℕ, ◌++◌, List, [], ◌∷◌, codes}
use Rattle.std.specs.Fmt.{decimal}
use Rattle.auditing.specs.declared.aligned_counts.AlignedTotal.{AlignedTotal}
use Rattle.auditing.specs.declared.aligned_counts.HartCounts.{HartCounts}
use Rattle.auditing.specs.declared.arrival_line.Line.{Line}
use Rattle.auditing.specs.declared.arrival_line.Line.TheVariants as line
use Rattle.output.specs.Fields.{fields_line}
use Rattle.path_commands.specs.AuditRows.{message_fields, result_fields}
use Rattle.path_commands.specs.AuditText.{verdict_text}
use Rattle.path_commands.specs.declared.matched_rows.MatchedTotal.{MatchedTotal}

-- The fields of a message of RECEIVED of which something is to be said.
abbrev pub arrival_fields : Line → List (List ℕ)
arrival_fields (line.Stranger place hart) = message_fields place hart [] (codes "stranger") [] [] []
arrival_fields (line.Extra place hart) = message_fields place hart [] (codes "extra") [] [] []
arrival_fields (line.Skips place hart number skips) =
    message_fields place hart (decimal number) (codes "skips") (decimal skips) [] []

-- The fields of a hart: its counts, and the runs of its lost numbers and the longest of them. What is extra is strange.
abbrev pub aligned_fields : ℕ → HartCounts → ℕ → ℕ → List (List ℕ)
aligned_fields hart counts runs longest =
    codes "hart" ∷ [] ∷ [] ∷ decimal hart ∷ [] ∷ [] ∷ [] ∷ [] ∷ [] ∷ []
    ∷ decimal counts.sent ∷ decimal counts.came ∷ decimal counts.lost ∷ [] ∷ [] ∷ [] ∷ decimal counts.extra
    ∷ decimal runs ∷ decimal longest ∷ [] ∷ verdict_text counts.whole ∷ [] ∷ []

-- The fields of all harts together.
abbrev pub aligned_all_fields : AlignedTotal → List (List ℕ)
aligned_all_fields total =
    codes "all" ∷ [] ∷ [] ∷ [] ∷ [] ∷ [] ∷ [] ∷ [] ∷ [] ∷ []
    ∷ decimal total.sent ∷ decimal total.came ∷ decimal total.lost ∷ [] ∷ [] ∷ [] ∷ decimal total.extra
    ∷ [] ∷ [] ∷ [] ∷ verdict_text total.whole ∷ [] ∷ []

-- The last rows: all harts together, and the result.
abbrev pub aligned_last : MatchedTotal → List ℕ
aligned_last its =
    fields_line (aligned_all_fields its.total)
    ++ fields_line (result_fields its.messages its.first its.unlike its.bytes its.strangers its.runs its.whole)
