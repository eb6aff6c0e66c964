-- The texts of the reasons that only `capture` has.
use Rattle.std.specs.Prelude.{ℕ, ◌++◌, List, codes}
use Rattle.std.specs.Fmt.{decimal}
use Rattle.captures.specs.LineFaultText.{lines_fault_text}
use Rattle.captures.specs.declared.line_fault.LinesFault.TheVariants as lines
use Rattle.command_inputs.specs.FaultText.{at_path}
use Rattle.path_commands.specs.declared.line_reason.LineReason.{LineReason}
use Rattle.path_commands.specs.declared.line_reason.LineReason.TheVariants.{Line, ManyHarts, SkipAlone, Skipped}

-- A reason that only `capture` has, as a line of text.
abbrev pub line_reason_text : LineReason → List ℕ
line_reason_text (ManyHarts most) = codes "more than " ++ (decimal most ++ codes " harts")
line_reason_text SkipAlone = codes "--skip needs --harts or --v1"
line_reason_text (Line path line why) = at_path path (lines_fault_text (lines.Line line why))
line_reason_text (Skipped path count) = at_path path (codes "lines skipped: " ++ decimal count)
