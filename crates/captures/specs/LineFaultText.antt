-- The texts of faults.
use Rattle.std.specs.Prelude.{ℕ, ◌++◌, List, Some, None, codes}
use Rattle.std.specs.Fmt.{decimal}
use Rattle.message.specs.declared.header.Version.TheVariants.{One, Two}
use Rattle.captures.specs.declared.line_fault.LineFault.{LineFault}
use Rattle.captures.specs.declared.line_fault.LineFault.TheVariants.{Fields, Hart, Number, Bytes, Above}
use Rattle.captures.specs.declared.line_fault.LinesFault.{LinesFault}
use Rattle.captures.specs.declared.line_fault.LinesFault.TheVariants.{Line, Write}

-- What is wrong with a line, as a text.
abbrev pub line_fault_text : LineFault → List ℕ
line_fault_text Fields = codes "wrong number of fields"
line_fault_text (Hart One) = codes "hart is not a number below 64"
line_fault_text (Hart Two) = codes "hart is not a number below 1024"
line_fault_text (Number None) = codes "number is not a number"
line_fault_text (Number (Some limit)) = codes "number is not a number below " ++ decimal limit
line_fault_text Bytes = codes "bytes are not 1 to 18"
line_fault_text Above = codes "hart is not below --harts"

-- Why the capture of lines is not written, as a text.
abbrev pub lines_fault_text : LinesFault → List ℕ
lines_fault_text (Line line why) = codes "line " ++ (decimal line ++ (codes ": " ++ line_fault_text why))
lines_fault_text Write = codes "cannot be written"
