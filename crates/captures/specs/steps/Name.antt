-- Whose measures a row has.
use Rattle.std.specs.Prelude.{ℕ, List, codes}
use Rattle.std.specs.Fmt.{decimal}
use Rattle.captures.specs.declared.measure_row.Name.{Name}
use Rattle.captures.specs.declared.measure_row.Name.TheVariants.{Hart, All}

-- The text that a row begins with.
abbrev pub name_text : Name → List ℕ
name_text (Hart hart) = decimal hart
name_text All = codes "all"
