-- The texts of ranges, one by one.
use Rattle.std.specs.Prelude.{ℕ, ◌++◌, ◌==◌, if◌then◌else◌, List, [], codes, Option, Some, None}
use Rattle.std.specs.Fmt.{decimal}
use Rattle.explaining.specs.Ranges.{range_text}
use Rattle.explaining.specs.declared.ranges.Range.{Range}

-- A range after others, if there is one.
abbrev pub next_text : Option Range → List ℕ
next_text None = []
next_text (Some range) = codes ", " ++ range_text range

-- How many more ranges there are, if there are more.
abbrev pub more_text : ℕ → List ℕ
more_text more = if more == 0 then [] else codes ", and " ++ (decimal more ++ codes " more")
