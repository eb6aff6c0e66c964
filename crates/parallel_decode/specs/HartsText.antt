-- The text of the logs of harts.
use Rattle.std.specs.Prelude.{ℕ, ◌++◌, List}
use Rattle.message.specs.declared.range.HartRange.{HartRange}
use Rattle.retire.specs.Log.{header}
use Rattle.retire.specs.LogText.{line_of_fields, log_text}
use Rattle.retire.specs.declared.event.Event.{Event}
use Rattle.parallel_decode.specs.EachHart.{each_hart, each_hart_of, hart_line}

-- For each hart, from this one on, its line and the text of its log.
abbrev pub harts_text : ℕ → List (List Event) → List ℕ
harts_text hart lists = each_hart log_text hart lists

-- The same, of those of these harts alone.
abbrev pub harts_text_of : HartRange → ℕ → List (List Event) → List ℕ
harts_text_of range hart lists = each_hart_of range log_text hart lists

-- The line of a hart and the line of its log's header.
abbrev pub head_of : ℕ → List ℕ
head_of hart = hart_line hart ++ line_of_fields header
