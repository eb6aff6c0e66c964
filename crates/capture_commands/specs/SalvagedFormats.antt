-- What is salvaged of a damaged capture, in the format that is asked for.
use Rattle.std.specs.Prelude.{ℕ, Bool, true, false, List, Option}
use Rattle.std.specs.declared.alloc.Global.{Global}
use Rattle.frames.specs.declared.span.Span.{Span}
use Rattle.message.specs.declared.range.HartRange.{HartRange}
use Rattle.message.specs.declared.header.Header.{Header}
use Rattle.salvaging.specs.declared.salvaged.Salvaged.{Salvaged}
use Rattle.salvage_reports.specs.Layouts.{salvaged_as}
use Rattle.salvage_reports.specs.declared.found_writing.Layout.{Layout}
use Rattle.salvage_reports.specs.declared.found_writing.Layout.TheVariants.{Summary, Table, Text}
use Rattle.command_inputs.specs.declared.words.Format.{Format}
use Rattle.command_inputs.specs.declared.words.Format.TheVariants.{Csv}

-- The layout in a format, as a summary or not. A table is no summary.
abbrev pub layout_of : Format → Bool → Layout
layout_of Csv summary = Table
layout_of _ true = Summary
layout_of _ false = Text

-- The table of these harts, or their lines and, where no summary is asked for, the rows of their logs. The places of a
-- stretch are named by the symbols of a file, if there is one.
abbrev pub salvaged_in : Format → Bool → Option (List ℕ) → HartRange → Option Header → List Span → Salvaged Global
    → List ℕ
salvaged_in format summary symbols only header spans salvaged =
    salvaged_as (layout_of format summary) symbols only header spans salvaged
