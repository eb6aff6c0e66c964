-- The spans of all harts are all spans: what the call says of spans is put into the text.
use Rattle.std.proofs.Common.{◌++◌, ap}
use Rattle.message.specs.Range.{every_hart}
use Rattle.frames.specs.Search.{is_chosen, mode_of}
use Rattle.frames.specs.Start.{spans_of}
use Rattle.salvage_reports.specs.TreatedText.{front_text}
use Rattle.salvage_reports.proofs.ShownSpans.{left_texts}
use Rattle.salvage_reports.proofs.laws.all_harts_are_treated.Goals as goal

pub returns : goal.returns
returns c = λ form symbols header bytes treated is.
    ap (λ l. front_text form header ++ l)
    (left_texts form (is_chosen every_hart) symbols (mode_of header) 0 (spans_of header bytes) treated
    (c.all_harts_choose_every_span.ensures header bytes is))
