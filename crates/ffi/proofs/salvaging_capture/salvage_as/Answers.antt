-- What was found is put together with what was written: the steps are handed on, in order, which no tactic does.
use Rattle.std.proofs.Common.{ℕ, List, None, ◌++◌, ◌∙◌, ap}
use Rattle.message.specs.Range.{every_hart}
use Rattle.message.specs.declared.range.HartRange.{HartRange}
use Rattle.frames.specs.Start.{spans_of}
use Rattle.salvage_reports.proofs.OwnSpans.{runs_chosen}
use Rattle.salvage_reports.specs.Layouts.{salvaged_as}
use Rattle.ffi.specs.Salvaged.{salvage_end}
use Rattle.ffi.proofs.salvaging_capture.salvage_as.Goals as goal

pub returns-in-Ok-written : goal.returns-in-Ok-written
returns-in-Ok-written c =
    let found = c.in-Ok-written.found in
    let is = c.in-Ok-written.ensures.found in
    record {
      program = c.in-Ok.program;
      header = found.header;
      why = found.fault;
      salvaged = found.salvaged;
      made = c.in-Ok.is;
      found = is.salvaged;
      laid_out = c.in-Ok-written.ensures.text
          ∙ ap (λ (before : List ℕ). before ++ salvaged_as c.args.layout None every_hart found.header
          (spans_of found.header c.args.capture.now) found.salvaged) c.new-text.ensures.items;
      ended = c.end_of_found-end.ensures
          ∙ ap (λ (r : HartRange). salvage_end r found.fault found.frames.runs found.salvaged) is.only_is
          ∙ ap (λ b. salvage_end every_hart found.fault b found.salvaged)
          (is.frames.runs ∙ runs_chosen every_hart (spans_of found.header c.args.capture.now));
    }
