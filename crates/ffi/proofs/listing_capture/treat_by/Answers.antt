-- What was found is put together with what was written: the steps are handed on, in order, which no tactic does.
use Rattle.std.proofs.Common.{◌≡◌, ℕ, List, ◌++◌, ◌∙◌, ap, option_map, subst, sym}
use Rattle.message.specs.Range.{every_hart, selected}
use Rattle.message.specs.declared.range.HartRange.{HartRange}
use Rattle.rvclass.specs.Fetch.{words_of}
use Rattle.salvaging.specs.Treatments.{AreTreated}
use Rattle.frames.specs.Search.{mode_of}
use Rattle.frames.specs.Start.{spans_of}
use Rattle.salvage_reports.proofs.FoundBehind.{found_of_capture}
use Rattle.salvage_reports.proofs.OwnSpans.{messages_chosen, runs_chosen}
use Rattle.salvage_reports.specs.Found.{IsFound}
use Rattle.salvage_reports.specs.Frames.{messages_in}
use Rattle.ffi.specs.Salvaged.{salvage_end}
use Rattle.ffi.specs.Listed.{AreTreatedBehind, all_messages}
use Rattle.salvage_reports.specs.HartRows.{in_rows}
use Rattle.ffi.proofs.listing_capture.treat_by.Goals as goal
use Rattle.salvage_reports.specs.TreatedText.{treated_text_of}

pub returns : goal.returns
returns c =
    let program = c.args.program.now in
    let capture = c.args.capture.now in
    let start = c.start_of-start.result in
    let found = c.in_ok-found.found in
    let treated = c.in_ok-treated.treated.items in
    let file = option_map (λ file. file.now) c.args.symbols in
    let behind = c.in_ok-found.ensures in
    let is : IsFound every_hart c.args.asked program capture found =
    found_of_capture start.header start.fault c.harts_counted-harts.result every_hart c.args.asked program capture
    found c.start_of-start.ensures c.harts_counted-harts.ensures behind in
    let spans = spans_of start.header capture in
    let own = selected every_hart (messages_in spans) in
    let done : AreTreatedBehind start.header c.args.asked program capture treated =
    subst (λ harts. AreTreated (words_of program) (mode_of start.header) harts own treated)
    c.harts_counted-harts.ensures
    (subst (λ mode. AreTreated (words_of program) mode c.harts_counted-harts.result own treated) c.mode_of-mode.ensures
    (subst (λ all. AreTreated (words_of program) c.mode_of-mode.result c.harts_counted-harts.result all treated)
    (c.as_slice-messages.ensures.value ∙ behind.frames.messages ∙ messages_chosen every_hart spans)
    c.in_ok-treated.ensures)) in
    let rows : c.as_slice-2.result.now ≡ in_rows c.args.format own treated =
    c.as_slice-2.ensures.value ∙ c.in_ok-rows.ensures ∙ ap (in_rows c.args.format c.as_slice-messages.result.now)
    c.as_slice.ensures.value
    ∙ ap (λ all. in_rows c.args.format all treated)
    (c.as_slice-messages.ensures.value ∙ behind.frames.messages ∙ messages_chosen every_hart spans) in
    record {
      header = found.header;
      why = found.fault;
      salvaged = found.salvaged;
      treated = treated;
      found = is.salvaged;
      done = subst (λ h. AreTreatedBehind h c.args.asked program capture treated) (sym behind.header_is) done;
      laid_out = c.in_ok-write_treated.ensures.text
          ∙ ap (λ (before : List ℕ). before ++ treated_text_of c.args.format every_hart file start.header capture
          c.as_slice-2.result.now) c.new-text.ensures.items
          ∙ ap (treated_text_of c.args.format every_hart file start.header capture) rows
          ∙ ap (λ h. treated_text_of c.args.format every_hart file h capture (in_rows c.args.format (all_messages h capture) treated))
          (sym behind.header_is);
      ended = c.end_of_found-end.ensures
          ∙ ap (λ (r : HartRange). salvage_end r found.fault found.frames.runs found.salvaged) is.only_is
          ∙ ap (λ b. salvage_end every_hart found.fault b found.salvaged)
          (is.frames.runs ∙ runs_chosen every_hart (spans_of found.header capture));
    }
