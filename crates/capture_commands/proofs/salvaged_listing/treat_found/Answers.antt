-- The messages that were found are those of these harts: by a lemma on spans, which no tactic finds.
use Rattle.std.proofs.Common.{◌∙◌, subst}
use Rattle.std.specs.Prelude.{IfOk}
use Rattle.message.specs.Range.{selected}
use Rattle.rvclass.specs.Fetch.{words_of}
use Rattle.salvaging.specs.Treatments.{AreTreated}
use Rattle.frames.specs.Start.{spans_of}
use Rattle.salvage_reports.specs.Frames.{messages_in}
use Rattle.frames.specs.Search.{mode_of}
use Rattle.salvage_reports.proofs.OwnSpans.{messages_chosen}
use Rattle.capture_commands.proofs.salvaged_listing.treat_found.Goals as goal

pub returns : goal.returns
returns g c =
    let found = c.args.found.now in
    let spans = spans_of found.header c.args.input.now.bytes.now in
    let own = selected c.args.input.now.only (messages_in spans) in
    let words = words_of c.args.input.now.program.now in
    let treated = c.treat_shown.result in
    subst (λ harts. IfOk treated (λ all. AreTreated words (mode_of found.header) harts own all.items))
    c.harts_counted.ensures
    (subst (λ mode. IfOk treated (λ all. AreTreated words mode c.harts_counted.result own all.items))
    c.mode_of.ensures
    (subst (λ messages. IfOk treated (λ all. AreTreated words c.mode_of.result c.harts_counted.result messages
    all.items))
    (c.as_slice.ensures.value ∙ c.requires.is.frames.messages ∙ messages_chosen c.args.input.now.only spans)
    c.treat_shown.ensures))
