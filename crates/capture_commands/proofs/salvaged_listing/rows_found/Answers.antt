-- The messages that were found are those of these harts: by a lemma on spans, which no tactic finds.
use Rattle.std.proofs.Common.{◌≡◌, ◌∙◌, subst}
use Rattle.std.specs.Prelude.{IfOk}
use Rattle.frames.specs.Start.{spans_of}
use Rattle.salvage_reports.specs.HartRows.{in_rows}
use Rattle.salvage_reports.proofs.OwnSpans.{messages_chosen}
use Rattle.capture_commands.proofs.salvaged_listing.rows_found.Goals as goal

pub returns : goal.returns
returns c =
    let spans = spans_of c.args.found.now.header c.args.input.now.bytes.now in
    subst (λ messages. IfOk c.in_rows.result (λ rows. rows.items ≡ in_rows c.args.form messages c.args.treated.now))
    (c.as_slice.ensures.value ∙ c.requires.is.frames.messages ∙ messages_chosen c.args.input.now.only spans)
    c.in_rows.ensures
