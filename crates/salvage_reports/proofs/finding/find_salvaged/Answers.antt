-- What was salvaged is what is found: the steps are handed on, in order, which no tactic does.
use Rattle.std.proofs.Common.{◌∙◌, refl, subst}
use Rattle.message.specs.Range.{selected}
use Rattle.salvaging.specs.Salvages.{GivesSalvaged}
use Rattle.frames.specs.Search.{chosen}
use Rattle.frames.specs.Start.{spans_of}
use Rattle.salvage_reports.specs.Frames.{AreFrames, messages_in}
use Rattle.salvage_reports.proofs.OwnSpans.{messages_chosen}
use Rattle.salvage_reports.proofs.finding.find_salvaged.Goals as goal

pub returns : goal.returns
returns g c =
    let program = c.args.program.now in
    let only = c.args.only in
    let harts = c.args.harts in
    let header = c.args.start.header in
    let spans = spans_of header c.args.bytes.now in
    let frames = c.in_ok-frames.frames in
    let salvaged = c.in_ok-salvaged.salvaged in
    let are : AreFrames harts (chosen only spans) frames =
    subst (λ l. AreFrames harts (chosen only l) frames) c.spans_of.ensures c.in_ok-frames.ensures in
    record {
      only_is = refl;
      header_is = refl;
      fault_is = refl;
      left =
          subst (λ m. GivesSalvaged program harts m (selected only (messages_in spans)) salvaged) c.mode_of.ensures
          (subst (λ all. GivesSalvaged program harts c.mode_of.result all salvaged)
          (c.as_slice.ensures.value ∙ are.messages ∙ messages_chosen only spans) c.in_ok-salvaged.ensures);
      frames = are;
    }
