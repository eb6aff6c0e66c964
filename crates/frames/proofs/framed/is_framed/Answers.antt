-- Message by message: by lemmas, which no tactic finds.
use Rattle.std.proofs.Common.{◌∙◌, ap, arith, length, sym}
use Rattle.std.proofs.lemmas.List.{take_rest}
use Rattle.frames.specs.Framed.{is_framed}
use Rattle.frames.proofs.FramedLemmas.{end, framed-capture, framed-made, next}
use Rattle.frames.proofs.framed.is_framed.Goals as goal

pub loop-size-preserved : goal.loop-size-preserved
loop-size-preserved c =
    let left = c.loop-size.left.now in (
      c.loop-size.invariant.0 ∙ next left c.in-Some.size c.in-Some.ensures.value
          ∙ ap is_framed (sym (take_rest left c.in-Some.size)),
      c.loop-size.invariant.1,
    )

pub returns-clause-value : goal.returns-clause-value
returns-clause-value c =
    c.is_empty.ensures ∙ end c.loop-size.left.now c.in_default.ensures.value ∙ sym c.loop-size.invariant.0

pub returns-clause-messages : goal.returns-clause-messages
returns-clause-messages c = λ messages all is.
    returns-clause-value c ∙ ap is_framed is ∙ framed-capture messages all

pub returns-clause-only : goal.returns-clause-only
returns-clause-only c = λ is.
    framed-made (length c.args.bytes.now) c.args.bytes.now c.loop-size.invariant.1 (omega arith)
    (sym (returns-clause-value c) ∙ is)
