-- One mark more, or none: by lemmas on marks.
use Rattle.std.proofs.Common.{◌++◌, ◌∙◌, subst, sym}
use Rattle.parallel_decode.proofs.MarkLemmas.{counted-more, on_way-next, on_way-stays}
use Rattle.parallel_decode.specs.steps.Ends.{AreOnWay}
use Rattle.parallel_decode.proofs.trail.Trail.add.Goals as goal

pub returns-then-self : goal.returns-then-self
returns-then-self c = λ words messages more log added is taken further events stands. record {
  counted = c.saturating_add-self.ensures
      ∙ counted-more log added c.args.self.now.events c.args.events is.counted events;
  on_way = on_way-stays words messages more log added c.args.self.now.marks.items is.on_way;
}

pub returns : goal.returns
returns c = λ words messages more log added is taken further events stands.
    let counted = c.saturating_add-self.ensures
    ∙ counted-more log added c.args.self.now.events c.args.events is.counted events in
    record {
      counted = counted;
      on_way = subst (AreOnWay words (messages ++ more) (log ++ added)) (sym c.in_ok-push.ensures.items)
          (on_way-next words messages more log added c.args.self.now.marks.items is.on_way
          (record {
            taken = c.args.taken;
            events = c.saturating_add-self.result;
            decoder = c.args.decoder.now;
          }) taken further counted stands);
    }
