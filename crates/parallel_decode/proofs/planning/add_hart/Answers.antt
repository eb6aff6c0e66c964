-- One mark more at a time: by lemmas on stretches, which no tactic finds.
use Rattle.std.proofs.Common.{◌≡◌, ◌+◌, ◌∷◌, ◌++◌, ◌∙◌, ap, drop, false, refl, subst, sym}
use Rattle.std.proofs.lemmas.List.{drop_more}
use Rattle.std.proofs.lemmas.List.Elements.{All-get_or}
use Rattle.retire.specs.LogText.{log_text}
use Rattle.parallel_decode.specs.EachHart.{hart_line}
use Rattle.parallel_decode.specs.Marks.{IsMark}
use Rattle.parallel_decode.proofs.PlanLemmas.{Cut, cut_all, cut_more, cut_none}
use Rattle.parallel_decode.specs.declared.stretch.Stretch.{Stretch}
use Rattle.parallel_decode.specs.steps.Stretches.{HaveText}
use Rattle.parallel_decode.proofs.planning.add_hart.Goals as goal

pub loop-mark-init : goal.loop-mark-init
loop-mark-init c = record {
  cut = λ words bytes places log text m have.
      cut_none words bytes places c.args.hart c.args.count c.args.marks.now log m text c.new.result
      c.args.stretches.now.items c.args.count (c.new.ensures.stands words) have;
  end = refl;
}

pub loop-mark-preserved : goal.loop-mark-preserved
loop-mark-preserved c = record {
  cut = λ words bytes places log text m have.
      let marks = c.args.marks.now in
      let i = c.loop-mark.mark-index in
      let mark = c.mark-item.result in
      let next : Stretch = record {
        hart = c.args.hart;
        is_first = false;
        decoder = mark.decoder;
        from = mark.taken;
        to = c.args.count;
      } in
      let parts : drop i marks ≡ mark ∷ drop (i + 1) marks =
      drop_more marks i mark c.loop-mark-test.true ∙ ap (λ x. x ∷ drop (i + 1) marks) (sym c.mark-item.is) in
      let is = subst (IsMark words m.marked.messages log) (sym c.mark-item.is)
      (All-get_or (IsMark words m.marked.messages log) marks i mark c.loop-mark-test.true m.marked.marked) in
      subst (Cut words bytes places c.args.hart c.args.count marks log m text (drop (i + 1) marks) next)
      (sym c.in_ok-push.ensures.items)
      (cut_more words bytes places c.args.hart c.args.count marks log m text (drop i marks) c.loop-mark.next
      c.loop-mark.stretches.items (c.loop-mark.invariant.cut words bytes places log text m have) mark
      (drop (i + 1) marks) parts is);
  end = refl;
}

pub returns : goal.returns
returns c = λ words bytes places log text m have.
    let marks = c.args.marks.now in
    subst (λ l. HaveText words bytes places l (text ++ (hart_line c.args.hart ++ log_text log)))
    (sym c.in_ok-push-2.ensures.items)
    (cut_all words bytes places c.args.hart c.args.count marks log m text (drop c.loop-mark.mark-index marks)
    c.loop-mark.next c.loop-mark.stretches.items (c.loop-mark.invariant.cut words bytes places log text m have)
    c.loop-mark.invariant.end)
