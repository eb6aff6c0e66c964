-- The first span of what is left: by lemmas on spans, which no search finds.
use Rattle.std.proofs.Common.{◌∙◌, length, ap, sym, rules}
use Rattle.std.proofs.lemmas.List.{take_rest}
use Rattle.frames.proofs.SpanLemmas.{next-frame, next-run}
use Rattle.frames.proofs.spans.SpansIterator.next.Goals as goal

pub returns-then-is_taken-clause-steps : goal.returns-then-is_taken-clause-steps
returns-then-is_taken-clause-steps c =
    let s = c.self.inside in
    sym c.self.view_is
    ∙ next-frame s.known s.at c.frame_size.result s.bytes.now _ c.frame_in.result (take_rest s.bytes.now s.at)
    (sym c.is_taken.ensures ∙ c.if-is_taken.true) c.frame_size.ensures c.frame_in.ensures

pub returns-then-is_taken-clause-goes : goal.returns-then-is_taken-clause-goes
returns-then-is_taken-clause-goes c =
    let shorter = ap length (returns-then-is_taken-clause-steps c) in search rules

pub returns-clause-steps : goal.returns-clause-steps
returns-clause-steps c =
    let s = c.self.inside in
    let run = c.bytes_to_next-count.ensures in
    sym c.self.view_is
    ∙ next-run s.known s.at c.bytes_to_next-count.result s.bytes.now _ (take_rest s.bytes.now s.at)
    (sym c.is_taken.ensures ∙ c.if-is_taken.false) run.some run.within run.passed run.next

pub returns-clause-goes : goal.returns-clause-goes
returns-clause-goes c =
    let shorter = ap length (returns-clause-steps c) in search rules
