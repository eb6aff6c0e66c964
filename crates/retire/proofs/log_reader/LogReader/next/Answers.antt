-- What each turn says of the log is named by hand.
use Rattle.std.proofs.Common.{◌∙◌, ap, arith, length, refl, rules, subst, vec_items}
use Rattle.csv.proofs.ReadFacts.{keeps-trans}
use Rattle.retire.specs.HasRead.{GoesOn}
use Rattle.retire.proofs.KnownLemmas.{keeps-same}
use Rattle.retire.proofs.ReaderLemmas.{goes-still}
use Rattle.retire.proofs.StandsLemmas.{first-fault-of}
use Rattle.retire.proofs.log_reader.LogReader.next.Goals as goal

pub loop-init : goal.loop-init
loop-init g c = record {
  count = search rules;
  read = λ most seen h. (h, refl);
  kept = keeps-same _;
}

pub loop-preserved : goal.loop-preserved
loop-preserved g c = record {
  count = c.loop.invariant.count;
  read = λ most seen h.
      let (read, same) = c.loop.invariant.read most seen h in
      let size = ap length same in
      let still =
      goes-still g.S.Source.given g.S.Source.left most seen c.turn.new.self c.loop.events.items
      c.turn.new.events.items (c.in-Ok-false.ensures.goes_on most seen read) (search (rules, arith)) in
      (still.0, still.1 ∙ same);
  kept = keeps-trans _ _ _ c.loop.invariant.kept c.turn.ensures.kept;
}

pub returns-in-Err-clause-faults : goal.returns-in-Err-clause-faults
returns-in-Err-clause-faults g c = λ most seen h.
    let f = c.in-Err.ensures.faults most seen (c.loop.invariant.read most seen h).0 in
    first-fault-of most _ _ c.turn.new.self.is_ended c.in-Err.fault f.ended f.fault

pub returns-in-Ok-true-clause-goes_on : goal.returns-in-Ok-true-clause-goes_on
returns-in-Ok-true-clause-goes_on g c = λ most seen h.
    let (read, same) = c.loop.invariant.read most seen h in
    subst
    (λ t. GoesOn g.S.Source.given g.S.Source.left most seen t c.turn.new.events.items c.turn.new.self) same
    (c.in-Ok-true.ensures.goes_on most seen read)

pub returns-then-len-before-clause-goes_on : goal.returns-then-len-before-clause-goes_on
returns-then-len-before-clause-goes_on g c = λ most seen h.
    let (read, same) = c.loop.invariant.read most seen h in
    subst
    (λ t. GoesOn g.S.Source.given g.S.Source.left most seen t c.turn.new.events.items c.turn.new.self) same
    (c.in-Ok-false.ensures.goes_on most seen read)

pub returns-in-Ok-true-clause-end : goal.returns-in-Ok-true-clause-end
returns-in-Ok-true-clause-end g c = λ most seen h e.
    let (read, same) = c.loop.invariant.read most seen h in
    let end = c.in-Ok-true.ensures.end most seen read (search rules) in
    (ap vec_items (c.in-Ok-true.ensures.end_same (search rules)) ∙ same, end.0, end.1)
