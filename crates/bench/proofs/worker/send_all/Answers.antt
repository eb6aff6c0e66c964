-- How many payloads went through the port: by lemmas on ports, which no tactic finds.
use Rattle.std.proofs.Common.{◌∙◌, refl}
use Rattle.bench.proofs.WorkLemmas.{all_gone, first_at, none_gone, one_gone, some_gone}
use Rattle.bench.proofs.worker.send_all.Goals.{else-loop-number-test, then-loop-number-test+in_default}
use Rattle.bench.proofs.worker.send_all.Goals.{then-loop-number-test+in-Some+then-not-send_one}
use Rattle.bench.proofs.worker.send_all.Goals as goal

pub loop-number-init : goal.loop-number-init
loop-number-init g c =
    let at = g.S.Payloads.at c.args.source in
    record {
      source = first_at at c.requires.0;
      going = refl;
      gone = none_gone at.period at.mode at.log c.args.port c.requires.1;
    }

pub loop-number-preserved : goal.loop-number-preserved
loop-number-preserved g c =
    let at = g.S.Payloads.at c.args.source in
    let now = c.loop-number in
    record {
      source = c.in-Some.ensures.goes_on at.period now.number at.mode at.log now.invariant.source;
      going = now.invariant.going;
      gone = one_gone at.period at.mode at.log c.args.port now.number now.port c.send_one.new.port c.in-Some.payload
          now.invariant.gone (c.in-Some.ensures.given at.period now.number at.mode at.log now.invariant.source)
          (c.send_one.ensures.sent c.if-not-send_one.false);
    }

pub returns : goal.returns
returns g c =
    let at = g.S.Payloads.at c.args.source in
    let now = c.loop-number in
    let left = c.finish.ensures in
    elim c.loop-number-test.branch [
      | else-loop-number-test w ↦
          all_gone at.period at.mode at.log c.args.port now.number now.port c.finish.result
          c.loop-number-test.handed_back now.invariant.gone (left ∙ w.port-is) (w.handed_back-is ∙ now.invariant.going)
      | then-loop-number-test+in_default w ↦
          all_gone at.period at.mode at.log c.args.port now.number now.port c.finish.result
          c.loop-number-test.handed_back now.invariant.gone (left ∙ w.port-is) (w.handed_back-is ∙ now.invariant.going)
      | then-loop-number-test+in-Some+then-not-send_one w ↦
          some_gone at.period at.mode at.log c.args.port now.number now.port c.finish.result
          c.loop-number-test.handed_back w.in-Some.payload now.invariant.gone
          (w.in-Some.ensures.given at.period now.number at.mode at.log now.invariant.source)
          (left ∙ w.port-is ∙ w.send_one.ensures.refused w.if-not-send_one.true)
    ]
