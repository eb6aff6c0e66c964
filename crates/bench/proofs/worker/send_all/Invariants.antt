use Rattle.std.proofs.Common.{◌≡◌, false}
use Rattle.encoder.specs.SourceAt.{IsAt}
use Rattle.bench.proofs.WorkLemmas.{HaveGone}
use Rattle.bench.proofs.worker.send_all.Given as goal

abbrev pub invariant-loop-number : goal.invariant-loop-number
invariant-loop-number g l =
    let at = g.S.Payloads.at in
    record {
      source : IsAt (at l.fn.source).period (at l.fn.source).mode (at l.fn.source).log l.number (at l.source);
      going : l.handed_back ≡ false;
      gone : HaveGone (at l.fn.source).period (at l.fn.source).mode (at l.fn.source).log l.fn.port l.number l.port;
    }
