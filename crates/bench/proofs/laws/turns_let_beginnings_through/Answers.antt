-- Both are laws of the funnel machine, whose premises the packets of legal logs meet.
use Rattle.std.proofs.Common.{length, map, take, ap, ◌∙◌}
use Rattle.encoder.specs.Payloads.{payloads}
use Rattle.message.specs.OfHart.{of_hart}
use Rattle.funnel.proofs.EveryState.{every-keeps}
use Rattle.funnel.proofs.Kept.{keeps-first, keeps-lawful}
use Rattle.bench.specs.Replayed.{replayed}
use Rattle.bench.proofs.GotLemmas.{close_last, got_first}
use Rattle.bench.proofs.OwnPayloads.{own_payloads}
use Rattle.bench.proofs.laws.turns_let_beginnings_through.Goals as goal

pub returns-clause-lawful : goal.returns-clause-lawful
returns-clause-lawful c = λ period mode capacity logs turns legal.
    keeps-lawful capacity (map (payloads period mode) logs) (replayed period mode capacity logs turns)
    (every-keeps capacity (map (payloads period mode) logs) turns) (close_last period mode logs legal)

pub returns-clause-got : goal.returns-clause-got
returns-clause-got c = λ period mode capacity logs turns hart log decoded legal at described.
    let taken = of_hart hart (replayed period mode capacity logs turns).taken in
    let first = keeps-first capacity (map (payloads period mode) logs) (replayed period mode capacity logs turns)
    (every-keeps capacity (map (payloads period mode) logs) turns) hart in
    got_first period mode log legal taken decoded
    (first ∙ ap (take (length taken)) (own_payloads period mode hart logs log at)) described
