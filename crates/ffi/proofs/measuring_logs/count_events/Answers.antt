-- The events are counted as the first of a log: no tactic takes the empty list for those before.
use Rattle.std.proofs.Common.{[]}
use Rattle.rvclass.specs.Fetch.{words_of}
use Rattle.ffi.proofs.measuring_logs.count_events.Goals as goal

pub returns-clause-value : goal.returns-clause-value
returns-clause-value c = λ legal.
    let none = c.new-counted.ensures.none (words_of c.args.program.now) in
    c.finish.ensures.value c.args.period c.args.mode c.args.events.now
    (c.add.ensures.counted c.args.period c.args.mode [] none legal)
