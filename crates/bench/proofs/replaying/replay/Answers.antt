-- The funnel machine is followed turn by turn, by lemmas on its states.
use Rattle.std.proofs.Common.{Some, ap, subst, ◌∙◌}
use Rattle.std.proofs.lemmas.List.{take_all}
use Rattle.std.proofs.lemmas.Option.{slice_get-get_or}
use Rattle.funnel.specs.declared.turn.Turn.TheVariants as turn
use Rattle.bench.specs.Replayed.{replayed}
use Rattle.bench.specs.steps.Taking.{CameUnlessRefused, LacksSome}
use Rattle.bench.proofs.ReplayEnds.{are_beginnings, are_those_taken, lack_some, names_refused}
use Rattle.bench.proofs.ReplayTurns.{after_collect, after_hart, as_many, is_ready, starts}
use Rattle.bench.proofs.replaying.replay.Goals as goal
use Rattle.bench.proofs.replaying.replay.Goals.{After-finish-outcome, in-Hart, in-Collect}

pub loop-turn-init : goal.loop-turn-init
loop-turn-init g c =
    let new = c.in-Ok-new.ensures in
    starts c.args.config c.args.logs.now c.in-Ok.core c.in-Ok-senders_of.senders.items c.in-Ok-new.collector
    c.in-Ok.ensures.made
    c.in-Ok-senders_of.ensures new.made.0 new.made.1
    (λ hart log at. new.begun c.args.config.period c.args.config.mode hart log at)

pub send-requires : goal.send-requires
send-requires g c = record {
  known =
      as_many c.args.config c.args.logs.now c.args.turns.now c.loop-turn.turn-index c.loop-turn.core
      c.loop-turn.senders.items c.loop-turn.collector c.loop-turn.stop c.loop-turn.invariant;
}

pub collect-requires : goal.collect-requires
collect-requires g c = record {
  ready =
      is_ready c.args.config c.args.logs.now c.args.turns.now c.loop-turn.turn-index c.loop-turn.core
      c.loop-turn.senders.items c.loop-turn.collector c.loop-turn.stop c.loop-turn.invariant;
}

pub loop-turn-preserved : goal.loop-turn-preserved
loop-turn-preserved g c =
    let turns = c.args.turns.now in
    let place = c.loop-turn.turn-index in
    let at = slice_get-get_or turns place (turn.Hart 0) c.loop-turn-test.true in
    elim c.match-turn.branch [
      | in-Hart w ↦
          rw (w.core-is, w.senders-is, w.collector-is, w.stop-is)
          (after_hart c.args.config c.args.logs.now turns place c.loop-turn.core c.loop-turn.senders.items
          c.loop-turn.collector c.loop-turn.stop c.loop-turn.invariant w.in-Hart.hart (at ∙ ap Some w.in-Hart.is)
          c.in-Ok-new.ensures.legal w.send.new.core w.send.new.senders.items w.send.ensures.sent)
      | in-Collect w ↦
          rw (w.core-is, w.senders-is, w.collector-is, w.stop-is)
          (after_collect c.args.config c.args.logs.now turns place c.loop-turn.core c.loop-turn.senders.items
          c.loop-turn.collector c.loop-turn.stop c.loop-turn.invariant (at ∙ ap Some w.in-Collect.is)
          w.collect.new.core w.collect.new.collector w.collect.new.stop w.collect.ensures.core w.collect.ensures.keep
          w.collect.ensures.taken w.collect.ensures.lacks w.collect.ensures.names)
    ]

pub returns-clause-beginnings : goal.returns-clause-beginnings
returns-clause-beginnings g c =
    let e = c.finish-outcome.ensures in
    let r = c.loop-turn.invariant in
    are_beginnings c.args.config c.args.logs.now _ c.loop-turn.collector c.finish-outcome.result.harts.items
    c.in-Ok-new.ensures.legal r.keep r.taken (record { count = e.count; came = e.came })

-- What was taken by all turns came, unless memory for its hart was refused.
taken : (g : _) (c : After-finish-outcome g)
    → CameUnlessRefused c.args.config.period c.args.config.mode c.args.logs.now
    (replayed c.args.config.period c.args.config.mode c.args.config.capacity c.args.logs.now c.args.turns.now).taken
    c.loop-turn.collector
taken g c =
    let config = c.args.config in
    let logs = c.args.logs.now in
    subst (λ turns. CameUnlessRefused config.period config.mode logs
    (replayed config.period config.mode config.capacity logs turns).taken c.loop-turn.collector)
    (take_all c.loop-turn.turn-index c.args.turns.now c.loop-turn-test.false) c.loop-turn.invariant.taken

pub returns-clause-taken : goal.returns-clause-taken
returns-clause-taken g c =
    let e = c.finish-outcome.ensures in
    are_those_taken c.args.config c.args.logs.now _ c.loop-turn.collector c.finish-outcome.result.harts.items
    c.in-Ok-new.ensures.legal c.loop-turn.invariant.keep
    (taken g (goal.at.returns-clause-taken g c).After-finish-outcome)
    (record { count = e.count; came = e.came })

pub returns-clause-stop : goal.returns-clause-stop
returns-clause-stop g c =
    let e = c.finish-outcome.ensures in
    let r = c.loop-turn.invariant in
    names_refused c.args.config c.args.logs.now _ c.loop-turn.collector c.finish-outcome.result.harts.items
    c.in-Ok-new.ensures.legal r.keep r.taken (record { count = e.count; came = e.came }) c.loop-turn.stop r.named

pub returns-clause-lacks : goal.returns-clause-lacks
returns-clause-lacks g c =
    let e = c.finish-outcome.ensures in
    let r = c.loop-turn.invariant in
    let config = c.args.config in
    let logs = c.args.logs.now in
    let lacks = subst (λ turns. LacksSome (replayed config.period config.mode config.capacity logs turns).taken
    c.loop-turn.collector) (take_all c.loop-turn.turn-index c.args.turns.now c.loop-turn-test.false) r.lacks in
    lack_some config logs _ c.loop-turn.collector c.finish-outcome.result.harts.items
    c.in-Ok-new.ensures.legal r.keep (taken g (goal.at.returns-clause-lacks g c).After-finish-outcome)
    (record { count = e.count; came = e.came }) lacks
