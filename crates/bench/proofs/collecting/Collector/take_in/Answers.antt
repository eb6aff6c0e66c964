-- A collector sees outcomes as what came of harts, so what was written of one has to be said of all: by laws on lists,
-- which no tactic finds.
use Rattle.std.proofs.Common.{ap, arith, length, set, subst, sym, ◌∙◌}
use Rattle.std.proofs.lemmas.List.{length-map}
use Rattle.receiver.specs.Received.{Received}
use Rattle.bench.specs.Collected.{Collected}
use Rattle.bench.specs.steps.Collecting.{IsCollected, taken_in, taken_of_outcome}
use Rattle.bench.proofs.MessageAnswers.{ends_not_accepted, ends_refused, ends_taken}
use Rattle.bench.proofs.TakesIn.{TakesIn, takes_in, takes_kept}
use Rattle.bench.proofs.collecting.Collector.take_in.Goals as goal

pub returns-then-is_refused : goal.returns-then-is_refused
returns-then-is_refused g c =
    ends_refused _ _ _ _ c.args.self.now c.self.view_is c.args.message c.from-hart.result c.from-hart.ensures
    (c.is_refused.ensures.refused c.if-is_refused.true)

pub returns-in-Err : goal.returns-in-Err
returns-in-Err g c =
    ends_not_accepted _ _ _ _ c.args.self.now c.self.view_is c.args.message c.from-hart.result c.from-hart.ensures
    c.accept.result c.accept.new.self c.in-Err.fault c.self.invariant (c.is_refused.ensures.going c.if-is_refused.false)
    c.accept.ensures.value c.in-Err.is c.accept.ensures.state c.accept.ensures.refused

module _ (g : _) (c : goal.After-self-1 g) where
  abbrev before : Collected
  before = record {
    logs = c.self.inside.logs.now;
    keep = c.self.inside.keep;
    received = c.self.inside.receiver;
    harts = taken_in c.self.inside.harts.items;
  }

  abbrev now : Collected
  now = record before {
    received = c.take_packet.new.receiver;
    harts = taken_in (set c.self.inside.harts.items c.from-hart.result c.take_packet.new.outcome);
  }

  step : TakesIn c.args.message c.in-Ok.packet c.take_packet.result before now
  step =
      takes_in c.self.inside.logs.now c.self.inside.keep c.self.inside.receiver c.accept.new.self
      c.take_packet.new.receiver c.self.inside.harts.items
      c.args.message c.in-Ok.packet c.from-hart.result c.log_at-log.result.now c.index_mut.result.now
      c.take_packet.new.outcome
      c.take_packet.result c.from-hart.ensures c.self.invariant (sym c.accept.ensures.value ∙ c.in-Ok.is)
      c.accept.ensures.state
      c.in-Ok.ensures.known c.log_at-log.ensures c.index_mut.ensures.value c.take_packet.ensures

pub invariant_of-self-2 : goal.invariant_of-self-2
invariant_of-self-2 g c =
    takes_kept c.args.message c.in-Ok.packet (before g c) (now g c) c.take_packet.result (step g c)

pub returns : goal.returns
returns g c =
    ends_taken _ _ _ _ c.args.self.now c.self.view_is c.args.message c.from-hart.result c.from-hart.ensures
    c.in-Ok.packet c.take_packet.result (now g c) (c.is_refused.ensures.going c.if-is_refused.false)
    c.take_packet.ensures.one_memory (step g c)

pub invariant_of-self : goal.invariant_of-self
invariant_of-self g c =
    subst (λ received. IsCollected (record {
      logs = c.self.inside.logs.now;
      keep = c.self.inside.keep;
      received = received;
      harts = taken_in c.self.inside.harts.items;
    })) (sym c.in-Err.ensures.refused) c.self.invariant

pub log_at-log-requires : goal.log_at-log-requires
log_at-log-requires g c =
    let known = c.in-Ok.ensures.known in
    let same = ap (λ (r : Received). length r.lists) c.accept.ensures.state in
    let lists = c.self.invariant.received.lists in
    let logs = c.self.invariant.logs in
    let hart = c.from-hart.ensures in omega (arith, known, same, lists, logs, hart)

pub index_mut-requires : goal.index_mut-requires
index_mut-requires g c =
    let known = c.in-Ok.ensures.known in
    let same = ap (λ (r : Received). length r.lists) c.accept.ensures.state in
    let lists = c.self.invariant.received.lists in
    let harts = c.self.invariant.harts in
    let taken = length-map c.self.inside.harts.items taken_of_outcome in
    let counted = c.self.inside.harts.ok.0 in
    let hart = c.from-hart.ensures in omega (arith, known, same, lists, harts, taken, counted, hart)

pub take_packet-requires : goal.take_packet-requires
take_packet-requires g c = record { known = c.in-Ok.ensures.known }
