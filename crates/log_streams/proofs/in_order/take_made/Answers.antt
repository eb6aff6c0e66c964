-- One log more of which something was made.
use Rattle.std.proofs.Common.{Some, ap, sym, ◌∙◌}
use Rattle.log_streams.proofs.PlacesLemmas.{taken-more, taken-none}
use Rattle.log_streams.proofs.in_order.take_made.Goals as goal

pub loop-one-init : goal.loop-one-init
loop-one-init g c =
    taken-none c.args.all.items c.into_iter-one-iterator.result.rest.items c.args.made.now.items
    c.into_iter-one-iterator.ensures.into_iter_gives.0 c.requires

pub loop-one-preserved : goal.loop-one-preserved
loop-one-preserved g c =
    taken-more c.args.all.items c.loop-one.one-iterator.rest.items c.next.new.self.rest.items c.loop-one.made.items
    c.push.new.self.items c.in-Some.one c.in-Some-Ok.thing c.push.result c.loop-one.invariant c.in-Some.ensures.steps.0
    (c.in-Some-Ok.is ∙ ap Some c.in-Some-Ok.field-0-is) c.push.ensures.items
    (sym c.is_err.ensures.value ∙ c.if-is_err.false)
