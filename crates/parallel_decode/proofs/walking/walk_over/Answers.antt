-- One message more: by lemmas on captures, which no tactic finds.
use Rattle.std.proofs.Common.{◌<◌, ◌++◌, ◌∙◌, [], ◌∷◌, ap, arith, length, subst, sym}
use Rattle.message.specs.Range.{selected, selects}
use Rattle.parallel_decode.proofs.PlaceLemmas.{listed_selected}
use Rattle.parallel_decode.specs.Places.{IsAdded}
use Rattle.parallel_decode.proofs.WalkLemmas.{one_of_harts, walked-next, walked-none}
use Rattle.parallel_decode.specs.steps.Starts.{AreStarts, StartsAt}
use Rattle.parallel_decode.proofs.walking.walk_over.Goals as goal

pub loop-walk-init : goal.loop-walk-init
loop-walk-init g c = record {
  messages = [];
  walked = walked-none c.args.range c.args.harts c.args.bytes.now c.in_ok-empty_lists.field-0.items
      c.in_ok-empty_lists.ensures.empty (c.in_ok-empty_lists.ensures.count ∙ c.from.ensures);
  counted = omega arith;
}

pub loop-walk-preserved : goal.loop-walk-preserved
loop-walk-preserved g c =
    let messages = c.loop-walk.invariant.messages in
    let walked = c.loop-walk.invariant.walked in
    let found = c.in-Some.ensures in
    let message = found.0 in
    let starts = found.1 in
    let hart = found.2 in
    let listed = c.in_ok-add_selected.ensures in
    let places' = c.add_selected.new.places.items in
    let at : AreStarts c.args.bytes.now places' (selected c.args.range messages ++ selected c.args.range (message ∷ [])) =
    listed_selected (StartsAt c.args.bytes.now) c.loop-walk.walk.places.items places' (selected c.args.range messages)
    message c.loop-walk.walk.place walked.starts c.args.range
    (λ is. subst (λ h. IsAdded h c.loop-walk.walk.place c.loop-walk.walk.places.items places') (sym hart)
    (listed.added (ap (selects c.args.range) (sym hart) ∙ is)))
    (λ is. listed.passed (ap (selects c.args.range) (sym hart) ∙ is)) (λ _. starts) in
    let of_harts = one_of_harts c.args.range c.args.harts message
    (λ is. subst (λ n. message.hart < n) walked.count (subst (λ h. h < length c.loop-walk.walk.places.items) (sym hart)
    (listed.known c.if-not-branch.false (ap (selects c.args.range) (sym hart) ∙ is)))) in
    let all = walked-next c.args.range c.args.harts c.args.bytes.now messages message c.loop-walk.walk.places.items
    c.add_selected.new.places.items c.loop-walk.walk.place c.loop-walk.walk.passed c.in-Some.head.size starts.rest walked
    starts.ranges starts.begins found.3 at of_harts (listed.harts ∙ walked.count) in
    record {
      messages = messages ++ message ∷ [];
      walked = all.0;
      counted = omega arith;
    }
