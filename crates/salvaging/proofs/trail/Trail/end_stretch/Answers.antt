-- The stretch is put behind the parts by a lemma on lists, which no tactic finds.
use Rattle.std.proofs.Common.{rules, ◌-◌, ◌++◌, [], ◌∷◌, length, ap, subst, ◌∙◌}
use Rattle.std.specs.Prelude.{◌≢◌}
use Rattle.salvaging.specs.LeftParts.{Events}
use Rattle.salvaging.specs.declared.part.Part.TheVariants as part
use Rattle.salvaging.specs.steps.UnderWay.{BeginsWith}
use Rattle.salvaging.proofs.PushedParts.{adds_stretch}
use Rattle.salvaging.proofs.trail.Trail.end_stretch.Goals as goal

pub returns-clause-ends : goal.returns-clause-ends
returns-clause-ends g c = λ next packets at begins none.
    let old = c.args.self.now in
    let first = c.in-Some.first in
    let last = c.saturating_sub.result in
    let events = c.replace-events.result in
    let new = part.Stretch first last events in
    let begun = subst (λ b. BeginsWith b next packets) c.in-Some.is begins in
    let some : old.events.items ≢ [] = λ is. search rules in
    record {
      added = adds_stretch old.parts.items c.push_reserved.new.self.items new next (length packets) first last
          old.events.items (c.push_reserved.ensures.items ∙ ap (λ l. l ++ new ∷ []) c.in_ok-reserve.ensures.items)
          (ap (λ (v : _). Events first last v.items) c.replace-events.ensures.value) begun.0
          (c.saturating_sub.ensures ∙ ap (λ n. n - 1) at) some;
      none_left = ap (λ (v : _). v.items) c.replace-events.ensures.after ∙ c.new.ensures.items;
    }
