-- Whether the message is a copy is a lemma on lists.
use Rattle.std.proofs.Common.{rules, ◌≡◌, inl, inr, true, false, Contains, refl, sym, ap, subst, ◌∙◌}
use Rattle.std.specs.Option.{unwrap_or}
use Rattle.salvaging.specs.declared.treatment.Treated.{Treated}
use Rattle.salvaging.specs.steps.Arrivals.{arrivals_in}
use Rattle.salvaging.proofs.TreatedAt.{arrives, later_copy, no_copy, numbered}
use Rattle.salvaging.proofs.lookup.treated_at.Goals as goal

pub returns-then-not-is_place : goal.returns-then-not-is_place
returns-then-not-is_place c = λ messages all permuted ordered back rising among here.
    let message = c.args.message.now in
    let arrivals = arrivals_in c.args.came.now in
    let place = c.args.place in
    let own = arrives messages arrivals permuted ordered place message here place message here in
    let first = c.first_like.ensures (record { place = place; message = message }) ordered own refl refl in
    let test : c.is_place.result ≡ false = search rules in
    inl (
      later_copy messages arrivals permuted ordered place message here c.first_like.result first
          (sym c.is_place.ensures ∙ test),
      c.copy.ensures,
    )

pub returns : goal.returns
returns c = λ messages all permuted ordered back rising among here.
    let message = c.args.message.now in
    let arrivals = arrivals_in c.args.came.now in
    let place = c.args.place in
    let own = arrives messages arrivals permuted ordered place message here place message here in
    let first = c.first_like.ensures (record { place = place; message = message }) ordered own refl refl in
    let test : c.is_place.result ≡ true = search rules in
    let one = numbered all message.number among in
    let found = c.row_of.ensures all one.0 back rising one.1 one.2 in
    let is = c.unwrap_or.ensures ∙ ap (λ r. unwrap_or r c.copy-2.result) found.1 in
    inr (
      no_copy messages arrivals permuted ordered place message here c.first_like.result first
          (sym c.is_place.ensures ∙ test),
      subst (λ (t : Treated). Contains all (record { number = message.number; treated = t })) (sym is) found.2,
    )
