-- Which list has the place more is found by lemmas on lists.
use Rattle.std.proofs.Common.{rules, ◌≡◌, ◌≢◌, ◌⊎◌, inl, inr, ◌<◌, ◌≤◌, ◌++◌, ◌∷◌, [], List, ℕ, arith, ap, length, refl, subst, sym, ◌∙◌}
use Rattle.std.proofs.Common.{slice_get, Some}
use Rattle.std.specs.Vec.{vec_len}
use Rattle.std.specs.declared.vec.Vec.{Vec}
use Rattle.std.proofs.lemmas.Option.{slice_get_read, slice_get_within}
use Rattle.message.proofs.AcceptedLemmas.{slice_get-set}
use Rattle.parallel_decode.proofs.placing.add_selected.Goals as goal

pub returns-in_ok-reserve-in-Some-clause-added : goal.returns-in_ok-reserve-in-Some-clause-added
returns-in_ok-reserve-in-Some-clause-added g c = λ selected other own is.
    let lists = c.args.places.now.items in
    let list = c.in-Some.own.now in
    let new = c.push_reserved.new.self in
    let counted : vec_len c.args.places.now ≡ length lists = c.args.places.now.ok.0 in
    let within : c.from.result < length lists = subst (λ n. c.from.result < n) counted
    (c.in-Some.ensures.variant.0 refl) in
    let here = slice_get_read lists (length lists) c.from.result list refl within c.in-Some.ensures.value in
    let pushed = c.push_reserved.ensures.items ∙ ap (λ l. l ++ c.args.place ∷ []) c.in_ok-reserve-in-Some.ensures.items
    in
    added lists list new c.args.hart c.from.result c.args.place c.from.ensures here pushed other own
    (slice_get-set lists c.from.result new other own is)
  where
    added : {A : Type 0} (lists : List (Vec ℕ A)) (list new : Vec ℕ A) (hart at place : ℕ) → at ≡ hart
        → slice_get lists at ≡ Some list → new.items ≡ list.items ++ place ∷ [] → (other : ℕ) (own : Vec ℕ A)
        → ((at ≡ other) × (own ≡ new)) ⊎ ((at ≢ other) × (slice_get lists other ≡ Some own))
        → (before : Vec ℕ A) × (slice_get lists other ≡ Some before)
        × (((other ≡ hart) × (own.items ≡ before.items ++ place ∷ [])) ⊎ ((other ≢ hart) × (own.items ≡ before.items)))
    added {A} lists list new hart at place same here pushed other own (inl (this, is_new)) = (
      list,
      subst (λ h. slice_get lists h ≡ Some list) this here,
      inl (sym this ∙ same, ap (λ (o : Vec ℕ A). o.items) is_new ∙ pushed),
    )
    added lists list new hart at place same here pushed other own (inr (not_this, found)) =
        (own, found, inr ((λ is. not_this (same ∙ sym is)), refl))

pub returns-in_ok-reserve-in-Some-clause-known : goal.returns-in_ok-reserve-in-Some-clause-known
returns-in_ok-reserve-in-Some-clause-known g c = λ known selected.
    let lists = c.args.places.now.items in
    let counted : vec_len c.args.places.now ≡ length lists = c.args.places.now.ok.0 in
    subst (λ h. h < length lists) c.from.ensures
    (subst (λ n. c.from.result < n) counted (c.in-Some.ensures.variant.0 refl))

pub returns-in-None-clause-added : goal.returns-in-None-clause-added
returns-in-None-clause-added g c = λ selected other own is.
    let lists = c.args.places.now.items in
    let over : length lists ≤ c.args.hart = search rules in
    let within = slice_get_within lists other own is in
    (own, is, inr ((λ same. absurd (omega (arith, over, within, same))), refl))
