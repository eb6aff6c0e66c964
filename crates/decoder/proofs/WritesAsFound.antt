-- A walk is written as it is found, one step at a time.
use Rattle.std.proofs.Common.{◌≡◌, ℕ, ◌+◌, ◌-◌, ◌<◌, Bool, List, [], ◌∷◌, ◌++◌, length, Option, Some, None}
use Rattle.std.proofs.Common.{refl, sym, ap, ◌∙◌, append_assoc, length-append}
use Rattle.std.specs.List.{last_or}
use Rattle.retire.specs.declared.event.Event.{Event}
use Rattle.rvclass.specs.Words.{Words}
use Rattle.decoder.proofs.PassesByStep.{one_move, one_less}
use Rattle.decoder.proofs.StretchEnds.{last_or-last}
use Rattle.decoder.specs.Walk.{End}
use Rattle.decoder.specs.steps.Retracing.{AddsWithin}
use Rattle.decoder.specs.steps.WalkSteps.{Move, Stop, Last, On, advance, follow, event_then, walk_within, summary}
use Rattle.decoder.specs.steps.WritingAsFound.{events_then, Writing}

one_made : (made : List Event) (f : Event) (o : Option (List Event)) → events_then made (event_then f o) ≡ events_then
    (made ++ f ∷ []) o
one_made made f None = refl
one_made made f (Some w) = ap Some (sym (append_assoc made (f ∷ []) w))

module _ (words : Words) (end : End) (from : Event) (taken : List Bool) (limit : ℕ) (old : List Event) where
  module _ (done : ℕ) (here : Event) (left : List Bool) (new : List Event)
      (inv : Writing words limit from taken end old done here left new) (lt : done < limit) where
    opened : (mv : Move) → mv ≡ advance words here left end →
        walk_within words limit from taken end ≡ events_then inv.made
        (follow mv (λ f rest. walk_within words (limit - (done + 1)) f rest end))
    opened mv h =
        inv.leads
        ∙ ap (λ n. events_then inv.made (walk_within words n here left end)) (one_less done limit lt)
        ∙ ap (events_then inv.made) (one_move words (limit - (done + 1)) here left end mv h)

    pub writing_stops : Stop ≡ advance words here left end →
        None ≡ summary from (walk_within words limit from taken end)
    writing_stops h = sym (ap (summary from) (opened Stop h))

    pub writing_ends : (f e : Event) (after : List Event) → Last f ≡ advance words here left end → e ≡ f →
        after ≡ new ++ e ∷ [] → AddsWithin words limit from taken end old after
    writing_ends f e after h is added = (
      inv.made ++ f ∷ [],
      opened (Last f) h,
      added ∙ ap (λ l. l ++ e ∷ []) inv.joined ∙ append_assoc old inv.made (e ∷ [])
          ∙ ap (λ x. old ++ (inv.made ++ x ∷ [])) is,
    )

    pub writing_returns : (f e : Event) → Last f ≡ advance words here left end → e ≡ f →
        Some (done + 1, Some e) ≡ summary from (walk_within words limit from taken end)
    writing_returns f e h is =
        let counted : length (inv.made ++ f ∷ []) ≡ done + 1 =
        length-append inv.made (f ∷ []) ∙ ap (λ n. n + 1) inv.counted in
        let last = last_or-last (Some from) inv.made f in
        sym (ap (summary from) (opened (Last f) h)
        ∙ ap (λ n. Some (n, last_or (Some from) (inv.made ++ f ∷ []))) counted
        ∙ ap (λ l. Some (done + 1, l)) (last ∙ ap Some (sym is)))

    pub writing_goes : (f e : Event) (rest : List Bool) (after : List Event) → On f rest ≡ advance words here left end →
        e ≡ f → after ≡ new ++ e ∷ [] → Writing words limit from taken end old (done + 1) f rest after
    writing_goes f e rest after h is added =
        record {
          made = inv.made ++ f ∷ [];
          joined = added ∙ ap (λ l. l ++ e ∷ []) inv.joined ∙ append_assoc old inv.made (e ∷ [])
              ∙ ap (λ x. old ++ (inv.made ++ x ∷ [])) is;
          counted = length-append inv.made (f ∷ []) ∙ ap (λ n. n + 1) inv.counted;
          leads = opened (On f rest) h ∙ one_made inv.made f (walk_within words (limit - (done + 1)) f rest end);
        }
