-- A log has one first fault at most.
use Rattle.std.proofs.Common.{◌≡◌, ℕ, List, [], ◌∷◌, ◌++◌, Option, Some, None, suc, length, refl, sym, ap, ◌∙◌, subst}
use Rattle.std.specs.List.{last_or}
use Rattle.retire.specs.declared.event.Event.{Event}
use Rattle.rvclass.specs.Words.{Words}
use Rattle.legalpath.proofs.ReasonLemmas.{none_applies, one_reason}
use Rattle.legalpath.specs.Legal.{FollowOn}
use Rattle.legalpath.specs.Reason.{IsReason}
use Rattle.legalpath.specs.ReasonLaws.{NamesOneFault}
use Rattle.legalpath.specs.declared.fault.PathFault.{PathFault}
use Rattle.legalpath.specs.declared.fault.Why.{Why}

-- What follows on up to a refused event, and what does up to another, end at one place with one reason.
same_fault : (words : Words) (before : Option Event) (front other : List Event) (e f : Event) (rest more : List Event)
    (why reason : Why) → front ++ e ∷ rest ≡ other ++ f ∷ more → FollowOn words before front
    → FollowOn words before other
    → IsReason words (last_or before front) e why → IsReason words (last_or before other) f reason
    → (length front ≡ length other) × (why ≡ reason)
same_fault words before [] [] e f rest more why reason same r s p q =
    let is : f ≡ e = cc in (
      refl,
      one_reason words before e why reason p
          (subst (λ (x : Event). IsReason words before x reason) is q),
    )
same_fault words before [] (x ∷ other) e f rest more why reason same r s p q =
    let is : e ≡ x = cc in absurd (none_applies words before x why s.0 s.1
    (subst (λ (y : Event). IsReason words before y why) is p).applies)
same_fault words before (x ∷ front) [] e f rest more why reason same r s p q =
    let is : f ≡ x = cc in absurd (none_applies words before x reason r.0 r.1
    (subst (λ (y : Event). IsReason words before y reason) is q).applies)
same_fault words before (x ∷ front) (y ∷ other) e f rest more why reason same r s p q =
    let is : y ≡ x = cc in
    let tails : front ++ e ∷ rest ≡ other ++ f ∷ more = cc in
    let follows : FollowOn words (Some x) other = subst (λ (z : Event). FollowOn words (Some z) other) is s.2 in
    let named : IsReason words (last_or (Some x) other) f reason = subst
    (λ (z : Event). IsReason words (last_or (Some z) other) f reason) is q in
    let found = same_fault words (Some x) front other e f rest more why reason tails r.2 follows p named in
    (ap suc found.0, found.1)

pub names_one_fault : NamesOneFault
names_one_fault words log fault other p q =
    let found = same_fault words None p.front q.front p.event q.event p.rest q.rest fault.why other.why
    (sym p.whole ∙ q.whole) p.legal q.legal p.reason q.reason in
    same fault other (cc (p.counted, q.counted, found.0)) found.1
  where
    same : (a b : PathFault) → a.row ≡ b.row → a.why ≡ b.why → a ≡ b
    same a b row why =
        let by_row : ℕ → PathFault = λ n. record { row = n; why = a.why } in
        let by_why : Why → PathFault = λ w. record { row = b.row; why = w } in
        ap by_row row ∙ ap by_why why
