-- How many copies are counted, from one message to the next.
use Rattle.std.proofs.Common.{◌≡◌, ℕ, zero, suc, ◌+◌, ◌-◌, ◌≤◌, ◌<◌, Bool, true, false, List, [], ◌∷◌, drop, get_or}
use Rattle.std.proofs.Common.{length, refl, sym, ap, subst, ◌∙◌, arith}
use Rattle.std.proofs.lemmas.List.{length-drop, length-map}
use Rattle.salvaging.specs.declared.received.ReceivedMessage.{ReceivedMessage}
use Rattle.salvaging.specs.steps.Arrivals.{Arrival, arrival_of, arrivals_in}
use Rattle.salvaging.specs.steps.Grouping.{are_alike, copies_by, one_more}

-- The messages before this place are looked at.
pub record CopiesSo (came : List ReceivedMessage) (count at : ℕ) : Type 0 where
  pub some : 1 ≤ at
  pub counted : count + copies_by (drop (at - 1) (arrivals_in came)) ≡ copies_by (arrivals_in came)
  pub few : count < at

-- What stands at a place, and what is behind it.
drop_at-suc : (came : List ReceivedMessage) (at : ℕ) (d : ReceivedMessage) → at < length came
    → drop at (arrivals_in came) ≡ arrival_of (get_or came at d) ∷ drop (suc at) (arrivals_in came)
drop_at-suc [] at d within = absurd (omega (arith, within))
drop_at-suc (first ∷ came) zero d within = refl
drop_at-suc (first ∷ came) (suc at) d within = drop_at-suc came at d (omega (arith, within))

drop_at : (came : List ReceivedMessage) (at : ℕ) (one : ReceivedMessage) → at < length came → one ≡ get_or came at one
    → drop at (arrivals_in came) ≡ arrival_of one ∷ drop (at + 1) (arrivals_in came)
drop_at came at one within is =
    let next : suc at ≡ at + 1 = omega arith in
    drop_at-suc came at one within
    ∙ ap (λ o. arrival_of o ∷ drop (suc at) (arrivals_in came)) (sym is)
    ∙ ap (λ n. arrival_of one ∷ drop n (arrivals_in came)) next

few_more : (alike : Bool) (count at : ℕ) → count < at → one_more alike count < at + 1
few_more true count at few = omega (arith, few)
few_more false count at few = omega (arith, few)

more_counted : (alike : Bool) (count rest from all : ℕ) → from ≡ one_more alike rest → count + from ≡ all
    → one_more alike count + rest ≡ all
more_counted true count rest from all step counted = omega (arith, step, counted)
more_counted false count rest from all step counted = omega (arith, step, counted)

pub copies_more : (came : List ReceivedMessage) (count at : ℕ) → CopiesSo came count at → at < length came
    → (before more : ReceivedMessage) → before ≡ get_or came (at - 1) before → more ≡ get_or came at more
    → (alike : Bool) → alike ≡ are_alike (arrival_of before) (arrival_of more) → (new : ℕ)
    → new ≡ one_more alike count → CopiesSo came new (at + 1)
copies_more came count at c within before more is_before is_more alike is new new_is =
    let some = c.some in
    let back : at - 1 + 1 ≡ at = omega (arith, some) in
    let on : at + 1 - 1 ≡ at = omega arith in
    let all = arrivals_in came in
    let here = drop_at came at more within is_more in
    let both = drop_at came (at - 1) before (omega (arith, within)) is_before
    ∙ ap (λ n. arrival_of before ∷ drop n all) back ∙ ap (λ l. arrival_of before ∷ l) here in
    let step = ap copies_by both ∙ ap (λ b. one_more b (copies_by (arrival_of more ∷ drop (at + 1) all))) (sym is) in
    let rest = ap (λ n. copies_by (drop n all)) on ∙ ap copies_by here in
    record {
      some = omega arith;
      counted = ap (λ n. n + copies_by (drop (at + 1 - 1) all)) new_is
          ∙ ap (λ n. one_more alike count + n) rest
          ∙ more_counted alike count (copies_by (arrival_of more ∷ drop (at + 1) all))
          (copies_by (drop (at - 1) all)) (copies_by all) step c.counted;
      few = subst (λ n. n < at + 1) (sym new_is) (few_more alike count at c.few);
    }

-- One more where a test is true.
pub more_if : (test : Bool) (count more : ℕ) → test ≡ true → more ≡ count + 1 → more ≡ one_more test count
more_if true count more is grown = omega (arith, grown)
more_if false count more is grown = cc

pub none_more_if : (test : Bool) (count more : ℕ) → test ≡ false → more ≡ count → more ≡ one_more test count
none_more_if true count more is same = cc
none_more_if false count more is same = same

-- All are looked at.
pub copies_end : (came : List ReceivedMessage) (count at : ℕ) → CopiesSo came count at → length came ≤ at
    → count ≡ copies_by (arrivals_in came)
copies_end came count at c over =
    let counted = c.counted in
    let long = length-drop (at - 1) (arrivals_in came) in
    let all = length-map came arrival_of in
    let none = no_copy (drop (at - 1) (arrivals_in came)) (omega (arith, long, all, over)) in
    omega (arith, counted, none)
  where
    no_copy : (arrivals : List Arrival) → length arrivals ≤ 1 → copies_by arrivals ≡ 0
    no_copy [] short = refl
    no_copy (one ∷ []) short = refl
    no_copy (one ∷ other ∷ arrivals) short = absurd (omega (arith, short))
