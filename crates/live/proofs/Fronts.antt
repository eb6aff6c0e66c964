-- A message that is not true leaves the front where it is.
use Rattle.std.proofs.Common.{◌≡◌, ℕ, zero, suc, ◌-◌, Bool, true, false, cond, not, List, [], Option, None, Some}
use Rattle.std.proofs.Common.{drop, refl, ap, ◌∙◌}
use Rattle.message.specs.declared.message.Message.{Message}
use Rattle.auditing.specs.Fates.{has_greater, has_number, is_true, true_ones}
use Rattle.auditing.specs.Findings.{finding_by, finding_of, greatest_number}
use Rattle.auditing.specs.declared.fate.Fate.{Fate}
use Rattle.auditing.specs.declared.fate.Fate.TheVariants as fate
use Rattle.auditing.specs.declared.finding.Finding.{Finding}
use Rattle.auditing.specs.Known.{known_all, known_one}
use Rattle.live.specs.Compared.{known_finding, known_true}
use Rattle.live.specs.Live.{State, Step, decides, finds, is_new, is_outage, judged, judged_at, moves_to, passes_all, read_to}
use Rattle.live.specs.Live.{settled, settles, standing_now, stays, strange, taken, waits}
use Rattle.live.specs.View.{up_to}
use Rattle.live.specs.declared.arrived.Arrived.{Arrived}
use Rattle.live.specs.declared.standing.Standing.{Standing}
use Rattle.live.specs.declared.standing.Standing.TheVariants as standing

-- What is not true is not new.
untrue_old : (sent came : List Message) (message : Message) → is_true sent message ≡ false
    → is_new (finding_of sent came message) ≡ false
untrue_old sent came message is =
    go (has_number sent message.hart message.number) (is_true sent message)
    (cond (has_number (true_ones sent came) message.hart message.number) fate.Repeat
    (cond (has_greater (true_ones sent came) message.hart message.number) fate.Late fate.InOrder))
    (greatest_number (true_ones sent came) message.hart) is
  where
    go : (known same : Bool) (more : Fate) (greatest : Option ℕ) → same ≡ false
        → is_new (finding_by (cond (not known) fate.Stranger (cond (not same) fate.Changed more)) greatest message.number)
        ≡ false
    go false same more greatest untrue = refl
    go true false more greatest untrue = refl
    go true true more greatest untrue = cc

-- Nothing is left of nothing.
drop_nothing : (count : ℕ) → drop {A = Message} count [] ≡ []
drop_nothing zero = refl
drop_nothing (suc count) = refl

-- What is not new leaves the front, and what payloads are compared by.
old_stays : (window : ℕ) (sent : List Message) (state : State) (one : Arrived) (place : ℕ) (its : Finding)
    → is_new its ≡ false → (decides window sent state one place its).state ≡ (finds sent state one its).state
old_stays window sent state one place its is =
    ap (λ n. (moves_to window sent (cond n (up_to window state.front place) 0) (finds sent state one its).state).state) is
    ∙ ap (λ l. (passes_all window sent (finds sent state one its).state l).state) (drop_nothing state.front)

-- A message that is not true leaves it, by where it is.
untrue_at : (beyond : State → Arrived → Step)
    → ((state : State) (one : Arrived) → (beyond state one).state.front ≡ state.front)
    → (window : ℕ) (sent : List Message) (state : State) (one : Arrived) → known_true state.by sent one.message ≡ false
    → (its : Standing) → (judged_at beyond window sent state one its).state.front ≡ state.front
untrue_at beyond leaves window sent state one is standing.Below = refl
untrue_at beyond leaves window sent state one is standing.Beyond = leaves state one
untrue_at beyond leaves window sent state one is (standing.At place) =
    ap (λ (s : State). s.front)
    (old_stays window sent state one place (known_finding state.by sent state.came one.message)
    (untrue_old (known_all state.by sent) (known_all state.by state.came) (known_one state.by one.message) is))

-- What payloads are compared by stays too.
untrue_by : (window : ℕ) (sent : List Message) (state : State) (one : Arrived)
    → known_true state.by sent one.message ≡ false → (its : Standing)
    → (judged_at strange window sent state one its).state.by ≡ state.by
untrue_by window sent state one is standing.Below = refl
untrue_by window sent state one is standing.Beyond = refl
untrue_by window sent state one is (standing.At place) =
    ap (λ (s : State). s.by)
    (old_stays window sent state one place (known_finding state.by sent state.came one.message)
    (untrue_old (known_all state.by sent) (known_all state.by state.came) (known_one state.by one.message) is))

-- So it does where it waits beyond the view.
pub untrue_waits : (window : ℕ) (sent : List Message) (state : State) (one : Arrived) → known_true state.by sent one.message ≡ false
    → (judged waits window sent state one).state.front ≡ state.front
untrue_waits window sent state one is =
    untrue_at waits (λ state one. refl) window sent state one is (standing_now window sent state one.message)

-- And where it is a stranger there.
pub untrue_strange : (window : ℕ) (sent : List Message) (state : State) (one : Arrived) → known_true state.by sent one.message ≡ false
    → (judged strange window sent state one).state.front ≡ state.front
untrue_strange window sent state one is =
    untrue_at strange (λ state one. refl) window sent state one is (standing_now window sent state one.message)

-- And where it is taken and none of its hart waits.
pub untrue_taken : (window : ℕ) (sent : List Message) (state : State) (one : Arrived)
    → state.waiting one.message.hart ≡ None → known_true state.by sent one.message ≡ false
    → (taken window sent state one).state.front ≡ state.front
untrue_taken window sent state one none is =
    ap (λ o. (judged waits window sent (settled window sent state one o).state one).state.front) none
    ∙ untrue_waits window sent state one is

-- And where one waits that is not true, and there was no outage.
pub untrue_both : (window : ℕ) (sent : List Message) (state : State) (one first : Arrived)
    → state.waiting one.message.hart ≡ Some first → is_outage window sent state first.message one.message ≡ false
    → known_true state.by sent first.message ≡ false → known_true state.by sent one.message ≡ false
    → (taken window sent state one).state.front ≡ state.front
untrue_both window sent state one first at none before is =
    ap (λ o. (judged waits window sent (settled window sent state one o).state one).state.front) at
    ∙ ap (λ b. (judged waits window sent (judged strange window sent (cond b
    (moves_to window sent (read_to sent first.message - window) (settles state one.message.hart))
    (stays (settles state one.message.hart))).state first).state one).state.front) none
    ∙ untrue_waits window sent (judged strange window sent (settles state one.message.hart) first).state one
    (ap (λ h. known_true h sent one.message)
    (untrue_by window sent (settles state one.message.hart) first before
    (standing_now window sent (settles state one.message.hart) first.message)) ∙ is)
    ∙ untrue_strange window sent (settles state one.message.hart) first before
