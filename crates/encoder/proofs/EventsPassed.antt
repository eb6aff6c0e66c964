-- Events that are passed over.
use Rattle.std.proofs.Common.{◌≡◌, ℕ, ◌-◌, Bool, true, false, ◌==◌, ◌&&◌, ◌||◌, not, cond, List, [], Some}
use Rattle.std.proofs.Common.{length, sym, ap, ◌∙◌}
use Rattle.std.specs.Prelude.{nat_lt}
use Rattle.std.proofs.lemmas.Bool.{and_parts, not-true}
use Rattle.retire.specs.declared.event.Event.{Event}
use Rattle.retire.specs.declared.event.Event.TheVariants.{Retire, Trap}
use Rattle.rvclass.specs.Words.{Words}
use Rattle.encoder.specs.steps.Stepping.{next_due, is_discontinuity_by_type, jumps_back_to, rule_of_quiet, rule_before}
use Rattle.encoder.specs.steps.Stepping.{is_map_or_nothing, is_quiet, pending_with, left_after, due_next, given}
use Rattle.encoder.specs.steps.Stepping.{encoder_after}
use Rattle.encoder.specs.steps.Stepping.{passes}
use Rattle.encoder.specs.declared.due.Due.TheVariants as due
use Rattle.encoder.specs.declared.encoder.Encoder.{Encoder}
use Rattle.encoder.proofs.EventsTaken.{after_quiet, given_quiet}

-- What an event is that passes.
record Facts (words : Words) (held : Event) (left : ℕ) (pending : List Bool) (next : Event) : Type 0 where
  some_left : (left == 0) ≡ false
  few : nat_lt (length pending) 31 ≡ true
  nothing_due : next_due (Some held) due.Nothing left next ≡ due.Nothing
  unreported : is_map_or_nothing (rule_before words held due.Nothing next due.Nothing) ≡ true

facts : (words : Words) (held : Event) (left : ℕ) (pending : List Bool) (next : Event)
    → passes words held left pending next ≡ true → Facts words held left pending next
facts words (Retire at type level) left pending (Retire addr itype priv) h =
    let back = and_parts _ (not (jumps_back_to words (Retire at type level) (Retire addr itype priv))) h in
    let few = and_parts _ (nat_lt (length pending) 31) back.0 in
    let leaves = and_parts _ (not (is_discontinuity_by_type type)) few.0 in
    let same = and_parts (priv == level) (not (left == 0)) leaves.0 in
    let some = not-true (left == 0) same.1 in
    let stays = not-true (is_discontinuity_by_type type) leaves.1 in
    record {
      some_left = some;
      few = few.1;
      nothing_due =
          ap (λ b. cond (not b || (left == 0)) due.Sync (cond (is_discontinuity_by_type type) due.Target due.Nothing))
          same.0
          ∙ ap (λ b. cond (false || b) due.Sync (cond (is_discontinuity_by_type type) due.Target due.Nothing)) some
          ∙ ap (λ b. cond b due.Target due.Nothing) stays;
      unreported =
          ap (λ b. is_map_or_nothing (rule_of_quiet false b)) (not-true
          (jumps_back_to words (Retire at type level) (Retire addr itype priv)) back.1);
    }
facts words (Retire at type level) left pending (Trap priv interrupt cause epc tval) h = cc
facts words (Trap level irq code at value) left pending (Retire addr itype priv) h = cc
facts words (Trap level irq code at value) left pending (Trap priv interrupt cause epc tval) h = cc

pub passes-some_left : (words : Words) (held : Event) (left : ℕ) (pending : List Bool) (next : Event)
    → passes words held left pending next ≡ true → (left == 0) ≡ false
passes-some_left words held left pending next h = (facts words held left pending next h).some_left

-- An encoder that is given it.
abbrev pub passed : Encoder → Event → Encoder
passed e next = record e {
  left = e.left - 1;
  held = Some next;
  due = due.Nothing;
  pending = pending_with due.Nothing next e.pending;
}

left_is : (words : Words) (held : Event) (between left : ℕ) (pending : List Bool) (next : Event)
    → passes words held left pending next ≡ true → left_after between left next ≡ left - 1
left_is words held between left pending (Retire addr itype priv) h =
    ap (λ b. cond b between (left - 1)) (passes-some_left words held left pending (Retire addr itype priv) h)
left_is words (Retire at type level) between left pending (Trap priv interrupt cause epc tval) h = cc
left_is words (Trap level irq code at value) between left pending (Trap priv interrupt cause epc tval) h = cc

module _ (words : Words) (e : Encoder) (held next : Event) (is : e.held ≡ Some held) (asked : e.due ≡ due.Nothing)
    (h : passes words held e.left e.pending next ≡ true) where
  abbrev known : Facts words held e.left e.pending next
  known = facts words held e.left e.pending next h

  due_is : due.Nothing ≡ due_next e next
  due_is = sym (ap (λ x. next_due x e.due e.left next) is ∙ ap (λ d. next_due (Some held) d e.left next) asked
      ∙ known.nothing_due)

  quiet : is_quiet words e e.held next due.Nothing ≡ true
  quiet =
      ap (λ x. is_quiet words e x next due.Nothing) is
      ∙ ap (λ d. is_map_or_nothing (rule_before words held d next due.Nothing) && nat_lt (length e.pending) 31) asked
      ∙ ap (λ b. b && nat_lt (length e.pending) 31) known.unreported
      ∙ known.few

  pub after_passed : passed e next ≡ encoder_after words e next
  after_passed =
      ap (λ n. record (passed e next) { left = n }) (sym (left_is words held e.between e.left e.pending next h))
      ∙ after_quiet words e next due.Nothing due_is quiet

  pub given_passed : [] ≡ given words e next
  given_passed = given_quiet words e next due.Nothing due_is quiet
