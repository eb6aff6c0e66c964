-- What the code knows of an event before the next one comes, and its rule.
use Rattle.std.proofs.Common.{◌≡◌, ◌⊎◌, ℕ, ◌+◌, ◌%◌, Bool, true, false, not, ◌&&◌, ◌||◌, ◌==◌, cond, Option, Some, None}
use Rattle.std.proofs.Common.{refl, sym, ap, ◌∙◌, inl, inr}
use Rattle.std.specs.Prelude.{nat_le}
use Rattle.std.proofs.Math.Bool.{and-false, and_self}
use Rattle.retire.specs.Events.{place, is_retirement}
use Rattle.retire.specs.declared.event.Event.{Event}
use Rattle.retire.specs.declared.event.Event.TheVariants.{Retire, Trap}
use Rattle.rvclass.specs.Words.{Words, Word}
use Rattle.rvclass.specs.declared.class.Class.TheVariants.{Plain, Jump, Branch, Uninferable, TrapReturn, NotRetirable}
use Rattle.legalpath.specs.Backward.{jumps_back, is_backward}
use Rattle.legalpath.specs.Discontinuity.{hides_its_target, is_discontinuity}
use Rattle.legalpath.specs.Right.{RetiresOn, Right}
use Rattle.legalpath.specs.Step.{MayStandAt, Step}
use Rattle.legalpath.specs.Successor.{leads_from}
use Rattle.encoder.specs.Due.{due_at}
use Rattle.encoder.specs.PacketsSoFar.{is_known}
use Rattle.encoder.specs.Rule.{is_some_and, is_handler, is_start, is_cut_off, rule}
use Rattle.encoder.specs.Spot.{Spot, count_with}
use Rattle.encoder.specs.steps.Stepping.{is_discontinuity_by_type, due_behind_trap, next_due, cuts_off, jumps_back_to}
use Rattle.encoder.specs.steps.Stepping.{rule_of_quiet, rule_before, is_handler_due}
use Rattle.encoder.specs.declared.due.Due.{Due}
use Rattle.encoder.specs.declared.due.Due.TheVariants as due
use Rattle.encoder.specs.declared.rule.Rule.TheVariants as by

-- A right retirement's type shows whether its word is a discontinuity.
word_type : (word : Option Word) (itype priv : ℕ) → RetiresOn word itype priv
    → hides_its_target word ≡ is_discontinuity_by_type itype
word_type None itype priv r = absurd r
word_type (Some (Plain, length)) itype priv r = rw r.0 refl
word_type (Some (Jump to, length)) itype priv r = rw r.0 refl
word_type (Some (Branch to, length)) itype priv r = by_branch r.0
  where
    by_branch : (itype ≡ 4) ⊎ (itype ≡ 5) → false ≡ is_discontinuity_by_type itype
    by_branch h = elim h [ inl e ↦ rw e refl | inr e ↦ rw e refl ]
word_type (Some (Uninferable, length)) itype priv r = rw r.0 refl
word_type (Some (TrapReturn ret, length)) itype priv r = rw r.0 refl
word_type (Some (NotRetirable, length)) itype priv r = absurd r.0

-- A backward jump shows by its type and by where the next event stands.
word_back : (word : Option Word) (addr itype priv at : ℕ) → RetiresOn word itype priv
    → MayStandAt (leads_from addr itype word) at → ((itype == 0) && nat_le at addr && jumps_back addr word)
    ≡ jumps_back addr word
word_back None addr itype priv at r s = absurd r
word_back (Some (Plain, length)) addr itype priv at r s = and-false _
word_back (Some (Jump to, length)) addr itype priv at r s = rw (r.0, s) (and_self (nat_le to addr))
word_back (Some (Branch to, length)) addr itype priv at r s = and-false _
word_back (Some (Uninferable, length)) addr itype priv at r s = and-false _
word_back (Some (TrapReturn ret, length)) addr itype priv at r s = and-false _
word_back (Some (NotRetirable, length)) addr itype priv at r s = and-false _

pub jumps_back_to-is_backward : (words : Words) (event next : Event) → Right words event → Step words event next
    → jumps_back_to words event next ≡ is_backward words event
jumps_back_to-is_backward words (Retire addr itype priv) next r s =
    word_back (words addr) addr itype priv (place next) r.0 s.0
jumps_back_to-is_backward words (Trap priv interrupt cause epc tval) next r s = refl

-- The event at a spot is a handler exactly where a handler is due.
pub is_known-due : (words : Words) (period : ℕ) (s : Spot) → is_known words s ≡ is_handler_due (due_at words period s)
is_known-due words period s = by_kind (is_retirement s.event) (is_handler words s.before_that s.before s.event) _ _ _
  where
    by_kind : (x h y z w : Bool) → (x && h) ≡ is_handler_due
        (cond x (cond h due.Handler (cond y due.Sync (cond z due.Target due.Nothing)))
        (cond w due.TrapOrHandler due.Trap))
    by_kind true true y z w = refl
    by_kind true false true z w = refl
    by_kind true false false true w = refl
    by_kind true false false false w = refl
    by_kind false h y z true = refl
    by_kind false h y z false = refl

-- The spot of the event that follows the one at a spot.
abbrev pub following : Spot → Event → Option Event → Spot
following s next after =
    record {
      number = count_with s.number s.event;
      before_that = s.before;
      before = Some s.event;
      event = next;
      after =
          after;
    }

module _ (words : Words) (period : ℕ) where
  -- What is due of it is as the code says.
  pub due_at-following : (s : Spot) (next : Event) (after : Option Event) (left : ℕ) → Right words s.event
      → (count_with s.number s.event % period == 0) ≡ (left == 0)
      → next_due (Some s.event) (due_at words period s) left next ≡ due_at words period (following s next after)
  due_at-following s next after left r l = by_events s.number s.before_that s.before s.event s.after next r l
    where
      by_trap : (x : Bool) → due_behind_trap (cond x due.TrapOrHandler due.Trap) ≡ cond (x && true) due.Handler due.Sync
      by_trap true = refl
      by_trap false = refl

      turned : (x : Bool) → cond x due.Trap due.TrapOrHandler ≡ cond (not x) due.TrapOrHandler due.Trap
      turned true = refl
      turned false = refl

      by_events : (n : ℕ) (b2 b : Option Event) (held : Event) (a : Option Event) (next : Event) → Right words held
          → (count_with n held % period == 0) ≡ (left == 0) → next_due (Some held)
          (due_at words period (record { number = n; before_that = b2; before = b; event = held; after = a })) left next
          ≡ due_at words period
          (following (record { number = n; before_that = b2; before = b; event = held; after = a }) next after)
      by_events n b2 b (Retire at type level) a (Retire addr itype priv) r l =
          ap
          (λ x. cond (not (priv == level) || x) due.Sync
          (cond (is_discontinuity_by_type type) due.Target due.Nothing)) (sym l)
          ∙ ap (λ x. cond (not (priv == level) || ((n + 1) % period == 0)) due.Sync (cond x due.Target due.Nothing))
          (sym (word_type (words at) type level r.0))
      by_events n b2 b (Trap level irq code epc value) a (Retire addr itype priv) r l =
          by_trap (is_some_and is_retirement b && not (is_some_and (is_discontinuity words) b))
      by_events n b2 b (Retire at type level) a (Trap priv interrupt cause epc tval) r l =
          ap (λ x. cond x due.Trap due.TrapOrHandler) (sym (word_type (words at) type level r.0))
          ∙ turned (hides_its_target (words at))
      by_events n b2 b (Trap level irq code at value) a (Trap priv interrupt cause epc tval) r l = refl

  -- A trap or a new start follows a retirement exactly where its due says so.
  cut_off-due : (n : ℕ) (b : Option Event) (at type level : ℕ) (next : Event) (after : Option Event)
      → is_cut_off period n (Retire at type level) (Some next)
      ≡ cuts_off (due_at words period (record {
        number = n + 1;
        before_that = b;
        before =
            Some (Retire at type level);
        event = next;
        after = after;
      }))
  cut_off-due n b at type level (Retire addr itype priv) after =
      by_start (is_start period (n + 1) (Some (Retire at type level)) priv) _
    where
      by_start : (x z : Bool) → x ≡ cuts_off (cond x due.Sync (cond z due.Target due.Nothing))
      by_start true z = refl
      by_start false true = refl
      by_start false false = refl
  cut_off-due n b at type level (Trap priv interrupt cause epc tval) after = by_before _
    where
      by_before : (x : Bool) → true ≡ cuts_off (cond x due.TrapOrHandler due.Trap)
      by_before true = refl
      by_before false = refl

  -- The rule of an event before one that is no handler is as the code says.
  pub rule-before : (n : ℕ) (b2 b : Option Event) (held next : Event) (after : Option Event) → Right words held
      → Step words held next → is_handler_due (due_at words period
      (following (record { number = n; before_that = b2; before = b; event = held; after = None }) next after)) ≡ false
      → rule words period (record { number = n; before_that = b2; before = b; event = held; after = Some next })
      ≡ rule_before words held (due_at words period (record
      { number = n; before_that = b2; before = b; event = held; after = None })) next
      (due_at words period
      (following (record { number = n; before_that = b2; before = b; event = held; after = None }) next after))
  rule-before n b2 b (Retire at type level) next after r s free =
      by_due (is_handler words b2 b (Retire at type level)) (is_start period n b level)
      (is_some_and (is_discontinuity words) b) _ _ (cut_off-due n b at type level next after) _
      (sym (jumps_back_to-is_backward words (Retire at type level) next r s))
    where
      end : (c b : Bool) → cond (c || false) by.Explicit (cond b by.Notify by.MapOrNothing) ≡ rule_of_quiet c b
      end true b = refl
      end false true = refl
      end false false = refl

      by_due : (h y z c : Bool) (d : Due) → c ≡ cuts_off d → (x : Bool)
          → x ≡ jumps_back_to words (Retire at type level) next
          → cond h by.Handler (cond y by.Sync (cond z (by.Target c)
          (cond (c || false) by.Explicit (cond x by.Notify by.MapOrNothing))))
          ≡ rule_before words (Retire at type level) (cond h due.Handler
          (cond y due.Sync (cond z due.Target due.Nothing))) next d
      by_due true y z c d e x f = refl
      by_due false true z c d e x f = refl
      by_due false false true c d e x f = ap by.Target e
      by_due false false false c d e x f =
          end c x ∙ ap (λ k. rule_of_quiet k x) e ∙ ap (λ k. rule_of_quiet (cuts_off d) k) f
  rule-before n b2 b (Trap level irq code epc value) (Retire addr itype priv) after r s free =
      by_before (is_some_and is_retirement b && not (is_some_and (is_discontinuity words) b)) free
    where
      by_before : (x : Bool) → is_handler_due (cond (x && true) due.Handler due.Sync) ≡ false
          → by.Trap (x && true) ≡ rule_before words (Trap level irq code epc value) (cond x due.TrapOrHandler due.Trap)
          (Retire addr itype priv) (cond (x && true) due.Handler due.Sync)
      by_before true free = cc
      by_before false free = refl
  rule-before n b2 b (Trap level irq code at value) (Trap priv interrupt cause epc tval) after r s free =
      by_before (is_some_and is_retirement b && not (is_some_and (is_discontinuity words) b))
    where
      by_before : (x : Bool) → by.Trap (x && false) ≡ rule_before words (Trap level irq code at value)
          (cond x due.TrapOrHandler due.Trap) (Trap priv interrupt cause epc tval) due.Trap
      by_before true = refl
      by_before false = refl
