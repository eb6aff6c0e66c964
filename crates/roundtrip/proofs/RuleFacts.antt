-- What is known of a retirement by its rule.
use Rattle.std.proofs.Common.{◌≡◌, ℕ, ◌==◌, Bool, true, false, ◌||◌, not, cond, Option, refl, arith}
use Rattle.std.proofs.lemmas.Bool.Decides.{nat_tests}
use Rattle.std.specs.Prelude.{is_none}
use Rattle.retire.specs.Events.{privilege}
use Rattle.retire.specs.declared.event.Event.{Event}
use Rattle.rvclass.specs.Words.{Words}
use Rattle.legalpath.specs.Backward.{is_backward}
use Rattle.legalpath.specs.Discontinuity.{is_discontinuity}
use Rattle.encoder.specs.Rule.{is_some_and, is_handler, is_start, is_cut_off}
use Rattle.encoder.specs.declared.rule.Rule.{Rule}
use Rattle.encoder.specs.declared.rule.Rule.TheVariants as by

-- The first rule that applies to a retirement, by the answers to the questions: is it a handler, a new
-- start, the target of a discontinuity, cut off, the last event, a backward jump.
abbrev pub rule_by : (handler start target cut_off last backward : Bool) → Rule
rule_by handler start target cut_off last backward =
    cond handler by.Handler (cond start by.Sync (cond target (by.Target cut_off)
    (cond (cut_off || last) by.Explicit (cond backward by.Notify by.MapOrNothing))))

-- What the answers are where this rule applies.
abbrev pub AnswersFor : (handler start target cut_off last backward : Bool) → Rule → Type 0
AnswersFor handler start target cut_off last backward (by.Trap with_handler) = ⊥
AnswersFor handler start target cut_off last backward by.Handler = handler ≡ true
AnswersFor handler start target cut_off last backward by.Sync = (handler ≡ false) × (start ≡ true)
AnswersFor handler start target cut_off last backward (by.Target updiscon) =
    (start ≡ false) × (target ≡ true) × (cut_off ≡ updiscon)
AnswersFor handler start target cut_off last backward by.Explicit =
    (start ≡ false) × (target ≡ false) × ((cut_off || last) ≡ true)
AnswersFor handler start target cut_off last backward by.Notify = (start ≡ false) × (target ≡ false) × (backward ≡ true)
AnswersFor handler start target cut_off last backward by.MapOrNothing =
    (start ≡ false) × (target ≡ false) × ((cut_off || last) ≡ false) × (backward ≡ false)

-- They are so for the first rule that applies.
pub rule_answers : (handler start target cut_off last backward : Bool)
    → AnswersFor handler start target cut_off last backward (rule_by handler start target cut_off last backward)
rule_answers true start target cut_off last backward = refl
rule_answers false true target cut_off last backward = (refl, refl)
rule_answers false false true cut_off last backward = (refl, refl, refl)
rule_answers false false false true last backward = (refl, refl, refl)
rule_answers false false false false true backward = (refl, refl, refl)
rule_answers false false false false false true = (refl, refl, refl)
rule_answers false false false false false false = (refl, refl, refl, refl)

-- What the answers are where this rule applies to a retirement of this number, between these events.
abbrev pub AnswersOf : Words → ℕ → ℕ → Option Event → Option Event → Event → Option Event → Rule → Type 0
AnswersOf words period number before_that before event after rule =
    AnswersFor (is_handler words before_that before event) (is_start period number before (privilege event))
    (is_some_and (is_discontinuity words) before)
    (is_cut_off period number event after) (is_none after) (is_backward words event) rule

-- They are so for every retirement.
pub rule_answers_of : (words : Words) (period number : ℕ) (before_that before : Option Event) (event : Event)
    (after : Option Event) →
    AnswersOf words period number before_that before event after
    (rule_by (is_handler words before_that before event) (is_start period number before (privilege event))
    (is_some_and (is_discontinuity words) before)
    (is_cut_off period number event after) (is_none after) (is_backward words event))
rule_answers_of words period number before_that before event after =
    rule_answers _ _ _ _ _ _

-- A retirement after another that is no new start has its privilege.
pub same_privilege : (priv level : ℕ) (periodic : Bool) → (not (priv == level) || periodic) ≡ false → priv ≡ level
same_privilege priv level periodic is = grind (arith, nat_tests)
