-- What a step along a measured walk reaches is where the step leads.
use Rattle.std.proofs.Common.{◌≡◌, ℕ, Bool, true, false, cond, List, [], ◌∷◌, drop, Option, Some, None, refl, sym}
use Rattle.std.proofs.Common.{subst}
use Rattle.std.proofs.Common.{◌∙◌}
use Rattle.retire.specs.declared.event.Event.{Event}
use Rattle.retire.specs.declared.event.Event.TheVariants.{Retire}
use Rattle.rvclass.specs.Words.{Word, Words}
use Rattle.legalpath.specs.Allowed.{may_retire_at}
use Rattle.legalpath.specs.Backward.{is_backward}
use Rattle.legalpath.specs.Successor.{successor}
use Rattle.legalpath.specs.declared.next.Next.{Next}
use Rattle.legalpath.specs.declared.next.Next.TheVariants.{One, Any, NoneInside}
use Rattle.decoder.specs.steps.Leads.{may_stay_on}
use Rattle.decoder.specs.steps.Retracing.{Reaches, Retraces}
use Rattle.decoder.specs.Walk.{End, AtTarget}
use Rattle.decoder.specs.steps.WalkSteps.{Stop, Last, On, retire_on, stops, next_move, last_move, target_move, move_to}
use Rattle.decoder.specs.steps.WalkSteps.{advance, retirement, type_on}
use Rattle.decoder.specs.steps.Walks.{event_of, goal_end, Carries}
use Rattle.decoder.specs.declared.stepping.Goal.{Goal}
use Rattle.decoder.specs.declared.stepping.Goal.TheVariants.{Address, Target, Branch as GoalBranch}
use Rattle.decoder.specs.declared.stepping.Here.{Here}

module _ (words : Words) (taken : List Bool) (here : Here) (used : ℕ) where
  -- On any other word its retirement is reached.
  pub reaches_there : (addr priv itype : ℕ) (word : Word) (left : List Bool) → Some word ≡ words addr →
      Some (itype, drop used taken) ≡ type_on word.0 left → event_of here ≡ Retire addr itype priv →
      Carries words here → Reaches words taken here used true (retire_on addr priv (words addr) left)
  reaches_there addr priv itype word left at typed is carries =
      subst (λ w. Reaches words taken here used true (retire_on addr priv w left)) at
      (by_level (may_retire_at word.0 priv))
    where
      by_level : (b : Bool) →
          Reaches words taken here used true (cond b (retirement addr priv (type_on word.0 left)) None)
      by_level true = subst (λ t. Reaches words taken here used true (retirement addr priv t)) typed (is, refl, carries)
      by_level false = tt

  retraces_next : (done : Bool) (end : End) (r : Option (Event × List Bool)) → Reaches words taken here used done r →
      Retraces words taken here used done (next_move words end r)
  retraces_next true end None reached = tt
  retraces_next false end None reached = tt
  retraces_next false end (Some (event, left)) reached = absurd reached
  retraces_next true end (Some (event, left)) reached = by_end (stops end event left)
    where
      by_jump : (b : Bool) → Retraces words taken here used true (cond b Stop (On event left))
      by_jump true = tt
      by_jump false = reached

      by_end : (b : Bool) → Retraces words taken here used true
          (cond b (Last event) (cond (is_backward words event) Stop (On event left)))
      by_end true = reached.0
      by_end false = by_jump (is_backward words event)

  stopped : (done : Bool) → Retraces words taken here used done Stop
  stopped true = tt
  stopped false = tt

  retraces_last : (done : Bool) (r : Option (Event × List Bool)) → Reaches words taken here used done r →
      Retraces words taken here used done (last_move r)
  retraces_last done None reached = stopped done
  retraces_last true (Some (event, [])) reached = reached.0
  retraces_last false (Some (event, [])) reached = absurd reached
  retraces_last done (Some (event, outcome ∷ left)) reached = stopped done

  retraces_target : (done : Bool) (word : Option Word) (priv addr : ℕ) (left : List Bool) →
      Reaches words taken here used done (retire_on addr priv (words addr) left) →
      Retraces words taken here used done (target_move words word priv left (AtTarget addr))
  retraces_target done word priv addr left reached = by_level (may_stay_on word priv)
    where
      by_level : (b : Bool) → Retraces words taken here used done
          (cond b (last_move (retire_on addr priv (words addr) left)) Stop)
      by_level true = retraces_last done (retire_on addr priv (words addr) left) reached
      by_level false = stopped done

  module _ (from : Here) (left : List Bool) (done : Bool) where
    -- A step from a retirement that leads so.
    stepped : (end : End) (next : Next) → successor words (event_of from) ≡ next →
        Retraces words taken here used done (move_to words (event_of from) left end next) →
        Retraces words taken here used done (advance words (event_of from) left end)
    unfolding advance
    stepped end next leads there =
        subst (λ n. Retraces words taken here used done (move_to words (event_of from) left end n)) (sym leads) there

    pub retraces_to : (end : End) (addr : ℕ) → Carries words from → from.next ≡ One addr →
        Reaches words taken here used done (retire_on addr from.privilege (words addr) left) →
        Retraces words taken here used done (advance words (event_of from) left end)
    retraces_to end addr carries is reached =
        stepped end (One addr) (carries.0 ∙ is)
        (retraces_next done end (retire_on addr from.privilege (words addr) left) reached)

    pub retraces_any : (goal : Goal) (addr : ℕ) → Carries words from → from.next ≡ Any → goal ≡ Target addr →
        Reaches words taken here used done (retire_on addr from.privilege (words addr) left) →
        Retraces words taken here used done (advance words (event_of from) left (goal_end goal))
    retraces_any goal addr carries is aim reached =
        let there = retraces_target done (words from.addr) from.privilege addr left reached in
        stepped (goal_end goal) Any (carries.0 ∙ is)
        (subst (λ g. Retraces words taken here used done
        (target_move words (words from.addr) from.privilege left (goal_end g))) (sym aim) there)

    -- No walk goes on elsewhere from a discontinuity, and none goes on from a word that does not retire.
    pub retraces_nothing : (goal : Goal) → Carries words from → from.next ≡ Any →
        ((addr : ℕ) → goal ≡ Target addr → ⊥) →
        Retraces words taken here used done (advance words (event_of from) left (goal_end goal))
    retraces_nothing goal carries is other = stepped (goal_end goal) Any (carries.0 ∙ is) (by_goal goal other)
      where
        by_goal : (goal : Goal) → ((addr : ℕ) → goal ≡ Target addr → ⊥) →
            Retraces words taken here used done
            (target_move words (words from.addr) from.privilege left (goal_end goal))
        by_goal GoalBranch other = stopped done
        by_goal (Address to) other = stopped done
        by_goal (Target to) other = absurd (other to refl)

    pub retraces_nowhere : (end : End) → Carries words from → from.next ≡ NoneInside →
        Retraces words taken here used done (advance words (event_of from) left end)
    retraces_nowhere end carries is = stepped end NoneInside (carries.0 ∙ is) (stopped done)
