-- What judging a log answers.
use Rattle.std.proofs.Common.{◌≡◌, ◌↔◌, ℕ, ◌+◌, List, [], ◌∷◌, ◌++◌, Option, Some, None, Result, Ok, Err, length, refl}
use Rattle.std.proofs.Common.{sym, ap, subst, ◌∙◌, append_assoc, arith, IsOk, IfOk, IfErr}
use Rattle.std.proofs.lemmas.List.{length-append}
use Rattle.std.specs.List.{last_or}
use Rattle.retire.specs.declared.event.Event.{Event}
use Rattle.rvclass.specs.Words.{Words}
use Rattle.legalpath.proofs.JudgingLemmas.{Outcome, judged}
use Rattle.legalpath.proofs.ReasonLemmas.{none_applies}
use Rattle.legalpath.proofs.FollowOnLemmas.{follow_on_join, follow_on_split, last_or-append}
use Rattle.legalpath.specs.FirstFault.{IsFirstFault}
use Rattle.legalpath.specs.Passed.{HasPassed, Passed}
use Rattle.legalpath.specs.steps.Judging.{judge_all, answer_after, left_after, Answer}
use Rattle.legalpath.specs.Legal.{FollowOn, Legal}
use Rattle.legalpath.specs.Reason.{IsReason}
use Rattle.legalpath.specs.Right.{Right}
use Rattle.legalpath.specs.Step.{StepFrom}
use Rattle.legalpath.specs.declared.fault.PathFault.{PathFault}
use Rattle.legalpath.specs.declared.fault.Why.{Why}
use Rattle.legalpath.specs.declared.judging.Left.{Left}

-- The first fault of events that come after the one before, the first of them at this row.
record FaultFrom (words : Words) (before : Option Event) (row : ℕ) (log : List Event) (fault : PathFault) : Type 0 where
  front : List Event
  event : Event
  rest : List Event
  whole : log ≡ front ++ event ∷ rest
  follows : FollowOn words before front
  counted : fault.row ≡ row + length front
  reason : IsReason words (last_or before front) event fault.why

-- What judging these events answers.
abbrev LogOutcome : Words → Option Event → ℕ → List Event → Answer → Type 0
LogOutcome words before row log (Ok left) = FollowOn words before log × (left ≡ left_after words (last_or before log))
LogOutcome words before row log (Err fault) = FaultFrom words before row log fault

goes_on : (words : Words) (before : Option Event) (row : ℕ) (event : Event) (log : List Event) (result : Answer)
    → Right words event → StepFrom words before event → LogOutcome words (Some event) (row + 1) log result
    → LogOutcome words before row (event ∷ log) result
goes_on words before row event log (Ok left) right step follows = ((right, step, follows.0), follows.1)
goes_on words before row event log (Err fault) right step f = record {
  front = event ∷ f.front;
  event = f.event;
  rest = f.rest;
  whole = cc (f.whole);
  follows = (right, step, f.follows);
  counted = (let h = f.counted in omega arith);
  reason = f.reason;
}

all_judged : (words : Words) (before : Option Event) (row : ℕ) (log : List Event)
    → LogOutcome words before row log (judge_all words (left_after words before) row log)
all_judged words before row [] = (tt, refl)
all_judged words before row (event ∷ log) =
    go _ (judged words before event) (all_judged words (Some event) (row + 1) log)
  where
    go : (result : Result Left Why) → Outcome words before event result
        → LogOutcome words (Some event) (row + 1) log (judge_all words (left_after words (Some event)) (row + 1) log)
        → LogOutcome words before row (event ∷ log) (answer_after row result
        (λ next. judge_all words next (row + 1) log))
    go (Ok left) h rest =
        goes_on words before row event log _ h.0 h.1 (subst
        (λ (next : Left). LogOutcome words (Some event) (row + 1) log (judge_all words next (row + 1) log)) (sym h.2)
        rest)
    go (Err why) h rest = record {
      front = [];
      event = event;
      rest = log;
      whole = refl;
      follows = tt;
      counted = omega arith;
      reason = h;
    }

-- A log with a first fault is not legal.
first_fault-not_legal : (words : Words) (log : List Event) (fault : PathFault) → IsFirstFault words log fault
    → ¬ Legal words log
first_fault-not_legal words log fault f legal =
    let follows = follow_on_split words None f.front (f.event ∷ f.rest)
    (subst (λ (l : List Event). Legal words l) f.whole legal) in
    none_applies words (last_or None f.front) f.event fault.why follows.1.0 follows.1.1 f.reason.applies

-- A checker that has passed events, and what it answers to those that come next.
module _ (words : Words) (seen log : List Event) (passed : Passed) (has : HasPassed words seen passed)
    (result : Answer) (is : result ≡ judge_all words passed.left (passed.rows + 1) log) where
  outcome : LogOutcome words (last_or None seen) (passed.rows + 1) log result
  outcome =
      subst (λ (r : Answer). LogOutcome words (last_or None seen) (passed.rows + 1) log r) (sym is)
      (subst (λ (left : Left). LogOutcome words (last_or None seen) (passed.rows + 1) log
      (judge_all words left (passed.rows + 1) log)) (sym has.leaves)
      (all_judged words (last_or None seen) (passed.rows + 1) log))

  -- Where they are legal, it has passed them too.
  pub passes_more : IfOk result (λ left.
      HasPassed words (seen ++ log) (record { left = left; rows = passed.rows + length log }))
  passes_more = go result outcome
    where
      go : (r : Answer) → LogOutcome words (last_or None seen) (passed.rows + 1) log r
          → IfOk r (λ left. HasPassed words (seen ++ log) (record { left = left; rows = passed.rows + length log }))
      go (Ok left) follows = record {
        legal = follow_on_join words None seen log has.legal follows.0;
        leaves = follows.1 ∙ ap (left_after words) (sym (last_or-append None seen log));
        counted = ap (λ n. n + length log) has.counted ∙ sym (length-append seen log);
      }
      go (Err fault) f = tt

  -- An error names the first fault of all events.
  pub names_first_fault : IfErr result (λ fault. IsFirstFault words (seen ++ log) fault)
  names_first_fault = go result outcome
    where
      go : (r : Answer) → LogOutcome words (last_or None seen) (passed.rows + 1) log r
          → IfErr r (λ fault. IsFirstFault words (seen ++ log) fault)
      go (Ok left) follows = tt
      go (Err fault) f = record {
        front = seen ++ f.front;
        event = f.event;
        rest = f.rest;
        whole = ap (λ l. seen ++ l) f.whole ∙ sym (append_assoc seen f.front (f.event ∷ f.rest));
        legal = follow_on_join words None seen f.front has.legal f.follows;
        counted = (let h = f.counted in let n = has.counted in let l = length-append seen f.front in omega arith);
        reason = subst (λ before. IsReason words before f.event fault.why) (sym (last_or-append None seen f.front))
            f.reason;
      }

  -- The answer is Ok exactly where all events are a legal log.
  pub ok_where_legal : IsOk result ↔ Legal words (seen ++ log)
  ok_where_legal = go result passes_more names_first_fault
    where
      go : (r : Answer) → IfOk r (λ left.
          HasPassed words (seen ++ log) (record { left = left; rows = passed.rows + length log }))
          → IfErr r (λ fault. IsFirstFault words (seen ++ log) fault) → IsOk r ↔ Legal words (seen ++ log)
      go (Ok left) more first = (λ e. more.legal, λ legal. refl)
      go (Err fault) more first =
          (λ e. cc, λ legal. absurd (first_fault-not_legal words (seen ++ log) fault first legal))

-- A checker that has passed no event.
pub none_passed : (words : Words) → HasPassed words [] (record { left = left_after words None; rows = 0 })
none_passed words = record { legal = tt; leaves = refl; counted = refl }
