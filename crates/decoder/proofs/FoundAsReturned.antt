-- What the code returns of a walk that was written as it was found is what is said of walks.
use Rattle.std.proofs.Common.{◌≡◌, ℕ, ◌*◌, ◌≤◌, Bool, List, length, Option, Some, None, Result, Ok, Err}
use Rattle.std.proofs.Common.{sym, subst, ap, ◌∙◌}
use Rattle.retire.specs.declared.event.Event.{Event}
use Rattle.rvclass.specs.Words.{Words, IsProgram, LiesIn}
use Rattle.decoder.proofs.PassesFindWalks.{same_walk, measure_finds, measure_short, measure_none, write_adds}
use Rattle.decoder.specs.Walk.{End}
use Rattle.decoder.specs.steps.Retracing.{AddsWithin}
use Rattle.decoder.specs.steps.WalkSteps.{walk_within, summary, IsCourse}
use Rattle.decoder.specs.steps.Walks.{event_of, goal_end, IsHere, Adds}
use Rattle.decoder.specs.steps.WritingAsFound.{AddsReturned, FindsReturned, ReturnsSummary, NoneAtFault, ShortReturned}
use Rattle.decoder.specs.declared.fault.DecodeFault.{DecodeFault}
use Rattle.decoder.specs.declared.stepping.Course.{Course}
use Rattle.decoder.specs.declared.stepping.Goal.{Goal}
use Rattle.decoder.specs.declared.stepping.Here.{Here}
use Rattle.decoder.specs.declared.walking.Walked.{Walked}

-- What is said of a walk that the code returns, and of a fault.
pub record Returned (words : Words) (from : Here) (taken : List Bool) (end : End) (limit : ℕ) (old new : List Event)
    (result : Result (Option Walked) DecodeFault) : Type 0 where
  pub finds : FindsReturned words from taken end result
  pub short : ShortReturned limit result
  pub none : NoneAtFault words from taken end result
  pub adds : AddsReturned (Adds words from taken end old new) result

module _ (words : Words) (good : IsProgram words) (spot : ℕ → ℕ) (half : ℕ) (lies : LiesIn words spot half) (from : Here)
    (right : IsHere words from) (course : Course) (is_course : IsCourse course) (limit : ℕ)
    (most : limit ≡ 32 * half) (taken : List Bool) (goal : Goal) (outcomes : course.outcomes ≡ taken)
    (aim : course.goal ≡ goal) where
  few : length taken ≤ 31
  few = subst (λ l. length l ≤ 31) outcomes (subst (λ n. n ≤ 31) is_course.0 is_course.1)

  same : walk_within words limit (event_of from) course.outcomes (goal_end course.goal) ≡ walk_within words
      (32 * half) (event_of from) taken (goal_end goal)
  same = same_walk words (event_of from) limit (32 * half) course.outcomes taken course.goal goal most outcomes
      aim

  abbrev IsSummary : Result (Option Walked) DecodeFault → Type 0
  IsSummary result =
      ReturnsSummary (summary (event_of from)
      (walk_within words limit (event_of from) course.outcomes (goal_end course.goal))) result

  returned_finds : (result : Result (Option Walked) DecodeFault) → IsSummary result →
      FindsReturned words from taken (goal_end goal) result
  returned_finds (Err fault) summed = tt
  returned_finds (Ok None) summed = tt
  returned_finds (Ok (Some walked)) summed =
      measure_finds words good from right taken (goal_end goal) (32 * half) (Ok walked)
      (summed ∙ ap (summary (event_of from)) same)

  returned_short : (result : Result (Option Walked) DecodeFault) → IsSummary result →
      ShortReturned (32 * half) result
  returned_short (Err fault) summed = tt
  returned_short (Ok None) summed = tt
  returned_short (Ok (Some walked)) summed =
      measure_short words good from right taken (goal_end goal) spot half lies few (Ok walked)
      (returned_finds (Ok (Some walked)) summed)

  returned_none : (result : Result (Option Walked) DecodeFault) → IsSummary result →
      NoneAtFault words from taken (goal_end goal) result
  returned_none (Ok walked) summed = tt
  returned_none (Err fault) summed =
      measure_none words good from right taken (goal_end goal) spot half lies few (Err fault)
      (summed ∙ ap (summary (event_of from)) same)

  returned_adds : (old new : List Event) (result : Result (Option Walked) DecodeFault) →
      AddsReturned (AddsWithin words limit (event_of from) course.outcomes (goal_end course.goal) old new) result →
      AddsReturned (Adds words from taken (goal_end goal) old new) result
  returned_adds old new (Err fault) adds = tt
  returned_adds old new (Ok None) adds = tt
  returned_adds old new (Ok (Some walked)) adds =
      let within : AddsWithin words (32 * half) (event_of from) taken (goal_end goal) old new =
      (adds.0.0, sym same ∙ adds.0.1, adds.0.2) in
      (write_adds words good from right taken (goal_end goal) spot half lies few old new within, adds.1)

  pub returned : (old new : List Event) (result : Result (Option Walked) DecodeFault) → IsSummary result →
      AddsReturned (AddsWithin words limit (event_of from) course.outcomes (goal_end course.goal) old new) result →
      Returned words from taken (goal_end goal) (32 * half) old new result
  returned old new result summed adds = record {
    finds = returned_finds result summed;
    short = returned_short result summed;
    none = returned_none result summed;
    adds = returned_adds old new result adds;
  }
