-- What the passes answer is what is said of walks.
use Rattle.std.proofs.Common.{◌≡◌, ℕ, ◌*◌, ◌≤◌, Bool, List, ◌++◌, length, Option, Some, None, Result, Ok, Err}
use Rattle.std.proofs.Common.{refl, sym, ap, ◌∙◌, arith}
use Rattle.std.specs.Prelude.{IfOk, IfErr}
use Rattle.std.specs.List.{last_or}
use Rattle.std.proofs.lemmas.Option.{some_pair_parts}
use Rattle.retire.specs.declared.event.Event.{Event}
use Rattle.rvclass.specs.Words.{Words, IsProgram, LiesIn}
use Rattle.decoder.proofs.WalkBound.{walk_bound}
use Rattle.decoder.proofs.WalkFinding.{walk_sound, walk_complete}
use Rattle.decoder.specs.Walk.{End}
use Rattle.decoder.specs.steps.Retracing.{HasRoomWithin, AddsWithin}
use Rattle.decoder.specs.steps.WalkSteps.{walk_within, summary, summary_of}
use Rattle.decoder.specs.steps.Walks.{event_of, goal_end, IsHere, WalksOn, Finds, FindsNone, HasRoom, Adds}
use Rattle.decoder.specs.declared.fault.DecodeFault.{DecodeFault}
use Rattle.decoder.specs.declared.stepping.Goal.{Goal}
use Rattle.decoder.specs.declared.stepping.Here.{Here}
use Rattle.decoder.specs.declared.walking.Walked.{Walked}

-- The same outcomes, goal and limit give the same walk.
pub same_walk : (words : Words) (e : Event) (limit other : ℕ) (taken more : List Bool) (goal aim : Goal) →
    limit ≡ other → taken ≡ more → goal ≡ aim →
    walk_within words limit e taken (goal_end goal) ≡ walk_within words other e more (goal_end aim)
same_walk words e limit other taken more goal aim l t g = cc

module _ (words : Words) (good : IsProgram words) (from : Here) (right : IsHere words from) (taken : List Bool)
    (end : End) where
  pub measure_finds : (steps : ℕ) (r : Result Walked DecodeFault) → summary_of r ≡ summary (event_of from)
      (walk_within words steps (event_of from) taken end) → IfOk r (λ walked. Finds words from taken end walked)
  measure_finds steps (Err fault) summed = tt
  measure_finds steps (Ok walked) summed = go (walk_within words steps (event_of from) taken end) refl summed
    where
      go : (o : Option (List Event)) → walk_within words steps (event_of from) taken end ≡ o →
          Some (walked.count, Some walked.last) ≡ summary (event_of from) o → Finds words from taken end walked
      go None is summed = cc
      go (Some w) is summed =
          let walks = walk_sound words good steps (event_of from) taken end w refl right.1 is in
          let parts = some_pair_parts walked.count (length w) (Some walked.last) (last_or (Some (event_of from)) w)
          summed in
          record {
            walk = w;
            walks = walks;
            counted = parts.0;
            last = sym parts.1;
          }

  module _ (spot : ℕ → ℕ) (half : ℕ) (lies : LiesIn words spot half) (few : length taken ≤ 31) where
    -- Each walk is found within the limit.
    within_limit : (w : List Event) → WalksOn words (event_of from) taken end w →
        walk_within words (32 * half) (event_of from) taken end ≡ Some w
    within_limit w walks =
        walk_complete words good (event_of from) taken end w (32 * half) walks
        (walk_bound words spot half good lies (event_of from) taken end w few walks.fits walks.follows)

    pub measure_short : (r : Result Walked DecodeFault) → IfOk r (λ walked. Finds words from taken end walked) →
        IfOk r (λ walked. walked.count ≤ 32 * half)
    measure_short (Err fault) found = tt
    measure_short (Ok walked) found =
        let short = walk_bound words spot half good lies (event_of from) taken end found.walk few found.walks.fits
        found.walks.follows in
        let counted = found.counted in
        omega arith

    pub measure_none : (r : Result Walked DecodeFault) → summary_of r ≡ summary (event_of from)
        (walk_within words (32 * half) (event_of from) taken end) →
        IfErr r (λ fault. FindsNone words from taken end)
    measure_none (Ok walked) summed = tt
    measure_none (Err fault) summed = λ w walks.
        let found = summed ∙ ap (summary (event_of from)) (within_limit w walks) in cc

    pub write_room : (walked len capacity : ℕ) → HasRoom words from taken end walked len capacity →
        HasRoomWithin words (32 * half) (event_of from) taken end walked len capacity
    write_room walked len capacity room = (room.0, within_limit room.0 room.1, room.2, room.3)

    pub write_adds : (old new : List Event) → AddsWithin words (32 * half) (event_of from) taken end old new →
        Adds words from taken end old new
    write_adds old new added = λ w walks.
        let one : Some added.0 ≡ Some w = sym added.1 ∙ within_limit w walks in
        let same : added.0 ≡ w = cc in
        added.2 ∙ ap (λ l. old ++ l) same
