-- A walk goes on from what it kept, and its events are those of the log.
use Rattle.std.proofs.Common.{◌≡◌, ◌∙◌, ◌+◌, ◌/◌, ◌%◌, ◌==◌, ◌++◌, ◌∷◌, ◌&&◌, ap, arith, refl, subst, sym}
use Rattle.std.proofs.Common.{ℕ, zero, suc, Bool, true, false, List, [], Option, Some, None, append-nil, append_assoc, nat_lt}
use Rattle.std.specs.List.{last_or}
use Rattle.rand_pcg.specs.Lcg.{increment_of}
use Rattle.rand_pcg.specs.Pcg.{pcg32}
use Rattle.retire.specs.declared.event.Event.{Event}
use Rattle.rvclass.specs.Fetch.{words_of}
use Rattle.rvclass.specs.Image.{Image, IsImage}
use Rattle.rvclass.specs.Words.{Word, Words}
use Rattle.rvclass.specs.declared.class.Class.{Class}
use Rattle.rvclass.specs.declared.class.Class.TheVariants.{Plain, Jump, Branch, Uninferable, TrapReturn, NotRetirable}
use Rattle.legalpath.proofs.FollowOnLemmas.{follow_on_join, last_or-append}
use Rattle.legalpath.specs.Allowed.{may_retire_at}
use Rattle.legalpath.specs.Legal.{Legal}
use Rattle.stimulus.specs.ImageBytes.{generator}
use Rattle.stimulus.specs.Mix.{habits_of}
use Rattle.stimulus.specs.Walk.{branches, branches_by, comes_at, comes_where, draws_trap, epc_by, excepts, extent_of}
use Rattle.stimulus.specs.Walk.{first_walk, handles, is_taken, lands, levels, number, raised, returns_by, steps}
use Rattle.stimulus.specs.Walk.{steps_by, trap_by, traps_of, walked, stream_of}
use Rattle.stimulus.specs.WalkKept.{HasGone, state_of, walk_of}
use Rattle.stimulus.specs.Walked.{MayGoOn, hart_log}
use Rattle.stimulus.specs.declared.mix.Mix.{Mix}
use Rattle.stimulus.specs.declared.walk.Walk.{Walk}
use Rattle.stimulus.proofs.WalkLemmas.{even_base, first_goes_on, stepped}

-- Walks have the same of all that no state keeps.
record AreAlike (one other : Walk) : Type 0 where
  pub extent : one.extent ≡ other.extent
  pub habits : one.habits ≡ other.habits
  pub increment : one.random.increment ≡ other.random.increment

same : (walk : Walk) → AreAlike walk walk
same walk = record { extent = refl; habits = refl; increment = refl }

after : (one middle other : Walk) → AreAlike one middle → AreAlike middle other → AreAlike one other
after one middle other a b = record {
  extent = a.extent ∙ b.extent;
  habits = a.habits ∙ b.habits;
  increment = a.increment ∙ b.increment;
}

numbered : (most : ℕ) (walk : Walk) → AreAlike (number most walk).1 walk
unfolding number
numbered most walk = record { extent = refl; habits = refl; increment = refl }

landed : (walk : Walk) → AreAlike (lands walk) walk
unfolding lands
landed walk = record { extent = refl; habits = refl; increment = refl }

levelled : (greatest : ℕ) (walk : Walk) → AreAlike (levels greatest walk) walk
unfolding levels
levelled greatest walk = record { extent = refl; habits = refl; increment = refl }

raised_alike : (b : Bool) (walk : Walk) → AreAlike (raised b walk) walk
raised_alike true walk = same walk
raised_alike false walk = record { extent = refl; habits = refl; increment = refl }

handled : (walk : Walk) → AreAlike (handles walk) walk
unfolding handles
handled walk =
    after (raised ((lands walk).privilege == 3) (lands walk)) (lands walk) walk
    (raised_alike ((lands walk).privilege == 3) (lands walk)) (landed walk)

epc_alike : (b : Bool) (walk : Walk) → AreAlike (epc_by b walk).1 walk
epc_alike true walk = numbered 63 walk
epc_alike false walk = same walk

trap_alike : (b : Bool) (draw epc : ℕ) (walk : Walk) → AreAlike (trap_by b draw epc walk).1 walk
trap_alike true draw epc walk = same walk
trap_alike false draw epc walk = numbered walk.habits.shortened walk

trapped : (walk : Walk) → AreAlike (draws_trap walk).1 walk
unfolding draws_trap
trapped walk =
    let draw = pcg32 walk.random in
    let drawn = record walk { random = draw.1 } in
    let free = walk.is_free && (draw.0 / 256 % 2 == 0) in
    let epc = epc_by free drawn in
    let is = trap_alike (nat_lt (draw.0 % 256) epc.1.habits.interrupts) draw.0 epc.0 epc.1 in
    let was = epc_alike free drawn in record {
      extent = is.extent ∙ was.extent;
      habits = is.habits ∙ was.habits;
      increment = is.increment ∙ was.increment;
    }

excepted : (cause value : ℕ) (walk : Walk) → AreAlike (excepts cause value walk).1 walk
unfolding excepts
excepted cause value walk = handled walk

branched_by : (b : Bool) (to behind : ℕ) (walk : Walk) → AreAlike (branches_by b to behind walk).1 walk
branched_by true to behind walk = record { extent = refl; habits = refl; increment = refl }
branched_by false to behind walk = record { extent = refl; habits = refl; increment = refl }

returned : (b : Bool) (class : Class) (walk : Walk) → AreAlike (returns_by b class walk).1 walk
returned true class walk = after _ (lands walk) walk (levelled _ (lands walk)) (landed walk)
returned false class walk = excepted 2 0 walk

module _ (words : Words) where
  branched : (to behind : ℕ) (walk : Walk) → AreAlike (branches words to behind walk).1 walk
  unfolding branches
  branched to behind walk =
      let draw = pcg32 walk.random in
      let is = branched_by (is_taken words to behind walk.at draw.0) to behind (record walk { random = draw.1 }) in
      record { extent = is.extent; habits = is.habits; increment = is.increment }

  comes : (class : Class) (behind : ℕ) (walk : Walk) → AreAlike (comes_at words class behind walk).1 walk
  comes Plain behind walk = record { extent = refl; habits = refl; increment = refl }
  comes (Jump to) behind walk = record { extent = refl; habits = refl; increment = refl }
  comes (Branch to) behind walk = branched to behind walk
  comes Uninferable behind walk = landed walk
  comes (TrapReturn ret) behind walk = returned (may_retire_at (TrapReturn ret) walk.privilege) (TrapReturn ret) walk
  comes NotRetirable behind walk = excepted (8 + walk.privilege % 4) 0 walk

  comes_there : (word : Option Word) (walk : Walk) → AreAlike (comes_where words word walk).1 walk
  comes_there None walk = excepted 1 walk.at walk
  comes_there (Some word) walk = comes word.0 (walk.at + word.1) walk

  stepped_by : (b : Bool) (walk : Walk) → AreAlike (steps_by words b walk).1 walk
  stepped_by true walk = after _ (draws_trap walk).1 walk (handled (draws_trap walk).1) (trapped walk)
  stepped_by false walk = comes_there (words walk.at) walk

  stepped_alike : (walk : Walk) → AreAlike (steps words walk).1 walk
  unfolding steps
  stepped_alike walk =
      let draw = pcg32 walk.random in
      let is = stepped_by (nat_lt (draw.0 % 65536) (traps_of walk)) (record walk { random = draw.1 }) in
      record { extent = is.extent; habits = is.habits; increment = is.increment }

  walked_alike : (start : Walk) (count : ℕ) → AreAlike (walked words start count).1 start
  unfolding walked
  walked_alike start zero = same start
  walked_alike start (suc count) =
      let before = walked words start count in
      after (steps words before.1).1 before.1 start (stepped_alike before.1) (walked_alike start count)

  abbrev on : List Event × Walk → List Event × Walk
  on before = let next = steps words before.1 in (before.0 ++ next.0 ∷ [], next.1)

  abbrev joined : Walk → ℕ → ℕ → List Event × Walk
  joined start first more =
      let before = walked words start first in
      let behind = walked words before.1 more in
      (before.0 ++ behind.0, behind.1)

  -- A walk goes on where another ended.
  pub walked_on : (start : Walk) (first more : ℕ) → walked words start (first + more) ≡ joined start first more
  unfolding walked
  walked_on start first zero =
      let none : first + 0 ≡ first = omega arith in
      let before = walked words start first in
      ap (walked words start) none ∙ ap (λ events. (events, before.1)) (sym (append-nil before.0))
  walked_on start first (suc more) =
      let one : first + suc more ≡ suc (first + more) = omega arith in
      let before = walked words start first in
      let behind = walked words before.1 more in
      let next = steps words behind.1 in
      ap (walked words start) one ∙ ap on (walked_on start first more)
      ∙ ap (λ events. (events, next.1)) (append_assoc before.0 behind.0 (next.0 ∷ []))

-- A walk comes back from what it kept.
module _ (program : Image) (mix : Mix) (seed hart : ℕ) where
  abbrev start : Walk
  start = first_walk (extent_of program) mix seed hart

  abbrev begins : Walk
  begins = record {
    extent = extent_of program;
    habits = habits_of mix;
    random = generator seed (stream_of hart);
    at = 0;
    privilege = 3;
    is_free = true;
  }

  pub back : (count : ℕ) (walk : Walk) → HasGone program mix seed hart count walk
      → walk_of program mix seed hart (Some (state_of walk)) ≡ walk
  back count walk is =
      let gone = walked_alike (words_of program) start count in
      let whole = subst (λ w. AreAlike w begins) (sym is)
      (after (walked (words_of program) start count).1 start begins gone
      (after start (lands begins) begins (levelled 3 (lands begins)) (landed begins))) in
      ap (λ extent. record {
        extent = extent;
        habits = habits_of mix;
        random = record { state = walk.random.state; increment = increment_of 64 (stream_of hart) };
        at = walk.at;
        privilege = walk.privilege;
        is_free = walk.is_free;
      }) (sym whole.extent)
      ∙ ap (λ habits. record walk {
        habits = habits;
        random = record { state = walk.random.state; increment = increment_of 64 (stream_of hart) };
      }) (sym whole.habits)
      ∙ ap (λ increment. record walk {
        random = record { state = walk.random.state; increment = increment };
      }) (sym whole.increment)

  -- A hart goes on where it was.
  pub gone_on : (count more : ℕ) (walk : Walk) → HasGone program mix seed hart count walk
      → (hart_log program mix seed hart (count + more)
      ≡ hart_log program mix seed hart count ++ (walked (words_of program) walk more).0)
      × HasGone program mix seed hart (count + more) (walked (words_of program) walk more).1
  gone_on count more walk is =
      let words = words_of program in
      let both = walked_on words start count more in
      let same = ap (λ w. walked words w more) is in (
        ap (λ (w : List Event × Walk). w.0) both
            ∙ ap (λ (w : List Event × Walk). (walked words start count).0 ++ w.0) (sym same),
        ap (λ (w : List Event × Walk). w.1) same ∙ sym (ap (λ (w : List Event × Walk). w.1) both),
      )

  -- Its log is legal.
  abbrev IsLegal : ℕ → Type 0
  IsLegal count =
      let before = walked (words_of program) start count in
      Legal (words_of program) before.0 × MayGoOn (words_of program) (last_or None before.0) before.1

  legal_so_far : IsImage program → (count : ℕ) → IsLegal count
  unfolding walked
  legal_so_far image zero =
      (tt, first_goes_on (words_of program) (extent_of program) mix seed hart (even_base program image))
  legal_so_far image (suc count) =
      let before = walked (words_of program) start count in
      let legal = legal_so_far image count in
      let step = stepped program (last_or None before.0) before.1 legal.1 in
      let next = steps (words_of program) before.1 in (
        follow_on_join (words_of program) None before.0 (next.0 ∷ []) legal.0 (step.right, step.follows, tt),
        subst (λ last. MayGoOn (words_of program) last next.1)
            (sym (last_or-append None before.0 (next.0 ∷ []))) step.goes_on,
      )

  pub legal : IsImage program → (count : ℕ) → Legal (words_of program) (hart_log program mix seed hart count)
  legal image count = (legal_so_far image count).0
