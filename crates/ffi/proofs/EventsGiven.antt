-- Events of a walk fill a buffer, and the walk goes on from its numbers.
use Rattle.std.proofs.Common.{◌≡◌, ℕ, ◌+◌, ◌<◌, ◌++◌, ◌∷◌, ◌∙◌, [], List, Bool, true, false, Option, Some, ap, arith, length}
use Rattle.std.proofs.Common.{if◌then◌else◌, map, refl, subst, sym, take}
use Rattle.std.specs.Prelude.{slice_set}
use Rattle.std.proofs.lemmas.List.{length-set, map-append, take_all, take_more_set}
use Rattle.retire.specs.declared.event.Event.{Event}
use Rattle.rvclass.specs.Fetch.{words_of}
use Rattle.rvclass.specs.Image.{Image, IsImage}
use Rattle.rvclass.specs.Words.{Words}
use Rattle.stimulus.proofs.KeptLemmas.{back, gone_on, legal}
use Rattle.stimulus.proofs.WalkLemmas.{walked_more, walked_none}
use Rattle.stimulus.specs.Walk.{steps, walked}
use Rattle.stimulus.specs.WalkKept.{state_of, walk_of}
use Rattle.stimulus.specs.declared.mix.Mix.{Mix}
use Rattle.stimulus.specs.declared.walk.Walk.{Walk}
use Rattle.stimulus.specs.declared.walk.WalkState.{WalkState}
use Rattle.ffi.specs.Events.{numbers_of_event}
use Rattle.ffi.specs.Generated.{AreAfter, FillsEvents, GivesMore, kept_in, numbers_of_kept, walks_on}
use Rattle.ffi.specs.declared.events.EventNumbers.{EventNumbers}
use Rattle.ffi.specs.declared.generating.WalkNumbers.{WalkNumbers}

-- The first events of a walk stand at the front of a buffer.
pub record AreGiven (words : Words) (start : Walk) (old : List EventNumbers) (place : ℕ) (walk : Walk)
    (now : List EventNumbers) : Type 0 where
  pub front : take place now ≡ map numbers_of_event (walked words start place).0
  pub far : walk ≡ (walked words start place).1
  pub room : length now ≡ length old

module _ (words : Words) (start : Walk) (old : List EventNumbers) where
  -- None does.
  pub given_none : AreGiven words start old 0 start old
  given_none = record {
    front = ap (λ (w : List Event × Walk). map numbers_of_event w.0) (walked_none words start);
    far = ap (λ (w : List Event × Walk). w.1) (walked_none words start);
    room = refl;
  }

  -- One more does.
  pub given_more : (place : ℕ) (walk after : Walk) (now : List EventNumbers) (event : Event) (numbers : EventNumbers)
      → place < length old → AreGiven words start old place walk now → (event, after) ≡ steps words walk
      → numbers ≡ numbers_of_event event → AreGiven words start old (place + 1) after (slice_set now place numbers)
  given_more place walk after now event numbers room given next is =
      let same = given.room in
      let before = walked words start place in
      let both = walked_more words start place before.0 walk after event (ap (λ w. (before.0, w)) given.far) next in
      record {
        front = take_more_set now place numbers (omega (arith, room, same))
            ∙ ap (λ n. take place now ++ n ∷ []) is
            ∙ ap (λ ns. ns ++ numbers_of_event event ∷ []) given.front
            ∙ sym (map-append numbers_of_event before.0 (event ∷ []))
            ∙ ap (λ (w : List Event × Walk). map numbers_of_event w.0) both;
        far = ap (λ (w : List Event × Walk). w.1) both;
        room = length-set now place numbers ∙ given.room;
      }

  -- All do.
  pub given_all : (place : ℕ) (walk : Walk) (now : List EventNumbers) → place ≡ length old
      → AreGiven words start old place walk now
      → (now ≡ map numbers_of_event (walked words start (length old)).0)
      × (walk ≡ (walked words start (length old)).1)
  given_all place walk now all given =
      let room = given.room in (
        sym (take_all place now (omega (arith, room, all))) ∙ given.front
            ∙ ap (λ n. map numbers_of_event (walked words start n).0) all,
        given.far ∙ ap (λ n. (walked words start n).1) all,
      )

-- What a walk keeps comes back from its numbers.
kept_back : (before : WalkNumbers) (kept : WalkState) → kept_in (numbers_of_kept before kept) ≡ Some kept
kept_back before kept = go kept.is_free
  where
    go : (b : Bool) → kept_in (record before {
      random = kept.random;
      at = kept.at;
      privilege = kept.privilege;
      next = if b then 1 else 2;
    }) ≡ Some (record kept { is_free = b })
    go true = refl
    go false = refl

-- A hart goes on with its log.
pub gives_more : (program : Image) (mix : Mix) (more : ℕ) (before : WalkNumbers) → IsImage program → (count : ℕ)
    → AreAfter program mix count before
    → GivesMore program mix count more (walks_on program mix before more).0 before
    (numbers_of_kept before (state_of (walks_on program mix before more).1))
gives_more program mix more before image count is =
    let walk = walk_of program mix before.seed before.hart (kept_in before) in
    let gone = gone_on program mix before.seed before.hart count more walk is in
    let after = (walked (words_of program) walk more).1 in record {
      log = gone.0;
      legal = legal program mix before.seed before.hart image (count + more);
      stands =
          ap (walk_of program mix before.seed before.hart) (kept_back before (state_of after))
          ∙ back program mix before.seed before.hart (count + more) after gone.1 ∙ gone.1;
    }

-- The next events fill the buffer, and the numbers are those of the walk after them.
pub filled : (program : Image) (mix : Mix) (before after : WalkNumbers) (kept_before : Option WalkState) (kept : WalkState)
    (start walk : Walk) (old new : List EventNumbers)
    → kept_before ≡ kept_in before → start ≡ walk_of program mix before.seed before.hart kept_before → IsImage program
    → new ≡ map numbers_of_event (walked (words_of program) start (length old)).0
    → walk ≡ (walked (words_of program) start (length old)).1
    → kept ≡ state_of walk → after ≡ numbers_of_kept before kept → FillsEvents program mix before after old new
filled program mix before after kept_before kept start walk old new was begun image written far keeps is =
    let words = words_of program in
    let more = length old in
    let same = begun ∙ ap (walk_of program mix before.seed before.hart) was in
    let state = is ∙ ap (numbers_of_kept before) (keeps ∙ ap state_of (far ∙ ap (λ w. (walked words w more).1) same)) in
    record {
      written = written ∙ ap (λ w. map numbers_of_event (walked words w more).0) same;
      state = state;
      given = λ count is_after.
          subst (GivesMore program mix count more (walks_on program mix before more).0 before) (sym state)
          (gives_more program mix more before image count is_after);
    }
