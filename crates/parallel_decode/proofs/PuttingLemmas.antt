-- The text of stretches that is written so far, and one text more.
use Rattle.std.proofs.Common.{◌≡◌, ◌+◌, ◌≤◌, ◌∙◌, ℕ, List, [], ◌∷◌, ◌++◌, Option, Some, Ok, Err, Result, ap, append_assoc}
use Rattle.std.proofs.Common.{append-nil, drop, length, refl, slice_get, subst, sym}
use Rattle.std.specs.Prelude.{is_ok, true}
use Rattle.std.proofs.KnownBytes.{Appends-nil, Appends-trans}
use Rattle.std.proofs.lemmas.List.{drop_all, drop_more}
use Rattle.std.proofs.lemmas.Option.{get_or_from_slice_get, slice_get_within}
use Rattle.std.specs.Io.KnownBytes.{Appends}
use Rattle.retire.specs.declared.event.Event.{Event}
use Rattle.retire.specs.declared.fault.WriteFault.{WriteFault}
use Rattle.rvclass.specs.Fetch.{words_of}
use Rattle.parallel_decode.proofs.PutLemmas.{put_behind, put_in_front}
use Rattle.parallel_decode.specs.Put.{IsPut}
use Rattle.parallel_decode.proofs.StretchLemmas.{First, part_at, text_first}
use Rattle.parallel_decode.specs.declared.stretch.Plan.{Plan}
use Rattle.parallel_decode.specs.declared.stretch.Stretch.{Stretch}
use Rattle.parallel_decode.specs.steps.Putting.{Left, PutsOn}
use Rattle.parallel_decode.specs.steps.Stretches.{HavePart, HaveText, HaveTextFrom, HaveTexts, IsPartOf, stretch_text}

-- What was written into an empty list is what it holds.
pub put_into : (ended : Result Unit WriteFault) (old new text : List ℕ) → is_ok ended ≡ true → old ≡ []
    → IsPut ended (Some old) (Some new) text → new ≡ text
put_into (Ok _) old new text ok none put = put ∙ ap (λ l. l ++ text) none
put_into (Err why) old new text ok none put = absurd cc

module _ (plan : Plan) where
  -- Nothing goes on.
  pub puts_none : (from : ℕ) (old : Option (List ℕ)) → PutsOn plan from (Ok from) old old
  puts_none from old = λ text start left. left

  -- It goes on, and goes on from there.
  pub puts_more : (from at : ℕ) (ended : Result ℕ WriteFault) (old mid new : Option (List ℕ))
      → PutsOn plan from (Ok at) old mid → PutsOn plan at ended mid new → PutsOn plan from ended old new
  puts_more from at ended old mid new first then = λ text start left. then text start (first text start left)

  pub puts_next : (from at next : ℕ) (old mid new : Option (List ℕ)) → PutsOn plan from (Ok at) old mid
      → PutsOn plan at (Ok next) mid new → PutsOn plan from (Ok next) old new
  puts_next from at next = puts_more from at (Ok next)

  -- At first all is left.
  pub left_all : (text : List ℕ) (old : Option (List ℕ)) → HaveTextFrom plan 0 text → Left plan 0 text old old
  left_all text old have =
      record { written = []; rest = text; have = have; appended = Appends-nil old; whole = refl }

  -- At last nothing is left.
  pub left_none : (at : ℕ) (text : List ℕ) (old new : Option (List ℕ)) → length plan.stretches.now ≤ at
      → Left plan at text old new → Appends old new text
  left_none at text old new over left =
      let rest : left.rest ≡ [] =
      subst (λ ss. HaveText (words_of plan.program.now) plan.bytes.now plan.places.now ss left.rest)
      (drop_all at plan.stretches.now over) left.have in
      subst (Appends old new)
      (sym (left.whole ∙ ap (λ l. left.written ++ l) rest ∙ append-nil left.written)) left.appended

  -- Each stretch has a part of a log.
  pub have_part : (at : ℕ) (stretch : Stretch) → slice_get plan.stretches.now at ≡ Some stretch → HaveTexts plan
      → HavePart plan stretch
  have_part at stretch is have =
      part_at (words_of plan.program.now) plan.bytes.now plan.places.now plan.stretches.now have.0 at stretch have.1 is

  module _ (at : ℕ) (stretch : Stretch) (is : slice_get plan.stretches.now at ≡ Some stretch) (text : List ℕ)
      (old mid : Option (List ℕ)) (left : Left plan at text old mid) where
    -- The stretch comes next, and then those after it.
    next : First (words_of plan.program.now) plan.bytes.now plan.places.now stretch (drop (at + 1) plan.stretches.now)
        left.rest
    next =
        text_first (words_of plan.program.now) plan.bytes.now plan.places.now stretch
        (drop (at + 1) plan.stretches.now) left.rest
        (subst (λ ss. HaveText (words_of plan.program.now) plan.bytes.now plan.places.now ss left.rest)
        (drop_more plan.stretches.now at stretch (slice_get_within plan.stretches.now at stretch is)
        ∙ ap (λ s. s ∷ drop (at + 1) plan.stretches.now)
        (get_or_from_slice_get plan.stretches.now at stretch stretch is)) left.have)

    abbrev front : List ℕ
    front = stretch_text stretch next.part

    whole : text ≡ (left.written ++ front) ++ next.rest
    whole =
        left.whole ∙ ap (λ l. left.written ++ l) next.parted ∙ sym (append_assoc left.written front next.rest)

    -- Its text was written.
    pub stretch_more : (new : Option (List ℕ))
        → ((part : List Event) → IsPartOf plan stretch part → Appends mid new (stretch_text stretch part))
        → Left plan (at + 1) text old new
    stretch_more new put = record {
      written = left.written ++ front;
      rest = next.rest;
      have = next.later;
      appended = Appends-trans old mid new left.written front left.appended (put next.part next.is);
      whole = whole;
    }

    -- Or a prefix of it.
    pub stretch_fails : (why : WriteFault) (new : Option (List ℕ))
        → ((part : List Event) → IsPartOf plan stretch part → IsPut (Err why) mid new (stretch_text stretch part))
        → IsPut (Err why) old new text
    stretch_fails why new put =
        subst (IsPut (Err why) old new) (sym whole)
        (put_in_front why old new (left.written ++ front) next.rest
        (put_behind (Err why) old mid new left.written front left.appended (put next.part next.is)))
