-- Marks on the way through messages, with more messages.
use Rattle.std.proofs.Common.{◌≡◌, ◌+◌, ◌<◌, ◌≤◌, ◌-◌, ◌^◌, ℕ, zero, suc, All, List, [], ◌∷◌, ◌++◌, length, min, take}
use Rattle.std.proofs.Common.{refl, sym, ap, subst, ◌∙◌, arith}
use Rattle.std.proofs.lemmas.List.{append_assoc, append-nil, length-append}
use Rattle.std.proofs.lemmas.List.Elements.{All-cons, All-head, All-nil, All-push, All-tail}
use Rattle.retire.specs.declared.event.Event.{Event}
use Rattle.rvclass.specs.Words.{Words}
use Rattle.decoder.specs.DecoderStands.{DecoderStands}
use Rattle.message.specs.OfHart.{packets_in}
use Rattle.message.specs.declared.message.Message.{Message}
use Rattle.parallel_decode.specs.Marks.{AreRising, IsMark}
use Rattle.parallel_decode.specs.declared.mark.Mark.{Mark}
use Rattle.parallel_decode.specs.steps.Ends.{AreOnWay, IsUpTo}

-- The first of more elements are those of the list, where there are so many.
take-front : {X : Type 0} (n : ℕ) (xs more : List X) → n ≤ length xs → take n (xs ++ more) ≡ take n xs
take-front zero xs more few = refl
take-front (suc n) [] more few = absurd (omega (arith, few))
take-front (suc n) (x ∷ xs) more few = ap (λ l. x ∷ l) (take-front n xs more (omega (arith, few)))

-- All of a list.
take-all : {X : Type 0} (xs : List X) (n : ℕ) → n ≡ length xs → take n xs ≡ xs
take-all [] zero is = refl
take-all [] (suc n) is = absurd (omega (arith, is))
take-all (x ∷ xs) zero is = absurd (omega (arith, is))
take-all (x ∷ xs) (suc n) is = ap (λ l. x ∷ l) (take-all xs n (omega (arith, is)))

module _ (words : Words) (messages more : List Message) (log added : List Event) where
  -- A mark stays one.
  mark-stays : (mark : Mark) → IsMark words messages log mark → IsMark words (messages ++ more) (log ++ added) mark
  mark-stays mark is =
      let within = is.within in
      let longer = length-append messages more in
      record {
        before = is.before;
        rest = is.rest ++ added;
        whole = ap (λ l. l ++ added) is.whole ∙ append_assoc is.before is.rest added;
        within = omega (arith, within, longer);
        stands = subst (λ ms. DecoderStands words (packets_in ms) is.before mark.decoder)
            (sym (take-front mark.taken messages more within)) is.stands;
        counted = is.counted;
      }

  marks-stay : (marks : List Mark) → All (IsMark words messages log) marks
      → All (IsMark words (messages ++ more) (log ++ added)) marks
  marks-stay [] are = All-nil (IsMark words (messages ++ more) (log ++ added))
  marks-stay (mark ∷ marks) are =
      All-cons (IsMark words (messages ++ more) (log ++ added)) mark marks
      (mark-stays mark (All-head (IsMark words messages log) mark marks are))
      (marks-stay marks (All-tail (IsMark words messages log) mark marks are))

-- A bound may be larger.
up_to-more : (taken more : ℕ) (marks : List Mark) → taken ≤ more → All (IsUpTo taken) marks
    → All (IsUpTo more) marks
up_to-more taken more [] le are = All-nil (IsUpTo more)
up_to-more taken more (mark ∷ marks) le are =
    let first : mark.taken ≤ taken = All-head (IsUpTo taken) mark marks are in
    All-cons (IsUpTo more) mark marks (omega (arith, first, le))
    (up_to-more taken more marks le (All-tail (IsUpTo taken) mark marks are))

-- A mark after all others.
rising-push : (from taken : ℕ) (marks : List Mark) (mark : Mark) → AreRising from marks → from ≤ taken
    → All (IsUpTo taken) marks → taken < mark.taken → AreRising from (marks ++ mark ∷ [])
rising-push from taken [] mark rising le are more = (omega (arith, le, more), tt)
rising-push from taken (first ∷ marks) mark rising le are more =
    let up_to : first.taken ≤ taken = All-head (IsUpTo taken) first marks are in
    (rising.0, rising-push first.taken taken marks mark rising.1 up_to (All-tail (IsUpTo taken) first marks are) more)

module _ (words : Words) (messages more : List Message) (log added : List Event) (marks : List Mark)
    (are : AreOnWay words messages log marks) where
  abbrev whole : List Message
  whole = messages ++ more

  abbrev longer : List Event
  longer = log ++ added

  up_to : All (IsUpTo (length whole)) marks
  up_to =
      let appended = length-append messages more in
      up_to-more (length messages) (length whole) marks (omega (arith, appended)) are.behind

  -- The marks stay on the way.
  pub on_way-stays : AreOnWay words whole longer marks
  on_way-stays = record {
    marked = marks-stay words messages more log added marks are.marked;
    rising = are.rising;
    behind = up_to;
  }

  -- One mark more, at the end of the way.
  pub on_way-next : (mark : Mark) → mark.taken ≡ length whole → length messages < mark.taken
      → mark.events ≡ min (2 ^ 64 - 1) (length longer)
      → DecoderStands words (packets_in whole) longer mark.decoder
      → AreOnWay words whole longer (marks ++ mark ∷ [])
  on_way-next mark taken further counted stands = record {
    marked = All-push (IsMark words whole longer) marks mark
        (marks-stay words messages more log added marks are.marked)
        (record {
          before = longer;
          rest = [];
          whole = sym (append-nil longer);
          within = omega (arith, taken);
          stands = subst (λ ms. DecoderStands words (packets_in ms) longer mark.decoder)
              (sym (take-all whole mark.taken taken)) stands;
          counted = counted;
        });
    rising = rising-push 0 (length messages) marks mark are.rising (omega arith) are.behind further;
    behind = All-push (IsUpTo (length whole)) marks mark up_to (omega (arith, taken));
  }

-- How many events there are, counted up to the greatest number.
pub counted-more : (log added : List Event) (so_far more : ℕ) → so_far ≡ min (2 ^ 64 - 1) (length log)
    → more ≡ min (2 ^ 64 - 1) (length added)
    → min (so_far + more) (2 ^ 64 - 1) ≡ min (2 ^ 64 - 1) (length (log ++ added))
counted-more log added so_far more is adds =
    let whole = length-append log added in
    omega (arith, is, adds, whole)
