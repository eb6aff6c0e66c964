-- The ends of harts, with one hart more.
use Rattle.std.proofs.Common.{◌≡◌, ◌⊎◌, inl, inr, ℕ, zero, suc, ◌≤◌, true, false, ltb, is_some, None, Global, List, []}
use Rattle.std.proofs.Common.{◌∷◌, ◌++◌, Option, Some, get_or, length, slice_get, sym, ap, subst, ◌∙◌, refl}
use Rattle.std.specs.declared.vec.Vec.{Vec}
use Rattle.std.proofs.lemmas.Bool.{ltb-true}
use Rattle.std.proofs.lemmas.List.{take_all}
use Rattle.std.proofs.lemmas.Option.{same_Some, slice_get-get_or}
use Rattle.message.specs.declared.message.Message.{Message}
use Rattle.parallel_decode.specs.declared.mark.Mark.{Mark}
use Rattle.rvclass.specs.Words.{Words}
use Rattle.payload.specs.declared.mode.Mode.{Mode}
use Rattle.parallel_decode.specs.declared.hart.Entry.{Entry}
use Rattle.parallel_decode.specs.declared.hart.HartEnd.{HartEnd}
use Rattle.parallel_decode.specs.declared.hart.HartSoFar.{HartSoFar}
use Rattle.parallel_decode.specs.steps.Ends.{AreEnds, AreOnWay, IsEnd, IsEntry, IsReceivedHart, IsReceivedSoFar}
use Rattle.parallel_decode.specs.steps.OwnMessages.{IsOwn}

-- What is at a place of a list with one element more.
pub slice_get-push : {X : Type 0} (xs : List X) (y : X) (i : ℕ) (x : X) → slice_get (xs ++ y ∷ []) i ≡ Some x
    → (slice_get xs i ≡ Some x) ⊎ ((i ≡ length xs) × (y ≡ x))
slice_get-push [] y zero x is = inr (refl, same_Some y x is)
slice_get-push [] y (suc i) x is = cc
slice_get-push (a ∷ xs) y zero x is = inl is
slice_get-push (a ∷ xs) y (suc i) x is = behind (slice_get-push xs y i x is)
  where
    behind : (slice_get xs i ≡ Some x) ⊎ ((i ≡ length xs) × (y ≡ x))
        → (slice_get (a ∷ xs) (suc i) ≡ Some x) ⊎ ((suc i ≡ suc (length xs)) × (y ≡ x))
    behind (inl found) = inl found
    behind (inr last) = inr (ap suc last.0, last.1)

module _ {A : Type 0} (words : Words) (announced : Option Mode) (bytes : List ℕ) (places : List (Vec ℕ A)) where
  -- With the next hart there is one more.
  pub ends-next : (ends : List HartEnd) (entry : Entry) → AreEnds words announced bytes places ends
      → IsEntry words announced bytes places entry → entry.hart ≡ length ends
      → AreEnds words announced bytes places (ends ++ entry.end ∷ [])
  ends-next ends entry are is here hart own end its at = by_place (slice_get-push ends entry.end hart end at)
    where
      by_place : (slice_get ends hart ≡ Some end) ⊎ ((hart ≡ length ends) × (entry.end ≡ end))
          → IsEnd words announced bytes own.items end
      by_place (inl before) = are hart own end its before
      by_place (inr last) =
          subst (IsEnd words announced bytes own.items) last.1
          (is own (ap (slice_get places) (here ∙ sym last.0) ∙ its))

-- There is nothing where there is not something.
pub none-of : {X : Type 0} (o : Option X) → is_some o ≡ false → o ≡ None
none-of None is = refl
none-of (Some x) is = cc

-- What is at a place within a list.
pub found-at : {X : Type 0} (xs : List X) (i place : ℕ) (x : X) → true ≡ ltb i (length xs) → x ≡ get_or xs i x
    → i ≡ place → slice_get xs place ≡ Some x
found-at xs i place x within is here =
    subst (λ i. slice_get xs i ≡ Some x) here
    (slice_get-get_or xs i x (ltb-true i (length xs) (sym within)) ∙ ap Some (sym is))

-- All messages of a hart were received.
pub received-end : (words : Words) (announced : Option Mode) (messages : List Message) (so_far : HartSoFar)
    (end : HartEnd) → IsReceivedSoFar words announced messages so_far → length messages ≤ so_far.taken
    → end.own ≡ so_far.own → end.marks ≡ so_far.trail.marks → IsReceivedHart words announced messages end
received-end words announced messages so_far end is all same marks =
    let whole = take_all so_far.taken messages all in
    let made = is.made in
    record {
      log = is.log;
      own = subst (λ own. IsOwn words announced messages is.log own) (sym same)
          (subst (λ ms. IsOwn words announced ms is.log so_far.own) whole is.received);
      on_way = subst (λ (marks : Vec Mark Global). AreOnWay words messages is.log marks.items) (sym marks)
          (subst (λ ms. AreOnWay words ms is.log so_far.trail.marks.items) whole made.on_way);
    }
