-- How far messages were walked, with one message more.
use Rattle.std.proofs.Common.{◌≡◌, ◌+◌, ℕ, All, List, [], ◌∷◌, ◌++◌, Global, Vec, ap, drop, length, refl, subst, sym}
use Rattle.std.proofs.Common.{◌∙◌, ◌<◌, ◌≤◌, Bool, None, Some, arith, false, if◌then◌else◌, length-take-le, true}
use Rattle.std.proofs.lemmas.List.{length-drop, length_push}
use Rattle.std.proofs.lemmas.List.Elements.{All-append, All-cons, All-nil, All-push}
use Rattle.frames.proofs.FrameLemmas.{begins_complete, complete}
use Rattle.frames.specs.Frame.{frame_in, frame_size, hart_in, is_complete, length_in, message_size, payload_in}
use Rattle.message.proofs.Selecting.{none_selected, one_selected, selected-append}
use Rattle.message.specs.Range.{selected, selects}
use Rattle.message.specs.declared.range.HartRange.{HartRange}
use Rattle.message.proofs.Elements.{All-slice_get}
use Rattle.message.specs.Capture.{capture, message_bytes}
use Rattle.message.specs.Cut.{IsMessage}
use Rattle.message.specs.declared.message.Message.{Message}
use Rattle.message.specs.steps.Filling.{AreBytes}
use Rattle.captures.proofs.Reaching.{capture_next}
use Rattle.parallel_decode.proofs.PlaceLemmas.{place_behind}
use Rattle.parallel_decode.specs.steps.Starts.{AreStarts, StartAt, StartsAt}
use Rattle.parallel_decode.specs.steps.Walked.{AreWalked, IsOfHarts}

-- The size of what bytes begin with is that of a complete message.
sized : (complete : Bool) (size found : ℕ) → (if complete then Some size else None) ≡ Some found
    → (complete ≡ true) × (found ≡ size)
sized false size found is = absurd cc
sized true size found is = (refl, cc)

-- A complete message begins where the walk finds a head.
pub head_starts : (bytes : List ℕ) (place size : ℕ) → place ≤ length bytes → AreBytes (drop place bytes)
    → message_size (drop place bytes) ≡ Some size
    → (message : Message) × StartsAt bytes place message × (message.hart ≡ hart_in (drop place bytes))
    × (size ≡ length (message_bytes message))
head_starts bytes place size within are found =
    let rest = drop place bytes in
    let has = sized (is_complete rest) (frame_size rest) size found in
    let begins = begins_complete rest are has.0 in
    let fits = (complete rest has.0).fits in
    let left = length-drop 11 rest in
    let long : length (payload_in rest) ≡ length_in rest =
    length-take-le (length_in rest) (drop 11 rest) (omega (arith, left, fits)) in
    let framed : size ≡ 11 + length_in rest = has.1 in
    let size_is : size ≡ length (message_bytes (frame_in rest)) = omega (arith, framed, long) in (
      frame_in rest,
      record { rest = begins.rest; within = within; begins = begins.whole; ranges = begins.ranges },
      refl,
      size_is,
    )

-- A message that is selected is of these harts.
pub one_of_harts : (range : HartRange) (harts : ℕ) (message : Message)
    → (selects range message.hart ≡ true → message.hart < harts) → All (IsOfHarts harts) (selected range (message ∷ []))
one_of_harts range harts message known = by_range (selects range message.hart) refl
  where
    by_range : (is_selected : Bool) → selects range message.hart ≡ is_selected
        → All (IsOfHarts harts) (selected range (message ∷ []))
    by_range true mine =
        subst (All (IsOfHarts harts)) (sym (one_selected range message mine))
        (All-cons (IsOfHarts harts) message [] (known mine) (All-nil (IsOfHarts harts)))
    by_range false other =
        subst (All (IsOfHarts harts)) (sym (none_selected range message other)) (All-nil (IsOfHarts harts))

module _ (range : HartRange) (harts : ℕ) (bytes : List ℕ) where
  -- At first none was.
  pub walked-none : (places : List (Vec ℕ Global)) → All (λ (own : Vec ℕ Global). own.items ≡ []) places
      → length places ≡ harts → AreWalked range harts bytes [] places 0 0
  walked-none places empty count = record {
    counted = refl;
    within = omega arith;
    ranges = All-nil IsMessage;
    whole = refl;
    of_harts = All-nil (IsOfHarts harts);
    starts = λ hart own is.
        subst (λ items. StartAt bytes items [])
        (sym (All-slice_get (λ (own : Vec ℕ Global). own.items ≡ []) places hart own is empty)) tt;
    count = count;
  }

  -- And then one more.
  pub walked-next : (messages : List Message) (message : Message) (places places' : List (Vec ℕ Global))
      (place passed size : ℕ) (next : List ℕ) → AreWalked range harts bytes messages places place passed
      → IsMessage message → drop place bytes ≡ message_bytes message ++ next
      → size ≡ length (message_bytes message)
      → AreStarts bytes places' (selected range messages ++ selected range (message ∷ []))
      → All (IsOfHarts harts) (selected range (message ∷ [])) → length places' ≡ harts
      → AreWalked range harts bytes (messages ++ message ∷ []) places' (place + size) (passed + 1)
      × (drop (place + size) bytes ≡ next)
  walked-next messages message places places' place passed size next walked is begins long starts of_harts count =
      let behind = place_behind bytes (drop place bytes) next place size message refl walked.within begins long in
      let parts = sym (selected-append range messages (message ∷ [])) in (
        record {
          counted = ap (λ n. n + 1) walked.counted ∙ sym (length_push messages message);
          within = behind.1;
          ranges = All-push IsMessage messages message walked.ranges is;
          whole = walked.whole
              ∙ ap (λ rest. capture messages ++ rest) begins
              ∙ sym (capture_next messages message next)
              ∙ ap (λ rest. capture (messages ++ message ∷ []) ++ rest) (sym behind.0);
          of_harts = subst (All (IsOfHarts harts)) parts
              (All-append (IsOfHarts harts) (selected range messages) (selected range (message ∷ [])) walked.of_harts
              of_harts);
          starts = subst (AreStarts bytes places') parts starts;
          count = count;
        },
        behind.0,
      )
