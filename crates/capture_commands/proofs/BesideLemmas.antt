-- A log that is compared with what is decoded of its hart, some events at a time.
use Rattle.std.proofs.Common.{◌≡◌, ◌∙◌, ◌⊎◌, ◌≤◌, ◌<◌, ◌+◌, ◌-◌, ◌++◌, ℕ, zero, suc, List, [], ◌∷◌, ap, append-nil, append_assoc, arith}
use Rattle.std.proofs.Common.{drop, inl, inr, length, refl, subst, sym, take, take-append-drop, vec_capacity}
use Rattle.std.proofs.lemmas.List.{drop-drop, length-append, length-drop, length-take-le, nil_from_length}
use Rattle.retire.specs.declared.event.Event.{Event}
use Rattle.comparing.specs.Compared.{HasCompared}
use Rattle.comparing.specs.declared.pieces.Comparing.{Comparing}
use Rattle.capture_commands.specs.declared.beside.Beside.{Beside}
use Rattle.capture_commands.specs.steps.Beside.{IsBeside, IsDecodedTo, IsRefilled}
use Rattle.parallel_decode.specs.Left.{HasLeft}

-- Nothing is left of a list after its end.
pub drop_over : {A : Type 0} (n : ℕ) (items : List A) → length items ≤ n → drop n items ≡ []
drop_over n items over =
    let left = length-drop n items in nil_from_length (drop n items) (omega (arith, left, over))

-- Nothing is left of a list where one or more items of it are none.
none_taken : {A : Type 0} (n : ℕ) (items : List A) → 1 ≤ n → length (take n items) ≡ 0 → items ≡ []
none_taken zero items one none = absurd (omega (arith, one))
none_taken (suc n) [] one none = refl
none_taken (suc n) (item ∷ items) one none = absurd (omega (arith, none))

module _ (decoded seen : List Event) (beside : Beside) (to : IsDecodedTo decoded seen beside) where
  -- All that is decoded was compared where all that is held was and nothing is left.
  whole_without : length beside.piece.items ≤ beside.at → to.rest ≡ [] → decoded ≡ to.before
  whole_without over none =
      to.whole ∙ ap (λ l. to.before ++ (l ++ to.rest)) (drop_over beside.at beside.piece.items over)
      ∙ ap (λ l. to.before ++ l) none ∙ append-nil to.before

  -- An event is held that was not compared.
  pub refilled_held : beside.at < length beside.piece.items → IsRefilled decoded seen to.before beside
  refilled_held within = record { to = to; same = refl; filled = inl within }

  -- Another piece is decoded.
  pub refilled_next : length beside.piece.items ≤ beside.at → (next : Beside) → (n : ℕ) → 1 ≤ n
      → next.at ≡ 0 → next.piece.items ≡ take n to.rest → HasLeft (drop n to.rest) next.events
      → next.comparing ≡ beside.comparing → 1 ≤ vec_capacity next.piece → IsRefilled decoded seen to.before next
  refilled_next over next n some start items left same room =
      let none = drop_over beside.at beside.piece.items over in
      let now : drop next.at next.piece.items ≡ take n to.rest =
      ap (λ at. drop at next.piece.items) start ∙ items in record {
        to = record {
          before = to.before;
          rest = drop n to.rest;
          compared = subst (HasCompared to.before seen) (sym same) to.compared;
          left = left;
          whole = to.whole ∙ ap (λ l. to.before ++ (l ++ to.rest)) none
              ∙ ap (λ l. to.before ++ l) (sym (take-append-drop n to.rest))
              ∙ ap (λ l. to.before ++ (l ++ drop n to.rest)) (sym now);
          reached = to.reached;
          piece = room;
        };
        same = refl;
        filled = filled (length (take n to.rest)) refl;
      }
    where
      filled : (many : ℕ) → length (take n to.rest) ≡ many
          → (next.at < length next.piece.items) ⊎ (decoded ≡ to.before)
      filled zero none = inr (whole_without over (none_taken n to.rest some none))
      filled (suc many) more =
          let long = ap length items in inl (omega (arith, start, long, more))

module _ (decoded seen before : List Event) (beside : Beside) (is : IsRefilled decoded seen before beside) where
  -- All that is decoded was compared.
  pub all_compared : length beside.piece.items ≤ beside.at → decoded ≡ is.to.before
  all_compared over = go is.filled
    where
      go : (beside.at < length beside.piece.items) ⊎ (decoded ≡ before) → decoded ≡ is.to.before
      go (inl within) = absurd (omega (arith, over, within))
      go (inr all) = all ∙ sym is.same

  -- Else as many events were compared as came of the log, or more.
  pub goes_on : beside.at < length beside.piece.items → length seen ≤ length is.to.before
  goes_on within = go is.to.reached
    where
      go : (length seen ≤ length is.to.before) ⊎ (decoded ≡ is.to.before) → length seen ≤ length is.to.before
      go (inl few) = few
      go (inr all) =
          let long = ap length all in
          let split = ap length is.to.whole in
          let held = length-append is.to.before (drop beside.at beside.piece.items ++ is.to.rest) in
          let front = length-append (drop beside.at beside.piece.items) is.to.rest in
          let left = length-drop beside.at beside.piece.items in
          absurd (omega (arith, within, long, split, held, front, left))

  -- The events of the log are counted where nothing more is decoded.
  pub log_alone : length beside.piece.items ≤ beside.at → length is.to.before ≤ length seen
      → (events : List Event) (comparing : Comparing)
      → HasCompared (is.to.before ++ []) (seen ++ events) comparing
      → IsBeside decoded (seen ++ events) (record beside { comparing = comparing })
  log_alone over few events comparing compared = record {
    to = record {
      before = is.to.before;
      rest = is.to.rest;
      compared = subst (λ l. HasCompared l (seen ++ events) comparing) (append-nil is.to.before) compared;
      left = is.to.left;
      whole = is.to.whole;
      reached = inr (all_compared over);
      piece = is.to.piece;
    };
    few = let long = length-append seen events in omega (arith, few, long);
  }

  module _ (within : beside.at < length beside.piece.items) (count : ℕ)
      (some : count ≤ length beside.piece.items - beside.at) (events : List Event) (comparing : Comparing)
      (compared : HasCompared (is.to.before ++ take count (drop beside.at beside.piece.items)) (seen ++ events)
      comparing)
    where
      abbrev pending : List Event
      pending = drop beside.at beside.piece.items

      pub held_long : length (take count pending) ≡ count
      held_long =
          let left = length-drop beside.at beside.piece.items in
          length-take-le count pending (omega (arith, left, some))

      -- So many of the events that are held were compared with these of the log, which are no more.
      abbrev pub some_compared : length events ≤ count
          → IsDecodedTo decoded (seen ++ events) (record beside { at = beside.at + count; comparing = comparing })
      some_compared few = record {
        before = is.to.before ++ take count pending;
        rest = is.to.rest;
        compared = compared;
        left = is.to.left;
        whole = is.to.whole
            ∙ ap (λ l. is.to.before ++ (l ++ is.to.rest)) (sym (take-append-drop count pending)
            ∙ ap (λ l. take count pending ++ l) (drop-drop count beside.at beside.piece.items))
            ∙ ap (λ l. is.to.before ++ l) (append_assoc (take count pending)
            (drop (beside.at + count) beside.piece.items)
            is.to.rest)
            ∙ sym (append_assoc is.to.before (take count pending)
            (drop (beside.at + count) beside.piece.items ++ is.to.rest));
        reached = inl (
            let more = goes_on within in
            let long = length-append is.to.before (take count pending) in
            let many = held_long in
            let came = length-append seen events in omega (arith, more, long, many, came, few)
            );
        piece = is.to.piece;
      }

      -- As many as of the log.
      pub both_compared : length is.to.before ≤ length seen → length events ≡ count
          → IsBeside decoded (seen ++ events) (record beside { at = beside.at + count; comparing = comparing })
      both_compared few same = record {
        to = some_compared (omega (arith, same));
        few =
            let long = length-append is.to.before (take count pending) in
            let many = held_long in
            let came = length-append seen events in omega (arith, few, long, many, came, same);
      }

-- All that is held is counted, after the end of the log.
pub rest_counted : (decoded seen before : List Event) (beside : Beside) (is : IsRefilled decoded seen before beside)
    → beside.at < length beside.piece.items → (at : ℕ) → at ≡ length beside.piece.items → (comparing : Comparing)
    → HasCompared (is.to.before ++ drop beside.at beside.piece.items) (seen ++ []) comparing
    → IsDecodedTo decoded seen (record beside { at = at; comparing = comparing })
rest_counted decoded seen before beside is within at over comparing compared = record {
  before = is.to.before ++ drop beside.at beside.piece.items;
  rest = is.to.rest;
  compared = subst (λ came. HasCompared (is.to.before ++ drop beside.at beside.piece.items) came comparing)
      (append-nil seen) compared;
  left = is.to.left;
  whole = is.to.whole ∙ sym (append_assoc is.to.before (drop beside.at beside.piece.items) is.to.rest)
      ∙ ap (λ l. (is.to.before ++ drop beside.at beside.piece.items) ++ (l ++ is.to.rest))
      (sym (drop_over at beside.piece.items (omega (arith, over))));
  reached = inl (
      let more = goes_on decoded seen before beside is within in
      let long = length-append is.to.before (drop beside.at beside.piece.items) in omega (arith, more, long)
      );
  piece = is.to.piece;
}

-- At first all that is decoded is left.
pub none_compared : (decoded : List Event) (beside : Beside) → HasLeft decoded beside.events
    → HasCompared [] [] beside.comparing → beside.at ≡ 0 → beside.piece.items ≡ [] → 1 ≤ vec_capacity beside.piece
    → IsBeside decoded [] beside
none_compared decoded beside left compared start none room = record {
  to = record {
    before = [];
    rest = decoded;
    compared = compared;
    left = left;
    whole = ap (λ l. l ++ decoded) (sym (drop_over beside.at beside.piece.items
        (let few = ap length none in omega (arith, few))));
    reached = inl (omega arith);
    piece = room;
  };
  few = omega arith;
}
