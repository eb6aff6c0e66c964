-- Where the first illegal row of a log is.
use Rattle.std.proofs.Common.{◌≡◌, ◌+◌, ◌-◌, ◌≤◌, ◌<◌, ◌++◌, ◌∙◌, ℕ, List, [], ◌∷◌, Option, Some, None, length, slice_get, suc, zero}
use Rattle.std.proofs.Common.{refl, sym, ap, append_assoc, subst, arith}
use Rattle.std.proofs.lemmas.List.{length-append}
use Rattle.std.specs.List.{last_or}
use Rattle.legalpath.proofs.FollowOnLemmas.{last_or-append}
use Rattle.legalpath.specs.FirstFault.{IsFirstFault}
use Rattle.legalpath.specs.declared.fault.PathFault.{PathFault}
use Rattle.retire.specs.declared.event.Event.{Event}
use Rattle.rvclass.specs.Words.{Words}
use Rattle.log_streams.specs.Illegal.{IsIllegalRow}
use Rattle.log_streams.specs.declared.illegal_row.IllegalRow.{IllegalRow}
use Rattle.log_streams.specs.steps.Judging.{before_at}

-- The front of a log is these events and the first ones of a piece.
record Part {A : Type 0} (seen piece front : List A) (event : A) (rest : List A) : Type 0 where
  pub first : List A
  pub front_is : front ≡ seen ++ first
  pub piece_is : piece ≡ first ++ event ∷ rest

cons-same : {A : Type 0} (x y : A) (xs ys : List A) → x ∷ xs ≡ y ∷ ys → (x ≡ y) × (xs ≡ ys)
cons-same x y xs ys same = (cc same, cc same)

part : {A : Type 0} (seen piece front : List A) (event : A) (rest : List A) → seen ++ piece ≡ front ++ event ∷ rest
    → length seen ≤ length front → Part seen piece front event rest
part [] piece front event rest whole long = record { first = front; front_is = refl; piece_is = whole }
part (s ∷ seen) piece [] event rest whole long = absurd (none long)
  where
    none : suc (length seen) ≤ 0 → ⊥
    none h = omega arith
part (s ∷ seen) piece (f ∷ front) event rest whole long =
    let same = cons-same s f (seen ++ piece) (front ++ event ∷ rest) whole in
    let p = part seen piece front event rest same.1 (omega arith) in record {
      first = p.first;
      front_is = ap (λ x. x ∷ front) (sym same.0) ∙ ap (λ xs. s ∷ xs) p.front_is;
      piece_is = p.piece_is;
    }

-- The event at the end of a front.
event-at : {A : Type 0} (first : List A) (event : A) (rest : List A)
    → slice_get (first ++ event ∷ rest) (length first) ≡ Some event
event-at [] event rest = refl
event-at (f ∷ first) event rest = event-at first event rest

-- The last of some events is that of those before where there is none.
last-of-none : {A : Type 0} (before : Option A) (first : List A) → length first ≡ 0 → last_or before first ≡ before
last-of-none before [] none = refl
last-of-none before (f ∷ first) none = absurd (some none)
  where
    some : suc (length first) ≡ 0 → ⊥
    some h = omega arith

-- The last of some events that end a front is in the piece.
last-of-some : {A : Type 0} (before : Option A) (first : List A) (event : A) (rest : List A) (n : ℕ)
    → length first ≡ suc n → slice_get (first ++ event ∷ rest) n ≡ last_or before first
last-of-some before [] event rest n long = absurd (none long)
  where
    none : 0 ≡ suc n → ⊥
    none h = omega arith
last-of-some before (f ∷ []) event rest zero long = refl
last-of-some before (f ∷ []) event rest (suc n) long = absurd (none long)
  where
    none : suc 0 ≡ suc (suc n) → ⊥
    none h = omega arith
last-of-some before (f ∷ g ∷ more) event rest zero long = absurd (none long)
  where
    none : suc (suc (length more)) ≡ suc 0 → ⊥
    none h = omega arith
last-of-some before (f ∷ g ∷ more) event rest (suc n) long =
    last-of-some (Some f) (g ∷ more) event rest n (omega arith)

before-is : (before : Option Event) (first : List Event) (event : Event) (rest : List Event) (place : ℕ)
    → length first ≡ place → before_at before (first ++ event ∷ rest) place ≡ last_or before first
before-is before first event rest zero long = sym (last-of-none before first long)
before-is before first event rest (suc last) long = last-of-some before first event rest last long

some-same : {A : Type 0} (x y : A) → Some x ≡ Some y → x ≡ y
some-same x y same = cc same

within : (front seen place row : ℕ) → row ≡ front + 1 → row ≡ seen + place + 1 → seen ≤ front
within front seen place row counted is = omega arith

at-place : (front seen first place row : ℕ) → row ≡ front + 1 → row ≡ seen + place + 1 → front ≡ seen + first
    → first ≡ place
at-place front seen first place row counted is whole = omega arith

row-is : (row rows seen place : ℕ) → rows ≡ seen → rows < row → place ≡ row - rows - 1 → row ≡ seen + place + 1
row-is row rows seen place count more is = omega arith

-- The first illegal row of a log is the one at this place of the piece.
pub illegal-in : (words : Words) (seen piece : List Event) (fault : PathFault) (place : ℕ) (event : Event)
    → IsFirstFault words (seen ++ piece) fault → fault.row ≡ length seen + place + 1
    → slice_get piece place ≡ Some event
    → IsIllegalRow words (seen ++ piece)
    (record { fault = fault; before = before_at (last_or None seen) piece place; event = event })
illegal-in words seen piece fault place event f row at =
    let p = part seen piece f.front f.event f.rest f.whole (within (length f.front) (length seen) place fault.row f.counted row) in
    let count : length f.front ≡ length seen + length p.first = ap length p.front_is ∙ length-append seen p.first in
    let long : length p.first ≡ place =
    at-place (length f.front) (length seen) (length p.first) place fault.row f.counted row count in
    let there : slice_get piece (length p.first) ≡ Some f.event =
    ap (λ xs. slice_get xs (length p.first)) p.piece_is ∙ event-at p.first f.event f.rest in
    let same : f.event ≡ event =
    some-same f.event event (sym there ∙ ap (λ n. slice_get piece n) long ∙ at) in
    let last : last_or None f.front ≡ before_at (last_or None seen) piece place =
    ap (λ xs. last_or None xs) p.front_is ∙ last_or-append None seen p.first
    ∙ sym (ap (λ xs. before_at (last_or None seen) xs place) p.piece_is
    ∙ before-is (last_or None seen) p.first f.event f.rest place long) in
    subst (λ before. IsIllegalRow words (seen ++ piece) (record { fault = fault; before = before; event = event })) last
    (subst (λ event. IsIllegalRow words (seen ++ piece)
    (record { fault = fault; before = last_or None f.front; event = event })) same
    (record {
      front = f.front;
      rest = f.rest;
      whole = f.whole;
      legal = f.legal;
      before = refl;
      counted = f.counted;
      reason = f.reason;
    }))

-- The same of a piece of which the row and what it follows are known by equations.
pub illegal-row : (words : Words) (seen piece : List Event) (fault : PathFault) (rows place : ℕ)
    (before after : Option Event) (event : Event) → before ≡ last_or None seen → rows ≡ length seen
    → IsFirstFault words (seen ++ piece) fault → rows < fault.row → place ≡ fault.row - rows - 1
    → slice_get piece place ≡ Some event → after ≡ before_at before piece place
    → IsIllegalRow words (seen ++ piece) (record { fault = fault; before = after; event = event })
illegal-row words seen piece fault rows place before after event last count f more is at is-before =
    subst (λ after. IsIllegalRow words (seen ++ piece) (record { fault = fault; before = after; event = event }))
    (sym (is-before ∙ ap (λ before. before_at before piece place) last))
    (illegal-in words seen piece fault place event f (row-is fault.row rows (length seen) place count more is) at)

-- The first illegal row of some events is that of all events that go on after them.
pub illegal-further : (words : Words) (seen more : List Event) (row : IllegalRow) → IsIllegalRow words seen row
    → IsIllegalRow words (seen ++ more) row
illegal-further words seen more row is = record {
  front = is.front;
  rest = is.rest ++ more;
  whole = ap (λ events. events ++ more) is.whole ∙ append_assoc is.front (row.event ∷ is.rest) more;
  legal = is.legal;
  before = is.before;
  counted = is.counted;
  reason = is.reason;
}

-- Its fault is the first of the log.
pub illegal-fault : (words : Words) (events : List Event) (row : IllegalRow) (fault : PathFault)
    → IsIllegalRow words events row → fault ≡ row.fault → IsFirstFault words events fault
illegal-fault words events row fault is same = subst (IsFirstFault words events) (sym same) (record {
  front = is.front;
  event = row.event;
  rest = is.rest;
  whole = is.whole;
  legal = is.legal;
  counted = is.counted;
  reason = is.reason;
})
