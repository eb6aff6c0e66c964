-- The first of harts of which something holds.
use Rattle.std.proofs.Common.{◌≡◌, ◌∙◌, ◌<◌, ◌≤◌, ℕ, Bool, true, false, List, Option, None, Some, get_or, length}
use Rattle.std.proofs.Common.{slice_get, refl, sym, ap, subst, arith}
use Rattle.std.specs.Prelude.{◌&&◌, IsFalse, IsSomeAnd, IsTrue, not}
use Rattle.std.proofs.lemmas.Option.{get_or_from_slice_get, same_Some, slice_get-get_or, slice_get_within}
use Rattle.bench.specs.Stopping.{AreClosed, ClosedUnlessRefused, IfHandedBack, IsOpenHart, IsOpenNotRefused, NamesOpen}
use Rattle.bench.specs.declared.outcome.HartOutcome.{HartOutcome}
use Rattle.bench.specs.declared.stop.Stop.{Stop}
use Rattle.bench.specs.declared.stop.Stop.TheVariants as stop
use Rattle.bench.specs.declared.stopping.Sought.{Sought}
use Rattle.bench.specs.declared.stopping.Sought.TheVariants as sought
use Rattle.bench.specs.steps.Stopping.{IsOfNone, IsSought, NamesFirst, is_sought}

is_on : (b : Bool) → (b ≡ false → ⊥) → b ≡ true
is_on true off = refl
is_on false off = absurd (off refl)

apart : (b : Bool) → b ≡ true → b ≡ false → ⊥
apart b on off = cc

-- Where something holds of the one at a place, the place is within the list.
place_within : {X : Type 0} (P : X → Type 0) (xs : List X) (i : ℕ) (found : Option X) → slice_get xs i ≡ found
    → IsSomeAnd found P → i < length xs
place_within P xs i None is given = absurd given
place_within P xs i (Some x) is given = slice_get_within xs i x is

-- What two Booleans are that together are on.
is_off : (b : Bool) → not b ≡ true → b ≡ false
is_off true on = sym on
is_off false on = refl

both_on : (closed x : Bool) → not closed && x ≡ true → (closed ≡ false) × (x ≡ true)
both_on true x on = absurd (apart false on refl)
both_on false x on = (refl, on)

module _ {A : Type 0} (harts : List (HartOutcome A)) where
  abbrev is_open : HartOutcome A → Type 0
  is_open came = IsFalse came.closed

  abbrev has_ended : HartOutcome A → Type 0
  has_ended came = IsFalse came.closed × IsFalse came.refused

  -- There is a hart that is looked for.
  sought_within : (flags : List Bool) (kind : Sought) (h : ℕ) → IsSought kind harts flags h → h < length harts
  sought_within flags sought.HandedBack h given = place_within is_open harts h (slice_get harts h) refl given.0
  sought_within flags sought.Ended h given = place_within has_ended harts h (slice_get harts h) refl given
  sought_within flags sought.Open h given = place_within is_open harts h (slice_get harts h) refl given

  -- The hart at a place is open where its outcome is not closed.
  pub open_here : (h : ℕ) (d : HartOutcome A) → h < length harts → (get_or harts h d).closed ≡ false
      → IsOpenHart harts h
  open_here h d within opened = subst (λ o. IsSomeAnd o is_open) (sym (slice_get-get_or harts h d within)) opened

  -- It is one that is looked for where its outcome and its flag say so, and there alone.
  module _ (flags : List Bool) (h : ℕ) (d : HartOutcome A) (f : Bool) (within : h < length harts)
      (flagged : h < length flags) where
    where_on : (kind : Sought) → is_sought kind (get_or harts h d) (get_or flags h f) ≡ true
        → IsSought kind harts flags h
    where_on sought.HandedBack on =
        let both = both_on (get_or harts h d).closed (get_or flags h f) on in
        (open_here h d within both.0, slice_get-get_or flags h f flagged ∙ ap Some both.1)
    where_on sought.Ended on =
        let both = both_on (get_or harts h d).closed (not (get_or harts h d).refused) on in
        subst (λ o. IsSomeAnd o has_ended) (sym (slice_get-get_or harts h d within))
        (both.0, is_off (get_or harts h d).refused both.1)
    where_on sought.Open on = open_here h d within (is_off (get_or harts h d).closed on)

    on_where_sought : (kind : Sought) → IsSought kind harts flags h
        → is_sought kind (get_or harts h d) (get_or flags h f) ≡ true
    on_where_sought sought.HandedBack given =
        let opened = subst (λ o. IsSomeAnd o is_open) (slice_get-get_or harts h d within) given.0 in
        let back = same_Some (get_or flags h f) true (sym (slice_get-get_or flags h f flagged) ∙ given.1) in
        rw (opened, back) refl
    on_where_sought sought.Ended given =
        let ended = subst (λ o. IsSomeAnd o has_ended) (slice_get-get_or harts h d within) given in
        rw (ended.0, ended.1) refl
    on_where_sought sought.Open given =
        let opened = subst (λ o. IsSomeAnd o is_open) (slice_get-get_or harts h d within) given in
        rw opened refl

    pub sought_here : d ≡ get_or harts h d → (kind : Sought) → is_sought kind d (get_or flags h f) ≡ true
        → IsSought kind harts flags h
    sought_here same kind on =
        where_on kind (subst (λ came. is_sought kind came (get_or flags h f) ≡ true) same on)

    pub not_sought_here : d ≡ get_or harts h d → (kind : Sought) → is_sought kind d (get_or flags h f) ≡ false
        → ¬ IsSought kind harts flags h
    not_sought_here same kind off given =
        apart (is_sought kind (get_or harts h d) (get_or flags h f)) (on_where_sought kind given)
        (subst (λ came. is_sought kind came (get_or flags h f) ≡ false) same off)

  -- None of all harts is looked for where none up to their count is.
  pub none_sought : (flags : List Bool) (kind : Sought) (n : ℕ) → length harts ≤ n
      → ((before : ℕ) → before < n → ¬ IsSought kind harts flags before) → IsOfNone (IsSought kind harts flags)
  none_sought flags kind n over none = λ h given.
      let known = sought_within flags kind h given in none h (omega (arith, known, over)) given

  -- None of all harts is open, and the channel of none ended.
  all_closed : IsOfNone (IsOpenHart harts) → AreClosed harts
  all_closed none = λ k d low. is_on (get_or harts k d).closed (λ opened. none k (open_here k d low opened))

  closed_unless_refused : IsOfNone (IsOpenNotRefused harts) → ClosedUnlessRefused harts
  closed_unless_refused none = λ k d low going.
      is_on (get_or harts k d).closed (λ opened. none k
      (subst (λ o. IsSomeAnd o has_ended) (sym (slice_get-get_or harts k d low)) (opened, going)))

  -- An allocation for an open hart failed where the channel of none ended.
  pub open_refused : (h : ℕ) → ClosedUnlessRefused harts → IsOpenHart harts h
      → IsSomeAnd (slice_get harts h) (λ (came : HartOutcome A). IsTrue came.refused)
  open_refused h none given = by_found (slice_get harts h) refl given
    where
      by_found : (o : Option (HartOutcome A)) → slice_get harts h ≡ o → IsSomeAnd o is_open
          → IsSomeAnd o (λ (came : HartOutcome A). IsTrue came.refused)
      by_found None at opened = absurd opened
      by_found (Some came) at opened =
          is_on came.refused (λ going. apart came.closed
          (subst (λ (came : HartOutcome A). came.refused ≡ false → came.closed ≡ true)
          (get_or_from_slice_get harts h came came at) (none h came (slice_get_within harts h came at)) going) opened)

  -- The stop names an open hart by its kind.
  pub names_open : (flags : List Bool) (why : Option Stop) → NamesFirst harts flags why → NamesOpen why harts
  names_open flags None first = all_closed first
  names_open flags (Some (stop.HandedBack hart)) first = first.0.0
  names_open flags (Some (stop.Ended hart)) first = first.0
  names_open flags (Some (stop.Memory hart)) first =
      let none = closed_unless_refused first.1 in (first.0, open_refused hart none first.0.0, none)

  -- And where it is of that kind, one of which a payload was handed back.
  pub names_back : (flags : List Bool) (why : Option Stop) → NamesFirst harts flags why
      → IfHandedBack (λ hart. slice_get flags hart ≡ Some true) why
  names_back flags None first = tt
  names_back flags (Some (stop.HandedBack hart)) first = first.0.1
  names_back flags (Some (stop.Ended hart)) first = tt
  names_back flags (Some (stop.Memory hart)) first = tt
