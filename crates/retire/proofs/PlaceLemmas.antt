-- Where records may start, one byte more at a time, and in a text with no quote.
use Rattle.std.proofs.Common.{◌≡◌, ◌==◌, ◌≤◌, ◌<◌, ◌+◌, ◌-◌, ◌++◌, ◌∙◌, ◌⊎◌, Bool, ℕ, List, [], ◌∷◌, true, false, not}
use Rattle.std.proofs.Common.{take, drop, length, get_or, arith, refl, sym, ap, inl, inr, rules}
use Rattle.std.proofs.lemmas.Bool.{and_parts, cases_Bool, eqb-true, not-true}
use Rattle.std.proofs.lemmas.List.{take-append-drop, take_more}
use Rattle.std.proofs.lemmas.List.Folds.{list_all-append}
use Rattle.retire.specs.PlainText.{is_line_end, is_plain}
use Rattle.retire.specs.steps.Place.{next_place, outside, place_after}
use Rattle.retire.specs.declared.boundary.Place.{Place}
use Rattle.retire.specs.declared.boundary.Place.TheVariants as place

after-append : (at : Place) (a b : List ℕ) → place_after at (a ++ b) ≡ place_after (place_after at a) b
unfolding place_after
after-append at [] b = refl
after-append at (c ∷ a) b = after-append (next_place at c) a b

after-one : (at : Place) (c : ℕ) → place_after at (c ∷ []) ≡ next_place at c
unfolding place_after
after-one at c = refl

-- One byte more.
pub after-more : (at : Place) (text : List ℕ) (i : ℕ) → i < length text
    → place_after at (take (i + 1) text) ≡ next_place (place_after at (take i text)) (get_or text i 0)
after-more at text i h =
    ap (place_after at) (take_more text i 0 h) ∙ after-append at (take i text) (get_or text i 0 ∷ [])
    ∙ after-one (place_after at (take i text)) (get_or text i 0)

pub after-none : (at : Place) (text : List ℕ) → place_after at (take 0 text) ≡ at
unfolding place_after
after-none at text = refl

-- A place with no quotes around it.
abbrev is_bare : Place → Bool
is_bare place.Start = true
is_bare place.Field = true
is_bare place.Inside = true
is_bare place.Quoted = false
is_bare place.Quote = false

bare-outside : (c : ℕ) → is_bare (outside c) ≡ true
bare-outside c = elim (cases_Bool (c == 44)) [
  | inl y ↦ rw y refl
  | inr n ↦ elim (cases_Bool (is_line_end c)) [ inl y ↦ rw (n, y) refl | inr m ↦ rw (n, m) refl ]
]

bare-next : (at : Place) (c : ℕ) → is_bare at ≡ true → (c == 34) ≡ false → is_bare (next_place at c) ≡ true
bare-next place.Start c k n = rw n (bare-outside c)
bare-next place.Field c k n = rw n (bare-outside c)
bare-next place.Inside c k n = bare-outside c
bare-next place.Quoted c k n = cc k
bare-next place.Quote c k n = cc k

bare-after : (at : Place) (text : List ℕ) → is_bare at ≡ true → is_plain text ≡ true
    → is_bare (place_after at text) ≡ true
unfolding place_after
bare-after at [] k h = k
bare-after at (c ∷ text) k h =
    let (first, rest) = and_parts (not (c == 34)) (is_plain text) h in
    bare-after (next_place at c) text (bare-next at c k (not-true (c == 34) first)) rest

start-outside : (c : ℕ) → is_line_end c ≡ true → outside c ≡ place.Start
start-outside c y = elim (cases_Bool (c == 13)) [
  | inl r ↦ rw (eqb-true c 13 r) refl
  | inr n ↦ let f : (c == 10) ≡ true = rw n at y in rw (eqb-true c 10 f) refl
]

no_quote : (c : ℕ) → is_line_end c ≡ true → (c == 34) ≡ false
no_quote c y = elim (cases_Bool (c == 13)) [
  | inl r ↦ rw (eqb-true c 13 r) refl
  | inr n ↦ let f : (c == 10) ≡ true = rw n at y in rw (eqb-true c 10 f) refl
]

start-next : (at : Place) (c : ℕ) → is_bare at ≡ true → is_line_end c ≡ true → next_place at c ≡ place.Start
start-next place.Start c k y = rw (no_quote c y) (start-outside c y)
start-next place.Field c k y = rw (no_quote c y) (start-outside c y)
start-next place.Inside c k y = start-outside c y
start-next place.Quoted c k y = cc k
start-next place.Quote c k y = cc k

plain-front : (i : ℕ) (text : List ℕ) → is_plain text ≡ true → is_plain (take i text) ≡ true
plain-front i text h =
    (and_parts (is_plain (take i text)) (is_plain (drop i text)) (sym (list_all-append (λ byte. not (byte == 34))
    (take i text) (drop i text))
    ∙ ap is_plain (take-append-drop i text) ∙ h)).0

-- In a text with no quote a record may start at the end of a line.
pub plain-start : (text : List ℕ) (end : ℕ) (plain : Bool) → plain ≡ is_plain text → plain ≡ true → end ≤ length text
    → (end ≡ 0) ⊎ (is_line_end (get_or text (end - 1) 0) ≡ true) → place_after place.Start (take end text) ≡ place.Start
plain-start text end plain is h within (inl none) = rw none (after-none place.Start text)
plain-start text end plain is h within (inr ends) = elim (cases_Bool (end == 0)) [
  | inl none ↦ rw (eqb-true end 0 none) (after-none place.Start text)
  | inr some ↦
      let past : 0 < end = search (rules, arith) in
      let more : end ≡ (end - 1) + 1 = omega (arith, past) in
      let bare =
      bare-after place.Start (take (end - 1) text) refl (plain-front (end - 1) text (sym is ∙ h)) in
      ap (λ n. place_after place.Start (take n text)) more
      ∙ after-more place.Start text (end - 1) (omega (arith, past, within))
      ∙ start-next _ _ bare ends
]
