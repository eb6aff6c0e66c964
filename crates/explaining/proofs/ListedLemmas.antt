-- The texts list just what is legal.
use Rattle.std.proofs.Common.{◌≡◌, ◌≢◌, ◌≤◌, ◌<◌, ◌⊎◌, inl, inr, ℕ, [], ◌∷◌, true, false, Option, Some, None}
use Rattle.std.proofs.Common.{Bool, refl, sym, subst, arith, cond}
use Rattle.std.proofs.lemmas.Bool.{ltb-true, ltb-false}
use Rattle.std.specs.Prelude.{◌↔◌, IfSome, codes, nat_lt}
use Rattle.std.specs.Fmt.{digits}
use Rattle.isa.specs.Privilege.{IsPrivilege}
use Rattle.retire.specs.Events.{privilege}
use Rattle.retire.specs.declared.event.Event.{Event}
use Rattle.retire.specs.declared.event.Event.TheVariants.{Retire, Trap}
use Rattle.rvclass.specs.Words.{Word, Words}
use Rattle.rvclass.specs.declared.class.Class.TheVariants.{Plain, Jump, Branch, Uninferable, TrapReturn, NotRetirable}
use Rattle.rvclass.specs.declared.class.Return.TheVariants.{Mret, Sret}
use Rattle.legalpath.specs.Right.{IsTypeOf, MayRetireAt}
use Rattle.legalpath.specs.Step.{LeadsToPrivilege, MayHavePrivilegeAfter}
use Rattle.explaining.specs.Explanation.{word_privileges_text, word_types_text}
use Rattle.explaining.specs.Following.{privileges_after, privileges_text}
use Rattle.explaining.specs.Listed.{IsOneOf, ListsJust, listed}

-- The digits of a text.
zero_one_three : codes "0, 1 or 3" ≡ listed (0 ∷ 1 ∷ 3 ∷ [])
unfolding digits
zero_one_three = refl

zero_one : codes "0 or 1" ≡ listed (0 ∷ 1 ∷ [])
unfolding digits
zero_one = refl

one_three : codes "1 or 3" ≡ listed (1 ∷ 3 ∷ [])
unfolding digits
one_three = refl

three : codes "3" ≡ listed (3 ∷ [])
unfolding digits
three = refl

zero_text : codes "0" ≡ listed (0 ∷ [])
unfolding digits
zero_text = refl

six : codes "6" ≡ listed (6 ∷ [])
unfolding digits
six = refl

four_five : codes "4 or 5" ≡ listed (4 ∷ 5 ∷ [])
unfolding digits
four_five = refl

-- One number, and two.
one_of_one : (n m : ℕ) → IsOneOf n (m ∷ []) ↔ (n ≡ m)
one_of_one n m = (λ is. elim is [ inl e ↦ e | inr h ↦ absurd h ], λ e. inl e)

one_of_two : (n m k : ℕ) → IsOneOf n (m ∷ k ∷ []) ↔ ((n ≡ m) ⊎ (n ≡ k))
one_of_two n m k = (to, from)
  where
    to : IsOneOf n (m ∷ k ∷ []) → (n ≡ m) ⊎ (n ≡ k)
    to (inl e) = inl e
    to (inr (inl e)) = inr e
    to (inr (inr h)) = absurd h

    from : (n ≡ m) ⊎ (n ≡ k) → IsOneOf n (m ∷ k ∷ [])
    from (inl e) = inl e
    from (inr e) = inr (inl e)

-- A level is 0, 1 or 3.
level_cases : (n : ℕ) → IsPrivilege n → (n ≡ 0) ⊎ ((n ≡ 1) ⊎ (n ≡ 3))
level_cases n h = let a : n ≤ 3 = h.0 in let b : n ≢ 2 = h.1 in grind arith

is_zero : (n : ℕ) → n ≡ 0 → IsPrivilege n
is_zero n e = (omega arith, λ q. omega arith)

is_one : (n : ℕ) → n ≡ 1 → IsPrivilege n
is_one n e = (omega arith, λ q. omega arith)

is_three : (n : ℕ) → n ≡ 3 → IsPrivilege n
is_three n e = (omega arith, λ q. omega arith)

-- The levels that meet a condition.
levels_all : {P : ℕ → Type 0} → ((n : ℕ) → P n) → (n : ℕ) → IsOneOf n (0 ∷ 1 ∷ 3 ∷ []) ↔ (P n × IsPrivilege n)
levels_all {P = P} all n = (to, from)
  where
    to : IsOneOf n (0 ∷ 1 ∷ 3 ∷ []) → P n × IsPrivilege n
    to (inl e) = (all n, is_zero n e)
    to (inr (inl e)) = (all n, is_one n e)
    to (inr (inr (inl e))) = (all n, is_three n e)
    to (inr (inr (inr h))) = absurd h

    from : P n × IsPrivilege n → IsOneOf n (0 ∷ 1 ∷ 3 ∷ [])
    from h = elim (level_cases n h.1) [
      | inl e ↦ inl e
      | inr r ↦ elim r [ inl e ↦ inr (inl e) | inr e ↦ inr (inr (inl e)) ]
    ]

levels_low : (n : ℕ) → IsOneOf n (0 ∷ 1 ∷ []) ↔ ((n ≤ 1) × IsPrivilege n)
levels_low n = (to, from)
  where
    to : IsOneOf n (0 ∷ 1 ∷ []) → (n ≤ 1) × IsPrivilege n
    to (inl e) = (omega (arith, e), is_zero n e)
    to (inr (inl e)) = (omega (arith, e), is_one n e)
    to (inr (inr h)) = absurd h

    from : (n ≤ 1) × IsPrivilege n → IsOneOf n (0 ∷ 1 ∷ [])
    from h = elim (level_cases n h.1) [
      | inl e ↦ inl e
      | inr r ↦ elim r [ inl e ↦ inr (inl e) | inr e ↦ absurd (omega (arith, e, h.0)) ]
    ]

levels_high : (n : ℕ) → IsOneOf n (1 ∷ 3 ∷ []) ↔ ((1 ≤ n) × IsPrivilege n)
levels_high n = (to, from)
  where
    to : IsOneOf n (1 ∷ 3 ∷ []) → (1 ≤ n) × IsPrivilege n
    to (inl e) = (omega (arith, e), is_one n e)
    to (inr (inl e)) = (omega (arith, e), is_three n e)
    to (inr (inr h)) = absurd h

    from : (1 ≤ n) × IsPrivilege n → IsOneOf n (1 ∷ 3 ∷ [])
    from h = elim (level_cases n h.1) [
      | inl e ↦ absurd (omega (arith, e, h.0))
      | inr r ↦ elim r [ inl e ↦ inl e | inr e ↦ inr (inl e) ]
    ]

level_machine : (n : ℕ) → IsOneOf n (3 ∷ []) ↔ ((n ≡ 3) × IsPrivilege n)
level_machine n = (λ is. let e = (one_of_one n 3).0 is in (e, is_three n e), λ h. inl h.0)

level_same : (n m : ℕ) → IsPrivilege m → IsOneOf n (m ∷ []) ↔ ((n ≡ m) × IsPrivilege n)
level_same n m is = (
  λ one. let e = (one_of_one n m).0 one in (e, subst IsPrivilege (sym e) is),
  λ h. inl h.0,
)

-- The types of a word's retirement.
pub types_listed : (word : Word) → ListsJust (word_types_text (Some word)) (IsTypeOf word.0)
types_listed (Plain, length) = record { numbers = 0 ∷ []; is_listed = zero_text; just = λ n. one_of_one n 0 }
types_listed (Jump to, length) = record { numbers = 0 ∷ []; is_listed = zero_text; just = λ n. one_of_one n 0 }
types_listed (Branch to, length) = record { numbers = 4 ∷ 5 ∷ []; is_listed = four_five; just = λ n. one_of_two n 4 5 }
types_listed (Uninferable, length) = record { numbers = 6 ∷ []; is_listed = six; just = λ n. one_of_one n 6 }
types_listed (TrapReturn ret, length) = record { numbers = 3 ∷ []; is_listed = three; just = λ n. one_of_one n 3 }
types_listed (NotRetirable, length) = record { numbers = []; is_listed = refl; just = λ n. (λ h. h, λ h. h) }

-- All levels.
all_listed : {P : ℕ → Type 0} → ((n : ℕ) → P n) → ListsJust (codes "0, 1 or 3") (λ level. P level × IsPrivilege level)
all_listed all = record { numbers = 0 ∷ 1 ∷ 3 ∷ []; is_listed = zero_one_three; just = levels_all all }

-- The levels that a word may retire at.
pub levels_listed : (word : Word)
    → ListsJust (word_privileges_text (Some word)) (λ level. MayRetireAt word.0 level × IsPrivilege level)
levels_listed (Plain, length) = all_listed (λ n. tt)
levels_listed (Jump to, length) = all_listed (λ n. tt)
levels_listed (Branch to, length) = all_listed (λ n. tt)
levels_listed (Uninferable, length) = all_listed (λ n. tt)
levels_listed (TrapReturn Mret, length) = record { numbers = 3 ∷ []; is_listed = three; just = level_machine }
levels_listed (TrapReturn Sret, length) = record { numbers = 1 ∷ 3 ∷ []; is_listed = one_three; just = levels_high }
levels_listed (NotRetirable, length) = all_listed (λ n. tt)

-- The levels that may follow a retirement of a word, if there is one.
after_word : (word : Option Word) (priv : ℕ) → IsPrivilege priv
    → ListsJust (privileges_after word priv) (λ level. LeadsToPrivilege word priv level × IsPrivilege level)
after_word None priv is = record { numbers = priv ∷ []; is_listed = refl; just = λ n. level_same n priv is }
after_word (Some (Plain, length)) priv is =
    record { numbers = priv ∷ []; is_listed = refl; just = λ n. level_same n priv is }
after_word (Some (Jump to, length)) priv is =
    record { numbers = priv ∷ []; is_listed = refl; just = λ n. level_same n priv is }
after_word (Some (Branch to, length)) priv is =
    record { numbers = priv ∷ []; is_listed = refl; just = λ n. level_same n priv is }
after_word (Some (Uninferable, length)) priv is =
    record { numbers = priv ∷ []; is_listed = refl; just = λ n. level_same n priv is }
after_word (Some (TrapReturn Mret, length)) priv is = all_listed (λ n. tt)
after_word (Some (TrapReturn Sret, length)) priv is =
    record { numbers = 0 ∷ 1 ∷ []; is_listed = zero_one; just = levels_low }
after_word (Some (NotRetirable, length)) priv is =
    record { numbers = priv ∷ []; is_listed = refl; just = λ n. level_same n priv is }

-- The levels that may follow a trap.
after_trap : (priv : ℕ) → IsPrivilege priv
    → ListsJust (cond (nat_lt 1 priv) (codes "3") (codes "1 or 3"))
    (λ level. ((1 ≤ level) × (priv ≤ level)) × IsPrivilege level)
after_trap priv is = go (nat_lt 1 priv) refl
  where
    go : (above : Bool) → nat_lt 1 priv ≡ above → ListsJust (cond above (codes "3") (codes "1 or 3"))
        (λ level. ((1 ≤ level) × (priv ≤ level)) × IsPrivilege level)
    go true test = record { numbers = 3 ∷ []; is_listed = three; just = λ n. (to n, from n) }
      where
        above : 1 < priv
        above = ltb-true 1 priv test

        to : (n : ℕ) → IsOneOf n (3 ∷ []) → ((1 ≤ n) × (priv ≤ n)) × IsPrivilege n
        to n (inl e) = let top = is.0 in ((omega (arith, e), omega (arith, e, top)), is_three n e)
        to n (inr h) = absurd h

        from : (n : ℕ) → ((1 ≤ n) × (priv ≤ n)) × IsPrivilege n → IsOneOf n (3 ∷ [])
        from n h = elim (level_cases n h.1) [
          | inl e ↦ absurd (omega (arith, e, h.0.0))
          | inr r ↦ elim r [ inl e ↦ absurd (omega (arith, e, h.0.1, above)) | inr e ↦ inl e ]
        ]
    go false test = record { numbers = 1 ∷ 3 ∷ []; is_listed = one_three; just = λ n. (to n, from n) }
      where
        low : priv ≤ 1
        low = let h = ltb-false 1 priv test in omega (arith, h)

        to : (n : ℕ) → IsOneOf n (1 ∷ 3 ∷ []) → ((1 ≤ n) × (priv ≤ n)) × IsPrivilege n
        to n one = let h = (levels_high n).0 one in ((h.0, omega (arith, h.0, low)), h.1)

        from : (n : ℕ) → ((1 ≤ n) × (priv ≤ n)) × IsPrivilege n → IsOneOf n (1 ∷ 3 ∷ [])
        from n h = (levels_high n).1 (h.0.0, h.1)

-- The levels that may follow the event before, if there is one.
pub following_listed : (words : Words) (before : Option Event) → IfSome before (λ event. IsPrivilege (privilege event))
    → ListsJust (privileges_text words before)
    (λ level. MayHavePrivilegeAfter words before level × IsPrivilege level)
following_listed words None is = all_listed (λ n. tt)
following_listed words (Some (Retire addr itype priv)) is = after_word (words addr) priv is
following_listed words (Some (Trap priv interrupt cause epc tval)) is = after_trap priv is
