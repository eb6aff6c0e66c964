-- A piece that is cut in two has the bytes of both.
use Rattle.std.proofs.Common.{◌≡◌, ℕ, ◌+◌, ◌-◌, ◌<◌, ◌≤◌, List, [], ◌∷◌, ◌++◌, Option, Some, None}
use Rattle.std.proofs.Common.{length, length-append, get_or, nat_lt, refl, sym, ap, ◌∙◌, inl, inr, arith}
use Rattle.std.proofs.Math.ListN.{get_or-append}
use Rattle.std.proofs.Math.Seq.{get_or-append_right}
use Rattle.std.proofs.lemmas.Bool.{cases_Bool}
use Rattle.std.proofs.lemmas.Bool.Decides.{nat_tests}
use Rattle.rvclass.proofs.PieceBytesLemmas.{Stands, byte_none, byte_there}
use Rattle.rvclass.specs.FetchedBytes.{byte_at, or_else}
use Rattle.rvclass.specs.Memory.{Memory}
use Rattle.rvclass.specs.Piece.{byte_in, end_of, piece_at}

module _ (base : ℕ) (left right : List ℕ) (addr : ℕ) where
  byte_of_left : base ≤ addr → addr < base + length left
      → or_else (byte_in (piece_at base left) addr) (byte_in (piece_at (base + length left) right) addr)
      ≡ byte_in (piece_at base (left ++ right)) addr
  byte_of_left from until =
      let long = length-append left right in
      let inside : addr - base < length left = omega arith in
      let whole : addr < end_of (piece_at base (left ++ right)) = omega (arith, long) in
      ap (λ o. or_else o (byte_in (piece_at (base + length left) right) addr))
      (byte_there (piece_at base left) addr from until)
      ∙ ap Some (sym (get_or-append left right 0 (addr - base) inside))
      ∙ sym (byte_there (piece_at base (left ++ right)) addr from whole)

  byte_of_right : base + length left ≤ addr → addr < base + length left + length right
      → or_else (byte_in (piece_at base left) addr) (byte_in (piece_at (base + length left) right) addr)
      ≡ byte_in (piece_at base (left ++ right)) addr
  byte_of_right from until =
      let long = length-append left right in
      let behind : length left ≤ addr - base = omega arith in
      let place : addr - base - length left ≡ addr - (base + length left) = omega arith in
      let low : base ≤ addr = omega arith in
      let whole : addr < end_of (piece_at base (left ++ right)) = omega (arith, long) in
      ap (λ o. or_else o (byte_in (piece_at (base + length left) right) addr))
      (byte_none (piece_at base left) addr (λ at. let k = at.until in omega arith))
      ∙ byte_there (piece_at (base + length left) right) addr from until
      ∙ ap Some (sym (get_or-append_right left right (addr - base) 0 behind
      ∙ ap (λ k. get_or right k 0) place))
      ∙ sym (byte_there (piece_at base (left ++ right)) addr low whole)

  byte_of_none : (Stands (piece_at base (left ++ right)) addr → ⊥)
      → or_else (byte_in (piece_at base left) addr) (byte_in (piece_at (base + length left) right) addr)
      ≡ byte_in (piece_at base (left ++ right)) addr
  byte_of_none away =
      let long = length-append left right in
      let first : Stands (piece_at base left) addr → ⊥ = (λ at.
      let a = at.from in let b = at.until in away (record { from = a; until = omega (arith, long) })) in
      let second : Stands (piece_at (base + length left) right) addr → ⊥ = (λ at.
      let a = at.from in let b = at.until in away (record { from = omega arith; until = omega (arith, long) })) in
      ap (λ o. or_else o (byte_in (piece_at (base + length left) right) addr))
      (byte_none (piece_at base left) addr first)
      ∙ byte_none (piece_at (base + length left) right) addr second
      ∙ sym (byte_none (piece_at base (left ++ right)) addr away)

  byte_cut : or_else (byte_in (piece_at base left) addr) (byte_in (piece_at (base + length left) right) addr)
      ≡ byte_in (piece_at base (left ++ right)) addr
  byte_cut = elim (cases_Bool (nat_lt addr base)) [
    | inl low ↦
        let below : addr < base = grind (arith, nat_tests) in
        byte_of_none (λ at. let a = at.from in omega arith)
    | inr high ↦
        let from : base ≤ addr = grind (arith, nat_tests) in
        elim (cases_Bool (nat_lt addr (base + length left))) [
          | inl in_left ↦
              let until : addr < base + length left = grind (arith, nat_tests) in byte_of_left from until
          | inr after ↦
              let behind : base + length left ≤ addr = grind (arith, nat_tests) in
              elim (cases_Bool (nat_lt addr (base + length left + length right))) [
                | inl in_right ↦
                    let until : addr < base + length left + length right = grind (arith, nat_tests) in
                    byte_of_right behind until
                | inr past ↦
                    let far : base + length left + length right ≤ addr = grind (arith, nat_tests) in
                    let long = length-append left right in
                    byte_of_none (λ at. let b = at.until in omega (arith, long))
              ]
        ]
  ]

  or_else_assoc : (x y z : Option ℕ) → or_else x (or_else y z) ≡ or_else (or_else x y) z
  or_else_assoc None y z = refl
  or_else_assoc (Some a) y z = refl

  -- In a memory the two pieces act as the one.
  pub cut_acts : (before after : Memory)
      → byte_at (before ++ piece_at base left ∷ piece_at (base + length left) right ∷ after) addr
      ≡ byte_at (before ++ piece_at base (left ++ right) ∷ after) addr
  cut_acts [] after =
      or_else_assoc (byte_in (piece_at base left) addr) (byte_in (piece_at (base + length left) right) addr)
      (byte_at after addr)
      ∙ ap (λ o. or_else o (byte_at after addr)) byte_cut
  cut_acts (p ∷ ps) after = ap (or_else (byte_in p addr)) (cut_acts ps after)
