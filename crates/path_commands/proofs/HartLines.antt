-- The lines of harts, one after the other.
use Rattle.std.proofs.Common.{◌≡◌, ℕ, suc, ◌+◌, ◌-◌, ◌<◌, ◌≤◌, Bool, true, false, List, [], ◌∷◌, ◌++◌, Option, refl}
use Rattle.std.proofs.Common.{ap, subst, ◌∙◌, arith}
use Rattle.std.specs.Prelude.{◌&&◌, min}
use Rattle.std.specs.Io.KnownBytes.{Appends}
use Rattle.std.specs.List.{flat_map, list_all, range_with_len}
use Rattle.message.specs.declared.range.HartRange.{HartRange}
use Rattle.output.specs.Begun.{AppendsBeginning}
use Rattle.output.proofs.FieldParts.{HasWritten, part_all, part_begun, part_more}
use Rattle.path_commands.specs.OnlyHarts.{harts_among}

-- The next hart and those behind it.
pub next_hart : (hart count : ℕ) → hart < count
    → range_with_len hart (count - hart) ≡ hart ∷ range_with_len (hart + 1) (count - (hart + 1))
next_hart hart count within =
    let one : count - hart ≡ suc (count - (hart + 1)) = omega (arith, within) in
    ap (range_with_len hart) one

-- No hart is left.
pub no_hart : (hart count : ℕ) → count ≤ hart → range_with_len hart (count - hart) ≡ []
no_hart hart count past =
    let none : count - hart ≡ 0 = omega (arith, past) in
    ap (range_with_len hart) none

module _ (text : ℕ → List ℕ) (whole : List ℕ) (count : ℕ) (old mid : Option (List ℕ)) where
  -- What is left begins with the text of the next hart.
  hart_next : (hart : ℕ) → hart < count → HasWritten whole (flat_map text (range_with_len hart (count - hart))) old mid
      → HasWritten whole (text hart ++ flat_map text (range_with_len (hart + 1) (count - (hart + 1)))) old mid
  hart_next hart within has =
      subst (λ harts. HasWritten whole (flat_map text harts) old mid) (next_hart hart count within) has

  -- The text of one hart more is written.
  pub hart_more : (hart : ℕ) (new : Option (List ℕ)) → hart < count
      → HasWritten whole (flat_map text (range_with_len hart (count - hart))) old mid → Appends mid new (text hart)
      → HasWritten whole (flat_map text (range_with_len (hart + 1) (count - (hart + 1)))) old new
  hart_more hart new within has more =
      part_more whole (text hart) (flat_map text (range_with_len (hart + 1) (count - (hart + 1)))) old mid new
      (hart_next hart within has) more

  -- Or a beginning of it.
  pub hart_begun : (hart : ℕ) (new : Option (List ℕ)) → hart < count
      → HasWritten whole (flat_map text (range_with_len hart (count - hart))) old mid
      → AppendsBeginning (text hart) mid new → AppendsBeginning whole old new
  hart_begun hart new within has begun =
      part_begun whole (text hart) (flat_map text (range_with_len (hart + 1) (count - (hart + 1)))) old mid new
      (hart_next hart within has) begun

  -- The texts of all are written.
  pub harts_all : (hart : ℕ) → count ≤ hart
      → HasWritten whole (flat_map text (range_with_len hart (count - hart))) old mid → Appends old mid whole
  harts_all hart past has =
      part_all whole old mid
      (subst (λ harts. HasWritten whole (flat_map text harts) old mid) (no_hart hart count past) has)

-- The harts of a range that are below a count, by where they begin and end.
pub among_is : (harts : HartRange) (from past own count : ℕ) → from ≡ harts.first → past ≡ min own (harts.last + 1)
    → own ≡ count → range_with_len from (past - from) ≡ harts_among harts count
among_is harts from past own count from_is past_is own_is = λ i.
    range_with_len (from_is i) ((past_is ∙ ap (λ n. min n (harts.last + 1)) own_is) i - from_is i)

-- Whether the harts so far and the others pass a test, with one hart more.
pub tested_more : (test : ℕ → Bool) (so_far : Bool) (hart count : ℕ) → hart < count
    → (so_far && list_all test (range_with_len hart (count - hart)))
    ≡ ((so_far && test hart) && list_all test (range_with_len (hart + 1) (count - (hart + 1))))
tested_more test so_far hart count within =
    ap (λ harts. so_far && list_all test harts) (next_hart hart count within)
    ∙ go so_far (test hart)
  where
    go : (a b : Bool) → (a && (b && list_all test (range_with_len (hart + 1) (count - (hart + 1)))))
        ≡ ((a && b) && list_all test (range_with_len (hart + 1) (count - (hart + 1))))
    go true b = refl
    go false b = refl

-- And with no hart more.
pub tested_all : (test : ℕ → Bool) (so_far : Bool) (hart count : ℕ) → count ≤ hart
    → (so_far && list_all test (range_with_len hart (count - hart))) ≡ so_far
tested_all test so_far hart count past =
    ap (λ harts. so_far && list_all test harts) (no_hart hart count past) ∙ go so_far
  where
    go : (a : Bool) → (a && true) ≡ a
    go true = refl
    go false = refl
