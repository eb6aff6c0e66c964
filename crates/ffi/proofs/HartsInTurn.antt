-- The lost numbers of harts are added one hart after the other.
use Prim.Native.Nat.{suc}
use Rattle.std.proofs.Common.{◌≡◌, ℕ, ◌+◌, ◌-◌, ◌<◌, ◌≤◌, List, ◌++◌, ◌∙◌, sym, ap, arith}
use Rattle.std.proofs.Common.{append_assoc, append-nil}
use Rattle.std.specs.List.{flat_map, range_with_len}
use Rattle.ffi.specs.declared.path_numbers.LostRun.{LostRun}

module _ (of : ℕ → List LostRun) (lost new whole : List LostRun) (hart count : ℕ)
    (left : lost ++ flat_map of (range_with_len hart (count - hart)) ≡ whole) where
  pub lost_more : hart < count → new ≡ lost ++ of hart
      → new ++ flat_map of (range_with_len (hart + 1) (count - (hart + 1))) ≡ whole
  lost_more within is =
      let one : count - hart ≡ suc (count - (hart + 1)) = omega (arith, within) in
      let rest = flat_map of (range_with_len (hart + 1) (count - (hart + 1))) in
      ap (λ l. l ++ rest) is
      ∙ append_assoc lost (of hart) rest
      ∙ ap (λ n. lost ++ flat_map of (range_with_len hart n)) (sym one)
      ∙ left

  pub lost_all : count ≤ hart → lost ≡ whole
  lost_all past =
      let none : count - hart ≡ 0 = omega (arith, past) in
      sym (append-nil lost) ∙ ap (λ n. lost ++ flat_map of (range_with_len hart n)) (sym none) ∙ left
