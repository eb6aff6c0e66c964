-- The bytes of a program's slots, one after another.
use Rattle.std.proofs.Common.{◌≡◌, ℕ, suc, ◌+◌, [], ◌++◌, ap, arith, refl, ◌∙◌}
use Rattle.std.specs.Int.{w32, to_le_bytes}
use Rattle.stimulus.specs.ImageBytes.{drawn_word, slots_bytes}
use Rattle.stimulus.specs.declared.mix.Mix.{Mix}

module _ (mix : Mix) (seed : ℕ) where
  -- No slot has no byte.
  pub slots_none : slots_bytes mix seed 0 ≡ []
  unfolding slots_bytes
  slots_none = refl

  step : (slot : ℕ) → slots_bytes mix seed (suc slot) ≡ slots_bytes mix seed slot ++ to_le_bytes w32 (drawn_word mix
      seed slot)
  unfolding slots_bytes
  step slot = refl

  -- One slot more.
  pub slots_more : (slot : ℕ) → slots_bytes mix seed (slot + 1)
      ≡ slots_bytes mix seed slot ++ to_le_bytes w32 (drawn_word mix seed slot)
  slots_more slot =
      let next : slot + 1 ≡ suc slot = omega arith in
      ap (slots_bytes mix seed) next ∙ step slot
