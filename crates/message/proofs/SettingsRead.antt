-- The settings of a header that were read.
use Rattle.std.proofs.Common.{◌≡◌, ◌++◌, ℕ, suc, List, [], ◌∷◌, length, drop, slice_index, ap, ◌∙◌}
use Rattle.std.proofs.Common.{arith}
use Rattle.byteorder.specs.Endian.{little_number, little_bytes}
use Rattle.message.specs.Header.{mode_byte, setting_bytes}
use Rattle.message.specs.steps.Filling.{AreBytes}
use Rattle.message.specs.declared.header.Header.{Header}
use Rattle.message.proofs.LittleBytes.{little_bytes-little_number}

-- A header of the mode, the period and the harts that five bytes spell has these bytes.
pub settings_read : (bytes : List ℕ) (h : Header) → length bytes ≡ 5 → AreBytes bytes
    → mode_byte h.mode ≡ slice_index bytes 0 → h.period ≡ little_number 2 (drop 1 bytes)
    → h.harts ≡ little_number 2 (drop 3 bytes) → setting_bytes h ≡ bytes
settings_read [] h five are mode period harts = absurd (omega (arith, five))
settings_read (a ∷ []) h five are mode period harts = absurd (omega (arith, five))
settings_read (a ∷ b ∷ []) h five are mode period harts = absurd (omega (arith, five))
settings_read (a ∷ b ∷ c ∷ []) h five are mode period harts = absurd (omega (arith, five))
settings_read (a ∷ b ∷ c ∷ d ∷ []) h five are mode period harts = absurd (omega (arith, five))
settings_read (a ∷ b ∷ c ∷ d ∷ e ∷ []) h five are mode period harts =
    let first = ap (little_bytes 2) period
    ∙ little_bytes-little_number 2 (b ∷ c ∷ d ∷ e ∷ []) (omega arith) (λ k. are (suc k)) in
    let second = ap (little_bytes 2) harts
    ∙ little_bytes-little_number 2 (d ∷ e ∷ []) (omega arith) (λ k. are (suc (suc (suc k)))) in
    ap (λ m. m ∷ (little_bytes 2 h.period ++ little_bytes 2 h.harts)) mode
    ∙ ap (λ l. a ∷ (l ++ little_bytes 2 h.harts)) first ∙ ap (λ l. a ∷ (b ∷ c ∷ []) ++ l) second
settings_read (a ∷ b ∷ c ∷ d ∷ e ∷ f ∷ rest) h five are mode period harts = absurd (omega (arith, five))
