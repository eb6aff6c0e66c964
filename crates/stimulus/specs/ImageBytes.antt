-- The image of the program of a stimulus.
use Rattle.std.specs.Prelude.{ℕ, zero, suc, ◌%◌, List, [], ◌++◌}
use Rattle.std.specs.Int.{w32, to_le_bytes}
use Rattle.rand_pcg.specs.Lcg.{Lcg, increment_of, started}
use Rattle.rand_pcg.specs.Pcg.{multiplier_64, pcg32}
use Rattle.stimulus.specs.Mix.{bounds_of}
use Rattle.stimulus.specs.Slot.{slot_word}
use Rattle.stimulus.specs.declared.mix.Mix.{Mix}

-- The generator Pcg32 of a seed and a stream, before its first draw.
abbrev pub generator : ℕ → ℕ → Lcg
generator seed stream = started 64 multiplier_64 seed (increment_of 64 stream)

-- The word of a slot: the generator's stream has the slot's number. Its first draw chooses the kind, its second the
-- rest.
unfoldable pub drawn_word : Mix → ℕ → ℕ → ℕ
drawn_word mix seed slot =
    let first = pcg32 (generator seed slot) in
    slot_word (bounds_of mix) slot (first.0 % 256) (pcg32 first.1).0

-- The bytes of the first slots, each word low byte first.
unfoldable pub slots_bytes : Mix → ℕ → ℕ → List ℕ
slots_bytes mix seed zero = []
slots_bytes mix seed (suc count) = slots_bytes mix seed count ++ to_le_bytes w32 (drawn_word mix seed count)

-- The image that a mix and a seed give: 1,024 slots of 4 bytes.
abbrev pub image_bytes : Mix → ℕ → List ℕ
image_bytes mix seed = slots_bytes mix seed 1024
