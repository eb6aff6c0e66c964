-- How long a walk can be.
use Rattle.std.specs.Prelude.{ℕ, ◌≡◌, ◌*◌, ◌/◌, ◌^◌, ◌≤◌}
use Rattle.rvclass.specs.Halves.{halves_below}
use Rattle.rvclass.specs.Memory.{byte_count}
use Rattle.rvclass.specs.Fetch.{words_of}
use Rattle.rvclass.specs.Image.{Image}
use Rattle.rvclass.specs.Words.{IsProgram, LiesIn}

-- A walk has at most this many retirements: 32 for each halfword of the program's image, which has at most 2^26 bytes.
-- All instructions of the program are in the image, and a walk meets none twice with the same number of outcomes left.
pub record IsLongest (program : Image) (longest : ℕ) : Type 0 where
  pub value : longest ≡ 32 * (byte_count program / 2)
  pub small : byte_count program ≤ 2 ^ 26
  pub words : IsProgram (words_of program)
  pub within : LiesIn (words_of program) (halves_below program) (byte_count program / 2)
