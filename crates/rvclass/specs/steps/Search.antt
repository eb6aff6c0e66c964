-- Where a search among parts ends, and what it finds.
use Rattle.std.specs.Prelude.{ℕ, ◌≡◌, ◌≤◌, ◌<◌, ◌%◌, ◌^◌, List, length, slice_index_or, Some}
use Rattle.rvclass.specs.FetchedBytes.{byte_at, fetched, half_at}
use Rattle.rvclass.specs.Memory.{Memory}
use Rattle.rvclass.specs.declared.fetched.Fetched.TheVariants.{Word}
use Rattle.rvclass.specs.declared.part.Part.{Part}

-- The parts before this place have at most this rank, and the others a higher one.
pub record IsCountUpTo (rank : ℕ) (parts : List Part) (count : ℕ) : Type 0 where
  pub low : (k : ℕ) (d : Part) → k < count → k < length parts → (slice_index_or parts k d).rank ≤ rank
  pub high : (k : ℕ) (d : Part) → count ≤ k → k < length parts → rank < (slice_index_or parts k d).rank

-- A memory has this word at an address, with its low 16 bits.
abbrev pub IsWordAt : Memory → ℕ → ℕ → Type 0
IsWordAt m addr word = (fetched m addr ≡ Word word) × (word % 2 ^ 16 ≡ half_at m addr)

-- Each memory that has the bytes of these pieces has this word at an address.
abbrev pub HaveWord : Memory → ℕ → ℕ → Type 0
HaveWord ps addr word =
    (m : Memory) → ((a b : ℕ) → byte_at ps a ≡ Some b → byte_at m a ≡ Some b) → IsWordAt m addr word
