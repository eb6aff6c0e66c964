-- The header of a capture, this project's own format.
use Rattle.std.specs.Prelude.{ℕ, ◌≡◌, ◌≢◌, ◌≤◌, ◌<◌, ◌^◌, ◌++◌, List, [], ◌∷◌, codes, length}
use Rattle.byteorder.specs.Endian.{little_bytes}
use Rattle.payload.specs.declared.mode.Mode.{Mode}
use Rattle.payload.specs.declared.mode.Mode.TheVariants.{Differential, Full}
use Rattle.message.specs.Version.{most_harts}
use Rattle.message.specs.declared.header.Header.{Header}
use Rattle.message.specs.declared.header.Version.TheVariants.{Two}

-- The bytes with which a capture of version 2 begins: ff ff and the letters rvtrace2 where a message has its hart and
-- its number, and 0 where it has its payload's length. No message begins with them, since no payload's length is 0.
abbrev pub mark : List ℕ
mark = 255 ∷ 255 ∷ (codes "rvtrace2" ++ (0 ∷ []))

-- The byte of a mode.
abbrev pub mode_byte : Mode → ℕ
mode_byte Differential = 0
mode_byte Full = 1

-- What follows the mark: the mode in one byte, the period and the count of harts in 2 each, little endian.
abbrev pub setting_bytes : Header → List ℕ
setting_bytes header = mode_byte header.mode ∷ (little_bytes 2 header.period ++ little_bytes 2 header.harts)

-- The bytes of a header.
abbrev pub header_bytes : Header → List ℕ
header_bytes header = mark ++ setting_bytes header

-- The numbers of a header are within their ranges.
pub record IsHeader (header : Header) : Type 0 where
  pub some_period : 1 ≤ header.period
  pub period : header.period < 2 ^ 16
  pub some_harts : 1 ≤ header.harts
  pub harts : header.harts ≤ most_harts Two

-- The bytes begin with the mark.
abbrev pub IsMarked : List ℕ → Type 0
IsMarked bytes = (rest : List ℕ) × (bytes ≡ mark ++ rest)

-- The bytes begin with the mark, and end inside the header.
pub record IsCutHeader (bytes : List ℕ) : Type 0 where
  pub marked : IsMarked bytes
  pub few : length bytes < 16

-- The bytes begin with the mark and are at least as many as a header has, but they do not begin with a header.
pub record HasBadHeader (bytes : List ℕ) : Type 0 where
  pub marked : IsMarked bytes
  pub enough : 16 ≤ length bytes
  pub none : (header : Header) (rest : List ℕ) → IsHeader header → bytes ≢ header_bytes header ++ rest
