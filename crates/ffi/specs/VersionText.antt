-- The version of the library.
use Rattle.std.specs.Prelude.{ℕ, List, codes}

-- The version of the library, which is that of the program.
abbrev pub version_text : List ℕ
version_text = codes "1.0.0"
