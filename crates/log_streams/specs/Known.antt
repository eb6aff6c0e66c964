-- What is known of files.
use Rattle.std.specs.Prelude.{◌≡◌, ℕ, ⊤, List, [], ◌∷◌, Option, None, Some, if◌then◌else◌}
use Rattle.std.specs.Cmp.Lexicographic.{pointwise}
use Rattle.std.specs.Prelude.{nat_eq, take}

-- What is known of the file at a path: nothing, that there is none, or its bytes.
pub data Known : Type 0 where
  Unknown : Known
  Absent : Known
  Present : List ℕ → Known

-- What is known of the file at each path.
abbrev pub Content : Type 0
Content = List ℕ → Known

-- The file may hold these bytes.
abbrev pub MayHold : Known → List ℕ → Type 0
MayHold Unknown bytes = ⊤
MayHold Absent bytes = ⊥
MayHold (Present text) bytes = bytes ≡ text

-- The file may begin with these bytes: all that it has, or the first ones if more are not asked for.
abbrev pub MayBegin : Option ℕ → Known → List ℕ → Type 0
MayBegin None file bytes = MayHold file bytes
MayBegin (Some most) Unknown bytes = ⊤
MayBegin (Some most) Absent bytes = ⊥
MayBegin (Some most) (Present text) bytes = bytes ≡ take most text

-- There may be no such file.
abbrev pub MayLack : Known → Type 0
MayLack (Present text) = ⊥
MayLack _ = ⊤

-- The file is open: a reader has given these bytes and has those left, where they are known. None was given yet, and
-- the bytes of the file are left where they are known.
abbrev pub IsOpened : Known → List ℕ → Option (List ℕ) → Type 0
IsOpened Unknown given left = given ≡ []
IsOpened Absent given left = ⊥
IsOpened (Present text) given left = (given ≡ []) × (left ≡ Some text)

-- What is known where these are all the files, each a path and its bytes. Of files with one path the first counts.
abbrev pub content_in : List (List ℕ × List ℕ) → Content
content_in [] path = Absent
content_in (file ∷ files) path = if pointwise nat_eq file.0 path then Present file.1 else content_in files path
