-- What is found of a base, of a file and of an image with its further pieces: a value, or a fault.
use Rattle.std.specs.Prelude.{◌≡◌, ◌==◌, ℕ, List, [], ◌∷◌, Option, Some, None, Result, Ok, Err, if◌then◌else◌}
use Rattle.std.specs.Prelude.{length, nat_lt}
use Rattle.std.specs.Result.{result_map_both}
use Rattle.log_streams.specs.Known.{Content, MayHold, MayLack}
use Rattle.rvclass.specs.Adding.{add_piece}
use Rattle.rvclass.specs.Image.{Image}
use Rattle.rvclass.specs.Program.{program_of}
use Rattle.command_inputs.specs.declared.words.Format.{Format}
use Rattle.command_inputs.specs.declared.words.Format.TheVariants.{Other}
use Rattle.command_inputs.specs.declared.words.ProgramArgs.{ProgramArgs}
use Rattle.command_inputs.specs.Faults.{Path, piece_fault}
use Rattle.command_inputs.specs.Finding.{After}
use Rattle.command_inputs.specs.FurtherPieces.{base_number, given_piece}
use Rattle.command_inputs.specs.declared.fault.Fault.{Fault}
use Rattle.command_inputs.specs.declared.fault.Fault.TheVariants as fault

-- There is a format, or the argument names none.
abbrev pub format_at : {W : Type 0} → Format → Result (Unit {0}) (Fault W)
format_at Other = Err fault.Format
format_at format = Ok tt

-- Whether there is a format is found.
abbrev pub IsFormat : {W : Type 0} → Format → Result (Unit {0}) (Fault W) → Type 0
IsFormat format found = found ≡ format_at format

-- The number of the base, or the fault where there is none.
abbrev pub base_at : {W : Type 0} → Option ℕ → Result ℕ (Fault W)
base_at None = Err fault.Base
base_at (Some base) = Ok base

-- The number of the text of a base is found, where each further argument gives a piece.
abbrev pub IsBase : {W : Type 0} → ProgramArgs → Result ℕ (Fault W) → Type 0
IsBase asked found = found ≡ base_at (base_number asked)

-- The format is looked at, and then the number of the text of a base is found.
abbrev pub IsAskedBase : {W : Type 0} → Format → ProgramArgs → Result ℕ (Fault W) → Type 0
IsAskedBase format asked = After (IsFormat format) (λ _. IsBase asked)

-- The fault of no log, or of more logs than `most`; else none.
abbrev pub count_at : {W : Type 0} → ℕ → ℕ → Result (Unit {0}) (Fault W)
count_at most count =
    if count == 0 then Err fault.NoLogs else if nat_lt most count then Err (fault.ManyLogs most) else Ok tt

-- It is found whether there is a log, and no more of them than `most`.
abbrev pub AreFew : {W : Type 0} → ℕ → List Path → Result (Unit {0}) (Fault W) → Type 0
AreFew most logs found = found ≡ count_at most (length logs)

-- The bytes of the file at a path are found, or the fault that it cannot be read.
abbrev pub IsRead : {W : Type 0} → Content → Path → Result (List ℕ) (Fault W) → Type 0
IsRead content path (Ok bytes) = MayHold (content path.now) bytes
IsRead content path (Err why) = (why ≡ fault.Unreadable path) × MayLack (content path.now)

-- The program of an image's bytes, the first of them at the base, or the fault where they make none.
abbrev pub program_at : {W : Type 0} → ℕ → Result (List ℕ) (Fault W) → Result Image (Fault W)
program_at base (Err why) = Err why
program_at base (Ok bytes) = result_map_both (λ program. program) fault.Image (program_of base bytes)

-- The program of the one piece at a path, its first byte at the base, is found.
pub record IsImageAt {W : Type 0} (content : Content) (base : ℕ) (path : Path) (found : Result Image (Fault W))
    : Type 0 where
  pub bytes : Result (List ℕ) (Fault W)
  pub read : IsRead content path bytes
  pub made : found ≡ program_at base bytes

-- The image with the piece of a file's bytes, the first of them at the base, or the fault where it is not added.
abbrev pub with_piece_at : {W : Type 0} → Image → ℕ → Path → Result (List ℕ) (Fault W) → Result Image (Fault W)
with_piece_at image base path (Err why) = Err why
with_piece_at image base path (Ok bytes) =
    result_map_both (λ more. more) (piece_fault path) (add_piece image base bytes)

-- The image with the piece of the file of this name, its first byte at the base, is found.
pub record IsWithFile {W : Type 0} (content : Content) (image : Image) (base : ℕ) (name : List ℕ)
    (found : Result Image (Fault W)) : Type 0 where
  pub path : Path
  pub bytes : Result (List ℕ) (Fault W)
  pub named : path.now ≡ name
  pub read : IsRead content path bytes
  pub made : found ≡ with_piece_at image base path bytes

-- The image with the piece that an argument gives is found. An argument that gives none is a fault of its base.
abbrev pub IsWithPiece : {W : Type 0} → Content → Image → Option (ℕ × List ℕ) → Result Image (Fault W) → Type 0
IsWithPiece content image None found = found ≡ Err fault.Base
IsWithPiece content image (Some (base, name)) found = IsWithFile content image base name found

-- The image with the pieces that these arguments give is found. Each is read and added before the next is looked at.
abbrev pub IsWithPieces : {W : Type 0} → Content → Image → List Path → Result Image (Fault W) → Type 0
IsWithPieces content image [] found = found ≡ Ok image
IsWithPieces content image (argument ∷ also) found =
    After (IsWithPiece content image (given_piece argument.now)) (λ more. IsWithPieces content more also) found

-- The program of the image, its first byte at the base, with its further pieces, is found. The image is looked at
-- first, then each piece in turn.
abbrev pub IsProgramAt : {W : Type 0} → Content → ℕ → ProgramArgs → Result Image (Fault W) → Type 0
IsProgramAt content base asked =
    After (IsImageAt content base asked.image) (λ image. IsWithPieces content image asked.also.items)

-- The program that is asked for together with logs is found. The bases are looked at first, then the count of logs,
-- then the image and its further pieces.
abbrev pub IsAskedProgram : {W : Type 0} → Content → ℕ → ProgramArgs → List Path → Result Image (Fault W) → Type 0
IsAskedProgram content most asked paths =
    After (IsBase asked) (λ base. After (AreFew most paths) (λ _. IsProgramAt content base asked))
