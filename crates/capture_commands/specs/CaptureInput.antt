-- What a subcommand works with that reads a program and a capture, and how that is found.
use Rattle.std.specs.Prelude.{◌≡◌, ℕ, List, Option, Result, Ok}
use Rattle.log_streams.specs.Known.{Content}
use Rattle.message.specs.declared.range.HartRange.{HartRange}
use Rattle.rvclass.specs.Image.{Image}
use Rattle.command_inputs.specs.declared.words.Format.{Format}
use Rattle.command_inputs.specs.declared.words.ProgramArgs.{ProgramArgs}
use Rattle.command_inputs.specs.Faults.{Path}
use Rattle.command_inputs.specs.Finding.{After}
use Rattle.command_inputs.specs.Found.{IsAskedBase, IsProgramAt, IsRead}
use Rattle.command_inputs.specs.OnlyHarts.{IsOnly}
use Rattle.command_inputs.specs.Symbols.{AreSymbols}
use Rattle.capture_commands.specs.Faults.{Fault}

-- The program that the harts ran, the file of symbols, if one is given, the bytes of the capture, and the harts whose
-- messages are looked at.
pub record CaptureInput : Type 0 where
  pub program : Image
  pub symbols : Option (List ℕ)
  pub bytes : List ℕ
  pub only : HartRange

-- The symbols, if they are given, and the capture are found, of the input with this program and these harts.
abbrev pub IsInputWith : Content → Option Path → Path → HartRange → Image → Result CaptureInput Fault → Type 0
IsInputWith content symbols capture harts image =
    After (AreSymbols content symbols) (λ names.
    After (IsRead content capture) (λ bytes found.
    found ≡ Ok (record { program = image; symbols = names; bytes = bytes; only = harts })))

-- The image with its further pieces is found, its first byte at the base, and then the symbols and the capture.
abbrev pub IsInputAt : Content → ProgramArgs → Option Path → Path → ℕ → HartRange → Result CaptureInput Fault → Type 0
IsInputAt content program symbols capture base harts =
    After (IsProgramAt content base program) (IsInputWith content symbols capture harts)

-- The input is found. The format is looked at first, then the bases, the harts that are asked for, the image with its
-- further pieces, the symbols, if they are given, and the capture.
abbrev pub IsCaptureInput : Content → Format → ProgramArgs → Option Path → Option Path → Path
    → Result CaptureInput Fault → Type 0
IsCaptureInput content format program only symbols capture =
    After (IsAskedBase format program) (λ base.
    After (IsOnly only) (IsInputAt content program symbols capture base))
