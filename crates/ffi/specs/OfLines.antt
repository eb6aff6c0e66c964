-- What a call reports of a capture of lines.
use Rattle.std.specs.Prelude.{ℕ, ◌≡◌, ◌==◌, ◌&&◌, nat_le, not, if◌then◌else◌, List, Option, Some, None, Result, Ok, Err}
use Rattle.std.specs.declared.alloc.Global.{Global}
use Rattle.std.specs.declared.vec.Vec.{Vec}
use Rattle.captures.specs.Capture.{capture_of_text}
use Rattle.captures.specs.declared.line_fault.LinesFault.TheVariants as fault
use Rattle.captures.specs.declared.line_settings.Settings.{Settings}
use Rattle.message.specs.Version.{most_harts}
use Rattle.message.specs.declared.header.Version.{Version}
use Rattle.payload.specs.declared.mode.Mode.{Mode}
use Rattle.ffi.specs.Encoded.{mode_of, version_of}
use Rattle.ffi.specs.Handed.{IsHandedOut}
use Rattle.ffi.specs.Statuses.{fault_row, fault_status}
use Rattle.ffi.specs.declared.fault.Fault.{Fault}
use Rattle.ffi.specs.declared.fault.Fault.TheVariants.{Range, Line, Memory}

-- The count of harts, or of numbers, that is asked for: none with 0.
abbrev pub count_asked : ℕ → Option ℕ
count_asked count = if count == 0 then None else Some count

-- The settings in this version and mode, where the period is 1 or more, no more harts are asked for than a capture of the
-- version has, and a field has not one number alone.
abbrev pub settings_with : Option Version → Option Mode → ℕ → ℕ → ℕ → Option Settings
settings_with None mode period harts numbers = None
settings_with (Some version) None period harts numbers = None
settings_with (Some version) (Some mode) period harts numbers =
    if nat_le 1 period && nat_le harts (most_harts version) && not (numbers == 1)
    then Some (record {
      version = version;
      mode = mode;
      period = period;
      harts = count_asked harts;
      numbers = count_asked numbers;
    })
    else None

-- The settings that numbers name, where all are in their ranges.
abbrev pub settings_named : ℕ → ℕ → ℕ → ℕ → ℕ → Option Settings
settings_named version mode period harts numbers =
    settings_with (version_of version) (mode_of mode) period harts numbers

-- The result for lines: their capture; or a number is out of its range, a line has a fault, of which it is the first, or
-- an allocation failed for the capture.
abbrev pub IsOfLines : Option Settings → List ℕ → Result (Vec ℕ Global) Fault → Type 0
IsOfLines settings text (Ok capture) =
    (own : Settings) × (settings ≡ Some own) × (capture_of_text own text ≡ Ok capture.items)
IsOfLines settings text (Err Range) = settings ≡ None
IsOfLines settings text (Err (Line number why)) =
    (own : Settings) × (settings ≡ Some own) × (capture_of_text own text ≡ Err (fault.Line number why))
IsOfLines settings text (Err Memory) =
    (own : Settings) × (settings ≡ Some own)
    × ((capture : List ℕ) × (capture_of_text own text ≡ Ok capture))
IsOfLines settings text (Err other) = ⊥

-- The capture of lines was handed out, and no line was reported; or there is none, and the status and the line say why.
pub data ReportsOfLines (settings : Option Settings) (text : List ℕ) (status line wanted_before wanted : ℕ)
    (old new : List ℕ) : Type 0 where
  Made : (capture : Vec ℕ Global) → IsOfLines settings text (Ok capture)
      → IsHandedOut capture.items status wanted old new → line ≡ 0
      → ReportsOfLines settings text status line wanted_before wanted old new
  Refused : (why : Fault) → IsOfLines settings text (Err why) → status ≡ fault_status why
      → line ≡ fault_row why → wanted ≡ wanted_before → new ≡ old
      → ReportsOfLines settings text status line wanted_before wanted old new
