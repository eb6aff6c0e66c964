-- Lines of hexadecimal that are written for messages, and for logs, are read back.
use Rattle.std.specs.Prelude.{◌≡◌, ◌≤◌, ◌<◌, ℕ, All, List, None, Ok, length}
use Rattle.legalpath.specs.ProgramLog.{ProgramLog}
use Rattle.payload.specs.declared.mode.Mode.{Mode}
use Rattle.message.specs.Cut.{IsMessage}
use Rattle.message.specs.Version.{most_harts}
use Rattle.message.specs.declared.header.Version.{Version}
use Rattle.message.specs.declared.message.Message.{Message}
use Rattle.captures.specs.HexLines.{hex_text}
use Rattle.captures.specs.Messages.{messages_of_harts}
use Rattle.captures.specs.Returned.{IsLongLegalLog}
use Rattle.captures.specs.Versions.{capture_of}
use Rattle.captures.specs.Capture.{capture_of_text}
use Rattle.captures.specs.Lines.{lines_of, messages_of}
use Rattle.captures.specs.declared.capture_line.Line.{Line}
use Rattle.captures.specs.declared.line_settings.Settings.{Settings}

-- The settings of a capture in this version and mode, at this period, where no count of harts is asked for, and lines
-- have the messages' own numbers.
abbrev pub settings_of : Version → Mode → ℕ → Settings
settings_of version mode period =
    record { version = version; mode = mode; period = period; harts = None; numbers = None }

-- The lines of hexadecimal of the messages of one log or more, and of no more than a capture of the version has, become
-- the capture of these logs, in the same version and mode, at the same period. The logs are legal and may be long.
abbrev pub LinesBecomeTheCapture : Type 0
LinesBecomeTheCapture =
    (version : Version) (mode : Mode) (period : ℕ) (logs : List ProgramLog) → 1 ≤ length logs
    → length logs ≤ most_harts version → All IsLongLegalLog logs
    → capture_of_text (settings_of version mode period) (hex_text (messages_of_harts period mode 0 logs))
    ≡ Ok (capture_of version period mode logs)

-- The lines of hexadecimal of any messages in their ranges, whose harts a capture of the version has, say these
-- messages, where lines have the messages' own numbers.
abbrev pub LinesSayTheirMessages : Type 0
LinesSayTheirMessages =
    (settings : Settings) (messages : List Message) → settings.harts ≡ None → settings.numbers ≡ None
    → All (λ (message : Message). IsMessage message × (message.hart < most_harts settings.version)) messages
    → (lines : List Line) × (lines_of settings (hex_text messages) ≡ Ok lines)
    × (messages_of settings.numbers lines ≡ messages)
