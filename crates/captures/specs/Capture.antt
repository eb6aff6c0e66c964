-- The capture of a text's lines.
use Rattle.std.specs.Prelude.{ℕ, ◌++◌, List, unwrap_or, Result, Ok, Err}
use Rattle.captures.specs.Versions.{start_bytes}
use Rattle.message.specs.Capture.{capture}
use Rattle.message.specs.declared.header.Header.{Header}
use Rattle.captures.specs.Lines.{harts_up_to, lines_of, messages_of}
use Rattle.captures.specs.declared.line_fault.LinesFault.{LinesFault}
use Rattle.captures.specs.declared.capture_line.Line.{Line}
use Rattle.captures.specs.declared.line_settings.Settings.{Settings}

-- The header with this count of harts, where no other count is asked for.
abbrev pub header_with : Settings → ℕ → Header
header_with settings harts =
    record { mode = settings.mode; period = settings.period; harts = unwrap_or settings.harts harts }

-- The capture of lines: what a capture of its version begins with, and then the messages of the lines. A header counts
-- the harts up to the highest, where no other count is asked for.
abbrev pub capture_of_lines : Settings → List Line → List ℕ
capture_of_lines settings lines =
    start_bytes settings.version (header_with settings (harts_up_to lines)) ++ capture
    (messages_of settings.numbers lines)

-- The capture of these lines, or their fault.
abbrev pub capture_or_fault : Settings → Result (List Line) LinesFault → Result (List ℕ) LinesFault
capture_or_fault settings (Ok lines) = Ok (capture_of_lines settings lines)
capture_or_fault settings (Err fault) = Err fault

-- The capture of a text's lines, or the fault of the first line that has one.
abbrev pub capture_of_text : Settings → List ℕ → Result (List ℕ) LinesFault
capture_of_text settings text = capture_or_fault settings (lines_of settings text)
