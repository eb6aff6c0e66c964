-- The captures of logs, in both versions.
use Rattle.std.specs.Prelude.{ℕ, List, [], ◌++◌, length}
use Rattle.legalpath.specs.ProgramLog.{ProgramLog}
use Rattle.payload.specs.declared.mode.Mode.{Mode}
use Rattle.message.specs.Capture.{capture}
use Rattle.message.specs.Header.{IsHeader, header_bytes}
use Rattle.message.specs.declared.header.Header.{Header}
use Rattle.message.specs.declared.header.Version.{Version}
use Rattle.message.specs.declared.header.Version.TheVariants.{One, Two}
use Rattle.captures.specs.Messages.{messages_of_harts}

-- The header of the capture of these logs, at this period and in this mode.
abbrev pub header_of : ℕ → Mode → List ProgramLog → Header
header_of period mode logs = record { mode = mode; period = period; harts = length logs }

-- What comes before the messages: nothing in version 1, and the header in version 2.
abbrev pub start_bytes : Version → Header → List ℕ
start_bytes One header = []
start_bytes Two header = header_bytes header

-- What comes before the messages has numbers within their ranges: in version 2 those of the header.
abbrev pub MayStart : Version → Header → Type 0
MayStart One header = Unit {0}
MayStart Two header = IsHeader header

-- The capture of all messages of harts' logs, one hart after the other.
abbrev pub capture_of : Version → ℕ → Mode → List ProgramLog → List ℕ
capture_of version period mode logs =
    start_bytes version (header_of period mode logs) ++ capture (messages_of_harts period mode 0 logs)
