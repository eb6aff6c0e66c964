-- What of a live audit is written.
use Rattle.std.specs.Prelude.{ℕ, not, Bool, true, false, List}
use Rattle.std.specs.List.{filter}
use Rattle.payload.specs.declared.by.By.{By}
use Rattle.message.specs.declared.message.Message.{Message}
use Rattle.auditing.specs.Findings.{is_plain}
use Rattle.live.specs.Lines.{Line, Decided, TooLate, GivenUp, Missing}
use Rattle.live.specs.Live.{live}

-- A line is written: not that of a message in order that skips no number, and not that a message of SENT is given up.
abbrev pub is_shown : Line → Bool
is_shown (Decided one its sent) = not (is_plain its)
is_shown (TooLate one) = true
is_shown (GivenUp slot) = false
is_shown (Missing hart lost) = true

-- What a live audit of SENT writes of RECEIVED, where there are so many harts, and payloads are compared by these.
abbrev pub written : ℕ → ℕ → By → List Message → List Message → List Line
written harts window how sent received = filter is_shown (live harts window how sent received)
