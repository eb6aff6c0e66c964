-- What an audit of whole captures says, in the lines of a live audit.
use Rattle.std.specs.Prelude.{ℕ, ◌≡◌, ◌<◌, ◌≤◌, ◌+◌, ◌==◌, ◌++◌, Bool, true, false, List, [], ◌∷◌, map}
use Rattle.std.specs.List.{AllByRecursion, filter}
use Rattle.payload.specs.declared.by.By.{By}
use Rattle.message.specs.declared.message.Message.{Message}
use Rattle.auditing.specs.Fates.{has_number}
use Rattle.auditing.specs.Findings.{skips_of}
use Rattle.auditing.specs.declared.finding.Finding.TheVariants as finding
use Rattle.auditing.specs.declared.row.HartRow.{HartRow}
use Rattle.live.specs.Compared.{changed_from, known_finding, known_trues}
use Rattle.live.specs.Lines.{Line, Decided, TooLate, GivenUp, Missing}
use Rattle.live.specs.Live.{held}
use Rattle.live.specs.Rows.{counts_in, is_whole, others_in}
use Rattle.live.specs.declared.arrived.Arrived.{Arrived}
use Rattle.live.specs.declared.held.SentMessage.{SentMessage}
use Rattle.live.specs.declared.rows.LiveRow.{LiveRow}

-- A line is of a message of RECEIVED of this hart.
abbrev pub is_of : ℕ → Line → Bool
is_of hart (Decided one its sent) = one.message.hart == hart
is_of hart (TooLate one) = one.message.hart == hart
is_of hart (GivenUp slot) = false
is_of hart (Missing other lost) = false

-- The lines of the messages of RECEIVED of this hart.
abbrev pub lines_of : ℕ → List Line → List Line
lines_of hart lines = filter (is_of hart) lines

-- Messages one after the other. The first is at this place of RECEIVED.
abbrev pub placed_from : ℕ → List Message → List Arrived
placed_from place [] = []
placed_from place (message ∷ messages) = record { place = place; message = message } ∷ placed_from (place + 1) messages

-- The line of what an audit finds of a message, by the messages before it.
abbrev pub line_of : By → List Message → List Message → Arrived → Line
line_of how sent before one =
    Decided one (known_finding how sent before one.message)
    (changed_from sent one.message (known_finding how sent before one.message))

-- The lines of what an audit finds of messages after these.
abbrev pub lines_after : By → List Message → List Message → List Arrived → List Line
lines_after how sent before [] = []
lines_after how sent before (one ∷ more) =
    line_of how sent before one ∷ lines_after how sent (before ++ one.message ∷ []) more

-- The lines of what an audit finds of each message of RECEIVED.
abbrev pub audit_lines : By → List Message → List Message → List Line
audit_lines how sent received = lines_after how sent [] (placed_from 0 received)

-- Where so many harts are known, a line does not say that a message of one of them is too late, or that a message is a
-- stranger where SENT has its hart and number.
abbrev pub IsClear : ℕ → List Message → Line → Type 0
IsClear harts sent (TooLate one) = harts ≤ one.message.hart
IsClear harts sent (Decided one finding.Stranger its) = has_number sent one.message.hart one.message.number ≡ false
IsClear harts sent other = Unit {0}

-- No line does.
abbrev pub AreClear : ℕ → List Message → List Line → Type 0
AreClear harts sent lines = AllByRecursion (IsClear harts sent) lines

-- A line does not say that a message of one of so many harts is too late.
abbrev pub IsOnTime : ℕ → Line → Type 0
IsOnTime harts (TooLate one) = harts ≤ one.message.hart
IsOnTime harts other = Unit {0}

-- The messages of SENT that are given up.
abbrev pub given_in : List Line → List SentMessage
given_in [] = []
given_in (GivenUp slot ∷ lines) = slot ∷ given_in lines
given_in (other ∷ lines) = given_in lines

-- Each message of SENT, and whether a true one with its hart and number came.
abbrev pub held_all : By → List Message → List Message → List SentMessage
held_all how sent received = map (held (known_trues how sent received)) sent

-- A live audit says that RECEIVED is whole: each hart is, and no message came of a hart that is not known.
pub record SaysWhole (harts : ℕ) (lines : List Line) : Type 0 where
  pub each : (hart : ℕ) → hart < harts → is_whole (counts_in lines hart) ≡ true
  pub none : others_in harts lines ≡ 0

-- How many numbers the message of a line skips.
abbrev pub skipped_by : Line → ℕ
skipped_by (Decided one its sent) = skips_of its
skipped_by other = 0

-- What is counted of a hart in lines is what an audit counts of it, and nothing is too late.
pub record SameCounts (live : LiveRow) (audited : HartRow) : Type 0 where
  pub sent : live.row.tally.sent ≡ audited.tally.sent
  pub came : live.row.tally.came ≡ audited.tally.came
  pub lost : live.row.tally.lost ≡ audited.tally.lost
  pub repeated : live.row.tally.repeated ≡ audited.tally.repeated
  pub late : live.row.tally.late ≡ audited.tally.late
  pub changed : live.row.tally.changed ≡ audited.tally.changed
  pub strange : live.row.strange ≡ audited.strange
  pub latest : live.row.latest ≡ audited.latest
  pub too_late : live.too_late ≡ 0
