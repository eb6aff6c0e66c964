-- A message in view is taken.
use Rattle.std.specs.Prelude.{ℕ, ◌+◌, ◌-◌, not, nat_lt, true, if◌then◌else◌, List, Option, Some, None, max}
use Rattle.std.specs.Prelude.{slice_get, slice_set}
use Rattle.payload.specs.Same.{same}
use Rattle.payload.specs.declared.by.By.{By}
use Rattle.auditing.specs.Audits.{capped}
use Rattle.auditing.specs.declared.fate.Fate.{Fate}
use Rattle.auditing.specs.declared.fate.Fate.TheVariants as fate
use Rattle.auditing.specs.declared.finding.Finding.{Finding}
use Rattle.auditing.specs.steps.Taking.{finding_at}
use Rattle.live.specs.Holding.{Holding}
use Rattle.live.specs.declared.numbers.Numbers.{Numbers}
use Rattle.live.specs.declared.held.SentMessage.{SentMessage}

-- The fate of a message with this payload, by the message of SENT with its hart and number, but for whether it is late.
abbrev pub mark_by : By → Option SentMessage → List ℕ → Fate
mark_by how None payload = fate.Stranger
mark_by how (Some slot) payload =
    if not (same how slot.message.payload payload) then fate.Changed else
    if slot.came then fate.Repeat else
    fate.InOrder

-- The messages in view, of which the one at this place came, if there is one.
abbrev pub slots_came : List SentMessage → ℕ → Option SentMessage → List SentMessage
slots_came slots place None = slots
slots_came slots place (Some slot) = slice_set slots place (record slot { came = true })

-- The fate of a new message by the number after the greatest that came.
abbrev pub new_fate : ℕ → ℕ → Fate
new_fate past number = if nat_lt number (past - 1) then fate.Late else fate.InOrder

-- What is found of a new message, by the numbers of its hart, if it is known.
abbrev pub new_by : Option Numbers → ℕ → Finding
new_by None number = finding_at fate.Stranger 0 number
new_by (Some own) number = finding_at (new_fate own.past number) own.past number

-- The numbers of the harts after a true message, by those of its hart, if it is known.
abbrev pub harts_new : List Numbers → ℕ → ℕ → Option Numbers → List Numbers
harts_new harts hart number None = harts
harts_new harts hart number (Some own) =
    slice_set harts hart (record own { past = max own.past (capped (number + 1)) })

-- What is found of a message by its fate, but for whether it is late.
abbrev pub found_by : Fate → Option Numbers → ℕ → Finding
found_by fate.InOrder own number = new_by own number
found_by its own number = finding_at its 0 number

-- What is held after a message with this fate, but for whether it is late.
abbrev pub taken_by : Holding → ℕ → ℕ → ℕ → Fate → Holding
taken_by own place hart number fate.InOrder = record own {
  slots = slots_came own.slots place (slice_get own.slots place);
  harts = harts_new own.harts hart number (slice_get own.harts hart);
}
taken_by own place hart number other = own

-- The fate of a message that is in view at this place, but for whether it is late.
abbrev pub mark_at : Holding → ℕ → List ℕ → Fate
mark_at own place payload = mark_by own.by (slice_get own.slots place) payload
