-- What an audit finds of each message of RECEIVED.
use Rattle.std.specs.Prelude.{ℕ, ◌==◌, ◌+◌, ◌-◌, ◌++◌, Bool, false, if◌then◌else◌, List, [], ◌∷◌, Option, Some, None, max}
use Rattle.std.specs.List.{sum_by}
use Rattle.message.specs.declared.message.Message.{Message}
use Rattle.auditing.specs.Fates.{fate_of, true_ones}
use Rattle.auditing.specs.declared.fate.Fate.{Fate}
use Rattle.auditing.specs.declared.fate.Fate.TheVariants as fate
use Rattle.auditing.specs.declared.finding.Finding.{Finding}
use Rattle.auditing.specs.declared.finding.Finding.TheVariants.{Stranger, Changed, Repeat, Late, InOrder}

-- The greater of a number and of another one, if there is one.
abbrev pub at_least : ℕ → Option ℕ → ℕ
at_least number None = number
at_least number (Some other) = max number other

-- The greatest number of a hart's messages, if the hart has one.
abbrev pub greatest_number : List Message → ℕ → Option ℕ
greatest_number [] hart = None
greatest_number (message ∷ messages) hart =
    if message.hart == hart then Some (at_least message.number (greatest_number messages hart)) else
    greatest_number messages hart

-- How many numbers a message in order skips: those between the greatest true number before it and its own, or where
-- there is none those below its own.
abbrev pub skipped : Option ℕ → ℕ → ℕ
skipped None number = number
skipped (Some greatest) number = number - greatest - 1

-- By how much a message is late: the greatest true number before it less its own.
abbrev pub lateness : Option ℕ → ℕ → ℕ
lateness None number = 0
lateness (Some greatest) number = greatest - number

-- What is found of a message with this fate and this number, by the greatest true number of its hart before it, if
-- there is one.
abbrev pub finding_by : Fate → Option ℕ → ℕ → Finding
finding_by fate.Stranger greatest number = Stranger
finding_by fate.Changed greatest number = Changed
finding_by fate.Repeat greatest number = Repeat
finding_by fate.Late greatest number = Late (lateness greatest number)
finding_by fate.InOrder greatest number = InOrder (skipped greatest number)

-- What is found of a message of RECEIVED, by SENT and the messages of RECEIVED before it.
abbrev pub finding_of : List Message → List Message → Message → Finding
finding_of sent before message =
    finding_by (fate_of sent before message) (greatest_number (true_ones sent before) message.hart) message.number

-- The fate that a finding has.
abbrev pub fate_of_finding : Finding → Fate
fate_of_finding Stranger = fate.Stranger
fate_of_finding Changed = fate.Changed
fate_of_finding Repeat = fate.Repeat
fate_of_finding (Late by) = fate.Late
fate_of_finding (InOrder skips) = fate.InOrder

-- A message that came, and what is found of it.
pub record Found : Type 0 where
  pub message : Message
  pub finding : Finding

-- A message and what is found of it, by SENT and the messages before it.
abbrev pub found_one : List Message → List Message → Message → Found
found_one sent before message = record { message = message; finding = finding_of sent before message }

-- The messages that came after these, each with what is found of it.
abbrev pub found_after : List Message → List Message → List Message → List Found
found_after sent before [] = []
found_after sent before (message ∷ messages) =
    found_one sent before message ∷ found_after sent (before ++ message ∷ []) messages

-- The messages of RECEIVED, each with what is found of it.
abbrev pub findings : List Message → List Message → List Found
findings sent received = found_after sent [] received

-- How many numbers are skipped by what is found.
abbrev pub skips_of : Finding → ℕ
skips_of (InOrder skips) = skips
skips_of other = 0

-- By how much a message is late, by what is found.
abbrev pub late_by : Finding → ℕ
late_by (Late by) = by
late_by other = 0

-- How many numbers a message skips, if it is of this hart.
abbrev pub own_skips : ℕ → Found → ℕ
own_skips hart one = if one.message.hart == hart then skips_of one.finding else 0

-- How many numbers the messages of a hart skip, in sum.
abbrev pub skips_in : List Message → List Message → ℕ → ℕ
skips_in sent received hart = sum_by (own_skips hart) (findings sent received)

-- By how much a message is late, if it is of this hart.
abbrev pub own_lateness : ℕ → Found → ℕ
own_lateness hart one = if one.message.hart == hart then late_by one.finding else 0

-- The most by which one of these messages of a hart is late, 0 where none is.
abbrev pub latest_of : ℕ → List Found → ℕ
latest_of hart [] = 0
latest_of hart (one ∷ more) = max (own_lateness hart one) (latest_of hart more)

-- The most by which a message of a hart is late, 0 where none is.
abbrev pub latest : List Message → List Message → ℕ → ℕ
latest sent received hart = latest_of hart (findings sent received)

-- A message is in order and skips no number.
abbrev pub is_plain : Finding → Bool
is_plain (InOrder skips) = skips == 0
is_plain other = false

-- The place of the first of these messages that is not in order or skips a number, if there is one. The first of them
-- is at this place.
abbrev pub first_from : ℕ → List Found → Option ℕ
first_from place [] = None
first_from place (one ∷ more) = if is_plain one.finding then first_from (place + 1) more else Some place

-- The place of the first message of RECEIVED that is not in order or skips a number, if there is one.
abbrev pub first_found : List Message → List Message → Option ℕ
first_found sent received = first_from 0 (findings sent received)
