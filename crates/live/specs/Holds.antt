-- What is held of SENT, by the messages that were read.
use Rattle.std.specs.Prelude.{ℕ, ◌≡◌, ◌⊎◌, ◌+◌, ◌-◌, ◌^◌, ◌<◌, ◌≤◌, ◌++◌, ◌&&◌, not, nat_lt, Bool, if◌then◌else◌, List, [], ◌∷◌}
use Rattle.std.specs.Prelude.{Some, None, drop, length, map, slice_get, take}
use Rattle.std.specs.List.{AllByRecursion}
use Rattle.payload.specs.declared.by.By.{By}
use Rattle.message.specs.OfHart.{of_hart}
use Rattle.message.specs.declared.message.Message.{Message}
use Rattle.auditing.specs.Audits.{number_after}
use Rattle.auditing.specs.Findings.{greatest_number}
use Rattle.auditing.specs.Sent.{AreInTurn, misplaced}
use Rattle.auditing.specs.declared.finding.Finding.{Finding}
use Rattle.live.specs.Compared.{known_finding, known_trues}
use Rattle.live.specs.Holding.{Holding}
use Rattle.live.specs.Live.{held, is_new}
use Rattle.live.specs.View.{given_up, up_to}
use Rattle.live.specs.declared.fault.ReadFault.{ReadFault}
use Rattle.live.specs.declared.fault.ReadFault.TheVariants as fault
use Rattle.live.specs.declared.numbers.Numbers.{Numbers}
use Rattle.live.specs.declared.judged.Judged.{Judged}
use Rattle.live.specs.declared.judged.Judged.TheVariants as judged
use Rattle.live.specs.declared.standing.Standing.{Standing}
use Rattle.live.specs.declared.standing.Standing.TheVariants as standing

-- Of a hart this is how many of its messages are given up, how many were read, and the number after the greatest true one.
pub record AreNumbers (given sent trues : List Message) (hart : ℕ) (numbers : Numbers) : Type 0 where
  pub gone : numbers.gone ≡ length (of_hart hart given)
  pub read : numbers.read ≡ length (of_hart hart sent)
  pub past : numbers.past ≡ number_after (greatest_number trues hart)

-- These messages have numbers that were read.
abbrev pub AreRead : List Message → List Message → Type 0
AreRead sent messages = AllByRecursion (λ (message : Message). message.number < length (of_hart message.hart sent)) messages

-- This is held where these messages of SENT were read, these messages came and were found in view, and so many messages of
-- SENT are up to the front: the messages that are not given up, which are those in view. SENT was read to the front at
-- least, and to a window after it at most. Each message of it is the next one of its hart.
pub record Holds (sent came : List Message) (front : ℕ) (own : Holding) : Type 0 where
  pub slots : own.slots ≡ map (held (known_trues own.by sent came)) (drop (given_up own.window front) sent)
  pub near : given_up own.window front + own.near ≡ front
  pub read : front ≤ length sent
  pub ahead : length sent ≤ front + own.window
  pub in_turn : AreInTurn (length own.harts) [] sent
  pub came_read : AreRead sent came
  pub few : (hart : ℕ) → length (of_hart hart sent) < 2 ^ 64
  pub harts : (hart : ℕ) (numbers : Numbers) → slice_get own.harts hart ≡ Some numbers
      → AreNumbers (take (given_up own.window front) sent) sent (known_trues own.by sent came) hart numbers

-- The next message of SENT may be this one: the hart is known, the number was not read, and there are as many places left
-- in view as it needs, if all that comes before it is of its hart.
abbrev pub is_wanted : ℕ → ℕ → List Message → ℕ → ℕ → ℕ → Bool
is_wanted harts window sent front hart number =
    nat_lt hart harts
    && (not (nat_lt number (length (of_hart hart sent)))
    && nat_lt (number - length (of_hart hart sent)) (front + window - length sent))

-- Why the message after these of SENT is not read: there is no place for it; or there is one, and it is not the next one of
-- its hart; or it is, and its number is 2^64 - 1.
abbrev pub IsReadFault : ℕ → ℕ → List Message → ℕ → Message → ReadFault → Type 0
IsReadFault harts window sent front message fault.Full =
    (length sent ≡ front + window) ⊎ ((message.number ≡ 2 ^ 64 - 1) × (misplaced harts sent message ≡ None))
IsReadFault harts window sent front message (fault.Misplaced why) =
    (misplaced harts sent message ≡ Some why) × (length sent < front + window)

-- In view a message is what an audit finds after those that came and were in view before it. If it is new, the front goes
-- on to it by so many messages, and else by none.
abbrev pub judged_as : ℕ → Finding → Judged
judged_as ahead its = judged.Found its (if is_new its then ahead else 0)

-- What becomes of a message that is looked up, by where it is.
abbrev pub judged_by : By → ℕ → List Message → List Message → ℕ → Message → Standing → Judged
judged_by how window sent came front message standing.Below = judged.TooLate
judged_by how window sent came front message standing.Beyond = judged.Undecided
judged_by how window sent came front message (standing.At place) =
    judged_as (up_to window front place - front) (known_finding how sent came message)

-- The messages that came and were in view, with one that is looked up, by where it is.
abbrev pub came_by : List Message → Message → Standing → List Message
came_by came message (standing.At place) = came ++ message ∷ []
came_by came message other = came

-- A place is below so many.
abbrev pub IsWithin : ℕ → Standing → Type 0
IsWithin count (standing.At place) = place < count
IsWithin count other = Unit {0}
