-- Reading one message of SENT.
use Rattle.std.specs.Prelude.{ℕ, ◌+◌, ◌-◌, ◌^◌, ◌==◌, ◌++◌, ◌&&◌, not, nat_lt, Bool, false, if◌then◌else◌, List, []}
use Rattle.std.specs.Prelude.{◌∷◌, Option, Some, None}
use Rattle.std.specs.Prelude.{Result, Ok, Err, length, slice_get, slice_set}
use Rattle.message.specs.declared.fault.DemuxFault.TheVariants as demux
use Rattle.message.specs.declared.message.Message.{Message}
use Rattle.auditing.specs.Audits.{capped}
use Rattle.live.specs.Holding.{Holding}
use Rattle.live.specs.declared.fault.ReadFault.{ReadFault}
use Rattle.live.specs.declared.fault.ReadFault.TheVariants as fault
use Rattle.live.specs.declared.numbers.Numbers.{Numbers}

-- Why the next message of SENT may not have this number, by the numbers of its hart, if the hart is known.
abbrev pub refusal_by : Option Numbers → ℕ → Option ReadFault
refusal_by None number = Some (fault.Misplaced demux.Stranger)
refusal_by (Some own) number =
    if nat_lt number own.read then Some (fault.Misplaced demux.Repeat) else
    if nat_lt own.read number then Some (fault.Misplaced (demux.Gap own.read)) else
    if number == 2 ^ 64 - 1 then Some fault.Full else
    None

-- The numbers of the harts after a message with this number, by the numbers of its hart, if the hart is known.
abbrev pub harts_read : List Numbers → ℕ → ℕ → Option Numbers → List Numbers
harts_read harts hart number None = harts
harts_read harts hart number (Some own) = slice_set harts hart (record own { read = capped (number + 1) })

-- Whether a message is read, by why it may not be the next one, if it may not.
abbrev pub answered : Option ReadFault → Result (Unit {0}) ReadFault
answered None = Ok tt
answered (Some why) = Err why

-- Whether a message is read, by what is held.
abbrev pub read_by : Holding → Message → Result (Unit {0}) ReadFault
read_by own message =
    if nat_lt (length own.slots) (own.near + own.window) then
    answered (refusal_by (slice_get own.harts message.hart) message.number) else
    Err fault.Full

-- What is held after a message is read.
abbrev pub read_in : Holding → Message → Holding
read_in own message = record own {
  slots = own.slots ++ record { message = message; came = false } ∷ [];
  harts = harts_read own.harts message.hart message.number (slice_get own.harts message.hart);
}

-- A message of a hart may be in view and not read yet, by the numbers of its hart, if the hart is known, and by how many
-- places are left.
abbrev pub wants_by : Option Numbers → ℕ → ℕ → Bool
wants_by None left number = false
wants_by (Some own) left number = not (nat_lt number own.read) && nat_lt (number - own.read) left

-- The same, by what is held.
abbrev pub wants_in : Holding → ℕ → ℕ → Bool
wants_in own hart number = wants_by (slice_get own.harts hart) (own.near + own.window - length own.slots) number
