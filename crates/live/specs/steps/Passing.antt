-- The front goes on by one message.
use Rattle.std.specs.Prelude.{ℕ, ◌+◌, nat_lt, if◌then◌else◌, List, [], ◌∷◌, Option, Some, None}
use Rattle.std.specs.Prelude.{length, slice_get, slice_set}
use Rattle.auditing.specs.Audits.{capped}
use Rattle.live.specs.Holding.{Holding}
use Rattle.live.specs.declared.numbers.Numbers.{Numbers}
use Rattle.live.specs.declared.held.SentMessage.{SentMessage}

-- The numbers of the harts after this number of a hart is given up, by the numbers of the hart, if it is known.
abbrev pub harts_without : List Numbers → ℕ → ℕ → Option Numbers → List Numbers
harts_without harts hart number None = harts
harts_without harts hart number (Some own) = slice_set harts hart (record own { gone = capped (number + 1) })

-- What is held after the first message in view is given up.
abbrev pub without_first : Holding → List SentMessage → Holding
without_first own [] = own
without_first own (slot ∷ slots) = record own {
  slots = slots;
  harts = harts_without own.harts slot.message.hart slot.message.number (slice_get own.harts slot.message.hart);
}

-- What is held after the front went on by one message, if one after the front was read.
abbrev pub passed : Holding → Holding
passed own =
    if nat_lt own.near (length own.slots) then
    if nat_lt own.window own.near then without_first own own.slots else record own { near = own.near + 1 } else
    own

-- The message that is given up then, if one is.
abbrev pub passes_by : Holding → Option SentMessage
passes_by own =
    if nat_lt own.near (length own.slots) then
    if nat_lt own.window own.near then slice_get own.slots 0 else None else
    None
