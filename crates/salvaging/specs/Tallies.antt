-- How many of a hart's messages are decoded, passed over, or of doubtful numbers.
use Rattle.std.specs.Prelude.{ℕ, ◌≡◌, ◌+◌, ◌||◌, ◌&&◌, nat_lt, Bool, true, false, List, [], ◌∷◌, Ok, Err, Result, not}
use Rattle.std.specs.Prelude.{length}
use Rattle.payload.specs.Reading.{reading}
use Rattle.payload.specs.declared.fault.PackFault.{PackFault}
use Rattle.payload.specs.declared.packet.Packet.{Packet}
use Rattle.payload.specs.declared.packet.Packet.TheVariants as packet
use Rattle.message.specs.declared.message.Message.{Message}
use Rattle.salvaging.specs.Entries.{Entry, Used, Doubtful, is_used}
use Rattle.salvaging.specs.Late.{counted}
use Rattle.salvaging.specs.declared.salvaged.SalvagedHart.{SalvagedHart}

-- The packet is a synchronisation.
abbrev pub is_sync : Packet → Bool
is_sync (packet.Sync taken priv address) = true
is_sync other = false

-- A synchronisation was read.
abbrev pub reads_sync : Result Packet PackFault → Bool
reads_sync (Ok packet) = is_sync packet
reads_sync (Err why) = false

-- Whether a synchronisation is looked for after an entry, where this says whether one is looked for before it, and `next`
-- is the number after the last one. One is looked for where numbers are lost before a good message, until a good one is a
-- synchronisation; and after a bad message and a doubtful number.
abbrev pub looks_behind : Bool → ℕ → Entry → Bool → Bool
looks_behind looks next (Used number place payload) true =
    (looks || nat_lt next number) && not (reads_sync (reading payload))
looks_behind looks next entry good = true

-- The number that comes after an entry, where none is lost.
abbrev pub next_behind : Entry → ℕ
next_behind (Used number place payload) = number + 1
next_behind (Doubtful number first second) = number

-- How many of the good messages of these entries are passed over: a synchronisation is still looked for after them.
abbrev pub passed : Bool → ℕ → List Entry → List Bool → ℕ
passed looks next [] goods = 0
passed looks next (entry ∷ entries) [] = 0
passed looks next (entry ∷ entries) (good ∷ goods) =
    counted (good && looks_behind looks next entry good)
    (passed (looks_behind looks next entry good) (next_behind entry) entries goods)

-- How many are good.
abbrev pub good_count : List Bool → ℕ
good_count [] = 0
good_count (good ∷ goods) = counted good (good_count goods)

-- How many numbers are used.
abbrev pub used_count : List Entry → ℕ
used_count [] = 0
used_count (entry ∷ entries) = counted (is_used entry) (used_count entries)

-- A hart's good messages are passed over or decoded. Its messages that are neither copies nor used are those of doubtful
-- numbers.
pub record IsTallied {A : Type 0} (messages : List Message) (entries : List Entry) (goods : List Bool)
    (hart : SalvagedHart A) : Type 0 where
  pub passed : hart.passed ≡ passed false 0 entries goods
  pub decoded : hart.decoded + hart.passed ≡ good_count goods
  pub doubtful : hart.doubtful + (hart.copies + used_count entries) ≡ length messages
