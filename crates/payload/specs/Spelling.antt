-- Which bytes are a payload of a packet.
use Rattle.std.specs.Prelude.{ℕ, ◌≡◌, ◌*◌, ◌^◌, ◌<◌, ◌≤◌, List, length}
use Rattle.payload.specs.Bytes.{IsBytes, number, low_bytes}
use Rattle.payload.specs.Extension.{extended_bit, extended, magnitude, fewest_bytes}
use Rattle.payload.specs.Fields.{Field, total, joined}
use Rattle.payload.specs.Limits.{most_bytes}
use Rattle.payload.specs.PacketFields.{unused_bits, fields_with, fields}
use Rattle.payload.specs.declared.packet.Packet.{Packet}

-- 1 to 18 bytes have the bits of these fields, where both go on with copies of their last bit.
pub record Extends (bytes : List ℕ) (fs : List Field) : Type 0 where
  pub some : 1 ≤ length bytes
  pub few : length bytes ≤ most_bytes
  pub each : IsBytes bytes
  pub bits : (i : ℕ) → extended_bit (8 * length bytes) (number bytes) i ≡ extended_bit (total fs) (joined fs) i

-- No shorter bytes extend these fields.
pub record IsShortest (bytes : List ℕ) (fs : List Field) : Type 0 where
  pub extends : Extends bytes fs
  pub shortest : (others : List ℕ) → Extends others fs → length bytes ≤ length others

-- Bytes are a payload of a packet: they extend its fields, whatever the unused bits of its branch map are.
pub record Spelt (bytes : List ℕ) (p : Packet) : Type 0 where
  pub spare : ℕ
  pub unused : spare < 2 ^ unused_bits p
  pub extends : Extends bytes (fields_with spare p)

-- The shortest bytes of a number of this width.
abbrev pub shortest_bytes : ℕ → ℕ → List ℕ
shortest_bytes width n = low_bytes (fewest_bytes (magnitude width n)) (extended width n)

-- The shortest bytes of fields.
abbrev pub shortest_of : List Field → List ℕ
shortest_of fs = shortest_bytes (total fs) (joined fs)

-- The payload of a packet: the shortest bytes of its fields.
abbrev pub payload_of : Packet → List ℕ
payload_of p = shortest_of (fields p)
