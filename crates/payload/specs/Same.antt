-- When the payload that came is the one that was sent.
use Rattle.std.specs.Prelude.{ℕ, Bool, List, Result, Ok, Err}
use Rattle.std.specs.Str.{bytes_eq}
use Rattle.payload.specs.Reading.{reading}
use Rattle.payload.specs.Spelling.{payload_of}
use Rattle.payload.specs.declared.fault.PackFault.{PackFault}
use Rattle.payload.specs.declared.packet.Packet.{Packet}
use Rattle.payload.specs.declared.by.By.{By}
use Rattle.payload.specs.declared.by.By.TheVariants as by

-- The shortest payload of the packet that a payload unpacks to; or the payload itself, where it does not unpack.
abbrev pub shortest_or : List ℕ → Result Packet PackFault → List ℕ
shortest_or payload (Ok packet) = payload_of packet
shortest_or payload (Err why) = payload

-- The bytes that a payload is known by. By bytes they are its own. By packets they are the shortest payload of its
-- packet, where it unpacks to one, and else its own.
abbrev pub known_by : By → List ℕ → List ℕ
known_by by.Bytes payload = payload
known_by by.Packets payload = shortest_or payload (reading payload)

-- The payload that came is the one that was sent: both are known by the same bytes.
abbrev pub same : By → List ℕ → List ℕ → Bool
same by sent came = bytes_eq (known_by by came) (known_by by sent)
