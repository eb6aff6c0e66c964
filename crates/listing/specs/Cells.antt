-- The parts of which a row is written.
use Rattle.std.specs.Prelude.{ℕ, ◌++◌, List, Option, Result, codes}
use Rattle.std.specs.List.{flat_map}
use Rattle.payload.specs.declared.fault.PackFault.{PackFault}
use Rattle.payload.specs.declared.mode.Mode.{Mode}
use Rattle.payload.specs.declared.packet.Packet.{Packet}
use Rattle.message.specs.declared.message.Message.{Message}
use Rattle.symbols.specs.Nearest.{Naming}
use Rattle.output.specs.Quoted.{quoted_field}
use Rattle.listing.specs.Packets.{packet_fields}
use Rattle.listing.specs.Rows.{begin_fields, distance_field, name_field, naming_at}

-- Fields with a comma after each.
abbrev pub cells : List (List ℕ) → List ℕ
cells fields = flat_map (λ field. field ++ codes ",") fields

-- The fields of a message of this kind up to those of its packet, which its payload unpacks to.
abbrev pub message_cells : List ℕ → Mode → ℕ → ℕ → Message → Result Packet PackFault → List ℕ
message_cells kind mode at offset message read =
    cells (begin_fields kind at offset message) ++ cells (packet_fields mode read)

-- The name of a place and its distance, with a comma between.
abbrev pub naming_cells : Option Naming → List ℕ
naming_cells naming = quoted_field (name_field naming) ++ (codes "," ++ distance_field naming)

-- The end of a row: the names of two places and their distances.
abbrev pub names_end : Option (List ℕ) → Option ℕ → Option ℕ → List ℕ
names_end symbols first last =
    naming_cells (naming_at symbols first)
    ++ (codes "," ++ (naming_cells (naming_at symbols last) ++ codes "\n"))
