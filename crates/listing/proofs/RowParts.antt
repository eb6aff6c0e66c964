-- A row, part by part.
use Rattle.std.proofs.Common.{◌≡◌, ◌++◌, ℕ, Bool, List, [], ◌∷◌, Option, Result, codes, length, refl, sym, ap, ◌∙◌}
use Rattle.std.proofs.Common.{append-nil, append_assoc}
use Rattle.retire.specs.declared.event.Event.{Event}
use Rattle.payload.specs.Reading.{reading}
use Rattle.payload.specs.declared.fault.PackFault.{PackFault}
use Rattle.payload.specs.declared.mode.Mode.{Mode}
use Rattle.payload.specs.declared.packet.Packet.{Packet}
use Rattle.message.specs.declared.message.Message.{Message}
use Rattle.symbols.specs.Nearest.{Naming}
use Rattle.listing.specs.PacketEnding.{read_closes, read_waits}
use Rattle.listing.specs.steps.Message.{effect_of}
use Rattle.output.specs.Fields.{fields_line}
use Rattle.output.specs.Quoted.{quoted_field}
use Rattle.listing.specs.Packets.{packet_fields}
use Rattle.listing.specs.Rows.{begin_fields, distance_field, effect_row, first_of, last_of, name_field}
use Rattle.listing.specs.Rows.{naming_at, no_effect, refused_row, symbol_fields}
use Rattle.listing.specs.Cells.{cells, message_cells, names_end, naming_cells}
use Rattle.listing.specs.steps.Writing.{tail_cells, tail_fields}

-- The line of fields is those of some first, with a comma after each, and the line of the others.
pub line_parts : (fields : List (List ℕ)) (next : List ℕ) (more : List (List ℕ))
    → fields_line (fields ++ (next ∷ more)) ≡ cells fields ++ fields_line (next ∷ more)
line_parts [] next more = refl
line_parts (field ∷ []) next more =
    sym (append_assoc field (codes ",") (fields_line (next ∷ more)))
    ∙ ap (λ l. l ++ fields_line (next ∷ more)) (sym (append-nil (field ++ codes ",")))
line_parts (field ∷ other ∷ fields) next more =
    ap (λ l. field ++ (codes "," ++ l)) (line_parts (other ∷ fields) next more)
    ∙ (sym (append_assoc field (codes ",") (cells (other ∷ fields) ++ fields_line (next ∷ more)))
    ∙ sym (append_assoc (field ++ codes ",") (cells (other ∷ fields)) (fields_line (next ∷ more))))

cells_both : (front back : List (List ℕ)) → cells (front ++ back) ≡ cells front ++ cells back
cells_both [] back = refl
cells_both (field ∷ front) back =
    ap (λ l. (field ++ codes ",") ++ l) (cells_both front back)
    ∙ sym (append_assoc (field ++ codes ",") (cells front) (cells back))

-- The line of three lists of fields, the last of which has one.
three_parts : (one two : List (List ℕ)) (next : List ℕ) (more : List (List ℕ))
    → fields_line (one ++ (two ++ (next ∷ more))) ≡ (cells one ++ cells two) ++ fields_line (next ∷ more)
three_parts one two next more =
    ap fields_line (sym (append_assoc one two (next ∷ more)))
    ∙ (line_parts (one ++ two) next more ∙ ap (λ l. l ++ fields_line (next ∷ more)) (cells_both one two))

-- The line of the names.
names_parts : (first second third fourth : List ℕ)
    → fields_line (first ∷ second ∷ third ∷ fourth ∷ [])
    ≡ (first ++ (codes "," ++ second)) ++ (codes "," ++ ((third ++ (codes "," ++ fourth)) ++ codes "\n"))
names_parts first second third fourth =
    ap (λ l. first ++ (codes "," ++ (second ++ (codes "," ++ l))))
    (sym (append_assoc third (codes "," ++ fourth) (codes "\n")))
    ∙ sym (append_assoc first (codes "," ++ second) (codes "," ++ ((third ++ (codes "," ++ fourth)) ++ codes "\n")))

-- A row of the first fields of a message, those of its packet, others, and the names of two places.
pub row_of_parts : (begin packet others : List (List ℕ)) (one two : Option Naming)
    → ((cells begin ++ cells packet) ++ cells others)
    ++ (naming_cells one ++ (codes "," ++ (naming_cells two ++ codes "\n")))
    ≡ fields_line (begin ++ (packet ++ (others ++ symbol_fields quoted_field one two)))
row_of_parts begin packet others one two =
    let names = symbol_fields quoted_field one two in
    sym
    (ap fields_line (sym (append_assoc begin packet (others ++ names)))
    ∙ (three_parts (begin ++ packet) others (quoted_field (name_field one))
    (distance_field one ∷ quoted_field (name_field two) ∷ distance_field two ∷ [])
    ∙ (ap (λ l. (l ++ cells others) ++ fields_line names) (cells_both begin packet)
    ∙ ap (λ l. ((cells begin ++ cells packet) ++ cells others) ++ l)
    (names_parts (quoted_field (name_field one)) (distance_field one) (quoted_field (name_field two))
    (distance_field two)))))

module _ (symbols : Option (List ℕ)) (mode : Mode) (at offset : ℕ) (message : Message) (added : List Event)
    (rows : ℕ) (read : Result Packet PackFault) (same : read ≡ reading message.payload) where
  abbrev by : Result Packet PackFault → Bool → Bool → ℕ → Option ℕ → Option ℕ → List ℕ
  by read waits closes count first last =
      fields_line (begin_fields (codes "message") at offset message ++ (packet_fields mode read ++
      (tail_fields waits closes rows count first last
      ++ symbol_fields quoted_field (naming_at symbols first) (naming_at symbols last))))

  module _ (waits closes : Bool) (count : ℕ) (first last : Option ℕ) (is_waits : waits ≡ read_waits read)
      (is_closes : closes ≡ read_closes read) (is_count : count ≡ length added) (is_first : first ≡ first_of added)
      (is_last : last ≡ last_of added) where
    abbrev front_by : List ℕ
    front_by =
        message_cells (codes "message") mode at offset message read ++ tail_cells waits closes rows count first last

    -- The row is what is before the names of places, and then these.
    pub row_by : front_by ++ names_end symbols first last
        ≡ effect_row symbols mode at offset message (effect_of added rows (reading message.payload))
    row_by =
        row_of_parts (begin_fields (codes "message") at offset message) (packet_fields mode read)
        (tail_fields waits closes rows count first last) (naming_at symbols first) (naming_at symbols last)
        ∙ (λ i. by (same i) ((is_waits ∙ ap read_waits same) i) ((is_closes ∙ ap read_closes same) i) (is_count i)
        (is_first i) (is_last i))

-- So is that of a message that is refused.
pub refused_parts : (mode : Mode) (at offset : ℕ) (message : Message) (read : Result Packet PackFault)
    → read ≡ reading message.payload
    → message_cells (codes "refused") mode at offset message read ++ codes ",,,,,,,,,,,,,,\n"
    ≡ refused_row mode at offset message
refused_parts mode at offset message read same =
    let begin = begin_fields (codes "refused") at offset message in
    sym (three_parts begin (packet_fields mode read) []
    ([] ∷ [] ∷ [] ∷ [] ∷ [] ∷ [] ∷ [] ∷ [] ∷ [] ∷ [] ∷ [] ∷ [] ∷ [] ∷ [] ∷ []))
    ∙ ap (λ read. fields_line (begin ++ (packet_fields mode read ++ no_effect))) same
