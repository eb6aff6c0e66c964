-- The rows of the table are read back: but for the names of symbols no field calls for quotes.
use Rattle.std.proofs.Common.{◌≡◌, ◌∙◌, ◌++◌, ℕ, Bool, true, false, List, [], ◌∷◌, Option, Some, None, Result}
use Rattle.std.proofs.Common.{Ok, Err, codes}
use Rattle.std.proofs.Common.{◌-◌, ap, arith, refl, replicate, subst, suc, zero}
use Rattle.std.proofs.lemmas.Bool.{ne_eqb}
use Rattle.std.specs.Fmt.{decimal}
use Rattle.std.specs.List.{flat_map}
use Rattle.std.specs.Prelude.{length, map, not}
use Rattle.retire.specs.LogText.{hex}
use Rattle.payload.specs.FaultText.{pack_fault_text}
use Rattle.payload.specs.Reading.{reading}
use Rattle.payload.specs.declared.fault.PackFault.{PackFault}
use Rattle.payload.specs.declared.fault.PackFault.TheVariants as pack
use Rattle.payload.specs.declared.mode.Mode.{Mode}
use Rattle.payload.specs.declared.mode.Mode.TheVariants.{Differential, Full}
use Rattle.payload.specs.declared.packet.Packet.{Packet}
use Rattle.payload.specs.declared.packet.Packet.TheVariants as packet
use Rattle.payload.specs.declared.packet.Report.{Report}
use Rattle.payload.specs.declared.packet.Report.TheVariants as report
use Rattle.payload.specs.declared.packet.Support.{Support}
use Rattle.payload.specs.declared.packet.Support.TheVariants as support
use Rattle.message.specs.declared.message.Message.{Message}
use Rattle.symbols.specs.Nearest.{Naming}
use Rattle.captures.specs.Offsets.{offset_text}
use Rattle.captures.specs.PacketText.{address_report_text, branch_text, map_text}
use Rattle.listing.specs.Effect.{Effect}
use Rattle.output.proofs.PlainFields.{ArePlain, IsPlain, are_plain, both_plain, decimal_plain, digits_plain, plain_read}
use Rattle.output.proofs.QuotedFields.{are_read_back, plain_field}
use Rattle.output.specs.Fields.{fields_line}
use Rattle.output.specs.Quoted.{quoted_field}
use Rattle.output.specs.ReadBack.{IsReadAs, IsReadBack}
use Rattle.listing.specs.Packets.{cause_field, ended_field, hex_unless, is_full, mode_field, packet_fields}
use Rattle.listing.specs.Packets.{support_field}
use Rattle.listing.specs.ReadBack.{AreRowsReadBack}
use Rattle.listing.specs.Rows.{begin_fields, columns, distance_field, effect_fields, first_of, flag_field}
use Rattle.listing.specs.Rows.{incomplete_fields, last_of, name_field, naming_at, no_effect, place_field}
use Rattle.listing.specs.Rows.{symbol_fields}
use Rattle.listing.specs.SettledRows.{first_row, last_row, row_field}

zeros_plain : (count : ℕ) → IsPlain (replicate count 48)
zeros_plain zero = refl
zeros_plain (suc count) = zeros_plain count

pub offset_plain : (offset : ℕ) → IsPlain (offset_text offset)
offset_plain offset =
    both_plain (replicate (8 - length (hex offset)) 48) (hex offset) (zeros_plain (8 - length (hex offset)))
    (digits_plain 16 offset)

-- Fields that call for no quotes are written as they are.
same_fields : (fields : List (List ℕ)) → ArePlain fields → map quoted_field fields ≡ fields
same_fields [] plain = refl
same_fields (field ∷ more) (plain, others) =
    ap (λ l. l ∷ map quoted_field more) (plain_field field plain) ∙ ap (λ l. field ∷ l) (same_fields more others)

map_both : (front back : List (List ℕ))
    → map quoted_field (front ++ back) ≡ map quoted_field front ++ map quoted_field back
map_both [] back = refl
map_both (field ∷ front) back = ap (λ l. quoted_field field ∷ l) (map_both front back)

all_plain : (front back : List (List ℕ)) → ArePlain front → ArePlain back → ArePlain (front ++ back)
all_plain [] back first last = last
all_plain (field ∷ front) back (plain, others) last = (plain, all_plain front back others last)

-- A row of fields that call for no quotes, of which there are two or more.
rows_plain : (first next : List ℕ) (more : List (List ℕ)) → ArePlain (first ∷ next ∷ more)
    → IsReadBack (first ∷ next ∷ more)
rows_plain first next more plain =
    subst (λ fields. IsReadAs (fields_line fields) (first ∷ next ∷ more)) (same_fields (first ∷ next ∷ more) plain)
    (are_read_back first next more)

branch_plain : (taken : Bool) → IsPlain (branch_text taken)
branch_plain true = refl
branch_plain false = refl

branches_plain : (outcomes : List Bool) → IsPlain (flat_map branch_text outcomes)
branches_plain [] = refl
branches_plain (taken ∷ more) =
    both_plain (branch_text taken) (flat_map branch_text more) (branch_plain taken) (branches_plain more)

map_plain : (outcomes : List Bool) → IsPlain (map_text outcomes)
map_plain [] = refl
map_plain (taken ∷ more) =
    rw (ne_eqb (length (taken ∷ more)) 0 (λ e. absurd (omega (arith, e)))) (branches_plain (taken ∷ more))

unless_plain : (test : Bool) (number : ℕ) → IsPlain (hex_unless test number)
unless_plain true number = refl
unless_plain false number = digits_plain 16 number

cause_plain : (interrupt : Bool) → IsPlain (cause_field interrupt)
cause_plain true = refl
cause_plain false = refl

report_plain : (why : Report) → IsPlain (address_report_text why)
report_plain report.Plain = refl
report_plain report.Updiscon = refl
report_plain report.Notify = refl

support_plain : (kind : Support) → IsPlain (support_field kind)
support_plain (support.Open mode) = refl
support_plain support.EndedRep = refl
support_plain support.EndedNtr = refl

mode_plain : (kind : Support) → IsPlain (mode_field kind)
mode_plain (support.Open Differential) = refl
mode_plain (support.Open Full) = refl
mode_plain support.EndedRep = refl
mode_plain support.EndedNtr = refl

ended_plain : (kind : Support) → IsPlain (ended_field kind)
ended_plain (support.Open mode) = refl
ended_plain support.EndedRep = refl
ended_plain support.EndedNtr = refl

fault_plain : (why : PackFault) → IsPlain (pack_fault_text why)
fault_plain pack.Empty = refl
fault_plain pack.TooLong = refl
fault_plain pack.BadPad = refl
fault_plain pack.Unsupported = refl
fault_plain pack.BadPrivilege = refl
fault_plain pack.BadReport = refl

-- The fields of a packet.
packet_plain : (mode : Mode) (read : Result Packet PackFault) → ArePlain (packet_fields mode read)
packet_plain mode (Ok (packet.Sync taken privilege address)) =
    are_plain (packet_fields mode (Ok (packet.Sync taken privilege address)))
    (rw (digits_plain 16 address, digits_plain 16 privilege, branch_plain taken) refl)
packet_plain mode (Ok (packet.Trap taken privilege cause interrupt handler address tval)) =
    are_plain (packet_fields mode (Ok (packet.Trap taken privilege cause interrupt handler address tval)))
    (rw (
      digits_plain 16 privilege,
      branch_plain taken,
      cause_plain interrupt,
      digits_plain 16 cause,
      unless_plain interrupt tval,
      unless_plain (not handler) address,
      unless_plain handler address,
    ) refl)
packet_plain mode (Ok (packet.Support kind)) =
    are_plain (packet_fields mode (Ok (packet.Support kind)))
    (rw (support_plain kind, mode_plain kind, ended_plain kind) refl)
packet_plain mode (Ok (packet.Address outcomes delta why)) =
    are_plain (packet_fields mode (Ok (packet.Address outcomes delta why)))
    (rw (
      unless_plain (not (is_full mode)) delta,
      unless_plain (is_full mode) delta,
      map_plain outcomes,
      report_plain why,
    ) refl)
packet_plain mode (Ok (packet.Map outcomes)) =
    are_plain (packet_fields mode (Ok (packet.Map outcomes))) (rw (map_plain outcomes) refl)
packet_plain mode (Err why) = are_plain (packet_fields mode (Err why)) (rw (fault_plain why) refl)

-- The fields before them.
begin_plain : (kind : List ℕ) (at offset : ℕ) (message : Message) → IsPlain kind
    → ArePlain (begin_fields kind at offset message)
begin_plain kind at offset message plain =
    (plain, (decimal_plain at, (offset_plain offset, (decimal_plain message.hart, (decimal_plain message.number, tt)))))

pub flag_plain : (flag : Bool) → IsPlain (flag_field flag)
flag_plain true = refl
flag_plain false = refl

pub place_plain : (at : Option ℕ) → IsPlain (place_field at)
place_plain None = refl
place_plain (Some at) = digits_plain 16 at

pub row_plain : (row : Option ℕ) → IsPlain (row_field row)
row_plain None = refl
row_plain (Some row) = decimal_plain row

distance_plain : (naming : Option Naming) → IsPlain (distance_field naming)
distance_plain None = refl
distance_plain (Some naming) = digits_plain 16 naming.distance

effect_plain : (effect : Effect) → ArePlain (effect_fields effect)
effect_plain effect =
    are_plain (effect_fields effect)
    (rw (
      flag_plain effect.waits,
      flag_plain effect.closes,
      decimal_plain (length effect.added),
      row_plain (first_row effect.rows (length effect.added)),
      row_plain (last_row effect.rows (length effect.added)),
      place_plain (first_of effect.added),
      place_plain (last_of effect.added),
    ) refl)

-- The names of two places are written with quotes where they call for them, and what is beside them as it is.
names_written : (first last : Option Naming)
    → map quoted_field (symbol_fields (λ name. name) first last) ≡ symbol_fields quoted_field first last
names_written first last =
    ap (λ l. quoted_field (name_field first) ∷ l
    ∷ quoted_field (name_field last) ∷ quoted_field (distance_field last) ∷ [])
    (plain_field (distance_field first) (distance_plain first))
    ∙ ap (λ l. quoted_field (name_field first) ∷ distance_field first ∷ quoted_field (name_field last) ∷ l ∷ [])
    (plain_field (distance_field last) (distance_plain last))

-- A row of a message is read back, where the fields between those of its packet and the names of two places are written in
-- some way as `csv` writes them.
module _ (mode : Mode) (at offset : ℕ) (message : Message) (others written : List (List ℕ))
    (is_written : map quoted_field others ≡ written) (first last : Option Naming) where
  abbrev begin : List (List ℕ)
  begin = begin_fields (codes "message") at offset message

  abbrev packet_of : List (List ℕ)
  packet_of = packet_fields mode (reading message.payload)

  abbrev names : (List ℕ → List ℕ) → List (List ℕ)
  names way = symbol_fields way first last

  -- The fields of a row, as they are written.
  row_written : map quoted_field (begin ++ (packet_of ++ (others ++ names (λ name. name))))
      ≡ begin ++ (packet_of ++ (written ++ names quoted_field))
  row_written =
      map_both begin (packet_of ++ (others ++ names (λ name. name)))
      ∙ (ap (λ l. l ++ map quoted_field (packet_of ++ (others ++ names (λ name. name))))
      (same_fields begin (begin_plain (codes "message") at offset message refl))
      ∙ ap (λ l. begin ++ l)
      (map_both packet_of (others ++ names (λ name. name))
      ∙ (ap (λ l. l ++ map quoted_field (others ++ names (λ name. name)))
      (same_fields packet_of (packet_plain mode (reading message.payload)))
      ∙ ap (λ l. packet_of ++ l)
      (map_both others (names (λ name. name))
      ∙ (ap (λ l. l ++ map quoted_field (names (λ name. name))) is_written
      ∙ ap (λ l. written ++ l) (names_written first last))))))

  pub message_read : IsReadAs (fields_line (begin ++ (packet_of ++ (written ++ names quoted_field))))
      (begin ++ (packet_of ++ (others ++ names (λ name. name))))
  message_read =
      subst (λ fields. IsReadAs (fields_line fields) (begin ++ (packet_of ++ (others ++ names (λ name. name)))))
      row_written
      (are_read_back (codes "message") (decimal at)
      (offset_text offset ∷ decimal message.hart ∷ decimal message.number
      ∷ (packet_of ++ (others ++ names (λ name. name)))))

pub are_rows_read_back : AreRowsReadBack
are_rows_read_back = record {
  names = plain_read columns tt refl;
  message = λ symbols mode at offset message effect.
      message_read mode at offset message (effect_fields effect) (effect_fields effect)
      (same_fields (effect_fields effect) (effect_plain effect)) (naming_at symbols (first_of effect.added))
      (naming_at symbols (last_of effect.added));
  refused = λ mode at offset message.
      rows_plain (codes "refused") (decimal at) (offset_text offset ∷ decimal message.hart ∷ decimal message.number
      ∷ (packet_fields mode (reading message.payload) ++ no_effect))
      (all_plain (begin_fields (codes "refused") at offset message)
      (packet_fields mode (reading message.payload) ++ no_effect)
      (begin_plain (codes "refused") at offset message refl)
      (all_plain (packet_fields mode (reading message.payload)) no_effect
      (packet_plain mode (reading message.payload)) (are_plain no_effect refl)));
  incomplete = λ at offset.
      plain_read (incomplete_fields at offset) tt (rw (decimal_plain at, offset_plain offset) refl);
}
