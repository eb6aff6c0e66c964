-- Rows that were worked by hand, as the definitions give them.
use Rattle.std.proofs.Common.{◌≡◌, true, false, [], ◌∷◌, ◌++◌, Some, None, Ok, refl}
use Rattle.std.specs.Prelude.{codes}
use Rattle.std.specs.Fmt.{digits}
use Rattle.csv.specs.Writing.{escaped}
use Rattle.retire.specs.declared.event.Event.TheVariants.{Trap}
use Rattle.payload.specs.Extension.{extended, magnitude}
use Rattle.payload.specs.declared.mode.Mode.TheVariants.{Differential, Full}
use Rattle.payload.specs.declared.packet.Packet.TheVariants as packet
use Rattle.listing.specs.Effect.{Effect}
use Rattle.output.specs.Fields.{fields_line}
use Rattle.listing.specs.Packets.{packet_fields}
use Rattle.listing.specs.Entries.{placed_entries}
use Rattle.listing.specs.Placed.{placed}
use Rattle.listing.specs.Rows.{columns, effect_row, incomplete_row, refused_row}
use Rattle.listing.specs.declared.form.Form.TheVariants.{Table}
use Rattle.listing.proofs.WorkedLines.{at, closing, exception, opening, symbols, synchronising, waiting}

-- What the messages do.
abbrev nothing : Effect
nothing = record { added = []; rows = 0; waits = false; closes = false }

abbrev starts : Effect
starts = record { added = at 0x8000_0000 ∷ []; rows = 1; waits = false; closes = false }

abbrev waits : Effect
waits = record { added = []; rows = 1; waits = true; closes = false }

abbrev closes : Effect
closes = record { added = at 0x8000_0004 ∷ exception 0x8000_0008 ∷ []; rows = 3; waits = false; closes = true }

names_of_the_columns :
    fields_line columns
    ≡ codes "kind,place,offset,hart,number,packet,addr,diff,priv,branch,trap,cause,tval,handler,epc,map,report,"
    ++ (codes "mode,ended,bad,waits,closed,treatment,reason,late,bytes,added,first_row,last_row,first,last,"
    ++ codes "first_symbol,first_distance,last_symbol,last_distance\n")
names_of_the_columns = refl

behind_a_header :
    placed_entries Table None Differential (placed 0 16 (opening ∷ synchronising ∷ waiting ∷ closing ∷ []))
    (nothing ∷ starts ∷ waits ∷ closes ∷ [])
    ≡ codes "message,0,00000010,0,0,open,,,,,,,,,,,,diff,,,no,no,,,,,0,,,,,,,,\n"
    ++ (codes "message,1,0000001c,0,1,sync,80000000,,3,1,,,,,,,,,,,no,no,,,,,1,1,1,80000000,80000000,,,,\n"
    ++ (codes "message,2,0000002c,0,2,address,,8,,,,,,,,-,plain,,,,yes,no,,,,,0,,,,,,,,\n"
    ++ codes "message,3,00000038,0,3,close,,,,,,,,,,,,,ended_ntr,,no,yes,,,,,2,2,3,80000004,80000008,,,,\n"))
unfolding digits extended magnitude
behind_a_header = refl

with_symbols_in_full :
    placed_entries Table symbols Full (placed 0 0 (opening ∷ synchronising ∷ waiting ∷ closing ∷ []))
    (nothing ∷ starts ∷ waits ∷ closes ∷ [])
    ≡ codes "message,0,00000000,0,0,open,,,,,,,,,,,,diff,,,no,no,,,,,0,,,,,,,,\n"
    ++ (codes "message,1,0000000c,0,1,sync,80000000,,3,1,,,,,,,,,,,no,no,,,,,1,1,1,80000000,80000000,_start,0,_start,0\n"
    ++ (codes "message,2,0000001c,0,2,address,8,,,,,,,,,-,plain,,,,yes,no,,,,,0,,,,,,,,\n"
    ++ codes "message,3,00000028,0,3,close,,,,,,,,,,,,,ended_ntr,,no,yes,,,,,2,2,3,80000004,80000008,loop,0,loop,4\n"))
unfolding digits extended magnitude
with_symbols_in_full = refl

-- A name with a comma, a blank and quotes is between quotes, and each quote in it is doubled.
with_an_awkward_name :
    effect_row (Some (codes "80000000 T a,b \"c\"\n")) Differential 1 28 synchronising starts
    ≡ codes "message,1,0000001c,0,1,sync,80000000,,3,1,,,,,,,,,,,no,no,,,,,1,1,1,80000000,80000000,\"a,b \"\"c\"\"\",0,"
    ++ codes "\"a,b \"\"c\"\"\",0\n"
unfolding digits escaped extended magnitude
with_an_awkward_name = refl

refused : refused_row Differential 5 0x1_2345_6789 (record { hart = 7; number = 12; payload = 0x4f ∷ 1 ∷ [] })
    ≡ codes "refused,5,123456789,7,12,bad,,,,,,,,,,,,,,Unsupported,,,,,,,,,,,,,,,\n"
unfolding digits extended magnitude
refused = refl

no_complete_message : incomplete_row 3 44 ≡ codes "incomplete,3,0000002c,,,,,,,,,,,,,,,,,,,,,,,,,,,,,,,,\n"
unfolding digits
no_complete_message = refl

-- An exception that is reported in its handler, an interrupt with the exception program counter, and a branch map.
exception_in_its_handler :
    fields_line (packet_fields Differential (Ok (packet.Trap true 3 8 false true 0x8000_0014 0x1234)))
    ≡ codes "trap,,,3,0,exception,8,1234,80000014,,,,,,\n"
unfolding digits
exception_in_its_handler = refl

interrupt_before_its_handler :
    fields_line (packet_fields Full (Ok (packet.Trap false 1 7 true false 0x8000_0010 0)))
    ≡ codes "trap,,,1,1,interrupt,7,,,80000010,,,,,\n"
unfolding digits
interrupt_before_its_handler = refl

branch_map : fields_line (packet_fields Full (Ok (packet.Map (true ∷ true ∷ false ∷ []))))
    ≡ codes "map,,,,,,,,,,001,,,,\n"
branch_map = refl
