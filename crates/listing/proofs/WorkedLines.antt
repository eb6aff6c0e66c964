-- Lines that were worked by hand, as the definitions give them.
use Rattle.std.proofs.Common.{◌≡◌, ℕ, true, false, List, [], ◌∷◌, ◌++◌, Option, Some, None, refl}
use Rattle.std.specs.Prelude.{codes}
use Rattle.std.specs.Fmt.{digits}
use Rattle.retire.specs.declared.event.Event.{Event}
use Rattle.retire.specs.declared.event.Event.TheVariants.{Retire, Trap}
use Rattle.rvclass.specs.Words.{Words}
use Rattle.payload.specs.Extension.{extended, magnitude}
use Rattle.payload.specs.declared.mode.Mode.TheVariants.{Differential, Full}
use Rattle.message.specs.declared.message.Message.{Message}
use Rattle.listing.specs.Effect.{Effect, HasEffect}
use Rattle.listing.specs.EffectText.{added_text, effect_text, place_text, places_text}
use Rattle.listing.specs.Entries.{placed_entries}
use Rattle.listing.specs.Lines.{offset_line, refused_line}
use Rattle.listing.specs.Placed.{placed}
use Rattle.listing.specs.SettledRows.{rows_text}
use Rattle.listing.specs.declared.form.Form.TheVariants.{Lines}

-- A retirement at machine level, and an exception.
abbrev pub at : ℕ → Event
at address = Retire address 0 3

abbrev pub exception : ℕ → Event
exception epc = Trap 3 false 2 epc 0x1234

abbrev pub symbols : Option (List ℕ)
symbols = Some (codes "80000004 t loop\n80000000 T _start\n80000010 D data\n")

-- The messages of a hart: its trace is opened, synchronised, goes on with a packet that waits, and is closed.
abbrev message : ℕ → List ℕ → Message
message number payload = record { hart = 0; number = number; payload = payload }

abbrev pub opening : Message
opening = message 0 (0x1f ∷ [])

abbrev pub synchronising : Message
synchronising = message 1 (0x73 ∷ 0 ∷ 0 ∷ 0 ∷ 0x20 ∷ [])

abbrev pub waiting : Message
waiting = message 2 (0x12 ∷ [])

abbrev pub closing : Message
closing = message 3 (0xcf ∷ 0 ∷ [])

abbrev effects : List Effect
effects =
    record { added = []; rows = 0; waits = false; closes = false }
    ∷ record { added = at 0x8000_0000 ∷ []; rows = 1; waits = false; closes = false }
    ∷ record { added = []; rows = 1; waits = true; closes = false }
    ∷ record { added = at 0x8000_0004 ∷ exception 0x8000_0008 ∷ []; rows = 3; waits = false; closes = true } ∷ []

behind_a_header :
    placed_entries (Lines false) None Differential (placed 0 16 (opening ∷ synchronising ∷ waiting ∷ closing ∷ [])) effects
    ≡ codes "00000010 0 0 open => nothing\n"
    ++ (codes "0000001c 0 1 sync addr=80000000 priv=3 branch=1 => 1 event, 80000000\n"
    ++ (codes "0000002c 0 2 address diff=8 map=- plain => nothing, waits\n"
    ++ codes "00000038 0 3 close ended_ntr => 2 events, 80000004 to 80000008, closed\n"))
unfolding digits extended magnitude
behind_a_header = refl

with_symbols_and_rows_in_full :
    placed_entries (Lines true) symbols Full (placed 0 0 (opening ∷ synchronising ∷ waiting ∷ closing ∷ [])) effects
    ≡ codes "00000000 0 0 open => nothing\n"
    ++ (codes "0000000c 0 1 sync addr=80000000 priv=3 branch=1 => 1 event, 80000000 <_start+0>, row 1\n"
    ++ (codes "0000001c 0 2 address addr=8 map=- plain => nothing, waits\n"
    ++ codes "00000028 0 3 close ended_ntr => 2 events, 80000004 <loop+0> to 80000008 <loop+4>, rows 2 to 3, closed\n"))
unfolding digits extended magnitude
with_symbols_and_rows_in_full = refl

of_three_the_first_and_the_last :
    added_text None (at 0x10 ∷ at 0x20 ∷ at 0x30 ∷ []) ≡ codes "3 events, 10 to 30"
unfolding digits
of_three_the_first_and_the_last = refl

no_places : places_text symbols 0 0x8000_0004 0x8000_0004 ≡ codes "nothing"
no_places = refl

one_place : places_text symbols 1 0x8000_0004 0xff ≡ codes "1 event, 80000004 <loop+0>"
unfolding digits
one_place = refl

two_places : places_text symbols 12 0x8000_0004 0xff ≡ codes "12 events, 80000004 <loop+0> to ff"
unfolding digits
two_places = refl

below_all_symbols : place_text symbols 0xff ≡ codes "ff"
unfolding digits
below_all_symbols = refl

at_address_0 : place_text None 0 ≡ codes "0"
unfolding digits
at_address_0 = refl

waits_and_closes :
    effect_text true None (record { added = at 2 ∷ []; rows = 77; waits = true; closes = true })
    ≡ codes "1 event, 2, row 77, waits, closed"
unfolding digits
waits_and_closes = refl

refused : refused_line Differential 0x1_2345_6789 (record { hart = 7; number = 12; payload = 0x4f ∷ 1 ∷ [] })
    ≡ codes "123456789 7 12 bad Unsupported\n"
unfolding digits extended magnitude
refused = refl

no_message : offset_line 44 ≡ codes "0000002c\n"
unfolding digits
no_message = refl

of_many_rows_the_last_is_counted_with : rows_text 29 12 ≡ codes ", rows 18 to 29"
unfolding digits
of_many_rows_the_last_is_counted_with = refl

-- A message that opens a trace has no other effect, by any program.
opens : (words : Words) → HasEffect words [] opening (record { added = []; rows = 0; waits = false; closes = false })
unfolding extended magnitude
opens words = record {
  earlier = [];
  described_before = record { begins = tt; pieces = []; whole = refl; legal = tt; each = tt };
  described = record { begins = tt; pieces = [] ∷ []; whole = refl; legal = tt; each = (tt, refl, tt) };
  counted = refl;
  waiting = refl;
  closing = refl;
}
