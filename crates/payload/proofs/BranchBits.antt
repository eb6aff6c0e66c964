-- Bits that read as an address packet or as a map are its fields, and its fields read as the packet.
use Rattle.std.proofs.Common.{◌≡◌, ℕ, ◌+◌, ◌-◌, ◌/◌, ◌^◌, ◌≤◌, inl, inr, ◌==◌, Bool, false, List, [], ◌∷◌, length, Ok}
use Rattle.std.proofs.Common.{refl, sym, ap, ◌∙◌, subst, arith, eqb-true, ne_eqb}
use Rattle.std.proofs.lemmas.Bool.{eqb-false}
use Rattle.payload.specs.Faults.{part, address_behind_map}
use Rattle.payload.specs.Fields.{total}
use Rattle.payload.specs.Outcomes.{outcomes_in_map, map_width, map_of}
use Rattle.payload.specs.OutcomesInverse.{length_outcomes, map_outcomes}
use Rattle.payload.specs.PacketFields.{unused_bits, branches_fields, address_fields, fields_with}
use Rattle.payload.specs.Reading.{outcomes_from}
use Rattle.payload.specs.steps.ReadingByKind.{map_reading, address_reading, branches_reading}
use Rattle.payload.specs.declared.packet.Packet.{Packet}
use Rattle.payload.specs.declared.packet.Packet.TheVariants as packet
use Rattle.payload.specs.declared.packet.Report.{Report}
use Rattle.payload.proofs.AddressBits.{HasAddress, address_found, address_read}
use Rattle.payload.proofs.Choices.{chosen}
use Rattle.payload.proofs.MapWidths.{map_sizes, map_parts, map_read, part-lt}
use Rattle.payload.proofs.OutcomeMaps.{map_of-lt, outcomes_of_map}
use Rattle.payload.proofs.PaddedBits.{IsRead, padded_found, padded_read}
use Rattle.payload.proofs.Parts.{Holds}
use Rattle.payload.proofs.FieldsFit.{total-report_fields}

pub plain_found : (n : ℕ) (p : Packet) → part n 0 2 ≡ 2 → address_reading n [] 2 ≡ Ok p → IsRead n p
plain_found n p format e =
    let found = address_found n [] 2 p e in
    subst (λ q. IsRead n q) found.is (record {
      profile = (omega arith, found.even);
      spare = 0;
      unused = omega arith;
      spells = record {
        holds = (format, found.holds);
        width = rw (total-report_fields (found.delta / 2 ^ 63) found.report) found.width;
      };
    })

pub plain_read : (n delta : ℕ) (r : Report) → IsRead n (packet.Address [] delta r)
    → address_reading n [] 2 ≡ Ok (packet.Address [] delta r)
plain_read n delta r h =
    address_read n [] 2 delta r h.profile.1 h.spells.holds.1
    (rw (total-report_fields (delta / 2 ^ 63) r) at h.spells.width)

-- A packet with outcomes has a branch map.
fields_of_some : (spare : ℕ) (os : List Bool) (delta : ℕ) (r : Report) → 1 ≤ length os
    → fields_with spare (packet.Address os delta r) ≡ branches_fields spare os delta r
fields_of_some spare [] delta r h = absurd (omega arith)
fields_of_some spare (o ∷ os) delta r h = refl

unused_of_some : (os : List Bool) (delta : ℕ) (r : Report) → 1 ≤ length os
    → unused_bits (packet.Address os delta r) ≡ map_width (length os) - length os
unused_of_some [] delta r h = absurd (omega arith)
unused_of_some (o ∷ os) delta r h = refl

-- The width of a packet with a branch map.
total-branches : (spare : ℕ) (os : List Bool) (delta : ℕ) (r : Report)
    → total (branches_fields spare os delta r) ≡ 7 + map_width (length os) + 66
total-branches spare os delta r = let tail = total-report_fields (delta / 2 ^ 63) r in omega arith

branches_hold : (n count delta : ℕ) (r : Report) → part n 0 2 ≡ 1 → part n 2 5 ≡ count → count ≤ 31
    → Holds n (7 + map_width count) (address_fields delta r)
    → Holds n 0 (branches_fields (part n (7 + count) (map_width count - count)) (outcomes_from n count) delta r)
branches_hold n count delta r format branches few h =
    rw (length_outcomes count (part n 7 count), map_outcomes count (part n 7 count) (part-lt n 7 count))
    (format, (branches, (map_parts n 7 count (map_width count) (map_sizes count few).0, h)))

some_found : (n count : ℕ) (p : Packet) → part n 0 2 ≡ 1 → part n 2 5 ≡ count → 1 ≤ count → count ≤ 31
    → HasAddress n (7 + map_width count) (outcomes_from n count) p → IsRead n p
some_found n count p format branches some few found =
    let os = outcomes_from n count in
    let spare = part n (7 + count) (map_width count - count) in
    let size : length os ≡ count = length_outcomes count (part n 7 count) in
    let nonempty : 1 ≤ length os = omega arith in
    subst (λ q. IsRead n q) found.is (record {
      profile = (omega arith, found.even);
      spare = spare;
      unused = rw (unused_of_some os found.delta found.report nonempty, size)
          (part-lt n (7 + count) (map_width count - count));
      spells = rw (fields_of_some spare os found.delta found.report nonempty) (record {
        holds = branches_hold n count found.delta found.report format branches few found.holds;
        width = rw (total-branches spare os found.delta found.report, size) found.width;
      });
    })

map_found : (n : ℕ) (p : Packet) → part n 0 2 ≡ 1 → part n 2 5 ≡ 0 → map_reading n ≡ Ok p → IsRead n p
unfolding map_reading
map_found n p format branches e =
    padded_found 38 n _ p e (λ width. record {
      profile = length_outcomes 31 (part n 7 31);
      spare = 0;
      unused = omega arith;
      spells = record {
        holds = (format, (branches, (sym (map_outcomes 31 (part n 7 31) (part-lt n 7 31)), tt)));
        width = width;
      };
    })

pub branches_found : (n : ℕ) (p : Packet) → part n 0 2 ≡ 1 → branches_reading n ≡ Ok p → IsRead n p
branches_found n p format e =
    elim (chosen (part n 2 5 == 0) (map_reading n) (address_reading n (outcomes_from n (part n 2 5))
    (address_behind_map n)) (Ok p) e) [
      | inl (so, same) ↦ map_found n p format (eqb-true _ _ so) same
      | inr (other, same) ↦
          let nonzero = eqb-false _ _ other in
          let small = part-lt n 2 5 in
          some_found n (part n 2 5) p format refl (omega arith) (omega arith)
          (address_found n (outcomes_from n (part n 2 5)) (address_behind_map n) p same)
    ]

pub some_read : (n : ℕ) (o : Bool) (os : List Bool) (delta : ℕ) (r : Report)
    → IsRead n (packet.Address (o ∷ os) delta r)
    → branches_reading n ≡ Ok (packet.Address (o ∷ os) delta r)
some_read n o os delta r h =
    let all = o ∷ os in
    let count = length all in
    let branches : part n 2 5 ≡ count = h.spells.holds.1.0 in
    let map : part n 7 count ≡ map_of all =
    map_read n 7 count (map_width count) (map_of all) h.spare (map_sizes count h.profile.0).0 (map_of-lt all)
    h.spells.holds.1.1.0 in
    let taken : outcomes_from n count ≡ all = ap (outcomes_in_map count) map ∙ outcomes_of_map all in
    let nonzero : (count == 0) ≡ false = ne_eqb count 0 (λ e. absurd (omega arith)) in
    rw (branches, nonzero, taken)
    (address_read n all (7 + map_width count) delta r h.profile.1 h.spells.holds.1.1.1
    (rw (total-branches h.spare all delta r) at h.spells.width))

pub map_read_back : (n : ℕ) (os : List Bool) → IsRead n (packet.Map os) → branches_reading n ≡ Ok (packet.Map os)
unfolding map_reading
map_read_back n os h =
    let branches : part n 2 5 ≡ 0 = h.spells.holds.1.0 in
    let map : part n 7 31 ≡ map_of os = h.spells.holds.1.1.0 in
    let size : length os ≡ 31 = h.profile in
    let taken : outcomes_from n 31 ≡ os =
    ap (outcomes_in_map 31) map ∙ ap (λ k. outcomes_in_map k (map_of os)) (sym size) ∙ outcomes_of_map os in
    rw (branches, taken) (padded_read 38 n (packet.Map os) h.spells.width)
