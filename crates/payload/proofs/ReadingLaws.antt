-- What bytes unpack to, against what they spell.
use Rattle.std.proofs.Common.{◌≡◌, ℕ, ◌*◌, ◌^◌, ◌<◌, ◌≤◌, inl, inr, false, cond, ltb, ◌==◌, List, [], ◌∷◌, length}
use Rattle.std.proofs.Common.{Option, Some, None, Ok, Err, refl, sym, ◌∙◌, subst, arith, eqb-true, ne_eqb, ltb-false}
use Rattle.std.proofs.Common.{le-ltb}
use Rattle.std.proofs.lemmas.Bool.{eqb-false, and_parts}
use Rattle.std.proofs.lemmas.Nat.{pow_pos}
use Rattle.std.specs.Result.{result_err}
use Rattle.payload.specs.Bytes.{number, IsBytes}
use Rattle.payload.specs.PacketFields.{unused_bits, fields_with, fields}
use Rattle.payload.specs.Faults.{bits_of, part, is_sync, is_trap, is_support, is_address_alone}
use Rattle.payload.specs.Profile.{InProfile}
use Rattle.payload.specs.Reading.{fault_or, reading}
use Rattle.payload.specs.steps.ReadingByKind.{sync_reading, trap_reading, support_reading, address_reading}
use Rattle.payload.specs.steps.ReadingByKind.{branches_reading, reading_of_bits, reading_by_kind}
use Rattle.payload.specs.Spelling.{Spelt, IsShortest, payload_of}
use Rattle.payload.specs.declared.packet.Packet.{Packet}
use Rattle.payload.specs.declared.packet.Packet.TheVariants as packet
use Rattle.payload.specs.declared.packet.Support.TheVariants as support
use Rattle.payload.specs.declared.fault.PackFault.{PackFault}
use Rattle.payload.specs.declared.fault.PackFault.TheVariants.{Empty, TooLong, Unsupported}
use Rattle.payload.proofs.BranchBits.{plain_found, plain_read, branches_found, some_read, map_read_back}
use Rattle.payload.proofs.ByteLists.{number-lt}
use Rattle.payload.proofs.Choices.{chosen, chosen_of_5}
use Rattle.payload.proofs.Extending.{extended-lt}
use Rattle.payload.proofs.FirstFaults.{reading_by_kind-is}
use Rattle.payload.proofs.PaddedBits.{IsRead}
use Rattle.payload.proofs.Shortest.{same_from_extends, extends_from_same, is_shortest}
use Rattle.payload.proofs.FieldsFit.{fields_fit, fields_sound}
use Rattle.payload.proofs.Spells.{Spells, spells_from_fields, fields_from_spells}
use Rattle.payload.proofs.SupportBits.{support_found, support_read}
use Rattle.payload.proofs.SyncBits.{sync_found, sync_read}
use Rattle.payload.proofs.TrapBits.{trap_found, trap_read}

bits_found : (n : ℕ) (p : Packet) → reading_of_bits n ≡ Ok p → IsRead n p
bits_found n p e =
    elim (chosen_of_5 (is_sync n) (is_trap n) (is_support n) (is_address_alone n) (part n 0 2 == 1)
    (sync_reading n) (trap_reading n) (support_reading n) (address_reading n [] 2) (branches_reading n)
    (Err Unsupported) (Ok p) e) [
      | inl (so, same) ↦ let t = and_parts (part n 0 2 == 3) (part n 2 2 == 0) so in
          sync_found n p (eqb-true _ _ t.0) (eqb-true _ _ t.1) same
      | inr (inl (so, same)) ↦ let t = and_parts (part n 0 2 == 3) (part n 2 2 == 1) so in
          trap_found n p (eqb-true _ _ t.0) (eqb-true _ _ t.1) same
      | inr (inr (inl (so, same))) ↦ let t = and_parts (part n 0 2 == 3) (part n 2 2 == 3) so in
          support_found n p (eqb-true _ _ t.0) (eqb-true _ _ t.1) same
      | inr (inr (inr (inl (so, same)))) ↦ plain_found n p (eqb-true _ _ so) same
      | inr (inr (inr (inr (inl (so, same))))) ↦ branches_found n p (eqb-true _ _ so) same
      | inr (inr (inr (inr (inr same)))) ↦ absurd (cc)
    ]

bits_read : (n : ℕ) (p : Packet) → IsRead n p → reading_of_bits n ≡ Ok p
bits_read n (packet.Sync taken privilege address) h =
    rw (h.spells.holds.0, h.spells.holds.1.0) (sync_read n taken privilege address h)
bits_read n (packet.Trap taken privilege cause interrupt handler address tval) h =
    rw (h.spells.holds.0, h.spells.holds.1.0) (trap_read n taken privilege cause interrupt handler address tval h)
bits_read n (packet.Support (support.Open mode)) h =
    rw (h.spells.holds.0, h.spells.holds.1.0) (support_read n (support.Open mode) h)
bits_read n (packet.Support support.EndedRep) h =
    rw (h.spells.holds.0, h.spells.holds.1.0) (support_read n support.EndedRep h)
bits_read n (packet.Support support.EndedNtr) h =
    rw (h.spells.holds.0, h.spells.holds.1.0) (support_read n support.EndedNtr h)
bits_read n (packet.Address [] delta r) h = rw h.spells.holds.0 (plain_read n delta r h)
bits_read n (packet.Address (o ∷ os) delta r) h = rw h.spells.holds.0 (some_read n o os delta r h)
bits_read n (packet.Map os) h = rw h.spells.holds.0 (map_read_back n os h)

found_by_kind : (bytes : List ℕ) (p : Packet) → IsBytes bytes → reading_by_kind bytes ≡ Ok p
    → InProfile p × Spelt bytes p
unfolding reading_by_kind
found_by_kind bytes p each e =
    elim (chosen (length bytes == 0) (Err Empty) (cond (ltb 18 (length bytes)) (Err TooLong)
    (reading_of_bits (bits_of bytes))) (Ok p) e) [
      | inl (so, same) ↦ absurd (cc)
      | inr (some, rest) ↦
          elim (chosen (ltb 18 (length bytes)) (Err TooLong) (reading_of_bits (bits_of bytes)) (Ok p) rest) [
            | inl (so, same) ↦ absurd (cc)
            | inr (few, same) ↦
                let nonempty : 1 ≤ length bytes = (let ne = eqb-false _ _ some in omega arith) in
                let short : length bytes ≤ 18 = ltb-false _ _ few in
                let read = bits_found (bits_of bytes) p same in
                let sound = fields_sound read.spare p read.profile read.unused in
                let bound : bits_of bytes < 2 ^ 144 =
                extended-lt (8 * length bytes) (number bytes) (omega arith) (omega arith) (number-lt bytes each) in
                let extends =
                extends_from_same bytes (fields_with read.spare p) sound nonempty short each
                (fields_from_spells (bits_of bytes) (fields_with read.spare p) bound sound read.spells) in
                (read.profile, record { spare = read.spare; unused = read.unused; extends = extends })
          ]
    ]

only_by_kind : (bytes : List ℕ) (p : Packet) → InProfile p → Spelt bytes p → reading_by_kind bytes ≡ Ok p
unfolding reading_by_kind
only_by_kind bytes p h spelt =
    let extends = spelt.extends in
    let fs = fields_with spelt.spare p in
    let some = extends.some in
    let few = extends.few in
    let nonempty : (length bytes == 0) ≡ false = ne_eqb _ _ (λ e. absurd (omega arith)) in
    let short : ltb 18 (length bytes) ≡ false = le-ltb _ _ few in
    let sound = fields_sound spelt.spare p h spelt.unused in
    let same = same_from_extends bytes fs sound extends in
    let spells : Spells (bits_of bytes) fs =
    subst (λ n. Spells n fs) (sym same) (spells_from_fields fs (fields_fit spelt.spare p h spelt.unused) sound) in
    rw (nonempty, short) (bits_read (bits_of bytes) p (record
    { profile = h; spare = spelt.spare; unused = spelt.unused; spells = spells }))

-- What is read is of the profile and spelt so.
pub reading-found : (bytes : List ℕ) (p : Packet) → IsBytes bytes → reading bytes ≡ Ok p → InProfile p × Spelt bytes p
reading-found bytes p each e = found_by_kind bytes p each (reading_by_kind-is bytes each ∙ e)

-- What is of the profile and spelt so is read.
pub reading-only : (bytes : List ℕ) (p : Packet) → InProfile p → Spelt bytes p → reading bytes ≡ Ok p
reading-only bytes p h spelt = sym (reading_by_kind-is bytes spelt.extends.each) ∙ only_by_kind bytes p h spelt

pub result_err-fault_or : (fault : Option PackFault) (p : Packet) → result_err (fault_or fault p) ≡ fault
result_err-fault_or (Some fault) p = refl
result_err-fault_or None p = refl

-- The payload of a packet is its shortest spelling.
pub payload_of-shortest : (p : Packet) → InProfile p → IsShortest (payload_of p) (fields p)
payload_of-shortest p h = is_shortest (fields p) (fields_sound 0 p h (pow_pos (unused_bits p)))

-- Unpacking gives the packet back.
pub reading-payload_of : (p : Packet) → InProfile p → reading (payload_of p) ≡ Ok p
reading-payload_of p h =
    reading-only (payload_of p) p h (record {
      spare = 0;
      unused = pow_pos (unused_bits p);
      extends =
          (payload_of-shortest p h).extends;
    })
