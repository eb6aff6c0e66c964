-- Bits that read as a support packet are its fields, and its fields read as the packet.
use Rattle.std.proofs.Common.{◌≡◌, ℕ, ◌^◌, ◌<◌, inl, inr, true, ◌==◌, ◌&&◌, Ok, Err, arith, eqb-true, refl, subst, sym}
use Rattle.std.proofs.lemmas.Bool.{and_parts}
use Rattle.payload.specs.Extension.{magnitude}
use Rattle.payload.specs.Faults.{part}
use Rattle.payload.specs.PacketFields.{fields_with, support_fields}
use Rattle.payload.specs.steps.ReadingByKind.{has_fields, padded, support_reading}
use Rattle.payload.specs.declared.mode.Mode.TheVariants as mode
use Rattle.payload.specs.declared.packet.Packet.{Packet}
use Rattle.payload.specs.declared.packet.Packet.TheVariants as packet
use Rattle.payload.specs.declared.packet.Support.{Support}
use Rattle.payload.specs.declared.packet.Support.TheVariants as support
use Rattle.payload.specs.declared.fault.PackFault.TheVariants.{Unsupported}
use Rattle.payload.proofs.Choices.{chosen_of_4}
use Rattle.payload.proofs.PaddedBits.{IsRead, padded_found, padded_read}
use Rattle.payload.proofs.Parts.{Holds}
use Rattle.payload.proofs.Spells.{Spells}

-- The fields by which support packets differ.
record AreFields (n enable status options : ℕ) : Type 0 where
  pub enable_is : part n 4 2 ≡ enable
  pub status_is : part n 6 2 ≡ status
  pub options_are : part n 8 5 ≡ options

fields_found : (n enable status options : ℕ) → has_fields n enable status options ≡ true
    → AreFields n enable status options
fields_found n enable status options e =
    let t = and_parts (part n 4 2 == enable) ((part n 6 2 == status) && (part n 8 5 == options)) e in
    let u = and_parts (part n 6 2 == status) (part n 8 5 == options) t.1 in
    record { enable_is = eqb-true _ _ t.0; status_is = eqb-true _ _ u.0; options_are = eqb-true _ _ u.1 }

support_holds : (n ienable status options : ℕ) → part n 0 2 ≡ 3 → part n 2 2 ≡ 3 → ienable < 2
    → AreFields n ienable status options → Holds n 0 (support_fields ienable status options)
support_holds n ienable status options format subformat small are =
    let enable = are.enable_is in
    (format, (subformat, (omega arith, (omega arith, (are.status_is, (are.options_are, tt))))))

-- Bits with the fields of a support packet are read as it.
is_read : (n ienable status options : ℕ) (s : Support) → part n 0 2 ≡ 3 → part n 2 2 ≡ 3 → ienable < 2
    → fields_with 0 (packet.Support s) ≡ support_fields ienable status options
    → has_fields n ienable status options ≡ true → magnitude 144 n < 2 ^ 12 → IsRead n (packet.Support s)
is_read n ienable status options s format subformat small same so width = record {
  profile = tt;
  spare = 0;
  unused = omega arith;
  spells = subst (Spells n) (sym same) (record {
    holds = support_holds n ienable status options format subformat small (fields_found n ienable status options so);
    width = width;
  });
}

pub support_found : (n : ℕ) (p : Packet) → part n 0 2 ≡ 3 → part n 2 2 ≡ 3 → support_reading n ≡ Ok p → IsRead n p
unfolding support_reading
support_found n p format subformat e =
    elim (chosen_of_4 (has_fields n 1 0 0) (has_fields n 1 0 1) (has_fields n 0 1 0) (has_fields n 0 3 0)
    (padded 13 n (packet.Support (support.Open mode.Differential)))
    (padded 13 n (packet.Support (support.Open mode.Full)))
    (padded 13 n (packet.Support support.EndedRep)) (padded 13 n (packet.Support support.EndedNtr))
    (Err Unsupported) (Ok p) e) [
      | inl (so, same) ↦
          padded_found 13 n _ p same
          (is_read n 1 0 0 (support.Open mode.Differential) format subformat (omega arith) refl so)
      | inr (inl (so, same)) ↦
          padded_found 13 n _ p same
          (is_read n 1 0 1 (support.Open mode.Full) format subformat (omega arith) refl so)
      | inr (inr (inl (so, same))) ↦
          padded_found 13 n _ p same (is_read n 0 1 0 support.EndedRep format subformat (omega arith) refl so)
      | inr (inr (inr (inl (so, same)))) ↦
          padded_found 13 n _ p same (is_read n 0 3 0 support.EndedNtr format subformat (omega arith) refl so)
      | inr (inr (inr (inr same))) ↦ absurd (cc)
    ]

pub support_read : (n : ℕ) (s : Support) → IsRead n (packet.Support s) → support_reading n ≡ Ok (packet.Support s)
unfolding support_reading
support_read n (support.Open mode.Differential) h =
    let first : part n 4 2 ≡ 1 = omega (arith, h.spells.holds.1.1.0, h.spells.holds.1.1.1.0) in
    rw (first, h.spells.holds.1.1.1.1.0, h.spells.holds.1.1.1.1.1.0) (padded_read 13 n _ h.spells.width)
support_read n (support.Open mode.Full) h =
    let first : part n 4 2 ≡ 1 = omega (arith, h.spells.holds.1.1.0, h.spells.holds.1.1.1.0) in
    rw (first, h.spells.holds.1.1.1.1.0, h.spells.holds.1.1.1.1.1.0) (padded_read 13 n _ h.spells.width)
support_read n support.EndedRep h =
    let first : part n 4 2 ≡ 0 = omega (arith, h.spells.holds.1.1.0, h.spells.holds.1.1.1.0) in
    rw (first, h.spells.holds.1.1.1.1.0, h.spells.holds.1.1.1.1.1.0) (padded_read 13 n _ h.spells.width)
support_read n support.EndedNtr h =
    let first : part n 4 2 ≡ 0 = omega (arith, h.spells.holds.1.1.0, h.spells.holds.1.1.1.0) in
    rw (first, h.spells.holds.1.1.1.1.0, h.spells.holds.1.1.1.1.1.0) (padded_read 13 n _ h.spells.width)
