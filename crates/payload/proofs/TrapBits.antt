-- Bits that read as a trap packet are its fields, and its fields read as the packet.
use Rattle.std.proofs.Common.{◌≡◌, ◌≢◌, ℕ, zero, suc, ◌-◌, ◌*◌, ◌^◌, ◌<◌, inl, inr, Bool, true, false, cond, ◌==◌, Ok}
use Rattle.std.proofs.Common.{Err, List, [], refl, arith, ne_eqb}
use Rattle.std.proofs.lemmas.Bool.{eqb-false}
use Rattle.payload.specs.Extension.{magnitude}
use Rattle.payload.specs.Faults.{part, is_interrupt, trap_width}
use Rattle.payload.specs.Fields.{Field}
use Rattle.payload.specs.PacketFields.{flag_of, trap_fields, value_fields}
use Rattle.payload.specs.Reading.{trap_from}
use Rattle.payload.specs.steps.ReadingByKind.{padded, trap_reading}
use Rattle.payload.specs.declared.packet.Packet.{Packet}
use Rattle.payload.specs.declared.packet.Packet.TheVariants as packet
use Rattle.payload.specs.declared.fault.PackFault.TheVariants.{BadPrivilege}
use Rattle.payload.proofs.Choices.{chosen}
use Rattle.payload.proofs.PaddedBits.{IsRead, padded_found, padded_read}
use Rattle.payload.proofs.Parts.{Holds}
use Rattle.payload.proofs.SyncBits.{branch_is, branch_back}

flag_is : (x : ℕ) → x < 2 → x ≡ flag_of (x == 1)
flag_is zero h = refl
flag_is (suc zero) h = refl
flag_is (suc (suc x)) h = absurd (omega arith)

flag_back : (x : ℕ) (holds : Bool) → x ≡ flag_of holds → (x == 1) ≡ holds
flag_back x true e = rw e refl
flag_back x false e = rw e refl

trap_holds : (n : ℕ) (interrupt : Bool) (behind : List Field) → part n 0 2 ≡ 3 → part n 2 2 ≡ 1
    → part n 13 1 ≡ flag_of interrupt → Holds n 78 behind
    → Holds n 0 (trap_fields (part n 4 1 == 0) (part n 5 2) (part n 7 6) interrupt (part n 14 1 == 1)
    (2 * part n 15 63) behind)
trap_holds n interrupt behind format subformat flag rest =
    let branch = branch_is (part n 4 1) (omega arith) in
    let handler = flag_is (part n 14 1) (omega arith) in
    (format, (subformat, (branch, (refl, (refl, (flag, (handler, (omega arith, rest))))))))

-- What is read of a trap whose interrupt bit is this.
trap_with : (n : ℕ) (interrupt : Bool) → part n 0 2 ≡ 3 → part n 2 2 ≡ 1 → part n 5 2 ≢ 2
    → part n 13 1 ≡ flag_of interrupt
    → magnitude 144 n < 2 ^ (cond interrupt 78 142 - 1)
    → IsRead n (packet.Trap (part n 4 1 == 0) (part n 5 2) (part n 7 6) interrupt (part n 14 1 == 1) (2 * part n 15 63)
    (cond interrupt 0 (part n 78 64)))
trap_with n true format subformat level flag width = record {
  profile = ((omega arith, level), omega arith, (omega arith, omega arith), refl);
  spare = 0;
  unused = omega arith;
  spells = record { holds = trap_holds n true [] format subformat flag tt; width = width };
}
trap_with n false format subformat level flag width = record {
  profile = ((omega arith, level), omega arith, (omega arith, omega arith), omega arith);
  spare = 0;
  unused = omega arith;
  spells = record {
    holds = trap_holds n false (value_fields false (part n 78 64)) format subformat flag (refl, tt);
    width = width;
  };
}

pub trap_found : (n : ℕ) (p : Packet) → part n 0 2 ≡ 3 → part n 2 2 ≡ 1 → trap_reading n ≡ Ok p → IsRead n p
unfolding trap_reading
trap_found n p format subformat e =
    elim (chosen (part n 5 2 == 2) (Err BadPrivilege) (padded (trap_width n) n (trap_from n)) (Ok p) e) [
      | inl (so, same) ↦ absurd (cc)
      | inr (other, same) ↦ padded_found (trap_width n) n (trap_from n) p same
          (trap_with n (is_interrupt n) format subformat (eqb-false _ _ other) (flag_is (part n 13 1) (omega arith)))
    ]

pub trap_read : (n : ℕ) (taken : Bool) (privilege cause : ℕ) (interrupt handler : Bool) (address tval : ℕ)
    → IsRead n (packet.Trap taken privilege cause interrupt handler address tval)
    → trap_reading n ≡ Ok (packet.Trap taken privilege cause interrupt handler address tval)
unfolding trap_reading
trap_read n taken privilege cause true handler address tval h =
    let fields = h.spells.holds.1.1 in
    let branch = branch_back (part n 4 1) taken fields.0 in
    let level = fields.1.0 in
    let why = fields.1.1.0 in
    let kind = fields.1.1.1.0 in
    let place = flag_back (part n 14 1) handler fields.1.1.1.1.0 in
    let even = h.profile.2.1 in
    let at = fields.1.1.1.1.1.0 in
    let whole : 2 * part n 15 63 ≡ address = omega arith in
    rw (branch, level, why, kind, place, whole, h.profile.3, ne_eqb privilege 2 h.profile.0.1)
    (padded_read 78 n _ h.spells.width)
trap_read n taken privilege cause false handler address tval h =
    let fields = h.spells.holds.1.1 in
    let branch = branch_back (part n 4 1) taken fields.0 in
    let level = fields.1.0 in
    let why = fields.1.1.0 in
    let kind = fields.1.1.1.0 in
    let place = flag_back (part n 14 1) handler fields.1.1.1.1.0 in
    let even = h.profile.2.1 in
    let at = fields.1.1.1.1.1.0 in
    let value = fields.1.1.1.1.1.1.0 in
    let whole : 2 * part n 15 63 ≡ address = omega arith in
    rw (branch, level, why, kind, place, whole, value, ne_eqb privilege 2 h.profile.0.1)
    (padded_read 142 n _ h.spells.width)
