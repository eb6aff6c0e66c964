-- Bits that read as a sync packet are its fields, and its fields read as the packet.
use Rattle.std.proofs.Common.{◌≡◌, ◌≢◌, ℕ, zero, suc, ◌*◌, ◌/◌, ◌<◌, inl, inr, Bool, true, false, eqb, ◌==◌, Ok, Err}
use Rattle.std.proofs.Common.{refl, arith, eq-eqb, ne_eqb}
use Rattle.payload.specs.Faults.{part}
use Rattle.payload.specs.PacketFields.{branch_of}
use Rattle.payload.specs.steps.ReadingByKind.{padded, sync_reading}
use Rattle.payload.specs.declared.packet.Packet.{Packet}
use Rattle.payload.specs.declared.packet.Packet.TheVariants as packet
use Rattle.payload.specs.declared.fault.PackFault.TheVariants.{BadPrivilege}
use Rattle.payload.proofs.Choices.{chosen}
use Rattle.payload.proofs.PaddedBits.{IsRead, padded_found, padded_read}

pub branch_is : (x : ℕ) → x < 2 → x ≡ branch_of (x == 0)
branch_is zero h = refl
branch_is (suc zero) h = refl
branch_is (suc (suc x)) h = absurd (omega arith)

pub branch_back : (x : ℕ) (taken : Bool) → x ≡ branch_of taken → (x == 0) ≡ taken
branch_back x true e = rw e refl
branch_back x false e = rw e refl

pub sync_found : (n : ℕ) (p : Packet) → part n 0 2 ≡ 3 → part n 2 2 ≡ 0 → sync_reading n ≡ Ok p → IsRead n p
unfolding sync_reading
sync_found n p format subformat e =
    elim (chosen (eqb (part n 5 2) 2) (Err BadPrivilege) (padded 70 n
    (packet.Sync (eqb (part n 4 1) 0) (part n 5 2) (2 * part n 7 63))) (Ok p) e) [
      | inl (so, same) ↦ absurd (cc)
      | inr (other, same) ↦
          let level : part n 5 2 ≢ 2 =
          λ is. absurd (let t : eqb (part n 5 2) 2 ≡ true = eq-eqb (part n 5 2) 2 is in cc) in
          padded_found 70 n _ p same (λ width. record {
            profile = ((omega arith, level), (omega arith, omega arith));
            spare = 0;
            unused = omega arith;
            spells = record {
              holds = (format, (subformat, (branch_is (part n 4 1) (omega arith), (refl, (omega arith, tt)))));
              width = width;
            };
          })
    ]

pub sync_read : (n : ℕ) (taken : Bool) (privilege address : ℕ) → IsRead n (packet.Sync taken privilege address)
    → sync_reading n ≡ Ok (packet.Sync taken privilege address)
unfolding sync_reading
sync_read n taken privilege address h =
    let branch = branch_back (part n 4 1) taken h.spells.holds.1.1.0 in
    let level = h.spells.holds.1.1.1.0 in
    let place = h.spells.holds.1.1.1.1.0 in
    let even = h.profile.1.1 in
    let whole : 2 * (address / 2) ≡ address = omega arith in
    rw (branch, level, place, whole, ne_eqb privilege 2 h.profile.0.1) (padded_read 70 n _ h.spells.width)
