-- What the first byte says of a payload that is not closing.
use Rattle.std.proofs.Common.{◌≡◌, ◌≢◌, ◌%◌, ◌≤◌, ℕ, Bool, true, false, cond}
use Rattle.std.proofs.Common.{List, [], ◌∷◌, length, get_or, Option, Some, None, refl, sym, ◌∙◌, arith}
use Rattle.std.proofs.lemmas.Grind.{common_steps}
use Rattle.payload.specs.Closing.{is_closing, is_closing_packet, is_closing_reading}
use Rattle.payload.specs.Extension.{extended}
use Rattle.payload.specs.Faults.{bits_of, is_sync, is_trap, is_support, is_address_alone, is_map_alone, first_fault}
use Rattle.payload.specs.Reading.{packet_in, fault_or}
use Rattle.payload.specs.declared.fault.PackFault.{PackFault}
use Rattle.payload.specs.declared.packet.Packet.{Packet}
use Rattle.payload.proofs.ByteLists.{power}

-- The lowest bits of a payload are the first byte's.
low_bits : (b : ℕ) (rest : List ℕ) → bits_of (b ∷ rest) % 16 ≡ b % 16
unfolding extended
low_bits b rest = grind (arith, common_steps, power (length rest))

-- Without these four bits, bits begin no support packet.
no_support : (n : ℕ) → n % 16 ≢ 15 → is_support n ≡ false
no_support n other = grind (arith, common_steps)

neither : (a : Bool) (p q : Packet) → is_closing_packet p ≡ false → is_closing_packet q ≡ false
    → is_closing_packet (cond a p q) ≡ false
neither true p q first second = first
neither false p q first second = second

other_packet : (n : ℕ) → is_support n ≡ false → is_closing_packet (packet_in n) ≡ false
other_packet n none =
    rw none (neither (is_sync n) _ _ refl (neither (is_trap n) _ _ refl (neither (is_address_alone n) _ _ refl
    (neither (is_map_alone n) _ _ refl refl))))

fault_or_other : (fault : Option PackFault) (p : Packet) → is_closing_packet p ≡ false
    → is_closing_reading (fault_or fault p) ≡ false
fault_or_other (Some fault) p e = refl
fault_or_other None p e = e

-- A closing payload's first byte has its four lowest bits set.
pub not_closing : (bytes : List ℕ) → 1 ≤ length bytes → get_or bytes 0 0 % 16 ≢ 15 → is_closing bytes ≡ false
not_closing [] some other = absurd (omega arith)
not_closing (b ∷ rest) some other =
    let n = bits_of (b ∷ rest) in
    fault_or_other (first_fault (b ∷ rest)) (packet_in n)
    (other_packet n (no_support n (λ e. other (sym (low_bits b rest) ∙ e))))
