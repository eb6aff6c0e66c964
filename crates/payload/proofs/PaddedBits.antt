-- What it takes that bits are read as a packet.
use Rattle.std.proofs.Common.{◌≡◌, ℕ, ◌-◌, ◌^◌, ◌<◌, inl, inr, ltb, Ok, Err, refl, subst, ltb-true, lt-ltb}
use Rattle.payload.specs.Extension.{magnitude}
use Rattle.payload.specs.PacketFields.{unused_bits, fields_with}
use Rattle.payload.specs.Profile.{InProfile}
use Rattle.payload.specs.steps.ReadingByKind.{padded}
use Rattle.payload.specs.declared.packet.Packet.{Packet}
use Rattle.payload.specs.declared.fault.PackFault.TheVariants.{BadPad}
use Rattle.payload.proofs.Choices.{chosen}
use Rattle.payload.proofs.Spells.{Spells}

-- 144 bits are a packet of the profile.
pub record IsRead (n : ℕ) (p : Packet) : Type 0 where
  pub profile : InProfile p
  pub spare : ℕ
  pub unused : spare < 2 ^ unused_bits p
  pub spells : Spells n (fields_with spare p)

pub padded_is : (w n : ℕ) (p q : Packet) → padded w n p ≡ Ok q → (p ≡ q) × (magnitude 144 n < 2 ^ (w - 1))
padded_is w n p q e =
    elim (chosen (ltb (magnitude 144 n) (2 ^ (w - 1))) (Ok p) (Err BadPad) (Ok q) e) [
      | inl (so, same) ↦ (cc, ltb-true _ _ so)
      | inr (other, same) ↦ absurd (cc)
    ]

pub padded_found : (w n : ℕ) (p q : Packet) → padded w n p ≡ Ok q → (magnitude 144 n < 2 ^ (w - 1) → IsRead n p)
    → IsRead n q
padded_found w n p q e read = let found = padded_is w n p q e in subst (λ r. IsRead n r) found.0 (read found.1)

pub padded_read : (w n : ℕ) (p : Packet) → magnitude 144 n < 2 ^ (w - 1) → padded w n p ≡ Ok p
padded_read w n p h = rw (lt-ltb _ _ h) refl
