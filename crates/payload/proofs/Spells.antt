-- A number of 144 bits begins with a list of fields and goes on with copies of their last bit.
use Rattle.std.proofs.Common.{◌≡◌, ℕ, ◌-◌, ◌/◌, ◌%◌, ◌^◌, ◌<◌, List, sym, ap, ◌∙◌, arith}
use Rattle.payload.specs.Extension.{extended, magnitude}
use Rattle.payload.specs.Fields.{Field, total, joined}
use Rattle.payload.proofs.Extending.{extended_mod, magnitude-lt, magnitude_extended, cut}
use Rattle.payload.proofs.Parts.{Fit, Holds, holds_from_joined, joined_from_holds}
use Rattle.payload.proofs.Shortest.{AreSound}

-- Each part is its field, and all further bits are copies of the last.
pub record Spells (n : ℕ) (fs : List Field) : Type 0 where
  pub holds : Holds n 0 fs
  pub width : magnitude 144 n < 2 ^ (total fs - 1)

whole_number : (n : ℕ) → n / 2 ^ 0 ≡ n
whole_number n = omega arith

pub spells_from_fields : (fs : List Field) → Fit fs → AreSound fs → Spells (extended (total fs) (joined fs)) fs
spells_from_fields fs fit s =
    let n = extended (total fs) (joined fs) in
    let lowest : n / 2 ^ 0 % 2 ^ total fs ≡ joined fs =
    ap (λ x. x % 2 ^ total fs) (whole_number n) ∙ extended_mod (total fs) (joined fs) s.some s.few s.fits in
    record {
      holds = holds_from_joined n 0 fs fit lowest;
      width = rw (magnitude_extended (total fs) (joined fs) s.some s.few s.fits)
          (magnitude-lt (total fs) (joined fs) s.some s.few s.fits);
    }

pub fields_from_spells : (n : ℕ) (fs : List Field) → n < 2 ^ 144 → AreSound fs → Spells n fs
    → n ≡ extended (total fs) (joined fs)
fields_from_spells n fs bound s h =
    let lowest : n % 2 ^ total fs ≡ joined fs =
    ap (λ x. x % 2 ^ total fs) (sym (whole_number n)) ∙ joined_from_holds n 0 fs h.holds in
    sym (ap (extended (total fs)) (sym lowest) ∙ cut (total fs) n s.some s.few bound h.width)
