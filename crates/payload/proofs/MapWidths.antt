-- How wide a branch map is.
use Rattle.std.proofs.Common.{◌≡◌, ℕ, suc, ◌+◌, ◌-◌, ◌*◌, ◌/◌, ◌%◌, ◌^◌, ◌<◌, ◌≤◌, inl, inr, sym, ap, ◌∙◌, arith}
use Rattle.std.proofs.Common.{le-ltb, lt-ltb}
use Rattle.std.proofs.Math.Nat.{mul-le-mul_left, mul-suc}
use Rattle.std.proofs.lemmas.Bool.{cases_lt}
use Rattle.std.proofs.lemmas.Nat.{mod_below, pow_pos, pow-add, shr-shr}
use Rattle.payload.specs.Faults.{part}
use Rattle.payload.specs.Outcomes.{map_width}
use Rattle.payload.proofs.Parts.{cut_in_two, halves}

-- A map has room for its outcomes and is at most 31 bits wide.
pub map_sizes : (count : ℕ) → count ≤ 31 → (count ≤ map_width count) × (map_width count ≤ 31)
map_sizes count few =
    elim (cases_lt count 2) [
      | inl less ↦ rw (lt-ltb _ _ less) (omega arith, omega arith)
      | inr more ↦ rw (le-ltb _ _ more)
          (elim (cases_lt count 4) [
            | inl less ↦ rw (lt-ltb _ _ less) (omega arith, omega arith)
            | inr more ↦ rw (le-ltb _ _ more)
                (elim (cases_lt count 8) [
                  | inl less ↦ rw (lt-ltb _ _ less) (omega arith, omega arith)
                  | inr more ↦ rw (le-ltb _ _ more)
                      (elim (cases_lt count 16) [
                        | inl less ↦ rw (lt-ltb _ _ less) (omega arith, omega arith)
                        | inr more ↦ rw (le-ltb _ _ more) (omega arith, omega arith)
                      ])
                ])
          ])
    ]

-- A map and what stands in its unused bits fit its width.
pub map-lt : (count width map spare : ℕ) → count ≤ width → map < 2 ^ count → spare < 2 ^ (width - count)
    → map + 2 ^ count * spare < 2 ^ width
map-lt count width map spare room below unused =
    let whole : 2 ^ width ≡ 2 ^ count * 2 ^ (width - count) =
    (let e : width ≡ count + (width - count) = omega arith in
    ap (λ x. 2 ^ x) e ∙ pow-add 2 count (width - count)) in
    let step : 2 ^ count * suc spare ≤ 2 ^ count * 2 ^ (width - count) = mul-le-mul_left (2 ^ count) unused in
    let more : 2 ^ count * suc spare ≡ 2 ^ count * spare + 2 ^ count = mul-suc (2 ^ count) spare in
    rw whole (omega arith)

-- A map is its outcomes' bits and the unused ones.
pub map_parts : (n from count width : ℕ) → count ≤ width
    → part n from width ≡ part n from count + 2 ^ count * part n (from + count) (width - count)
map_parts n from count width room =
    let e : width ≡ count + (width - count) = omega arith in
    ap (part n from) e ∙ cut_in_two (n / 2 ^ from) count (width - count)
    ∙ ap (λ x. part n from count + 2 ^ count * (x % 2 ^ (width - count))) (shr-shr n from count)

pub part-lt : (n from width : ℕ) → part n from width < 2 ^ width
part-lt n from width = mod_below (n / 2 ^ from) (2 ^ width) (pow_pos width)

-- The outcomes' bits come back from a map with unused bits.
pub map_read : (n from count width map spare : ℕ) → count ≤ width → map < 2 ^ count
    → part n from width ≡ map + 2 ^ count * spare → part n from count ≡ map
map_read n from count width map spare room below e =
    (halves count (part n from count) (part n (from + count) (width - count)) map spare (part-lt n from count) below
    (sym (map_parts n from count width room) ∙ e)).0
