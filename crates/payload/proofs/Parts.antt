-- A number's lowest bits are joined fields exactly where each part is its field.
use Rattle.std.proofs.Common.{◌≡◌, ℕ, suc, ◌+◌, ◌*◌, ◌/◌, ◌%◌, ◌^◌, ◌<◌, ◌≤◌, List, [], ◌∷◌, sym, ap, ◌∙◌, arith}
use Rattle.std.proofs.Math.Nat.{mul-le-mul_left, mul-suc}
use Rattle.std.proofs.lemmas.Nat.{mod-pow-add, shr-shr, mod_low, shr_high, pow-add, mod_below, pow_pos}
use Rattle.payload.specs.Fields.{Field, total, joined}
use Rattle.payload.specs.Faults.{part}

abbrev pub Fit : List Field → Type 0
Fit [] = Unit {0}
Fit (f ∷ fs) = (f.value < 2 ^ f.width) × Fit fs

abbrev pub Holds : ℕ → ℕ → List Field → Type 0
Holds n at [] = Unit {0}
Holds n at (f ∷ fs) = (part n at f.width ≡ f.value) × Holds n (at + f.width) fs

-- A number cut in two.
pub cut_in_two : (m w t : ℕ) → m % 2 ^ (w + t) ≡ m % 2 ^ w + 2 ^ w * (m / 2 ^ w % 2 ^ t)
cut_in_two m w t = let e : w + t ≡ t + w = omega arith in ap (λ x. m % 2 ^ x) e ∙ mod-pow-add m t w ∙ omega arith

-- Both halves of equal sums are equal.
pub halves : (w a b v j : ℕ) → a < 2 ^ w → v < 2 ^ w → a + 2 ^ w * b ≡ v + 2 ^ w * j → (a ≡ v) × (b ≡ j)
halves w a b v j ha hv e =
    let turned : b * 2 ^ w + a ≡ j * 2 ^ w + v = omega arith in (
      sym (mod_low b w a ha) ∙ ap (λ x. x % 2 ^ w) turned ∙ mod_low j w v hv,
      sym (shr_high b w a ha) ∙ ap (λ x. x / 2 ^ w) turned ∙ shr_high j w v hv,
    )

pub holds_from_joined : (n at : ℕ) (fs : List Field) → Fit fs → n / 2 ^ at % 2 ^ total fs ≡ joined fs → Holds n at fs
holds_from_joined n at [] fit e = tt
holds_from_joined n at (f ∷ fs) fit e =
    let m = n / 2 ^ at in
    let split = cut_in_two m f.width (total fs) in
    let both =
    halves f.width (m % 2 ^ f.width) (m / 2 ^ f.width % 2 ^ total fs) f.value (joined fs)
    (mod_below m (2 ^ f.width) (pow_pos f.width)) fit.0 (sym split ∙ e) in
    let next : n / 2 ^ (at + f.width) % 2 ^ total fs ≡ joined fs =
    ap (λ x. x % 2 ^ total fs) (sym (shr-shr n at f.width)) ∙ both.1 in
    (both.0, holds_from_joined n (at + f.width) fs fit.1 next)

pub joined_from_holds : (n at : ℕ) (fs : List Field) → Holds n at fs → n / 2 ^ at % 2 ^ total fs ≡ joined fs
joined_from_holds n at [] h = omega arith
joined_from_holds n at (f ∷ fs) h =
    let m = n / 2 ^ at in
    let next : m / 2 ^ f.width % 2 ^ total fs ≡ joined fs =
    ap (λ x. x % 2 ^ total fs) (shr-shr n at f.width) ∙ joined_from_holds n (at + f.width) fs h.1 in
    cut_in_two m f.width (total fs) ∙ ap (λ x. x + 2 ^ f.width * (m / 2 ^ f.width % 2 ^ total fs)) h.0
    ∙ ap (λ x. f.value + 2 ^ f.width * x) next

pub joined-lt : (fs : List Field) → Fit fs → joined fs < 2 ^ total fs
joined-lt [] fit = omega arith
joined-lt (f ∷ fs) fit =
    let next = joined-lt fs fit.1 in
    let here : f.value < 2 ^ f.width = fit.0 in
    let step : 2 ^ f.width * suc (joined fs) ≤ 2 ^ f.width * 2 ^ total fs = mul-le-mul_left (2 ^ f.width) next in
    let more : 2 ^ f.width * suc (joined fs) ≡ 2 ^ f.width * joined fs + 2 ^ f.width =
    mul-suc (2 ^ f.width) (joined fs) in
    rw (pow-add 2 f.width (total fs)) (omega arith)
