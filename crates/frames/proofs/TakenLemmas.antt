-- Firm messages of a kind at a row of places.
use Rattle.std.proofs.Common.{◌≡◌, ◌<◌, ◌≤◌, ◌+◌, ◌-◌, ℕ, zero, suc, true, false, List, drop, refl, ap, ◌∙◌, arith}
use Rattle.std.proofs.lemmas.List.{drop-drop}
use Rattle.std.proofs.lemmas.Bool.{or_left, or_right, or_from}
use Rattle.frames.specs.Frame.{frame_size}
use Rattle.frames.specs.Taken.{Kind, has_firm, has_firm_inside, is_firm}

-- A place after the first is a place of what follows the first byte.
pub drop_later : (k : ℕ) (xs : List ℕ) → drop k (drop 1 xs) ≡ drop (suc k) xs
drop_later k xs = drop-drop k 1 xs ∙ ap (λ (n : ℕ). drop n xs) (let e : 1 + k ≡ suc k = omega arith in e)

-- A firm one at one of the places is one among them.
pub has_firm-here : (kind : Kind) (n k : ℕ) (xs : List ℕ) → k < n → is_firm kind (drop k xs) ≡ true
    → has_firm kind n xs ≡ true
has_firm-here kind zero k xs less firm = absurd (omega (arith, less))
has_firm-here kind (suc n) zero xs less firm = or_left (is_firm kind xs) _ firm
has_firm-here kind (suc n) (suc k) xs less firm =
    or_right (is_firm kind xs) _
    (has_firm-here kind n k (drop 1 xs) (omega (arith, less))
    (ap (is_firm kind) (drop_later k xs) ∙ firm))

-- Where none begins at any of the places, there is none among them.
pub has_firm-none : (kind : Kind) (n : ℕ) (xs : List ℕ) → ((k : ℕ) → k < n → is_firm kind (drop k xs) ≡ false)
    → has_firm kind n xs ≡ false
has_firm-none kind zero xs none = refl
has_firm-none kind (suc n) xs none =
    or_from (is_firm kind xs) _ (none 0 (omega arith))
    (has_firm-none kind n (drop 1 xs)
    (λ k less. ap (is_firm kind) (drop_later k xs) ∙ none (suc k) (omega (arith, less))))

-- The same inside a message.
pub inside-here : (kind : Kind) (k : ℕ) (xs : List ℕ) → 1 ≤ k → k < frame_size xs → is_firm kind (drop k xs) ≡ true
    → has_firm_inside kind xs ≡ true
inside-here kind zero xs some less firm = absurd (omega (arith, some))
inside-here kind (suc k) xs some less firm =
    has_firm-here kind (frame_size xs - 1) k (drop 1 xs) (omega (arith, less))
    (ap (is_firm kind) (drop_later k xs) ∙ firm)

pub inside-none : (kind : Kind) (xs : List ℕ)
    → ((k : ℕ) → 1 ≤ k → k < frame_size xs → is_firm kind (drop k xs) ≡ false)
    → has_firm_inside kind xs ≡ false
inside-none kind xs none =
    has_firm-none kind (frame_size xs - 1) (drop 1 xs)
    (λ k less. ap (is_firm kind) (drop_later k xs) ∙ none (suc k) (omega arith) (omega (arith, less)))
