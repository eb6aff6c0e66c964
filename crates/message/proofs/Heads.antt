-- A message's head that was read.
use Rattle.std.proofs.Common.{◌≡◌, ◌++◌, ℕ, zero, suc, List, [], ◌∷◌, length, take, drop, slice_index, refl, sym, ap}
use Rattle.std.proofs.Common.{◌∙◌, arith, take-append-drop}
use Rattle.byteorder.specs.Endian.{little_number, little_bytes}
use Rattle.message.specs.Capture.{head_bytes}
use Rattle.message.specs.steps.Filling.{AreBytes}
use Rattle.message.specs.declared.message.Message.{Message}
use Rattle.message.proofs.LittleBytes.{little_bytes-little_number}

pub AreBytes-drop : (n : ℕ) (xs : List ℕ) → AreBytes xs → AreBytes (drop n xs)
AreBytes-drop zero xs bytes = bytes
AreBytes-drop (suc n) [] bytes = bytes
AreBytes-drop (suc n) (x ∷ xs) bytes = AreBytes-drop n xs (λ k. bytes (suc k))

-- What stands from the last place on.
drop-last : (n : ℕ) (xs : List ℕ) → length xs ≡ suc n → drop n xs ≡ slice_index xs n ∷ []
drop-last n [] h = absurd (omega (arith, h))
drop-last zero (x ∷ []) h = refl
drop-last zero (x ∷ y ∷ xs) h = absurd (omega (arith, h))
drop-last (suc n) (x ∷ xs) h = drop-last n xs (omega (arith, h))

length-drop_2 : (xs : List ℕ) → length xs ≡ 11 → length (drop 2 xs) ≡ 9
length-drop_2 [] h = absurd (omega (arith, h))
length-drop_2 (x ∷ []) h = absurd (omega (arith, h))
length-drop_2 (x ∷ y ∷ xs) h = omega (arith, h)

drop_2-drop_8 : (xs : List ℕ) → drop 8 (drop 2 xs) ≡ drop 10 xs
drop_2-drop_8 [] = refl
drop_2-drop_8 (x ∷ []) = refl
drop_2-drop_8 (x ∷ y ∷ xs) = refl

-- The bytes of the hart and the number that are read of a head.
pub numbers-read : (xs : List ℕ) → length xs ≡ 11 → AreBytes xs
    → (little_bytes 2 (little_number 2 xs) ≡ take 2 xs)
    × (little_bytes 8 (little_number 8 (drop 2 xs)) ≡ take 8 (drop 2 xs))
numbers-read xs whole bytes =
    let long = length-drop_2 xs whole in (
      little_bytes-little_number 2 xs (omega (arith, whole)) bytes,
      little_bytes-little_number 8 (drop 2 xs) (omega (arith, long)) (AreBytes-drop 2 xs bytes),
    )

-- A message of the hart, the number and the payload's length that a head spells has this head.
pub head_bytes-read : (m : Message) (head : List ℕ) → length head ≡ 11 → AreBytes head
    → m.hart ≡ little_number 2 head → m.number ≡ little_number 8 (drop 2 head) → length m.payload ≡ slice_index head 10
    → head_bytes m ≡ head
head_bytes-read m head whole bytes hart number count =
    let parts = numbers-read head whole bytes in
    let first : little_bytes 2 m.hart ≡ take 2 head = ap (little_bytes 2) hart ∙ parts.0 in
    let second : little_bytes 8 m.number ≡ take 8 (drop 2 head) = ap (little_bytes 8) number ∙ parts.1 in
    let last : length m.payload ∷ [] ≡ drop 8 (drop 2 head) = ap (λ (n : ℕ). n ∷ []) count
    ∙ sym (drop-last 10 head whole) ∙ sym (drop_2-drop_8 head) in
    ap (λ (l : List ℕ). l ++ (little_bytes 8 m.number ++ (length m.payload ∷ []))) first
    ∙ ap (λ (l : List ℕ). take 2 head ++ (l ++ (length m.payload ∷ []))) second
    ∙ ap (λ (l : List ℕ). take 2 head ++ (take 8 (drop 2 head) ++ l)) last
    ∙ ap (λ (l : List ℕ). take 2 head ++ l) (take-append-drop 8 (drop 2 head))
    ∙ take-append-drop 2 head
