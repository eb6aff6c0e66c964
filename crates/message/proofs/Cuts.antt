-- Beginnings of a message that were read.
use Rattle.std.proofs.Common.{◌≡◌, ◌<◌, ◌≤◌, ◌-◌, ◌+◌, ◌++◌, ℕ, zero, suc, List, [], ◌∷◌, length, take, drop}
use Rattle.std.proofs.Common.{slice_index, refl, sym, ap, ◌∙◌, arith, take-append-drop, append_assoc}
use Rattle.std.proofs.lemmas.List.{length-append, length-take, length-drop}
use lib.Seq.{take-add}
use Rattle.byteorder.specs.Endian.{little_number, little_bytes}
use Rattle.byteorder.specs.Numbers.{little_from-lt}
use Rattle.payload.proofs.NumbersOfBytes.{bytes_from_each}
use Rattle.message.specs.steps.Filling.{AreBytes}
use Rattle.message.specs.Cut.{IsCut, IsMessage}
use Rattle.message.specs.steps.Front.{message_of}
use Rattle.message.proofs.Heads.{AreBytes-drop, head_bytes-read, numbers-read}

-- The message of a head and a payload is within its ranges.
pub message_of-ranges : (head payload : List ℕ) → AreBytes head → AreBytes payload → 1 ≤ length payload
    → length payload ≤ 18
    → IsMessage (message_of head payload)
message_of-ranges head payload bytes more some few =
    let hart = little_from-lt 0 2 head bytes in
    let number = little_from-lt 0 8 (drop 2 head) (AreBytes-drop 2 head bytes) in
    record { hart = hart; number = number; some = some; few = few; bytes = bytes_from_each payload more }

-- A whole head and not all of the payload whose length it has.
pub IsCut-payload : (head room : List ℕ) (n : ℕ) → length head ≡ 11 → AreBytes head → AreBytes room
    → length room ≡ slice_index head 10
    → 1 ≤ length room → length room ≤ 18 → n < length room → IsCut (head ++ take n room)
IsCut-payload head room n whole bytes are count some few less =
    let m = message_of head room in
    let joined : (head ++ take n room) ++ drop n room ≡ head ++ room = append_assoc head (take n room) (drop n room)
    ∙ ap (λ (l : List ℕ). head ++ l) (take-append-drop n room) in
    let left = length-append head (take n room) in
    let right = length-drop n room in
    record {
      message = m;
      rest = drop n room;
      ranges = message_of-ranges head room bytes are some few;
      whole = joined ∙ ap (λ (l : List ℕ). l ++ room) (sym (head_bytes-read m head whole bytes refl refl count));
      some = omega (arith, left, whole);
      more = omega (arith, right, less);
    }

-- One zero is a byte.
AreBytes-zero : AreBytes (0 ∷ [])
AreBytes-zero zero = omega arith
AreBytes-zero (suc k) = omega arith

-- Not all of a head.
pub IsCut-head : (room : List ℕ) (n : ℕ) → length room ≡ 11 → AreBytes room → 1 ≤ n → n ≤ 10 → IsCut (take n room)
IsCut-head room n whole bytes some few =
    let m = message_of room (0 ∷ []) in
    let parts = numbers-read room whole bytes in
    let rest = take (10 - n) (drop n room) ++ (1 ∷ 0 ∷ []) in
    let ten : n + (10 - n) ≡ 10 = omega (arith, few) in
    let front : take n room ++ rest ≡ take 10 room ++ (1 ∷ 0 ∷ []) =
    sym (append_assoc (take n room) (take (10 - n) (drop n room)) (1 ∷ 0 ∷ []))
    ∙ ap (λ (l : List ℕ). l ++ (1 ∷ 0 ∷ [])) (sym (take-add n (10 - n) room) ∙ ap (λ (k : ℕ). take k room) ten) in
    let numbers : take 10 room ≡ little_bytes 2 (little_number 2 room) ++ little_bytes 8 (little_number 8 (drop 2 room))
    =
    take-add 2 8 room ∙ ap (λ (l : List ℕ). take 2 room ++ l) (sym parts.1)
    ∙ ap (λ (l : List ℕ). l ++ little_bytes 8 (little_number 8 (drop 2 room))) (sym parts.0) in
    let long = length-append (take (10 - n) (drop n room)) (1 ∷ 0 ∷ []) in
    let short = length-take n room in
    record {
      message = m;
      rest = rest;
      ranges = message_of-ranges room (0 ∷ []) bytes AreBytes-zero (omega arith) (omega arith);
      whole = front ∙ ap (λ (l : List ℕ). l ++ (1 ∷ 0 ∷ [])) numbers;
      some = omega (arith, short, whole, some, few);
      more = omega (arith, long);
    }
