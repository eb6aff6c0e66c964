-- What is held of RECEIVED in its buffer.
use Rattle.std.proofs.Common.{◌≡◌, ◌≤◌, ◌+◌, ◌-◌, ◌++◌, ◌∙◌, ℕ, Bool, true, false, List, [], ◌∷◌, Option, Some, None}
use Rattle.std.proofs.Common.{drop, length, take, sym, ap, ap₂, subst, arith}
use Rattle.std.proofs.lemmas.List.{append_assoc, drop-append-le, length-append, length-drop, length-take-le, nil_from_length}
use lib.Seq.{take-add}
use Rattle.std.specs.Io.KnownBytes.{Consumes}
use Rattle.live.specs.ReceivedLeft.{IsLeft, MayFollow, ReceivedHeld}
use Rattle.live.specs.steps.Receiving.{Says}

-- Bytes that are read after what is held.
pub held_more : (old new : List ℕ) (start end count : ℕ) → start ≤ end → end ≤ length old → length new ≡ length old
    → take end new ≡ take end old
    → drop start (take (end + count) new) ≡ drop start (take end old) ++ take count (drop end new)
held_more old new start end count within fits same kept =
    let long = length-take-le end old fits in
    ap (drop start) (take-add end count new ∙ ap (λ l. l ++ take count (drop end new)) kept)
    ∙ drop-append-le start (take end old) (take count (drop end new)) (omega (arith, long, within))

-- Nothing follows a list that ends with nothing.
none_after : (xs ys : List ℕ) → xs ++ ys ≡ [] → ys ≡ []
none_after [] ys is = is
none_after (x ∷ xs) ys is = cc

-- What is left stays, where some of it was read.
pub left_more : (own new : ReceivedHeld) (file now : Option (List ℕ)) (rest bytes : List ℕ) → IsLeft own file rest
    → Consumes file now bytes → new.bytes ≡ own.bytes ++ bytes → new.ended ≡ own.ended → IsLeft new now rest
left_more own new None now rest bytes left consumed more same = absurd left
left_more own new (Some xs) None rest bytes left consumed more same = absurd consumed
left_more own new (Some xs) (Some ys) rest bytes left consumed more same = (
  subst (λ e. MayFollow e ys) (sym same) (by own.ended left.0),
  left.1 ∙ ap (λ l. own.bytes ++ l) consumed ∙ sym (append_assoc own.bytes bytes ys) ∙ ap (λ l. l ++ ys) (sym more),
)
  where
    by : (ended : Bool) → MayFollow ended xs → MayFollow ended ys
    by true none = none_after bytes ys (sym consumed ∙ none)
    by false none = tt

-- Bytes that are held and passed over.
pub left_passed : (own new : ReceivedHeld) (file : Option (List ℕ)) (rest : List ℕ) (count : ℕ) → IsLeft own file rest
    → count ≤ length own.bytes → new.bytes ≡ drop count own.bytes → new.ended ≡ own.ended
    → IsLeft new file (drop count rest)
left_passed own new None rest count left within same ended = absurd left
left_passed own new (Some xs) rest count left within same ended = (
  subst (λ e. MayFollow e xs) (sym ended) left.0,
  ap (drop count) left.1 ∙ drop-append-le count own.bytes xs within ∙ ap (λ l. l ++ xs) (sym same),
)

-- How many bytes are held.
pub held_length : (bytes : List ℕ) (start end : ℕ) → end ≤ length bytes → length (drop start (take end bytes)) ≡ end - start
held_length bytes start end fits =
    let long = length-take-le end bytes fits in
    length-drop start (take end bytes) ∙ ap (λ n. n - start) long

-- Where none is held and RECEIVED has ended, none is left.
pub left_none : (own : ReceivedHeld) (file : Option (List ℕ)) (rest : List ℕ) → IsLeft own file rest → length own.bytes ≡ 0
    → own.ended ≡ true → rest ≡ []
left_none own None rest left none ended = absurd left
left_none own (Some xs) rest left none ended =
    left.1 ∙ ap₂ (λ (a b : List ℕ). a ++ b) (nil_from_length own.bytes none) (subst (λ e. MayFollow e xs) ended left.0)

-- Some bytes are left where some are held.
pub left_some : (own : ReceivedHeld) (file : Option (List ℕ)) (rest : List ℕ) → IsLeft own file rest → 1 ≤ length own.bytes
    → 1 ≤ length rest
left_some own None rest left some = absurd left
left_some own (Some xs) rest left some =
    let all = ap length left.1 in
    let parts = length-append own.bytes xs in
    omega (arith, all, parts, some)

-- The same by the slice that is held.
pub decided_held : (is : List ℕ → Bool) (own : ReceivedHeld) (file : Option (List ℕ)) (rest bytes : List ℕ) (ended answer : Bool)
    → bytes ≡ own.bytes → ended ≡ own.ended → IsLeft own file rest → Says is bytes ended answer → answer ≡ is rest
decided_held is own None rest bytes ended answer same over left says = absurd left
decided_held is own (Some xs) rest bytes ended answer same over left says =
    says xs (subst (λ e. MayFollow e xs) (sym over) left.0) ∙ ap (λ l. is (l ++ xs)) same ∙ ap is (sym left.1)
