-- What the test of two messages says.
use Rattle.std.proofs.Common.{◌≡◌, ◌≢◌, ℕ, Bool, true, false, List, ◌&&◌, ◌==◌, refl, ap, ◌∙◌}
use Rattle.std.specs.Str.{bytes_eq}
use Rattle.std.proofs.lemmas.Bool.{eq-eqb, eqb-true}
use Rattle.std.proofs.lemmas.Slice.Eq.{bytes_eq-Decides}
use Rattle.salvaging.specs.steps.Arrivals.{Arrival}
use Rattle.salvaging.specs.steps.Grouping.{are_alike}
use Rattle.salvaging.proofs.OrderLemmas.{AreAlikeHere}

pub same_bytes : (one other : List ℕ) → bytes_eq one other ≡ true → one ≡ other
same_bytes one other is = (bytes_eq-Decides one other).0 is

pub bytes_same : (one other : List ℕ) → one ≡ other → bytes_eq one other ≡ true
bytes_same one other is = (bytes_eq-Decides one other).1 is

pub other_bytes : (one other : List ℕ) → bytes_eq one other ≡ false → one ≢ other
other_bytes one other is same = let equal = bytes_same one other same in cc

both_true : (one other : Bool) → (one && other) ≡ true → (one ≡ true) × (other ≡ true)
both_true true true is = (refl, refl)
both_true true false is = cc
both_true false other is = cc

pub alike_by_test : (one other : Arrival) → are_alike one other ≡ true → AreAlikeHere one other
alike_by_test one other is =
    let both = both_true (one.message.number == other.message.number)
    (bytes_eq one.message.payload other.message.payload) is in
    record {
      number = eqb-true one.message.number other.message.number both.0;
      payload = same_bytes one.message.payload other.message.payload both.1;
    }

pub apart_by_test : (one other : Arrival) → are_alike one other ≡ false → ¬ AreAlikeHere one other
apart_by_test one other is alike =
    let numbers = eq-eqb one.message.number other.message.number alike.number in
    let payloads = bytes_same one.message.payload other.message.payload alike.payload in
    let is_true : are_alike one other ≡ true =
    ap (λ b. b && bytes_eq one.message.payload other.message.payload) numbers ∙ payloads in
    cc
