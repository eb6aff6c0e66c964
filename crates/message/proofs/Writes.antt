-- Bytes that are written one after the other.
use Rattle.std.proofs.Common.{◌≡◌, ◌++◌, ℕ, List, Result, Ok, Err, OnOk, Option, subst}
use Rattle.std.specs.Io.KnownBytes.{Appends}
use Rattle.std.proofs.KnownBytes.{Appends-trans}

-- What was written, and then something more, which may fail.
pub Appends-then : {A E : Type 0} (r : Result A E) (a b c : Option (List ℕ)) (bs bs' cs cs' : List ℕ) → bs ≡ bs'
    → cs ≡ cs'
    → Appends a b bs → OnOk r (Appends b c cs) → OnOk r (Appends a c (bs' ++ cs'))
Appends-then (Ok v) a b c bs bs' cs cs' p q first second =
    subst (λ l. Appends a c (l ++ cs')) p
    (subst (λ l. Appends a c (bs ++ l)) q (Appends-trans a b c bs cs first second))
Appends-then (Err e) a b c bs bs' cs cs' p q first second = tt
