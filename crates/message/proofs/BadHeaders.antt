-- Bytes that begin as a header does.
use Rattle.std.proofs.Common.{◌≡◌, ◌≢◌, ◌≤◌, ◌++◌, ℕ, true, nat_eq, List, length, take, drop, sym, ap, ◌∙◌, arith}
use Rattle.std.proofs.Common.{take-append-drop}
use Rattle.std.specs.Cmp.Lexicographic.{pointwise, same_text}
use Rattle.message.specs.Header.{HasBadHeader, IsHeader, mark, setting_bytes}
use Rattle.message.specs.declared.header.Header.{Header}

-- What stands behind the mark.
pub marked : (bytes behind : List ℕ) → pointwise nat_eq (take 11 bytes) mark ≡ true → behind ≡ drop 11 bytes
    → bytes ≡ mark ++ behind
marked bytes behind front rest =
    sym (take-append-drop 11 bytes) ∙ ap (λ l. l ++ drop 11 bytes) (same_text (take 11 bytes) mark (sym front))
    ∙ ap (λ l. mark ++ l) (sym rest)

-- What stands there are the settings of no header.
pub bad_header : (bytes behind settings : List ℕ) → bytes ≡ mark ++ behind → 5 ≤ length behind
    → settings ≡ take 5 behind → ((h : Header) → IsHeader h → setting_bytes h ≢ settings) → HasBadHeader bytes
bad_header bytes behind settings begins enough front never = record {
  marked = (behind, begins);
  enough = let long = ap length begins in omega (arith, long, enough);
  none = λ h rest is same.
      never h is (ap (λ (l : List ℕ). take 5 (drop 11 l)) (sym same ∙ begins) ∙ sym front);
}
