-- The bytes of a memory of one piece.
use Rattle.std.proofs.Common.{◌≡◌, ℕ, zero, suc, ◌+◌, ◌&&◌, true, [], ◌∷◌}
use Rattle.std.proofs.Common.{is_some, nat_le, nat_lt, ◌∙◌, arith}
use Rattle.std.proofs.lemmas.Bool.Decides.{nat_tests}
use Rattle.rvclass.specs.FetchedBytes.{byte_at, has_bytes}
use Rattle.rvclass.specs.Piece.{Piece, end_of}

has_one : (p : Piece) (addr : ℕ) → is_some (byte_at (p ∷ []) addr) ≡ (nat_le p.base addr && nat_lt addr (end_of p))
has_one p addr = grind (arith, nat_tests)

-- The first address and those after it are a piece's if all of them are.
joined : (base end addr count : ℕ)
    → ((nat_le base addr && nat_lt addr end) && (nat_le base (addr + 1) && nat_le (addr + 1 + suc count) end))
    ≡ (nat_le base addr && nat_le (addr + suc (suc count)) end)
joined base end addr count = grind (arith, nat_tests)

-- A memory of one piece has these bytes if the piece reaches over them.
pub has_of_one : (p : Piece) (addr count : ℕ)
    → has_bytes (p ∷ []) addr (suc count) ≡ (nat_le p.base addr && nat_le (addr + suc count) (end_of p))
has_of_one p addr zero =
    let one = has_one p addr in
    (λ i. one i && true) ∙ grind (arith, nat_tests)
has_of_one p addr (suc count) =
    let one = has_one p addr in
    let later = has_of_one p (addr + 1) count in
    (λ i. one i && later i) ∙ joined p.base (end_of p) addr count
