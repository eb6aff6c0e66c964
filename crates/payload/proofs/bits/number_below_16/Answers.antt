-- The search does not join two words that overlap.
use Rattle.std.proofs.Common.{◌≡◌, ℕ, ◌*◌, ◌^◌, ◌<◌, List, length, get_or, ◌∙◌, arith}
use Rattle.payload.specs.Bytes.{number}
use Rattle.payload.proofs.ByteLists.{number-lt}
use Rattle.payload.proofs.NumbersOfBytes.{two_parts, bytes_from_each}
use Rattle.payload.proofs.bits.number_below_16.Goals as goal

below : (bytes : List ℕ) (n : ℕ) → ((i : ℕ) → get_or bytes i 0 < 256) → n ≡ number bytes → n < 2 ^ (8 * length bytes)
below bytes n each e = rw e (number-lt bytes (bytes_from_each bytes each))

pub returns-then-count-ge8-clause-value : goal.returns-then-count-ge8-clause-value
returns-then-count-ge8-clause-value c =
    two_parts 8 c.args.bytes.now c.from.result c.from-then-count-ge8.result
    (bytes_from_each c.args.bytes.now (λ i. omega (arith, c.type_inv.bytes i))) (omega (arith, c.if-count-ge8.true))
    (omega (arith, c.requires.few, c.if-count-ge8.true)) (omega (arith, c.requires.few))
    (c.from.ensures ∙ c.word.ensures) (c.from-then-count-ge8.ensures ∙ c.word-then-count-ge8.ensures)

pub returns-then-count-ge8-clause-below : goal.returns-then-count-ge8-clause-below
returns-then-count-ge8-clause-below c =
    below c.args.bytes.now _ (λ i. omega (arith, c.type_inv.bytes i)) (returns-then-count-ge8-clause-value c)

pub returns-then-count-ge4-clause-value : goal.returns-then-count-ge4-clause-value
returns-then-count-ge4-clause-value c =
    two_parts 4 c.args.bytes.now c.from-then-count-ge4.result c.from-then-count-ge4-2.result
    (bytes_from_each c.args.bytes.now (λ i. omega (arith, c.type_inv.bytes i)))
    (omega (arith, c.if-count-ge4.true, c.if-count-ge8.false))
    (omega (arith, c.requires.few, c.if-count-ge4.true, c.if-count-ge8.false)) (omega (arith, c.requires.few))
    (c.from-then-count-ge4.ensures ∙ c.half.ensures)
    (c.from-then-count-ge4-2.ensures ∙ c.half-then-count-ge4.ensures)

pub returns-then-count-ge4-clause-below : goal.returns-then-count-ge4-clause-below
returns-then-count-ge4-clause-below c =
    below c.args.bytes.now _ (λ i. omega (arith, c.type_inv.bytes i)) (returns-then-count-ge4-clause-value c)

pub returns-then-count-ge2-clause-value : goal.returns-then-count-ge2-clause-value
returns-then-count-ge2-clause-value c =
    two_parts 2 c.args.bytes.now c.from-then-count-ge2.result c.from-then-count-ge2-2.result
    (bytes_from_each c.args.bytes.now (λ i. omega (arith, c.type_inv.bytes i)))
    (omega (arith, c.if-count-ge2.true, c.if-count-ge4.false))
    (omega (arith, c.requires.few, c.if-count-ge2.true, c.if-count-ge4.false)) (omega (arith, c.requires.few))
    (c.from-then-count-ge2.ensures ∙ c.pair.ensures)
    (c.from-then-count-ge2-2.ensures ∙ c.pair-then-count-ge2.ensures)
