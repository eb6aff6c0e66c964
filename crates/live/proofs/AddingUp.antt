-- The counts of a hart add up, line by line.
use Rattle.std.proofs.Common.{◌≡◌, ℕ, ◌+◌, ◌^◌, ◌<◌, ◌≤◌, Bool, true, false, cond, eqb, List, [], ◌∷◌, length, arith}
use Rattle.auditing.specs.declared.finding.Finding.{Finding}
use Rattle.auditing.specs.declared.finding.Finding.TheVariants as finding
use Rattle.live.specs.Lines.{Line, Decided, TooLate, GivenUp, Missing}
use Rattle.live.specs.Rows.{counted, counts_after, counts_in, found_counts, given_counts, hart_of, no_counts}
use Rattle.live.specs.declared.rows.LineCounts.{LineCounts}

-- What was sent, and what came and was not that.
abbrev total : LineCounts → ℕ
total own = own.sent + own.repeated + own.changed + own.strange + own.too_late

-- The counts add up, and none is above this one.
record AddsUp (most : ℕ) (own : LineCounts) : Type 0 where
  few : total own ≤ most
  sum : total own ≡ own.came + own.lost

found_adds : (its : Finding) (most : ℕ) (own : LineCounts) → most + 1 < 2 ^ 64 → AddsUp most own
    → AddsUp (most + 1) (found_counts its own)
found_adds finding.Stranger most own less adds =
    let few = adds.few in let sum = adds.sum in record { few = omega (arith, less, few); sum = omega (arith, less, few, sum) }
found_adds finding.Changed most own less adds =
    let few = adds.few in let sum = adds.sum in record { few = omega (arith, less, few); sum = omega (arith, less, few, sum) }
found_adds finding.Repeat most own less adds =
    let few = adds.few in let sum = adds.sum in record { few = omega (arith, less, few); sum = omega (arith, less, few, sum) }
found_adds (finding.Late by) most own less adds =
    let few = adds.few in let sum = adds.sum in record { few = omega (arith, less, few); sum = omega (arith, less, few, sum) }
found_adds (finding.InOrder skips) most own less adds =
    let few = adds.few in let sum = adds.sum in record { few = omega (arith, less, few); sum = omega (arith, less, few, sum) }

given_adds : (came : Bool) (most : ℕ) (own : LineCounts) → most + 1 < 2 ^ 64 → AddsUp most own
    → AddsUp (most + 1) (given_counts came own)
given_adds true most own less adds =
    let few = adds.few in let sum = adds.sum in record { few = omega (arith, few); sum = omega (arith, sum) }
given_adds false most own less adds =
    let few = adds.few in let sum = adds.sum in record { few = omega (arith, less, few); sum = omega (arith, less, few, sum) }

-- After one line more.
line_adds : (line : Line) (most : ℕ) (own : LineCounts) → most + 1 < 2 ^ 64 → AddsUp most own
    → AddsUp (most + 1) (counted line own)
line_adds (Decided one its sent) most own less adds = found_adds its most own less adds
line_adds (TooLate one) most own less adds =
    let few = adds.few in let sum = adds.sum in record { few = omega (arith, less, few); sum = omega (arith, less, few, sum) }
line_adds (GivenUp slot) most own less adds = given_adds slot.came most own less adds
line_adds (Missing hart lost) most own less adds =
    let few = adds.few in record { few = omega (arith, few); sum = adds.sum }

-- After lines.
lines_add : (hart : ℕ) (lines : List Line) (most : ℕ) (own : LineCounts) → most + length lines < 2 ^ 64
    → AddsUp most own → AddsUp (most + length lines) (counts_after hart own lines)
lines_add hart [] most own less adds =
    let few = adds.few in record { few = omega (arith, few); sum = adds.sum }
lines_add hart (line ∷ lines) most own less adds =
    let after = lines_add hart lines (most + 1) _ (omega (arith, less)) (go (eqb (hart_of line) hart)) in
    let few = after.few in record { few = omega (arith, few); sum = after.sum }
  where
    go : (its : Bool) → AddsUp (most + 1) (cond its (counted line own) own)
    go true = line_adds line most own (omega (arith, less)) adds
    go false = let few = adds.few in record { few = omega (arith, few); sum = adds.sum }

-- What was sent and is not lost came, and is none of the others.
pub rows_add : (lines : List Line) (hart : ℕ) → length lines < 2 ^ 64
    → let own = counts_in lines hart in
    own.sent + own.repeated + own.changed + own.strange + own.too_late ≡ own.came + own.lost
rows_add lines hart less =
    (lines_add hart lines 0 no_counts (omega (arith, less)) (record { few = omega arith; sum = omega arith })).sum
