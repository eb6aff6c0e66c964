-- The table is held against std's digits at each of the 256 bytes, by computing.
use Rattle.std.proofs.Common.{◌/◌, ◌%◌, arith, false, get_or, refl}
use Rattle.std.specs.Fmt.{digit_glyph}
use Rattle.retire.specs.declared.short_line.TheConstants.{PAIRS}
use Rattle.retire.proofs.TableLemmas.{agree_at, agree_below}
use Rattle.retire.proofs.short_line.pair_of.Goals as goal

pub returns-clause-first : goal.returns-clause-first
unfolding agree_below
returns-clause-first c =
    rw c.from.ensures
    (agree_at (λ k. get_or PAIRS k 0 % 256) (λ k. digit_glyph false (k / 16)) 256 refl c.args.value (omega arith))

pub returns-clause-second : goal.returns-clause-second
unfolding agree_below
returns-clause-second c =
    rw c.from.ensures
    (agree_at (λ k. get_or PAIRS k 0 / 256) (λ k. digit_glyph false (k % 16)) 256 refl c.args.value (omega arith))
