-- The count is the place of the first line that is not before, by its lemma on lists.
use Rattle.std.proofs.Common.{get_or, length, sym, arith}
use Rattle.std.proofs.lemmas.List.Sums.{position_or_len_is}
use Rattle.std.specs.Prelude.{nat_lt, not}
use Rattle.auditing.specs.declared.arrival_line.Line.TheVariants as line
use Rattle.path_commands.proofs.RunLines.{not_before}
use Rattle.path_commands.specs.UnnumberedText.{place_of}
use Rattle.path_commands.proofs.matched_report.count_before.Goals as goal

pub returns-then-place_of-place-clause-value : goal.returns-then-place_of-place-clause-value
returns-then-place_of-place-clause-value c =
    let here = c.if-place_of-place.true in
    sym (position_or_len_is (λ one. not (nat_lt (place_of one) c.args.place)) c.args.lines.now c.loop-count.count
    (line.Stranger 0 0) (omega arith) (λ k below. c.loop-count.invariant k below)
    (λ within. not_before c.args.place c.place_of.result (get_or c.args.lines.now c.loop-count.count (line.Stranger 0 0))
    c.place_of.ensures (omega (arith, here))))

pub returns-clause-value : goal.returns-clause-value
returns-clause-value c =
    let end = c.loop-count-test.false in
    sym (position_or_len_is (λ one. not (nat_lt (place_of one) c.args.place)) c.args.lines.now (length c.args.lines.now)
    (line.Stranger 0 0) (omega arith) (λ k below. c.loop-count.invariant k (omega (arith, below, end)))
    (λ within. absurd (omega (arith, within))))
