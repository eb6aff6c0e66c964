-- The first bytes of the text are named by hand.
use Rattle.std.proofs.Common.{◌∙◌, arith, rules, sym}
use Rattle.retire.proofs.StandsLemmas.{strip-marked, strip-short, strip-unmarked}
use Rattle.retire.proofs.mark.mark_length.Goals as goal

pub returns-then-text-lt3-clause-mark : goal.returns-then-text-lt3-clause-mark
returns-then-text-lt3-clause-mark c = strip-short c.args.text.now (search (rules, arith))

pub returns-then-is_mark-clause-mark : goal.returns-then-is_mark-clause-mark
returns-then-is_mark-clause-mark c =
    strip-marked c.args.text.now (search (rules, arith)) (sym c.is_mark.ensures ∙ c.if-is_mark.true)

pub returns-clause-mark : goal.returns-clause-mark
returns-clause-mark c =
    strip-unmarked c.args.text.now (search (rules, arith)) (sym c.is_mark.ensures ∙ c.if-is_mark.false)
