-- The digits are shown from their sum by hand.
use Rattle.std.proofs.Common.{arith, rules}
use Rattle.retire.proofs.EightDigitsLemmas.{eight-digits}
use Rattle.retire.proofs.eight_digits.eight_digits.Goals as goal

pub returns-then-sum-lt-EXCESS : goal.returns-then-sum-lt-EXCESS
returns-then-sum-lt-EXCESS c =
    eight-digits c.args.digits.now _ _ _ _ _ _ _ _ (search (rules, arith)) c.value_or_excess.ensures.value
    c.value_or_excess-2.ensures.value c.value_or_excess-3.ensures.value c.value_or_excess-4.ensures.value
    c.value_or_excess-5.ensures.value c.value_or_excess-6.ensures.value c.value_or_excess-7.ensures.value
    c.value_or_excess-8.ensures.value c.if-sum-lt-EXCESS.true
