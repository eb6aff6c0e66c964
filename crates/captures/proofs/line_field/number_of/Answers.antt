-- The digits so far, and one more, are a lemma on lists.
use Rattle.std.proofs.Common.{◌≡◌, ◌≤◌, ◌<◌, ◌+◌, ◌*◌, ◌^◌, arith, rules, subst, get_or, length, true}
use Rattle.std.specs.Char.{digit_value, is_digit}
use Rattle.captures.proofs.Numbers.{AreRead, all_read, digit_read, too_large}
use Rattle.captures.proofs.line_field.number_of.Goals as goal

pub returns-in_default-with_digit : goal.returns-in_default-with_digit
returns-in_default-with_digit c =
    let at = c.loop-byte.byte-index in
    let digit : c.in-Some.digit ≡ digit_value (get_or c.args.digits.now at 0) = search rules in
    let over : 2 ^ 64 ≤ c.loop-byte.value * 10 + digit_value (get_or c.args.digits.now at 0) =
    omega (arith, digit, c.in_default-with_digit.ensures.value) in
    too_large (2 ^ 64) c.args.digits.now at c.loop-byte.value c.loop-byte.invariant.0 c.loop-byte-test.true over

pub loop-byte-preserved : goal.loop-byte-preserved
loop-byte-preserved c =
    let at = c.loop-byte.byte-index in
    let digit : c.in-Some.digit ≡ digit_value (get_or c.args.digits.now at 0) = search rules in
    let is : is_digit (get_or c.args.digits.now at 0) 10 ≡ true = search rules in
    let longer : c.loop-byte.value * 10 + digit_value (get_or c.args.digits.now at 0) ≡ c.in-Some-with_digit.longer =
    omega (arith, digit, c.in-Some-with_digit.ensures.value) in
    let read = digit_read c.args.digits.now at c.loop-byte.value c.loop-byte.invariant.0 c.loop-byte-test.true is in
    (subst (AreRead c.args.digits.now (at + 1)) longer read, c.in-Some-with_digit.ensures.fits)

pub returns : goal.returns
returns c =
    let some : 0 < length c.args.digits.now = search rules in
    all_read (2 ^ 64) c.args.digits.now c.loop-byte.byte-index c.loop-byte.value c.loop-byte.invariant.0
    c.loop-byte-test.false some c.loop-byte.invariant.1
