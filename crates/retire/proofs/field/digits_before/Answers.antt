-- The digits so far, and their number, are carried by hand.
use Rattle.std.proofs.Common.{arith, get_or, sym}
use Rattle.std.proofs.lemmas.List.{take_all}
use Rattle.retire.proofs.FieldLemmas.{digit_count-all, digit_count-at, digit_count-past}
use Rattle.retire.proofs.NumberLemmas.{below_room, digit_read, is_hex_digit-no_value, is_hex_digit-value}
use Rattle.retire.proofs.NumberLemmas.{room_for_digit}
use Rattle.retire.proofs.field.digits_before.Goals as goal

pub overflow_mul-value : goal.overflow_mul-value
overflow_mul-value c =
    let room = below_room c.loop-i.value c.loop-i.i c.loop-i.invariant.read.small (omega arith) in
    omega (arith, room)

pub overflow_add-value : goal.overflow_add-value
overflow_add-value c =
    let other = rw c.value_of-digit.ensures at c.if-digit-eq-NO_DIGIT.false in
    let room = room_for_digit c.args.text.now c.loop-i.i c.loop-i.value c.loop-i.invariant.read (omega arith) other in
    rw (c.from.ensures, c.value_of-digit.ensures) (omega (arith, room))

pub loop-i-preserved : goal.loop-i-preserved
loop-i-preserved c =
    let other = rw c.value_of-digit.ensures at c.if-digit-eq-NO_DIGIT.false in
    rw (c.from.ensures, c.value_of-digit.ensures) (record {
      few = omega arith;
      read = digit_read c.args.text.now c.loop-i.i c.loop-i.value c.loop-i.invariant.read c.loop-i-test.true other;
    })

pub returns-then-digit-eq-NO_DIGIT-clause-all : goal.returns-then-digit-eq-NO_DIGIT-clause-all
returns-then-digit-eq-NO_DIGIT-clause-all c =
    let none =
    is_hex_digit-no_value (get_or c.args.text.now c.loop-i.i 0)
    (rw c.value_of-digit.ensures at c.if-digit-eq-NO_DIGIT.true) in
    sym (digit_count-at c.args.text.now c.loop-i.i c.loop-i-test.true c.loop-i.invariant.read.digits none)

pub returns-then-i-eq16-clause-long : goal.returns-then-i-eq16-clause-long
returns-then-i-eq16-clause-long c = λ _.
    let other = rw c.value_of-digit.ensures at c.if-digit-eq-NO_DIGIT.false in
    let digit = is_hex_digit-value (get_or c.args.text.now c.loop-i.i 0) other in
    let past = digit_count-past c.args.text.now c.loop-i.i c.loop-i-test.true c.loop-i.invariant.read.digits digit in
    omega (arith, past)

pub returns-clause-all : goal.returns-clause-all
returns-clause-all c =
    let digits = rw (take_all c.loop-i.i c.args.text.now (omega arith)) at c.loop-i.invariant.read.digits in
    sym (digit_count-all c.args.text.now digits)
