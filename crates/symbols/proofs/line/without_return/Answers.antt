-- The end of a line is looked at by its index, where the definition goes down the line.
use Rattle.std.proofs.Common.{◌≡◌, ◌+◌, ◌-◌, length, arith}
use Rattle.symbols.proofs.BlankLemmas.{none_kept, other_kept, return_left_out}
use Rattle.symbols.proofs.line.without_return.Goals as goal

pub returns-then-count-eq0-clause-text : goal.returns-then-count-eq0-clause-text
returns-then-count-eq0-clause-text c = none_kept c.args.line.now c.if-count-eq0.true

pub returns-then-byte-eq13-clause-text : goal.returns-then-byte-eq13-clause-text
returns-then-byte-eq13-clause-text c =
    let line = c.args.line.now in
    let long : length line ≡ length line - 1 + 1 = omega (arith, c.if-count-eq0.false) in
    return_left_out line (length line - 1) long c.if-byte-eq13.true

pub returns-else-byte-eq13-clause-text : goal.returns-else-byte-eq13-clause-text
returns-else-byte-eq13-clause-text c =
    let line = c.args.line.now in
    let long : length line ≡ length line - 1 + 1 = omega (arith, c.if-count-eq0.false) in
    other_kept line (length line - 1) long c.if-byte-eq13.false
