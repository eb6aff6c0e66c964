-- The first place is known by the places before it: by a lemma on lists.
use Rattle.std.proofs.Common.{sym}
use Rattle.symbols.proofs.BlankLemmas.{blank_here, no_blank}
use Rattle.symbols.proofs.line.first_blank.Goals as goal

pub returns-then-byte-eq32-clause-place : goal.returns-then-byte-eq32-clause-place
returns-then-byte-eq32-clause-place c =
    sym (blank_here c.args.text.now c.loop-place.place c.loop-place-test.true c.loop-place.invariant
    c.if-byte-eq32.true)

pub returns-clause-place : goal.returns-clause-place
returns-clause-place c =
    sym (no_blank c.args.text.now c.loop-place.place c.loop-place-test.false c.loop-place.invariant)
