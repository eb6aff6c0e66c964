use Rattle.std.proofs.Common.{◌≡◌, ◌≤◌, ◌+◌, All, drop, take}
use Rattle.retire.specs.Is64Bit.{Is64Bit}
use Rattle.rvclass.specs.Fetch.{words_of}
use Rattle.legalpath.specs.steps.Judging as judging
use Rattle.legalpath.proofs.checking.judge_all.Given as goal

-- The answer of the events that are left, after what was left to the first of them, is that of all of them; no
-- privilege above 3 was left; and the numbers of the events so far have 64 bits.
abbrev pub invariant-loop-i : goal.invariant-loop-i
invariant-loop-i l =
    (judging.judge_all (words_of l.program) l.now (l.fn.rows + l.i + 1) (drop l.i l.log) ≡ judging.judge_all
    (words_of l.program) l.fn.left (l.fn.rows + 1) l.log)
    × (l.now.greatest ≤ 3) × All Is64Bit (take l.i l.log)
