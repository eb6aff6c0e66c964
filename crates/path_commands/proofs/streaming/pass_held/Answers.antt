-- What is held is passed as if all that was given were passed at once: by lemmas on passes.
use Rattle.std.proofs.Common.{[], Err, Ok, subst, sym}
use Rattle.std.specs.Str.Lines.{lines}
use Rattle.captures.specs.Pass.{IsPassed, pass}
use Rattle.path_commands.proofs.StreamedLines.{flushed, held_passed, not_flushed, stopped}
use Rattle.path_commands.specs.steps.Streaming.{HasStopped}
use Rattle.path_commands.proofs.streaming.pass_held.Goals as goal

pub returns-in-Err : goal.returns-in-Err
returns-in-Err g c = λ given old has.
    let asked = c.args.asked.now in
    let settings = c.args.settings.now in
    let before = c.args.taken.now in
    let mid = g.O.Write.contents c.args.out.now in
    let new = g.O.Write.contents c.add.new.sink in
    let passed = subst (λ text. IsPassed {U = Unit {0}} [] (pass settings asked.skip before.passed (lines text)) (Err c.in-Err.why)
    c.add.new.self mid new) c.as_slice.ensures.value c.in-Err.ensures in
    subst (λ why. HasStopped asked settings given why old new) (sym c.lines_fault.ensures)
    (stopped asked settings given c.in-Err.why c.add.new.self old new
    (held_passed asked settings given before c.add.new.self old mid has (Err c.in-Err.why) new passed))

pub returns-in-Ok-flush : goal.returns-in-Ok-flush
returns-in-Ok-flush g c = λ given old has.
    let asked = c.args.asked.now in
    let settings = c.args.settings.now in
    let before = c.args.taken.now in
    let mid = g.O.Write.contents c.args.out.now in
    let new = g.O.Write.contents c.add.new.sink in
    let passed = subst (λ text. IsPassed {U = Unit {0}} [] (pass settings asked.skip before.passed (lines text)) (Ok tt)
    c.add.new.self mid new) c.as_slice.ensures.value c.in-Ok.ensures in
    flushed asked settings given c.add.new.self old new (g.O.Write.contents c.flush.new.self) c.flush.ensures.bytes
    (held_passed asked settings given before c.add.new.self old mid has (Ok tt) new passed)

pub returns-in-Err-flush : goal.returns-in-Err-flush
returns-in-Err-flush g c = λ given old has.
    let asked = c.args.asked.now in
    let settings = c.args.settings.now in
    let before = c.args.taken.now in
    let mid = g.O.Write.contents c.args.out.now in
    let new = g.O.Write.contents c.add.new.sink in
    let passed = subst (λ text. IsPassed {U = Unit {0}} [] (pass settings asked.skip before.passed (lines text)) (Ok tt)
    c.add.new.self mid new) c.as_slice.ensures.value c.in-Ok.ensures in
    not_flushed asked settings given c.add.new.self old new (g.O.Write.contents c.flush.new.self) c.flush.ensures.bytes
    (held_passed asked settings given before c.add.new.self old mid has (Ok tt) new passed)
