-- What is read goes on from what was read: by lemmas on what the file may hold.
use Rattle.std.proofs.Common.{◌≡◌, ◌++◌, [], Err, ap, arith, subst, sym, take}
use Rattle.command_inputs.specs.declared.fault.Fault.TheVariants as fault
use Rattle.path_commands.proofs.StreamedLines.{may_hold, may_hold_end, out_of_memory, read_more, rest_of, streamed_all}
use Rattle.path_commands.proofs.StreamedLines.{streamed_short, streamed_to}
use Rattle.path_commands.specs.steps.Streaming.{HasStreamed}
use Rattle.path_commands.proofs.streaming.copy_lines.Goals as goal

pub loop-init : goal.loop-init
loop-init g c = λ content old read has. ([], read, has)

pub returns-in-Err : goal.returns-in-Err
returns-in-Err g c = λ content old read has.
    let under = c.loop.invariant content old read has in
    subst (λ why. HasStreamed content c.args.asked.now c.args.settings.now (Err why) old (g.O.Write.contents c.loop.out))
    (sym c.of_file.ensures)
    (streamed_short c.args.asked.now c.args.settings.now content under.0 c.loop.taken
    (g.R.FileReader.left c.loop.reader) c.in-Err.why old (g.O.Write.contents c.loop.out) under.1 c.in-Err.ensures.lacked
    under.2)

pub returns : goal.returns
returns g c = λ content old read has.
    let under = c.loop.invariant content old read has in
    let left = g.R.FileReader.left c.loop.reader in
    streamed_to c.args.asked.now c.args.settings.now content (under.0 ++ rest_of left) fault.Memory old
    (g.O.Write.contents c.loop.out) (may_hold (content c.args.asked.now.lines.now) under.0 left under.1)
    (out_of_memory c.args.asked.now c.args.settings.now under.0 c.loop.taken old (g.O.Write.contents c.loop.out)
    (rest_of left) under.2)

pub returns-then-count-eq0 : goal.returns-then-count-eq0
returns-then-count-eq0 g c = λ content old read has.
    let asked = c.args.asked.now in
    let under = c.loop.invariant content old read has in
    let block = c.read.new.buffer in
    let none : take c.in-Ok.count block ≡ [] = ap (λ n. take n block) c.if-count-eq0.true in
    streamed_all asked c.args.settings.now content under.0 c.finish.result old (g.O.Write.contents c.finish.new.out)
    (may_hold_end (content asked.lines.now) under.0 (take c.in-Ok.count block) (g.R.FileReader.left c.loop.reader)
    (g.R.FileReader.left c.read.new.self) under.1 c.in-Ok.ensures.left.0 none
    (c.in-Ok.ensures.left.1 c.if-count-eq0.true
    (omega (arith, c.requires.room, c.loop.auto.block, c.read.auto.buffer))))
    (c.finish.ensures under.0 old under.2)

pub returns-in-Err-take_block : goal.returns-in-Err-take_block
returns-in-Err-take_block g c = λ content old read has.
    let asked = c.args.asked.now in
    let under = c.loop.invariant content old read has in
    let more = take c.in-Ok.count c.read.new.buffer in
    let left = g.R.FileReader.left c.read.new.self in
    let known = content asked.lines.now in
    streamed_to asked c.args.settings.now content ((under.0 ++ more) ++ rest_of left) c.in-Err-take_block.why old
    (g.O.Write.contents c.take_block.new.out)
    (may_hold known (under.0 ++ more) left
    (read_more known under.0 more (g.R.FileReader.left c.loop.reader) left under.1 c.in-Ok.ensures.left.0))
    (c.in-Err-take_block.ensures under.0 old under.2 (rest_of left))

pub loop-preserved : goal.loop-preserved
loop-preserved g c = λ content old read has.
    let under = c.loop.invariant content old read has in
    let more = take c.in-Ok.count c.read.new.buffer in
    let left = g.R.FileReader.left c.read.new.self in
    let known = content c.args.asked.now.lines.now in (
      under.0 ++ more,
      read_more known under.0 more (g.R.FileReader.left c.loop.reader) left under.1 c.in-Ok.ensures.left.0,
      c.in-Ok-take_block.ensures under.0 old under.2,
    )
