-- A block is parted where its last line ends: by lemmas on lists.
use Rattle.std.proofs.Common.{◌++◌, ◌-◌, arith, drop, length, subst, take}
use Rattle.path_commands.proofs.StreamedLines.{block_parts, has_end, more_parts}
use Rattle.path_commands.specs.steps.Streaming.{HasStopped, TakesMore}
use Rattle.path_commands.proofs.streaming.take_block.Goals as goal

pub returns-then-end-eq0 : goal.returns-then-end-eq0
returns-then-end-eq0 g c = λ given old has.
    c.hold.ensures c.args.asked.now c.args.settings.now given old (g.O.Write.contents c.args.out.now) has

pub returns-in-Ok : goal.returns-in-Ok
returns-in-Ok g c = λ given old has.
    let asked = c.args.asked.now in
    let settings = c.args.settings.now in
    let block = c.args.block.now in
    let end = c.end_of_lines-end.result in
    let new = g.O.Write.contents c.pass_lines.new.out in
    subst (λ text. TakesMore asked settings text c.hold-in-Ok.result c.hold-in-Ok.new.taken old new) (block_parts given block end)
    (c.hold-in-Ok.ensures asked settings (given ++ take end block) old new (c.in-Ok.ensures given old has))

pub returns-in-Err : goal.returns-in-Err
returns-in-Err g c = λ given old has more.
    let asked = c.args.asked.now in
    let settings = c.args.settings.now in
    let block = c.args.block.now in
    let end = c.end_of_lines-end.result in
    let new = g.O.Write.contents c.pass_lines.new.out in
    subst (λ text. HasStopped asked settings text c.in-Err.why old new) (more_parts given block more end)
    (c.in-Err.ensures given old has (take (length block - end) (drop end block) ++ more))

pub pass_lines-requires : goal.pass_lines-requires
pass_lines-requires g c = record {
  numbers = c.requires;
  ends =
      has_end c.args.block.now c.end_of_lines-end.result c.end_of_lines-end.ensures.within c.end_of_lines-end.ensures.ends
      (omega (arith, c.if-end-eq0.false));
}
