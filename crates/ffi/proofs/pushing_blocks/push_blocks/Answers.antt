-- One block more is pushed: by a lemma over all blocks.
use Rattle.std.proofs.Common.{◌≡◌, ◌≤◌, ◌+◌, ◌-◌, drop, length, map, take, sym, ap, ◌∙◌, arith}
use Rattle.std.proofs.lemmas.List.{length-drop, length-take-le}
use Rattle.rvclass.specs.Fetch.{words_of}
use Rattle.ffi.proofs.BlocksPushed.{pushed_block}
use Rattle.ffi.proofs.PushedInTurn.{pushed_none}
use Rattle.ffi.proofs.WrittenInTurn.{part_back, part_lent}
use Rattle.ffi.specs.Events.{numbers_of_event}
use Rattle.ffi.proofs.pushing_blocks.push_blocks.Goals as goal

pub returns-then-events-lt2-clause-pushed : goal.returns-then-events-lt2-clause-pushed
returns-then-events-lt2-clause-pushed c =
    pushed_none (words_of c.args.program.now) c.args.encoder.now c.args.events.now c.args.packets.now

pub loop-init : goal.loop-init
loop-init c = (
  pushed_none (words_of c.args.program.now) c.args.encoder.now c.args.events.now c.args.packets.now,
  omega arith,
)

pub loop-preserved : goal.loop-preserved
loop-preserved c =
    let room = c.min.ensures in
    let most = c.min-count.ensures in
    let some = c.if-count-eq0.false in
    let within = c.loop.invariant.1 in
    let count = c.min-count.result in
    let rest = drop c.loop.taken c.args.events.now in
    let fits : c.loop.taken + count ≤ length c.args.events.now = omega (arith, room, most, within) in
    let behind = length-drop c.loop.taken c.args.events.now in
    let lent : take (c.loop.taken + count - c.loop.taken) rest ≡ take count rest =
    ap (λ n. take n rest) (omega arith) in
    let long : length (take (c.loop.taken + count - c.loop.taken) rest) ≡ count =
    ap length lent ∙ length-take-le count rest (omega (arith, behind, fits)) in
    let is : map numbers_of_event (take count c.read_block.new.block) ≡ take count rest =
    ap (λ n. map numbers_of_event (take n c.read_block.new.block)) (sym long)
    ∙ c.read_block.ensures c.if-not-read_block.false
    ∙ lent in (
      pushed_block (words_of c.args.program.now) c.args.encoder.now c.args.events.now c.args.packets.now
          c.loop.taken count c.loop.written c.push_block-written.result c.loop.encoder
          c.push_block-written.new.encoder (take count c.read_block.new.block) c.loop.packets _
          c.push_block-written.new.packets _ (omega (arith, some)) (part_lent c.loop.written c.loop.packets)
          (part_back c.loop.written c.loop.packets c.push_block-written.new.packets) fits is
          (omega (arith, room, most)) c.loop.invariant.0 c.push_block-written.ensures,
      fits,
    )
