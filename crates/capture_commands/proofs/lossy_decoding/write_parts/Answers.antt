-- The prover does not part a text at the part that is not written: the lemmas on it are handed to it.
use Rattle.losses.specs.PartsIn.{part_of}
use Rattle.capture_commands.specs.Pieces.{part_text}
use Rattle.capture_commands.proofs.PartTexts.{part_begun, part_written}
use Rattle.capture_commands.proofs.lossy_decoding.write_parts.Goals as goal

pub returns-in_err-write_part-clause-begun : goal.returns-in_err-write_part-clause-begun
returns-in_err-write_part-clause-begun g c =
    part_begun part_text part_of c.args.parts.now c.loop-part.part-index c.part-item.result c.loop-part-test.true c.part-item.is
    (g.O.Write.contents c.args.out.now) (g.O.Write.contents c.loop-part.out) (g.O.Write.contents c.write_part.new.out)
    c.loop-part.invariant c.write_part.ensures.begun

pub loop-part-preserved : goal.loop-part-preserved
loop-part-preserved g c =
    part_written part_text part_of c.args.parts.now c.loop-part.part-index c.part-item.result c.loop-part-test.true c.part-item.is
    (g.O.Write.contents c.args.out.now) (g.O.Write.contents c.loop-part.out) (g.O.Write.contents c.write_part.new.out)
    c.loop-part.invariant c.in_ok-write_part.ensures.text
