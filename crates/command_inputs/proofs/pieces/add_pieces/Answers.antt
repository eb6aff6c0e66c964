-- The prover does not part the arguments that are left: a lemma on that is handed to it.
use Rattle.std.proofs.Common.{◌∙◌}
use Rattle.command_inputs.proofs.PiecesAdded.{one_added}
use Rattle.command_inputs.proofs.pieces.add_pieces.Goals as goal

pub loop-argument-preserved : goal.loop-argument-preserved
loop-argument-preserved g c =
    let content = g.F.Files.content c.args.files.now in
    let known = g.F.Files.content c.loop-argument.files in (
      c.in_ok-add_piece.ensures.kept ∙ c.loop-argument.invariant.0,
      one_added content known c.args.program c.args.arguments.now c.loop-argument.program c.add_piece.new.program
          c.loop-argument.argument-index _ c.loop-argument-test.true c.loop-argument.invariant.0
          c.loop-argument.invariant.1 c.in_ok-add_piece.ensures.added,
    )
