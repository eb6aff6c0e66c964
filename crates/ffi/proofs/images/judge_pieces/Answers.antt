-- One piece is judged as an image: by a lemma on lists of one.
use Rattle.ffi.proofs.PiecesAdded.{judged_only}
use Rattle.ffi.proofs.images.judge_pieces.Goals as goal

pub returns-then-pieces-eq1 : goal.returns-then-pieces-eq1
returns-then-pieces-eq1 c =
    judged_only c.args.pieces.now _ c.judge_image.result c.if-pieces-eq1.true c.judge_image.ensures
