-- What pieces make: by lemmas on the first and the others.
use Rattle.std.proofs.Common.{subst}
use Rattle.ffi.proofs.PiecesAdded.{judged_first_fault, judged_others, rest_of}
use Rattle.ffi.specs.Images.{Judges}
use Rattle.ffi.specs.steps.Adding.{AreAdded}
use Rattle.ffi.proofs.images.judge_sorted.Goals as goal

pub returns-in-Ok : goal.returns-in-Ok
returns-in-Ok c =
    judged_others c.args.pieces.now _ c.in-Ok.program c.add_pieces.result c.requires.sorted c.requires.some
    c.in-Ok.ensures (subst (λ others. AreAdded c.in-Ok.program others c.add_pieces.result) (rest_of c.args.pieces.now)
    c.add_pieces.ensures)

pub returns-in-Err : goal.returns-in-Err
returns-in-Err c =
    Judges (judged_first_fault c.args.pieces.now _ c.in-Err.fault c.requires.sorted c.requires.some c.in-Err.ensures)
