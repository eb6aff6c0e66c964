-- The prover makes no record by itself: what was begun is handed on.
use Rattle.std.proofs.Common.{subst}
use Rattle.output.specs.Begun.{AppendsBeginning}
use Rattle.stimulus.specs.Mixed.{mixed_capture}
use Rattle.log_commands.proofs.Generated.{keeps_itself, mixed_cut}
use Rattle.log_commands.proofs.generating.write_mixed.Goals as goal

pub returns-in_err-write_capture-clause-cut : goal.returns-in_err-write_capture-clause-cut
returns-in_err-write_capture-clause-cut g c =
    let asked = c.args.asked.now in
    let program = c.args.program.now in
    let old = g.O.Write.contents c.args.out.now in
    let mid = g.O.Write.contents c.write_capture.new.sink in
    mixed_cut asked program c.args.mix old mid mid
    (subst (λ made. AppendsBeginning (mixed_capture program made) old mid) c.capture_of.ensures
    c.write_capture.ensures.begun) (keeps_itself mid)

pub returns-in_err-flush-clause-cut : goal.returns-in_err-flush-clause-cut
returns-in_err-flush-clause-cut g c =
    let asked = c.args.asked.now in
    let program = c.args.program.now in
    let old = g.O.Write.contents c.args.out.now in
    let mid = g.O.Write.contents c.write_capture.new.sink in
    mixed_cut asked program c.args.mix old mid (g.O.Write.contents c.flush.new.self)
    (subst (λ made. AppendsBeginning (mixed_capture program made) old mid) c.capture_of.ensures
    c.write_capture.ensures.begun) c.flush.ensures.bytes

pub returns-clause-cut : goal.returns-clause-cut
returns-clause-cut g c =
    let asked = c.args.asked.now in
    let program = c.args.program.now in
    let old = g.O.Write.contents c.args.out.now in
    let mid = g.O.Write.contents c.write_capture.new.sink in
    mixed_cut asked program c.args.mix old mid (g.O.Write.contents c.flush.new.self)
    (subst (λ made. AppendsBeginning (mixed_capture program made) old mid) c.capture_of.ensures
    c.write_capture.ensures.begun) c.flush.ensures.bytes
