-- That no row was read from the front of what is held is named by hand.
use Rattle.std.proofs.Common.{OnOk, ap, arith, length, rules, subst}
use Rattle.retire.specs.HasRead.{GoesOn}
use Rattle.retire.proofs.ReaderLemmas.{goes-still}
use Rattle.retire.proofs.log_reader.LogReader.read_on.Goals as goal

pub returns-in-Ok-false-clause-goes_on : goal.returns-in-Ok-false-clause-goes_on
returns-in-Ok-false-clause-goes_on g c = λ most seen h.
    let (rows, same) = c.in-Ok-false.ensures.still (search rules) in
    let size = ap length same in
    let still =
    goes-still g.S.Source.given g.S.Source.left most seen c.read_front.new.self c.args.events.now.items
    c.read_front.new.events.items (c.in-Ok-false.ensures.goes_on most seen h) (omega (arith, size)) in
    subst
    (λ t. OnOk c.rows_piece.result (GoesOn g.S.Source.given g.S.Source.left most seen t c.rows_piece.new.events.items
    c.rows_piece.new.self)) same (c.rows_piece.ensures.goes_on most seen still.0)
