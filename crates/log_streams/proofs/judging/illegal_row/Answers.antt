use Rattle.std.proofs.Common.{◌-◌, ◌∙◌, refl, sym}
use Rattle.log_streams.proofs.IllegalLemmas.{illegal-row}
use Rattle.log_streams.proofs.judging.illegal_row.Goals as goal

pub returns : goal.returns
returns c words = λ seen last count f.
    illegal-row words seen c.args.piece.now c.args.fault c.args.rows (c.args.fault.row - c.args.rows - 1) c.args.before
    c.event_before.result c.in-Some.event last count f c.if-fault-rows.false refl
    (sym c.event_at.ensures ∙ c.in-Some.is) c.event_before.ensures
