-- What was written is handed on with what was asked for, which no search joins.
use Rattle.log_commands.proofs.Generated.{keeps_itself, rows_cut, rows_printed}
use Rattle.log_commands.proofs.generating.write_rows.Goals as goal

pub returns-in_err-write_log-clause-cut : goal.returns-in_err-write_log-clause-cut
returns-in_err-write_log-clause-cut g c =
    let mid = g.O.Write.contents c.write_log.new.sink in
    rows_cut c.args.asked.now c.args.program.now c.args.mix c.log_asked.result (g.O.Write.contents c.args.out.now) mid mid
    c.log_asked.ensures c.write_log.ensures.begun (keeps_itself mid)

pub returns-in_err-flush-clause-cut : goal.returns-in_err-flush-clause-cut
returns-in_err-flush-clause-cut g c =
    rows_cut c.args.asked.now c.args.program.now c.args.mix c.log_asked.result (g.O.Write.contents c.args.out.now)
    (g.O.Write.contents c.write_log.new.sink) (g.O.Write.contents c.flush.new.self) c.log_asked.ensures
    c.write_log.ensures.begun c.flush.ensures.bytes

pub returns-clause-printed : goal.returns-clause-printed
returns-clause-printed g c =
    rows_printed c.args.asked.now c.args.program.now c.args.mix c.log_asked.result (g.O.Write.contents c.args.out.now)
    (g.O.Write.contents c.write_log.new.sink) (g.O.Write.contents c.flush.new.self) c.log_asked.ensures
    c.in_ok-write_log.ensures.written c.flush.ensures.bytes

pub returns-clause-cut : goal.returns-clause-cut
returns-clause-cut g c =
    rows_cut c.args.asked.now c.args.program.now c.args.mix c.log_asked.result (g.O.Write.contents c.args.out.now)
    (g.O.Write.contents c.write_log.new.sink) (g.O.Write.contents c.flush.new.self) c.log_asked.ensures
    c.write_log.ensures.begun c.flush.ensures.bytes
