-- The prover tries no chain of steps by itself: what each step found is handed to it, in order.
use Rattle.std.proofs.Common.{map}
use Rattle.output.specs.Begun.{AppendsBeginning}
use Rattle.output.proofs.Beginnings.{begun_kept}
use Rattle.bench.specs.Got.{got_of}
use Rattle.bench.specs.Report.{report_text}
use Rattle.command_inputs.proofs.Runs.{appends-keeps}
use Rattle.log_commands.proofs.reporting.end_with_report.Goals.{After-flush}
use Rattle.log_commands.proofs.reporting.end_with_report.Goals as goal

-- What was appended stays a prefix of the report when the output is flushed.
flushed : (g : _) (c : After-flush g)
    → AppendsBeginning (report_text c.args.outcome.now.stop (map got_of c.args.outcome.now.harts.items)
    c.args.logs.now) (g.O.Write.contents c.args.out.now) (g.O.Write.contents c.flush.new.self)
flushed g c =
    let contents = g.O.Write.contents in
    let outcome = c.args.outcome.now in
    begun_kept (report_text outcome.stop (map got_of outcome.harts.items) c.args.logs.now) (contents c.args.out.now)
    (contents c.write_report.new.sink) (contents c.flush.new.self) c.write_report.ensures.begun c.flush.ensures.bytes

pub returns-in_err-flush-clause-begun : goal.returns-in_err-flush-clause-begun
returns-in_err-flush-clause-begun g c = flushed g (goal.at.returns-in_err-flush-clause-begun g c).After-flush

pub returns-clause-begun : goal.returns-clause-begun
returns-clause-begun g c = flushed g (goal.at.returns-clause-begun g c).After-flush

pub returns-clause-text : goal.returns-clause-text
returns-clause-text g c =
    let contents = g.O.Write.contents in
    let outcome = c.args.outcome.now in
    appends-keeps (contents c.args.out.now) (contents c.write_report.new.sink) (contents c.flush.new.self)
    (report_text outcome.stop (map got_of outcome.harts.items) c.args.logs.now) c.in_ok-whole.ensures.text
    c.flush.ensures.bytes
