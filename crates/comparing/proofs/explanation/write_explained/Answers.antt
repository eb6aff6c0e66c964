-- The two parts of the text are written one after the other.
use Rattle.std.specs.List.{flat_map, list_all}
use Rattle.std.specs.Prelude.{is_none}
use Rattle.bench.specs.Report.{result_line}
use Rattle.output.proofs.Beginnings.{begun_in_front}
use Rattle.comparing.specs.Explained.{are_whole_sourced, hart_lines, is_whole_sourced, names_in}
use Rattle.comparing.proofs.LineTexts.{ended_begun}
use Rattle.comparing.proofs.explanation.write_explained.Goals as goal

pub returns-in_err-write_harts-clause-begun : goal.returns-in_err-write_harts-clause-begun
returns-in_err-write_harts-clause-begun g c =
    begun_in_front (flat_map (hart_lines c.args.how.now.before (names_in c.args.how.now) c.args.how.now.stop) c.args.harts.now)
    (result_line (are_whole_sourced (is_none c.args.how.now.stop) c.args.harts.now)) (g.W.Write.contents c.args.sink.now)
    (g.W.Write.contents c.write_harts.new.sink) c.write_harts.ensures.begun

pub returns-in_err-write_result-clause-begun : goal.returns-in_err-write_result-clause-begun
returns-in_err-write_result-clause-begun g c =
    let contents = g.W.Write.contents in
    ended_begun c.args.how.now.stop c.is_none.result c.are_whole_harts.result (list_all is_whole_sourced c.args.harts.now)
    (flat_map (hart_lines c.args.how.now.before (names_in c.args.how.now) c.args.how.now.stop) c.args.harts.now) (contents c.args.sink.now)
    (contents c.write_harts.new.sink) (contents c.write_result.new.sink) c.is_none.ensures c.are_whole_harts.ensures
    c.in_ok-write_harts.ensures.text c.write_result.ensures.begun

pub returns-clause-begun : goal.returns-clause-begun
returns-clause-begun g c =
    let contents = g.W.Write.contents in
    ended_begun c.args.how.now.stop c.is_none.result c.are_whole_harts.result (list_all is_whole_sourced c.args.harts.now)
    (flat_map (hart_lines c.args.how.now.before (names_in c.args.how.now) c.args.how.now.stop) c.args.harts.now) (contents c.args.sink.now)
    (contents c.write_harts.new.sink) (contents c.write_result.new.sink) c.is_none.ensures c.are_whole_harts.ensures
    c.in_ok-write_harts.ensures.text c.write_result.ensures.begun
