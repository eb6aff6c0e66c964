-- The prover does not part the text at the write that failed: its parts are put together by hand.
use Rattle.std.proofs.Common.{◌++◌}
use Rattle.std.proofs.KnownBytes.{Appends-trans}
use Rattle.output.proofs.Beginnings.{begun_behind, begun_between, begun_in_front, whole_begun}
use Rattle.comparing.specs.Explained.{before_lines, names_in, rows_lines, source_line}
use Rattle.comparing.proofs.explanation.write_differing.Goals as goal

pub returns-in_err-write_before-clause-begun : goal.returns-in_err-write_before-clause-begun
returns-in_err-write_before-clause-begun g c =
    begun_in_front (before_lines c.args.how.now.before (names_in c.args.how.now) c.args.one.now.hart)
    ((rows_lines (names_in c.args.how.now) c.args.one.now.hart) ++ (source_line c.args.how.now.stop c.args.one.now))
    (g.W.Write.contents c.args.sink.now) (g.W.Write.contents c.write_before.new.sink) c.write_before.ensures.begun

pub returns-in_err-write_rows-clause-begun : goal.returns-in_err-write_rows-clause-begun
returns-in_err-write_rows-clause-begun g c =
    begun_between (before_lines c.args.how.now.before (names_in c.args.how.now) c.args.one.now.hart)
    (rows_lines (names_in c.args.how.now) c.args.one.now.hart) (source_line c.args.how.now.stop c.args.one.now)
    (g.W.Write.contents c.args.sink.now) (g.W.Write.contents c.write_before.new.sink) (g.W.Write.contents c.write_rows.new.sink)
    c.in_ok-write_before.ensures.text c.write_rows.ensures.begun

pub returns-in_err-write_text-clause-begun : goal.returns-in_err-write_text-clause-begun
returns-in_err-write_text-clause-begun g c =
    begun_behind (before_lines c.args.how.now.before (names_in c.args.how.now) c.args.one.now.hart)
    ((rows_lines (names_in c.args.how.now) c.args.one.now.hart) ++ (source_line c.args.how.now.stop c.args.one.now))
    (g.W.Write.contents c.args.sink.now) (g.W.Write.contents c.write_before.new.sink) (g.W.Write.contents c.write_text.new.out) c.in_ok-write_before.ensures.text
    (begun_behind (rows_lines (names_in c.args.how.now) c.args.one.now.hart) (source_line c.args.how.now.stop c.args.one.now) (g.W.Write.contents c.write_before.new.sink) (g.W.Write.contents c.write_rows.new.sink) (g.W.Write.contents c.write_text.new.out)
    c.in_ok-write_rows.ensures.text c.write_text.ensures.begun)

pub returns-clause-text : goal.returns-clause-text
returns-clause-text g c =
    Appends-trans (g.W.Write.contents c.args.sink.now) (g.W.Write.contents c.write_before.new.sink) (g.W.Write.contents c.write_text.new.out)
    (before_lines c.args.how.now.before (names_in c.args.how.now) c.args.one.now.hart)
    ((rows_lines (names_in c.args.how.now) c.args.one.now.hart) ++ (source_line c.args.how.now.stop c.args.one.now)) c.in_ok-write_before.ensures.text
    (Appends-trans (g.W.Write.contents c.write_before.new.sink) (g.W.Write.contents c.write_rows.new.sink) (g.W.Write.contents c.write_text.new.out) (rows_lines (names_in c.args.how.now) c.args.one.now.hart)
    (source_line c.args.how.now.stop c.args.one.now) c.in_ok-write_rows.ensures.text c.in_ok-write_text.ensures.whole)

pub returns-clause-begun : goal.returns-clause-begun
returns-clause-begun g c =
    whole_begun _ (g.W.Write.contents c.args.sink.now) (g.W.Write.contents c.write_text.new.out) (returns-clause-text g c)
