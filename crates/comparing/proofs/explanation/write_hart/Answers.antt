-- The prover does not part the text at the write that failed: its parts are put together by hand.
use Rattle.std.proofs.KnownBytes.{Appends-trans}
use Rattle.std.proofs.lemmas.Result.{on_ok_weaker}
use Rattle.output.proofs.Beginnings.{begun_behind, begun_in_front}
use Rattle.comparing.specs.Explained.{below_text, names_in}
use Rattle.comparing.specs.Lines.{line_text}
use Rattle.comparing.proofs.explanation.write_hart.Goals as goal

pub returns-in_err-write_line-clause-begun : goal.returns-in_err-write_line-clause-begun
returns-in_err-write_line-clause-begun g c =
    begun_in_front (line_text c.args.one.now.hart.line) (below_text c.args.how.now.before (names_in c.args.how.now) c.args.how.now.stop c.args.one.now) (g.W.Write.contents c.args.sink.now) (g.W.Write.contents c.write_line.new.sink)
    c.write_line.ensures.begun

pub returns-clause-text : goal.returns-clause-text
returns-clause-text g c =
    on_ok_weaker c.write_below.result
    (Appends-trans (g.W.Write.contents c.args.sink.now) (g.W.Write.contents c.write_line.new.sink)
    (g.W.Write.contents c.write_below.new.sink) (line_text c.args.one.now.hart.line) (below_text c.args.how.now.before (names_in c.args.how.now) c.args.how.now.stop c.args.one.now) c.in_ok-write_line.ensures.text)
    c.write_below.ensures.text

pub returns-clause-begun : goal.returns-clause-begun
returns-clause-begun g c =
    begun_behind (line_text c.args.one.now.hart.line) (below_text c.args.how.now.before (names_in c.args.how.now) c.args.how.now.stop c.args.one.now) (g.W.Write.contents c.args.sink.now) (g.W.Write.contents c.write_line.new.sink)
    (g.W.Write.contents c.write_below.new.sink) c.in_ok-write_line.ensures.text c.write_below.ensures.begun
