-- The prover does not part the text at the write that failed: its parts are put together by hand.
use Rattle.std.proofs.Common.{◌++◌}
use Rattle.std.proofs.KnownBytes.{Appends-trans}
use Rattle.std.proofs.lemmas.Result.{on_ok_weaker}
use Rattle.output.proofs.Beginnings.{begun_behind, begun_between, begun_in_front}
use Rattle.comparing.specs.Explained.{both_line, names_in}
use Rattle.comparing.proofs.explanation.write_three.Goals as goal

pub returns-in_err-write_both-clause-begun : goal.returns-in_err-write_both-clause-begun
returns-in_err-write_both-clause-begun g c =
    begun_in_front (both_line (names_in c.args.how.now) c.args.hart.now 3 c.args.hart.now.near.three_before)
    ((both_line (names_in c.args.how.now) c.args.hart.now 2 c.args.hart.now.near.two_before) ++ (both_line (names_in c.args.how.now) c.args.hart.now 1 c.args.hart.now.near.one_before))
    (g.W.Write.contents c.args.sink.now) (g.W.Write.contents c.write_both.new.sink) c.write_both.ensures.begun

pub returns-in_err-write_both-2-clause-begun : goal.returns-in_err-write_both-2-clause-begun
returns-in_err-write_both-2-clause-begun g c =
    begun_between (both_line (names_in c.args.how.now) c.args.hart.now 3 c.args.hart.now.near.three_before)
    (both_line (names_in c.args.how.now) c.args.hart.now 2 c.args.hart.now.near.two_before) (both_line (names_in c.args.how.now) c.args.hart.now 1 c.args.hart.now.near.one_before)
    (g.W.Write.contents c.args.sink.now) (g.W.Write.contents c.write_both.new.sink) (g.W.Write.contents c.write_both-2.new.sink)
    c.in_ok-write_both.ensures.text c.write_both-2.ensures.begun

pub returns-clause-text : goal.returns-clause-text
returns-clause-text g c =
    on_ok_weaker c.write_both-3.result
    (λ last. (Appends-trans (g.W.Write.contents c.args.sink.now) (g.W.Write.contents c.write_both.new.sink) (g.W.Write.contents c.write_both-3.new.sink)
    (both_line (names_in c.args.how.now) c.args.hart.now 3 c.args.hart.now.near.three_before)
    ((both_line (names_in c.args.how.now) c.args.hart.now 2 c.args.hart.now.near.two_before) ++ (both_line (names_in c.args.how.now) c.args.hart.now 1 c.args.hart.now.near.one_before)) c.in_ok-write_both.ensures.text
    (Appends-trans (g.W.Write.contents c.write_both.new.sink) (g.W.Write.contents c.write_both-2.new.sink) (g.W.Write.contents c.write_both-3.new.sink) (both_line (names_in c.args.how.now) c.args.hart.now 2 c.args.hart.now.near.two_before)
    (both_line (names_in c.args.how.now) c.args.hart.now 1 c.args.hart.now.near.one_before) c.in_ok-write_both-2.ensures.text last)))
    c.write_both-3.ensures.text

pub returns-clause-begun : goal.returns-clause-begun
returns-clause-begun g c =
    begun_behind (both_line (names_in c.args.how.now) c.args.hart.now 3 c.args.hart.now.near.three_before)
    ((both_line (names_in c.args.how.now) c.args.hart.now 2 c.args.hart.now.near.two_before) ++ (both_line (names_in c.args.how.now) c.args.hart.now 1 c.args.hart.now.near.one_before))
    (g.W.Write.contents c.args.sink.now) (g.W.Write.contents c.write_both.new.sink) (g.W.Write.contents c.write_both-3.new.sink) c.in_ok-write_both.ensures.text
    (begun_behind (both_line (names_in c.args.how.now) c.args.hart.now 2 c.args.hart.now.near.two_before) (both_line (names_in c.args.how.now) c.args.hart.now 1 c.args.hart.now.near.one_before) (g.W.Write.contents c.write_both.new.sink) (g.W.Write.contents c.write_both-2.new.sink) (g.W.Write.contents c.write_both-3.new.sink)
    c.in_ok-write_both-2.ensures.text c.write_both-3.ensures.begun)
