-- The prover does not part the text at the write that failed: its parts are put together by hand.
use Rattle.std.proofs.KnownBytes.{Appends-trans}
use Rattle.std.proofs.lemmas.Result.{on_ok_weaker}
use Rattle.output.proofs.Beginnings.{begun_behind, begun_in_front}
use Rattle.comparing.specs.Explained.{names_in, row_line}
use Rattle.comparing.specs.declared.explained.RowKind.TheVariants.{Decoded, Log}
use Rattle.comparing.proofs.explanation.write_rows.Goals as goal

pub returns-in_err-write_row-clause-begun : goal.returns-in_err-write_row-clause-begun
returns-in_err-write_row-clause-begun g c =
    begun_in_front (row_line (names_in c.args.how.now) c.args.hart.now.line.hart c.args.hart.now.row Log c.args.hart.now.near.log) (row_line (names_in c.args.how.now) c.args.hart.now.line.hart c.args.hart.now.row Decoded c.args.hart.now.near.decoded) (g.W.Write.contents c.args.sink.now) (g.W.Write.contents c.write_row.new.sink)
    c.write_row.ensures.begun

pub returns-clause-text : goal.returns-clause-text
returns-clause-text g c =
    on_ok_weaker c.write_row-2.result
    (Appends-trans (g.W.Write.contents c.args.sink.now) (g.W.Write.contents c.write_row.new.sink)
    (g.W.Write.contents c.write_row-2.new.sink) (row_line (names_in c.args.how.now) c.args.hart.now.line.hart c.args.hart.now.row Log c.args.hart.now.near.log) (row_line (names_in c.args.how.now) c.args.hart.now.line.hart c.args.hart.now.row Decoded c.args.hart.now.near.decoded) c.in_ok-write_row.ensures.text)
    c.write_row-2.ensures.text

pub returns-clause-begun : goal.returns-clause-begun
returns-clause-begun g c =
    begun_behind (row_line (names_in c.args.how.now) c.args.hart.now.line.hart c.args.hart.now.row Log c.args.hart.now.near.log) (row_line (names_in c.args.how.now) c.args.hart.now.line.hart c.args.hart.now.row Decoded c.args.hart.now.near.decoded) (g.W.Write.contents c.args.sink.now) (g.W.Write.contents c.write_row.new.sink)
    (g.W.Write.contents c.write_row-2.new.sink) c.in_ok-write_row.ensures.text c.write_row-2.ensures.begun
