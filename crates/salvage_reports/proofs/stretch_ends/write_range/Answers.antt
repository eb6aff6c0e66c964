-- The prover does not part the text at the last place: the lemmas on it are handed to it.
use Rattle.std.proofs.Common.{false, true}
use Rattle.output.proofs.Beginnings.{begun_behind, begun_in_front}
use Rattle.output.proofs.Items.{ok_behind}
use Rattle.salvage_reports.specs.StretchEnds.{named_text}
use Rattle.salvage_reports.proofs.stretch_ends.write_range.Goals as goal

pub returns-in_err-write_named-clause-begun : goal.returns-in_err-write_named-clause-begun
returns-in_err-write_named-clause-begun g c =
    begun_in_front (named_text c.args.symbols.now false c.args.first) (named_text c.args.symbols.now true c.args.last)
    (g.O.Write.contents c.args.out.now) (g.O.Write.contents c.write_named.new.out) c.write_named.ensures.begun

pub returns-clause-text : goal.returns-clause-text
returns-clause-text g c =
    ok_behind (named_text c.args.symbols.now false c.args.first) (named_text c.args.symbols.now true c.args.last)
    (g.O.Write.contents c.args.out.now) (g.O.Write.contents c.write_named.new.out)
    (g.O.Write.contents c.write_named-2.new.out) c.write_named-2.result c.in_ok-write_named.ensures.text
    c.write_named-2.ensures.text

pub returns-clause-begun : goal.returns-clause-begun
returns-clause-begun g c =
    begun_behind (named_text c.args.symbols.now false c.args.first) (named_text c.args.symbols.now true c.args.last)
    (g.O.Write.contents c.args.out.now) (g.O.Write.contents c.write_named.new.out)
    (g.O.Write.contents c.write_named-2.new.out) c.in_ok-write_named.ensures.text c.write_named-2.ensures.begun
