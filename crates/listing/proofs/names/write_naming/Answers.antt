-- The prover does not part the text at the write that failed.
use Rattle.std.proofs.Common.{codes, ◌++◌}
use Rattle.output.proofs.Beginnings.{begun_behind, begun_in_front}
use Rattle.output.specs.Quoted.{quoted_field}
use Rattle.retire.specs.LogText.{hex}
use Rattle.listing.proofs.names.write_naming.Goals as goal

pub returns-in_err-write_field-in-Some-clause-begun : goal.returns-in_err-write_field-in-Some-clause-begun
returns-in_err-write_field-in-Some-clause-begun g c =
    rw c.in-Some.is (begun_in_front (quoted_field c.in-Some.named.name.now) (codes "," ++ hex c.in-Some.named.distance)
    (g.W.Write.contents c.args.sink.now) (g.W.Write.contents c.write_field.new.out) c.write_field.ensures.begun)

pub returns-in_err-write_text-in-Some-clause-begun : goal.returns-in_err-write_text-in-Some-clause-begun
returns-in_err-write_text-in-Some-clause-begun g c =
    rw c.in-Some.is (begun_behind (quoted_field c.in-Some.named.name.now) (codes "," ++ hex c.in-Some.named.distance)
    (g.W.Write.contents c.args.sink.now) (g.W.Write.contents c.write_field.new.out)
    (g.W.Write.contents c.write_text.new.out) c.in_ok-write_field-in-Some.ensures.text c.write_text.ensures.begun)

pub returns-in_ok-write_text-in-Some-clause-begun : goal.returns-in_ok-write_text-in-Some-clause-begun
returns-in_ok-write_text-in-Some-clause-begun g c =
    rw c.in-Some.is (begun_behind (quoted_field c.in-Some.named.name.now) (codes "," ++ hex c.in-Some.named.distance)
    (g.W.Write.contents c.args.sink.now) (g.W.Write.contents c.write_field.new.out)
    (g.W.Write.contents c.write_text.new.out) c.in_ok-write_field-in-Some.ensures.text c.write_text.ensures.begun)
