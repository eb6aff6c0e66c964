-- The prover does not part a text at the strangers: the lemmas on it are handed to it.
use Rattle.std.proofs.Common.{subst}
use Rattle.std.specs.Io.KnownBytes.{Appends}
use Rattle.std.specs.List.{flat_map}
use Rattle.std.specs.Prelude.{OnOk}
use Rattle.output.specs.Begun.{AppendsBeginning}
use Rattle.output.proofs.Beginnings.{begun_behind, begun_in_front}
use Rattle.output.proofs.Items.{ok_behind}
use Rattle.salvage_reports.specs.Layouts.{run_text}
use Rattle.salvage_reports.specs.SalvagedItems.{strangers_of, text_if}
use Rattle.salvage_reports.proofs.found_writing.write_rest.Goals as goal

pub returns-in_err-write_runs-clause-begun : goal.returns-in_err-write_runs-clause-begun
returns-in_err-write_runs-clause-begun g c =
    begun_in_front (flat_map (run_text c.args.layout) c.args.spans)
    (text_if c.args.layout (strangers_of c.args.strangers)) (g.O.Write.contents c.args.out.now)
    (g.O.Write.contents c.write_runs.new.out) c.write_runs.ensures.begun

pub returns-clause-text : goal.returns-clause-text
returns-clause-text g c =
    let mid = g.O.Write.contents c.write_runs.new.out in
    let new = g.O.Write.contents c.write_if.new.out in
    ok_behind (flat_map (run_text c.args.layout) c.args.spans)
    (text_if c.args.layout (strangers_of c.args.strangers)) (g.O.Write.contents c.args.out.now) mid new
    c.write_if.result c.in_ok-write_runs.ensures.text
    (subst (λ one. OnOk c.write_if.result (Appends mid new (text_if c.args.layout one))) c.strangers_of.ensures
    c.write_if.ensures.text)

pub returns-clause-begun : goal.returns-clause-begun
returns-clause-begun g c =
    let mid = g.O.Write.contents c.write_runs.new.out in
    let new = g.O.Write.contents c.write_if.new.out in
    begun_behind (flat_map (run_text c.args.layout) c.args.spans)
    (text_if c.args.layout (strangers_of c.args.strangers)) (g.O.Write.contents c.args.out.now) mid new
    c.in_ok-write_runs.ensures.text
    (subst (λ one. AppendsBeginning (text_if c.args.layout one) mid new) c.strangers_of.ensures
    c.write_if.ensures.begun)
