-- The prover does not part a text at the counts of all harts: the lemmas on it are handed to it.
use Rattle.std.proofs.Common.{subst, ℕ, List}
use Rattle.std.specs.Io.KnownBytes.{Appends}
use Rattle.std.specs.List.{flat_map}
use Rattle.frames.specs.Start.{spans_of}
use Rattle.output.specs.Begun.{AppendsBeginning}
use Rattle.output.proofs.Beginnings.{begun_behind, begun_in_front}
use Rattle.output.proofs.Items.{ok_behind}
use Rattle.salvage_reports.specs.Layouts.{rest_text}
use Rattle.salvage_reports.specs.Totals.{all_totals}
use Rattle.salvage_reports.specs.steps.Harts.{own_total}
use Rattle.salvage_reports.proofs.found_writing.write_ending.Goals.{After-write_rest}
use Rattle.salvage_reports.proofs.found_writing.write_ending.Goals as goal

module _ (g : _) (c : After-write_rest g) where
  -- What comes before the counts, and the counts.
  abbrev rest : List ℕ
  rest =
      rest_text c.args.layout (spans_of c.args.found.now.header c.args.bytes.now) c.args.found.now.salvaged.strangers

  abbrev counts : List ℕ
  counts = flat_map (own_total c.args.layout c.args.found.now c.args.bytes.now) all_totals

pub returns-in_err-write_rest-clause-begun : goal.returns-in_err-write_rest-clause-begun
returns-in_err-write_rest-clause-begun g c =
    let at = (goal.at.returns-in_err-write_rest-clause-begun g c).After-write_rest in
    let old = g.O.Write.contents c.args.out.now in
    let new = g.O.Write.contents c.write_rest.new.out in
    begun_in_front (rest g at) (counts g at) old new
    (subst (λ spans. AppendsBeginning (rest_text c.args.layout spans c.args.found.now.salvaged.strangers) old new)
    c.spans_of-spans.ensures c.write_rest.ensures.begun)

pub returns-clause-text : goal.returns-clause-text
returns-clause-text g c =
    let at = (goal.at.returns-clause-text g c).After-write_rest in
    let old = g.O.Write.contents c.args.out.now in
    let mid = g.O.Write.contents c.write_rest.new.out in
    ok_behind (rest g at) (counts g at) old mid (g.O.Write.contents c.write_totals.new.out) c.write_totals.result
    (subst (λ spans. Appends old mid (rest_text c.args.layout spans c.args.found.now.salvaged.strangers))
    c.spans_of-spans.ensures c.in_ok-write_rest.ensures.text) c.write_totals.ensures.text

pub returns-clause-begun : goal.returns-clause-begun
returns-clause-begun g c =
    let at = (goal.at.returns-clause-begun g c).After-write_rest in
    let old = g.O.Write.contents c.args.out.now in
    let mid = g.O.Write.contents c.write_rest.new.out in
    begun_behind (rest g at) (counts g at) old mid (g.O.Write.contents c.write_totals.new.out)
    (subst (λ spans. Appends old mid (rest_text c.args.layout spans c.args.found.now.salvaged.strangers))
    c.spans_of-spans.ensures c.in_ok-write_rest.ensures.text) c.write_totals.ensures.begun
