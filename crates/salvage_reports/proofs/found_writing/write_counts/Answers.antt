-- The prover does not part a text at the late messages: the lemmas on it are handed to it.
use Rattle.std.proofs.Common.{subst}
use Rattle.std.specs.Io.KnownBytes.{Appends}
use Rattle.std.specs.Prelude.{OnOk}
use Rattle.output.specs.Begun.{AppendsBeginning}
use Rattle.output.proofs.Beginnings.{begun_behind, begun_in_front}
use Rattle.output.proofs.Items.{ok_behind}
use Rattle.salvage_reports.specs.SalvagedItems.{counted_of, text_if}
use Rattle.salvage_reports.specs.declared.salvaged_items.Counted.TheVariants.{Copies, Late}
use Rattle.salvage_reports.proofs.found_writing.write_counts.Goals as goal

pub returns-in_err-write_if-clause-begun : goal.returns-in_err-write_if-clause-begun
returns-in_err-write_if-clause-begun g c =
    let old = g.O.Write.contents c.args.out.now in
    let new = g.O.Write.contents c.write_if.new.out in
    begun_in_front (text_if c.args.layout (counted_of c.args.hart Copies c.args.own.now.copies))
    (text_if c.args.layout (counted_of c.args.hart Late c.args.own.now.late)) old new
    (subst (λ one. AppendsBeginning (text_if c.args.layout one) old new) c.counted_of.ensures c.write_if.ensures.begun)

pub returns-clause-text : goal.returns-clause-text
returns-clause-text g c =
    let old = g.O.Write.contents c.args.out.now in
    let mid = g.O.Write.contents c.write_if.new.out in
    let new = g.O.Write.contents c.write_if-2.new.out in
    let ended = c.write_if-2.result in
    ok_behind (text_if c.args.layout (counted_of c.args.hart Copies c.args.own.now.copies))
    (text_if c.args.layout (counted_of c.args.hart Late c.args.own.now.late)) old mid new ended
    (subst (λ one. Appends old mid (text_if c.args.layout one)) c.counted_of.ensures c.in_ok-write_if.ensures.text)
    (subst (λ one. OnOk ended (Appends mid new (text_if c.args.layout one))) c.counted_of-2.ensures
    c.write_if-2.ensures.text)

pub returns-clause-begun : goal.returns-clause-begun
returns-clause-begun g c =
    let old = g.O.Write.contents c.args.out.now in
    let mid = g.O.Write.contents c.write_if.new.out in
    let new = g.O.Write.contents c.write_if-2.new.out in
    begun_behind (text_if c.args.layout (counted_of c.args.hart Copies c.args.own.now.copies))
    (text_if c.args.layout (counted_of c.args.hart Late c.args.own.now.late)) old mid new
    (subst (λ one. Appends old mid (text_if c.args.layout one)) c.counted_of.ensures c.in_ok-write_if.ensures.text)
    (subst (λ one. AppendsBeginning (text_if c.args.layout one) mid new) c.counted_of-2.ensures
    c.write_if-2.ensures.begun)
