-- The prover does not part a text at the hart that is not written: the lemmas on it are handed to it.
use Rattle.std.specs.Prelude.{option_map}
use Rattle.std.proofs.Common.{◌+◌, le_trans, subst}
use Rattle.std.specs.Io.KnownBytes.{Appends}
use Rattle.output.specs.Begun.{AppendsBeginning}
use Rattle.salvage_reports.specs.steps.Harts.{own_text}
use Rattle.salvage_reports.proofs.HartLists.{from_begun, from_written}
use Rattle.salvage_reports.proofs.found_writing.write_harts.Goals as goal

pub returns-in_err-write_hart-clause-begun : goal.returns-in_err-write_hart-clause-begun
returns-in_err-write_hart-clause-begun g c =
    let found = c.args.found.now in
    let mid = g.O.Write.contents c.loop-place.out in
    let new = g.O.Write.contents c.write_hart.new.out in
    let place = c.loop-place.place in
    let own = c.index-harts-place.result in
    from_begun (own_text c.args.style.layout (option_map (λ file. file.now) c.args.style.symbols) found)
    found.only.first c.args.harts.now place own c.loop-place-test.true
    c.index-harts-place.is (g.O.Write.contents c.args.out.now) mid new c.loop-place.invariant.text
    (subst (λ n. AppendsBeginning
    (own_text c.args.style.layout (option_map (λ file. file.now) c.args.style.symbols) found (n + place) own) mid new) c.from.ensures
    c.write_hart.ensures.begun)

pub loop-place-preserved : goal.loop-place-preserved
loop-place-preserved g c =
    let found = c.args.found.now in
    let mid = g.O.Write.contents c.loop-place.out in
    let new = g.O.Write.contents c.write_hart.new.out in
    let place = c.loop-place.place in
    let own = c.index-harts-place.result in
    record {
      text = from_written (own_text c.args.style.layout (option_map (λ file. file.now) c.args.style.symbols) found)
          found.only.first c.args.harts.now place own
          c.loop-place-test.true c.index-harts-place.is (g.O.Write.contents c.args.out.now) mid new
          c.loop-place.invariant.text
          (subst (λ n. Appends mid new
          (own_text c.args.style.layout (option_map (λ file. file.now) c.args.style.symbols) found (n + place) own)) c.from.ensures
          c.in_ok-write_hart.ensures.text);
      room = le_trans c.loop-place.invariant.room c.write_hart.ensures.room;
    }
