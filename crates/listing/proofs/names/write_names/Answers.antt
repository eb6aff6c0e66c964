-- The prover does not part the names at the write that failed: their parts are put together by hand.
use Rattle.std.proofs.Common.{option_map, refl}
use Rattle.output.proofs.Beginnings.{whole_begun}
use Rattle.symbols.specs.Naming.{naming}
use Rattle.listing.proofs.NamesWritten.{comma_begun, end_begun, first_begun, names_written, second_begun}
use Rattle.listing.specs.Rows.{naming_at}
use Rattle.listing.proofs.names.write_names.Goals as goal

pub returns-in_err-write_naming-clause-begun : goal.returns-in_err-write_naming-clause-begun
returns-in_err-write_naming-clause-begun g c =
    let symbols = option_map (λ file. file.now) c.args.symbols in
    first_begun symbols c.args.first c.args.last (option_map naming c.naming_at.result)
    (naming_at symbols c.args.last) c.naming_at.ensures refl (g.W.Write.contents c.args.sink.now)
    (g.W.Write.contents c.write_naming.new.sink) c.write_naming.ensures.begun

pub returns-in_err-write_text-clause-begun : goal.returns-in_err-write_text-clause-begun
returns-in_err-write_text-clause-begun g c =
    let symbols = option_map (λ file. file.now) c.args.symbols in
    comma_begun symbols c.args.first c.args.last (option_map naming c.naming_at.result)
    (naming_at symbols c.args.last) c.naming_at.ensures refl (g.W.Write.contents c.args.sink.now)
    (g.W.Write.contents c.write_naming.new.sink) c.in_ok-write_naming.ensures.text
    (g.W.Write.contents c.write_text.new.out) c.write_text.ensures.begun

pub returns-in_err-write_naming-2-clause-begun : goal.returns-in_err-write_naming-2-clause-begun
returns-in_err-write_naming-2-clause-begun g c =
    let symbols = option_map (λ file. file.now) c.args.symbols in
    second_begun symbols c.args.first c.args.last (option_map naming c.naming_at.result)
    (option_map naming c.naming_at-2.result) c.naming_at.ensures c.naming_at-2.ensures
    (g.W.Write.contents c.args.sink.now)
    (g.W.Write.contents c.write_naming.new.sink) c.in_ok-write_naming.ensures.text
    (g.W.Write.contents c.write_text.new.out) c.in_ok-write_text.ensures.whole
    (g.W.Write.contents c.write_naming-2.new.sink) c.write_naming-2.ensures.begun

pub returns-in_err-write_text-2-clause-begun : goal.returns-in_err-write_text-2-clause-begun
returns-in_err-write_text-2-clause-begun g c =
    let symbols = option_map (λ file. file.now) c.args.symbols in
    end_begun symbols c.args.first c.args.last (option_map naming c.naming_at.result)
    (option_map naming c.naming_at-2.result) c.naming_at.ensures c.naming_at-2.ensures
    (g.W.Write.contents c.args.sink.now)
    (g.W.Write.contents c.write_naming.new.sink) c.in_ok-write_naming.ensures.text
    (g.W.Write.contents c.write_text.new.out) c.in_ok-write_text.ensures.whole
    (g.W.Write.contents c.write_naming-2.new.sink) c.in_ok-write_naming-2.ensures.text
    (g.W.Write.contents c.write_text-2.new.out) c.write_text-2.ensures.begun

pub returns-clause-text : goal.returns-clause-text
returns-clause-text g c =
    let symbols = option_map (λ file. file.now) c.args.symbols in
    names_written symbols c.args.first c.args.last (option_map naming c.naming_at.result)
    (option_map naming c.naming_at-2.result) c.naming_at.ensures c.naming_at-2.ensures
    (g.W.Write.contents c.args.sink.now)
    (g.W.Write.contents c.write_naming.new.sink) c.in_ok-write_naming.ensures.text
    (g.W.Write.contents c.write_text.new.out) c.in_ok-write_text.ensures.whole
    (g.W.Write.contents c.write_naming-2.new.sink) c.in_ok-write_naming-2.ensures.text
    (g.W.Write.contents c.write_text-2.new.out) c.in_ok-write_text-2.ensures.whole

pub returns-clause-begun : goal.returns-clause-begun
returns-clause-begun g c =
    whole_begun _ (g.W.Write.contents c.args.sink.now) (g.W.Write.contents c.write_text-2.new.out)
    (returns-clause-text g c)
