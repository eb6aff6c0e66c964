-- The prover does not part the text at the write that failed.
use Rattle.std.proofs.Common.{option_map}
use Rattle.output.proofs.Beginnings.{begun_behind, begun_in_front}
use Rattle.retire.specs.LogText.{hex}
use Rattle.symbols.specs.SymbolText.{name_text}
use Rattle.listing.proofs.places.write_place.Goals as goal

pub returns-in_err-write_text-clause-begun : goal.returns-in_err-write_text-clause-begun
returns-in_err-write_text-clause-begun g c =
    begun_in_front (hex c.args.place) (name_text (option_map (λ file. file.now) c.args.symbols) c.args.place)
    (g.W.Write.contents c.args.sink.now) (g.W.Write.contents c.write_text.new.out) c.write_text.ensures.begun

pub returns-clause-begun : goal.returns-clause-begun
returns-clause-begun g c =
    begun_behind (hex c.args.place) (name_text (option_map (λ file. file.now) c.args.symbols) c.args.place)
    (g.W.Write.contents c.args.sink.now) (g.W.Write.contents c.write_text.new.out)
    (g.W.Write.contents c.write_name.new.sink) c.in_ok-write_text.ensures.whole c.write_name.ensures.begun
