-- The prover does not part the text at the name: the lemmas on it are handed to it.
use Rattle.output.proofs.Beginnings.{begun_behind, begun_in_front}
use Rattle.output.proofs.Items.{ok_behind}
use Rattle.symbols.specs.SymbolText.{symbol_text}
use Rattle.salvage_reports.specs.StretchEnds.{lead_text}
use Rattle.salvage_reports.proofs.stretch_ends.write_named.Goals as goal

pub returns-in_err-write_text-clause-begun : goal.returns-in_err-write_text-clause-begun
returns-in_err-write_text-clause-begun g c =
    begun_in_front (lead_text c.args.is_last c.args.place) (symbol_text c.args.symbols.now c.args.place)
    (g.O.Write.contents c.args.out.now) (g.O.Write.contents c.write_text.new.out) c.write_text.ensures.begun

pub returns-clause-text : goal.returns-clause-text
returns-clause-text g c =
    ok_behind (lead_text c.args.is_last c.args.place) (symbol_text c.args.symbols.now c.args.place)
    (g.O.Write.contents c.args.out.now) (g.O.Write.contents c.write_text.new.out)
    (g.O.Write.contents c.write_symbol.new.sink) c.write_symbol.result c.in_ok-write_text.ensures.whole
    c.write_symbol.ensures.text

pub returns-clause-begun : goal.returns-clause-begun
returns-clause-begun g c =
    begun_behind (lead_text c.args.is_last c.args.place) (symbol_text c.args.symbols.now c.args.place)
    (g.O.Write.contents c.args.out.now) (g.O.Write.contents c.write_text.new.out)
    (g.O.Write.contents c.write_symbol.new.sink) c.in_ok-write_text.ensures.whole c.write_symbol.ensures.begun
