-- The prover does not part the text at the end of the line: the lemmas on it are handed to it.
use Rattle.std.proofs.Common.{codes}
use Rattle.std.specs.Prelude.{option_map}
use Rattle.std.proofs.KnownBytes.{Appends-trans}
use Rattle.output.proofs.Beginnings.{begun_behind, begun_in_front, whole_begun}
use Rattle.salvage_reports.specs.StretchEnds.{behind_text, stretch_end}
use Rattle.salvage_reports.proofs.stretch_ends.write_stretch_end.Goals as goal

pub returns-in_err-write_places-clause-begun : goal.returns-in_err-write_places-clause-begun
returns-in_err-write_places-clause-begun g c =
    begun_in_front (behind_text (option_map (λ file. file.now) c.args.symbols) c.args.events.now) (codes "\n")
    (g.O.Write.contents c.args.out.now) (g.O.Write.contents c.write_places.new.out) c.write_places.ensures.begun

pub returns-in_err-write_bytes-clause-begun : goal.returns-in_err-write_bytes-clause-begun
returns-in_err-write_bytes-clause-begun g c =
    begun_behind (behind_text (option_map (λ file. file.now) c.args.symbols) c.args.events.now) (codes "\n")
    (g.O.Write.contents c.args.out.now) (g.O.Write.contents c.write_places.new.out)
    (g.O.Write.contents c.write_bytes.new.out) c.in_ok-write_places.ensures.text c.write_bytes.ensures.begun

pub returns-clause-text : goal.returns-clause-text
returns-clause-text g c =
    Appends-trans (g.O.Write.contents c.args.out.now) (g.O.Write.contents c.write_places.new.out)
    (g.O.Write.contents c.write_bytes.new.out)
    (behind_text (option_map (λ file. file.now) c.args.symbols) c.args.events.now) (codes "\n")
    c.in_ok-write_places.ensures.text c.in_ok-write_bytes.ensures.whole

pub returns-clause-begun : goal.returns-clause-begun
returns-clause-begun g c =
    whole_begun (stretch_end (option_map (λ file. file.now) c.args.symbols) c.args.events.now)
    (g.O.Write.contents c.args.out.now) (g.O.Write.contents c.write_bytes.new.out) (returns-clause-text g c)
