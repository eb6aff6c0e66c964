-- The prover does not part a text at the log of a stretch: the lemmas on it are handed to it.
use Rattle.std.specs.Prelude.{option_map}
use Rattle.output.proofs.Beginnings.{begun_behind, begun_in_front}
use Rattle.output.proofs.Items.{ok_behind}
use Rattle.salvaging.specs.PartsIn.{part_of}
use Rattle.salvage_reports.specs.Layouts.{end_of, log_of}
use Rattle.salvage_reports.proofs.found_writing.write_behind.Goals as goal

pub returns-in_err-write_end-clause-begun : goal.returns-in_err-write_end-clause-begun
returns-in_err-write_end-clause-begun g c =
    begun_in_front
    (end_of c.args.style.layout (option_map (λ file. file.now) c.args.style.symbols) (part_of c.args.part.now))
    (log_of c.args.style.layout (part_of c.args.part.now)) (g.O.Write.contents c.args.out.now)
    (g.O.Write.contents c.write_end.new.out) c.write_end.ensures.begun

pub returns-clause-text : goal.returns-clause-text
returns-clause-text g c =
    ok_behind (end_of c.args.style.layout (option_map (λ file. file.now) c.args.style.symbols) (part_of c.args.part.now))
    (log_of c.args.style.layout (part_of c.args.part.now)) (g.O.Write.contents c.args.out.now)
    (g.O.Write.contents c.write_end.new.out) (g.O.Write.contents c.write_rows.new.out) c.write_rows.result
    c.in_ok-write_end.ensures.text c.write_rows.ensures.text

pub returns-clause-begun : goal.returns-clause-begun
returns-clause-begun g c =
    begun_behind
    (end_of c.args.style.layout (option_map (λ file. file.now) c.args.style.symbols) (part_of c.args.part.now))
    (log_of c.args.style.layout (part_of c.args.part.now)) (g.O.Write.contents c.args.out.now)
    (g.O.Write.contents c.write_end.new.out) (g.O.Write.contents c.write_rows.new.out)
    c.in_ok-write_end.ensures.text c.write_rows.ensures.begun
