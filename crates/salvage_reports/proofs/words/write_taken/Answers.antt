-- The prover does not part the text at the write that failed.
use Rattle.std.proofs.Common.{◌++◌, option_map}
use Rattle.output.proofs.Beginnings.{begun_behind, begun_in_front}
use Rattle.listing.specs.EffectText.{places_text}
use Rattle.listing.specs.PacketEnding.{ending_text}
use Rattle.listing.specs.SettledRows.{shown_rows, shows_rows}
use Rattle.salvage_reports.proofs.words.write_taken.Goals as goal

pub returns-in_err-write_places-clause-begun : goal.returns-in_err-write_places-clause-begun
returns-in_err-write_places-clause-begun g c =
    begun_in_front _
    (shown_rows (shows_rows c.args.form) c.args.rows c.args.added.now.count ++ ending_text c.args.read.now) (g.W.Write.contents c.args.sink.now)
    (g.W.Write.contents c.write_places.new.sink) c.write_places.ensures.begun

pub returns-in_err-write_text-clause-begun : goal.returns-in_err-write_text-clause-begun
returns-in_err-write_text-clause-begun g c =
    let added = c.args.added.now in
    begun_behind
    (places_text (option_map (λ file. file.now) c.args.symbols) added.count added.first added.last)
    (shown_rows (shows_rows c.args.form) c.args.rows added.count ++ ending_text c.args.read.now)
    (g.W.Write.contents c.args.sink.now)
    (g.W.Write.contents c.write_places.new.sink) (g.W.Write.contents c.write_text.new.out)
    c.in_ok-write_places.ensures.text c.write_text.ensures.begun

pub returns-clause-begun : goal.returns-clause-begun
returns-clause-begun g c =
    let added = c.args.added.now in
    begun_behind
    (places_text (option_map (λ file. file.now) c.args.symbols) added.count added.first added.last)
    (shown_rows (shows_rows c.args.form) c.args.rows added.count ++ ending_text c.args.read.now)
    (g.W.Write.contents c.args.sink.now)
    (g.W.Write.contents c.write_places.new.sink) (g.W.Write.contents c.write_text.new.out)
    c.in_ok-write_places.ensures.text c.write_text.ensures.begun
