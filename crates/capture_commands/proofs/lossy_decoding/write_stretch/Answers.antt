-- The prover does not part the text at the log: the lemmas on it are handed to it.
use Rattle.std.proofs.Common.{◌++◌, ℕ, List, codes, length, arith}
use Rattle.std.proofs.KnownBytes.{Appends-trans}
use Rattle.std.proofs.lemmas.Grind.{common_steps}
use Rattle.std.specs.Fmt.{decimal}
use Rattle.std.specs.Io.KnownBytes.{Appends}
use Rattle.losses.specs.Parts.{Events}
use Rattle.output.proofs.Beginnings.{begun_behind, begun_in_front, whole_begun}
use Rattle.retire.specs.LogText.{log_text}
use Rattle.capture_commands.specs.Pieces.{part_text}
use Rattle.capture_commands.proofs.lossy_decoding.write_stretch.Goals as goal

-- The line before the log of so many events.
abbrev count_line : ℕ → List ℕ
count_line count = codes "stretch: " ++ (decimal count ++ codes " events\n")

pub returns-in_err-write_text-clause-begun : goal.returns-in_err-write_text-clause-begun
returns-in_err-write_text-clause-begun g c =
    let old = g.O.Write.contents c.args.out.now in
    let new = g.O.Write.contents c.write_text.new.out in
    let events = c.args.events.now in
    begun_in_front (count_line (length events)) (log_text events) old new
    c.write_text.ensures.begun

pub returns-in_err-write_log-clause-begun : goal.returns-in_err-write_log-clause-begun
returns-in_err-write_log-clause-begun g c =
    let old = g.O.Write.contents c.args.out.now in
    let mid = g.O.Write.contents c.write_text.new.out in
    let new = g.O.Write.contents c.write_log.new.sink in
    let events = c.args.events.now in
    let line : Appends old mid (count_line (length events)) = grind (arith, common_steps) in
    begun_behind (count_line (length events)) (log_text events) old mid new
    line c.write_log.ensures.begun

pub returns-clause-text : goal.returns-clause-text
returns-clause-text g c =
    let old = g.O.Write.contents c.args.out.now in
    let mid = g.O.Write.contents c.write_text.new.out in
    let new = g.O.Write.contents c.write_log.new.sink in
    let events = c.args.events.now in
    let line : Appends old mid (count_line (length events)) = grind (arith, common_steps) in
    Appends-trans old mid new (count_line (length events)) (log_text events)
    line c.in_ok-write_log.ensures.written

pub returns-clause-begun : goal.returns-clause-begun
returns-clause-begun g c =
    whole_begun (part_text (Events c.args.events.now)) (g.O.Write.contents c.args.out.now)
    (g.O.Write.contents c.write_log.new.sink) (returns-clause-text g c)
