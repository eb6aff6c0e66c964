-- What comes first is written, and then the mixed messages: the lemmas on prefixes are handed to the prover.
use Rattle.std.proofs.Common.{◌++◌, subst, sym}
use Rattle.std.specs.Prelude.{OnOk}
use Rattle.std.specs.Io.KnownBytes.{Appends}
use Rattle.std.specs.List.{flat_map}
use Rattle.captures.specs.HexLines.{hex_line}
use Rattle.message.specs.Capture.{message_bytes}
use Rattle.output.proofs.Beginnings.{begun_behind, begun_in_front}
use Rattle.output.proofs.Items.{ok_behind}
use Rattle.output.specs.Begun.{AppendsBeginning}
use Rattle.stimulus.specs.Mixing.{mixed_by}
use Rattle.log_commands.specs.steps.Made.{form_text, start_of}
use Rattle.log_commands.proofs.MixedLogs.{output_on}
use Rattle.log_commands.proofs.encoding.write_mixed.Goals as goal

pub returns-in_err-write_beginning-clause-begun : goal.returns-in_err-write_beginning-clause-begun
returns-in_err-write_beginning-clause-begun g c = λ seed left is.
    begun_in_front (start_of c.args.asked.now c.args.logs)
    (flat_map (form_text c.args.asked.now.hex) (mixed_by seed left)) (g.O.Write.contents c.args.out.now)
    (g.O.Write.contents c.write_beginning.new.out) c.write_beginning.ensures.begun

pub returns-then-asked-clause-text : goal.returns-then-asked-clause-text
returns-then-asked-clause-text g c = λ seed left is.
    let start = start_of c.args.asked.now c.args.logs in
    let old = g.O.Write.contents c.args.out.now in
    let mid = g.O.Write.contents c.write_beginning.new.out in
    let new = g.O.Write.contents c.write.new.sink in
    subst (λ r. OnOk r (Appends old new (start ++ flat_map (form_text c.args.asked.now.hex) (mixed_by seed left))))
    (sym c.written_to_output.ensures)
    (output_on _ c.write.result
    (subst (λ hex. OnOk c.write.result (Appends old new (start ++ flat_map (form_text hex) (mixed_by seed left))))
    (sym c.if-asked.true)
    (ok_behind start (flat_map hex_line (mixed_by seed left)) old mid new c.write.result
    c.in_ok-write_beginning.ensures.text (c.write.ensures.text seed left is))))

pub returns-then-asked-clause-begun : goal.returns-then-asked-clause-begun
returns-then-asked-clause-begun g c = λ seed left is.
    let start = start_of c.args.asked.now c.args.logs in
    let old = g.O.Write.contents c.args.out.now in
    let mid = g.O.Write.contents c.write_beginning.new.out in
    let new = g.O.Write.contents c.write.new.sink in
    subst (λ hex. AppendsBeginning (start ++ flat_map (form_text hex) (mixed_by seed left)) old new)
    (sym c.if-asked.true)
    (begun_behind start (flat_map hex_line (mixed_by seed left)) old mid new
    c.in_ok-write_beginning.ensures.text (c.write.ensures.begun seed left is))

pub returns-clause-text : goal.returns-clause-text
returns-clause-text g c = λ seed left is.
    let start = start_of c.args.asked.now c.args.logs in
    let old = g.O.Write.contents c.args.out.now in
    let mid = g.O.Write.contents c.write_beginning.new.out in
    let new = g.O.Write.contents c.write-2.new.sink in
    subst (λ r. OnOk r (Appends old new (start ++ flat_map (form_text c.args.asked.now.hex) (mixed_by seed left))))
    (sym c.written_to_output-2.ensures)
    (output_on _ c.write-2.result
    (subst (λ hex. OnOk c.write-2.result (Appends old new (start ++ flat_map (form_text hex) (mixed_by seed left))))
    (sym c.if-asked.false)
    (ok_behind start (flat_map message_bytes (mixed_by seed left)) old mid new c.write-2.result
    c.in_ok-write_beginning.ensures.text (c.write-2.ensures.text seed left is))))

pub returns-clause-begun : goal.returns-clause-begun
returns-clause-begun g c = λ seed left is.
    let start = start_of c.args.asked.now c.args.logs in
    let old = g.O.Write.contents c.args.out.now in
    let mid = g.O.Write.contents c.write_beginning.new.out in
    let new = g.O.Write.contents c.write-2.new.sink in
    subst (λ hex. AppendsBeginning (start ++ flat_map (form_text hex) (mixed_by seed left)) old new)
    (sym c.if-asked.false)
    (begun_behind start (flat_map message_bytes (mixed_by seed left)) old mid new
    c.in_ok-write_beginning.ensures.text (c.write-2.ensures.begun seed left is))
