-- What is written is what comes first and the messages after that: the lemma on prefixes is handed to the prover.
use Rattle.std.proofs.Common.{length}
use Rattle.std.proofs.KnownBytes.{Appends-trans}
use Rattle.std.proofs.lemmas.Result.{on_ok_weaker}
use Rattle.std.specs.Io.KnownBytes.{Appends}
use Rattle.output.proofs.Beginnings.{begun_behind, begun_in_front}
use Rattle.log_commands.specs.steps.Made.{joined, start_of}
use Rattle.log_commands.proofs.encoding.write_in_form.Goals as goal

pub returns-in_err-write_beginning-clause-begun : goal.returns-in_err-write_beginning-clause-begun
returns-in_err-write_beginning-clause-begun g c =
    let messages = c.args.messages.now in
    let old = g.O.Write.contents c.args.out.now in
    let new = g.O.Write.contents c.write_beginning.new.out in
    begun_in_front (start_of c.args.asked.now (length messages)) (joined messages) old new
    c.write_beginning.ensures.begun

pub returns : goal.returns
returns g c =
    let messages = c.args.messages.now in
    let start = start_of c.args.asked.now (length messages) in
    let old = g.O.Write.contents c.args.out.now in
    let mid = g.O.Write.contents c.write_beginning.new.out in
    let new = g.O.Write.contents c.write_joined.new.out in
    let first : Appends old mid start = c.in_ok-write_beginning.ensures.text in record {
      fault = c.write_joined.ensures.fault;
      text = on_ok_weaker c.write_joined.result (Appends-trans old mid new start (joined messages) first)
          c.write_joined.ensures.text;
      begun = begun_behind start (joined messages) old mid new first c.write_joined.ensures.begun;
    }
