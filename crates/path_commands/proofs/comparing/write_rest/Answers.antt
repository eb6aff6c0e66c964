-- The parts are written one after the other: by lemmas on parts of a text, which no tactic finds.
use Rattle.std.proofs.Common.{◌≡◌, Option, List, ap, inr, length, ◌∙◌}
use Rattle.std.specs.Prelude.{ℕ}
use Rattle.std.specs.Io.KnownBytes.{Appends}
use Rattle.output.specs.Begun.{AppendsBeginning}
use Rattle.output.proofs.Beginnings.{begun_kept}
use Rattle.message.specs.declared.message.Message.{Message}
use Rattle.frames.specs.Counted.{messages_in}
use Rattle.command_inputs.proofs.Runs.{appends-keeps}
use Rattle.path_commands.specs.ReceivedCapture.{ReceivedCapture, is_whole_result}
use Rattle.path_commands.specs.OnlyHarts.{harts_among}
use Rattle.path_commands.specs.Rows.{ending_of, ending_row, rows_behind}
use Rattle.path_commands.specs.Sides.{Sent, end_of_audit, heads_differ}
use Rattle.path_commands.specs.declared.ending.Ending.{Ending}
use Rattle.path_commands.specs.steps.Ending.{HasReceived}
use Rattle.path_commands.proofs.Rests.{all_written, begun_ending, begun_lost, begun_rows, counted, ending_is, whole_is}
use Rattle.path_commands.proofs.comparing.write_rest.Goals.{After-write_text}
use Rattle.path_commands.proofs.comparing.write_rest.Goals as goal

pub returns-in_err-write_runs-clause-begun : goal.returns-in_err-write_runs-clause-begun
returns-in_err-write_runs-clause-begun g c = λ sent came has.
    begun_lost c.args.path.now c.args.report sent c.args.arrived came has (g.O.Write.contents c.args.out.now)
    (g.O.Write.contents c.write_runs.new.out) (c.write_runs.ensures.begun sent (messages_in came.spans) has.audits)

pub returns-in_err-total-clause-begun : goal.returns-in_err-total-clause-begun
returns-in_err-total-clause-begun g c = λ sent came has.
    begun_rows c.args.path.now c.args.report sent c.args.arrived came has (g.O.Write.contents c.args.out.now)
    (g.O.Write.contents c.write_runs.new.out) (g.O.Write.contents c.write_rows.new.out)
    (c.in_ok-write_runs.ensures.text sent (messages_in came.spans) has.audits)
    (c.write_rows.ensures.begun sent (messages_in came.spans) has.audits has.few)

module _ (g : _) (c : After-write_text g) (sent : List Message) (came : ReceivedCapture)
    (has : HasReceived c.args.report.harts sent c.args.path.now c.args.arrived came) where
  abbrev both : Sent
  both = record { header = c.args.path.now.header; messages = sent }

  abbrev text : List ℕ
  text = rows_behind c.args.path.now.by c.args.report both came

  abbrev begins : Option (List ℕ)
  begins = g.O.Write.contents c.args.out.now

  abbrev first : Option (List ℕ)
  first = g.O.Write.contents c.write_runs.new.out

  abbrev second : Option (List ℕ)
  second = g.O.Write.contents c.write_rows.new.out

  abbrev last : Ending
  last = counted c.args.arrived c.count_among.result c.in_ok-total.total c.are_unlike-unlike.result
      c.is_whole-whole.result

  harts_is : c.count_among.result ≡ length (harts_among c.args.report.harts (length c.args.path.now.harts))
  harts_is = c.count_among.ensures ∙ ap (λ n. length (harts_among c.args.report.harts n)) c.harts.ensures

  unlike_is : c.are_unlike-unlike.result ≡ heads_differ c.args.path.now.header c.args.arrived.header
      c.args.arrived.fault
  unlike_is =
      c.are_unlike-unlike.ensures
      ∙ ap (λ own. heads_differ own c.args.arrived.header c.args.arrived.fault) c.header.ensures

  whole : c.is_whole-whole.result ≡ is_whole_result c.args.path.now.by c.args.report.harts both came
  whole =
      whole_is c.args.path.now c.args.report sent c.args.arrived came has c.count_among.result c.in_ok-total.total
      c.are_unlike-unlike.result c.is_undamaged-undamaged.result c.is_whole-whole.result harts_is
      (c.in_ok-total.ensures.total sent (messages_in came.spans) has.audits has.few) unlike_is c.is_undamaged-undamaged.ensures
      c.is_whole-whole.ensures

  last_is : last ≡ ending_of c.args.path.now.by c.args.report.harts both came
  last_is =
      ending_is c.args.path.now c.args.report sent c.args.arrived came has c.count_among.result c.in_ok-total.total
      c.are_unlike-unlike.result c.is_undamaged-undamaged.result c.is_whole-whole.result harts_is
      (c.in_ok-total.ensures.total sent (messages_in came.spans) has.audits has.few) unlike_is c.is_undamaged-undamaged.ensures
      c.is_whole-whole.ensures

  ending_begun : (new : Option (List ℕ)) → AppendsBeginning (ending_row c.args.report.format last) second new
      → AppendsBeginning text begins new
  ending_begun new begun =
      begun_ending c.args.path.now c.args.report sent c.args.arrived came has last last_is begins first second new
      (c.in_ok-write_runs.ensures.text sent (messages_in came.spans) has.audits)
      (c.in_ok-total.ensures.text sent (messages_in came.spans) has.audits has.few) begun

  ending_all : (new : Option (List ℕ)) → Appends second new (ending_row c.args.report.format last)
      → Appends begins new text
  ending_all new all =
      all_written c.args.path.now c.args.report sent c.args.arrived came has last last_is begins first second new
      (c.in_ok-write_runs.ensures.text sent (messages_in came.spans) has.audits)
      (c.in_ok-total.ensures.text sent (messages_in came.spans) has.audits has.few) all

pub returns-in_err-write_text-clause-begun : goal.returns-in_err-write_text-clause-begun
returns-in_err-write_text-clause-begun g c = λ sent came has.
    ending_begun g (goal.at.returns-in_err-write_text-clause-begun g c).After-write_text sent came has
    (g.O.Write.contents c.write_text.new.out) c.write_text.ensures.begun

pub returns-in_err-flush-clause-begun : goal.returns-in_err-flush-clause-begun
returns-in_err-flush-clause-begun g c = λ sent came has.
    let mid = g.O.Write.contents c.write_text.new.out in
    let at = (goal.at.returns-in_err-flush-clause-begun g c).After-write_text in
    begun_kept (text g at sent came has) (g.O.Write.contents c.args.out.now) mid (g.O.Write.contents c.flush.new.self)
    (ending_begun g at sent came has mid c.write_text.ensures.begun) c.flush.ensures.bytes

pub returns-clause-begun : goal.returns-clause-begun
returns-clause-begun g c = λ sent came has.
    let mid = g.O.Write.contents c.write_text.new.out in
    let at = (goal.at.returns-clause-begun g c).After-write_text in
    begun_kept (text g at sent came has) (g.O.Write.contents c.args.out.now) mid (g.O.Write.contents c.flush.new.self)
    (ending_begun g at sent came has mid c.write_text.ensures.begun) c.flush.ensures.bytes

pub returns-clause-written : goal.returns-clause-written
returns-clause-written g c = λ sent came has.
    let mid = g.O.Write.contents c.write_text.new.out in
    let new = g.O.Write.contents c.flush.new.self in
    let at = (goal.at.returns-clause-written g c).After-write_text in
    inr (
      appends-keeps (g.O.Write.contents c.args.out.now) mid new (text g at sent came has)
          (ending_all g at sent came has mid c.in_ok-write_text.ensures.whole) c.flush.ensures.bytes,
      c.ended.ensures.value ∙ (λ i. end_of_audit c.args.received (has.fault i) (whole g at sent came has i)),
    )
