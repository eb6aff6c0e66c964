-- RECEIVED is read by its header, and then span by span: by lemmas on what was found.
use Rattle.std.proofs.Common.{◌≡◌, ◌∙◌, ◌<◌, ◌≤◌, ◌^◌, List, [], length, refl, ap, arith, subst, sym}
use Rattle.std.specs.Io.KnownBytes.{Appends}
use Rattle.output.specs.Begun.{AppendsBeginning}
use Rattle.message.specs.declared.message.Message.{Message}
use Rattle.frames.specs.Counted.{bytes_in, messages_in, runs_in}
use Rattle.frames.specs.Passages.{spans_left}
use Rattle.auditing.specs.Audits.{Audits}
use Rattle.auditing.specs.Known.{known_all}
use Rattle.auditing.specs.Seen.{sight_of}
use Rattle.path_commands.specs.ReceivedCapture.{ReceivedCapture}
use Rattle.path_commands.specs.Rows.{front_rows, rows_behind}
use Rattle.path_commands.specs.Sides.{by_packets}
use Rattle.path_commands.specs.declared.report.Report.{Report}
use Rattle.path_commands.specs.steps.Ending.{EndsRest, HasReceived}
use Rattle.path_commands.specs.steps.Noting.{noted_of}
use Rattle.path_commands.proofs.AuditRuns.{audit_printed, cut_in_front, cut_in_rest}
use Rattle.path_commands.proofs.ReceivedCapture.{came_of, is_came_of, notes_are, rows_are, spans_are}
use Rattle.path_commands.proofs.comparing.write_audit.Goals.{After-write_rest}
use Rattle.path_commands.proofs.comparing.write_audit.Goals as goal

module _ (g : _) (c : After-write_rest g) (sent : List Message) (audits : Audits sent [] c.args.path.now)
    (by_is : c.args.path.now.by ≡ by_packets c.args.asked.now.packets) where
  abbrev report : Report
  report = record {
    format = c.args.asked.now.format;
    harts = c.args.harts;
    summary = c.args.asked.now.summary;
  }

  abbrev its : ReceivedCapture
  its =
      came_of (by_packets c.args.asked.now.packets) sent c.args.bytes.now c.start_of-start.result.header
      c.start_of-start.result.fault

  its_spans : spans_left (sight_of c.args.path.now.by sent) c.new-spans.result ≡ its.spans
  its_spans =
      spans_are c.args.path.now.by (by_packets c.args.asked.now.packets) sent c.args.bytes.now
      c.start_of-start.result.header c.start_of-start.result.fault c.new-spans.result c.first_place-from.result by_is
      c.first_place-from.ensures (c.new-spans.ensures.spans (sight_of c.args.path.now.by sent))

  short : length c.new-spans.result.bytes < 2 ^ 64
  short = let few = c.new-spans.ensures.few in omega (arith, few)

  taken : Audits sent (messages_in (spans_left (sight_of c.args.path.now.by sent) c.new-spans.result))
      c.write_spans.new.path
      × (c.in_ok-read.read.bytes ≡ bytes_in (spans_left (sight_of c.args.path.now.by sent) c.new-spans.result))
      × (c.in_ok-read.read.runs ≡ runs_in (spans_left (sight_of c.args.path.now.by sent) c.new-spans.result))
      × (length (messages_in (spans_left (sight_of c.args.path.now.by sent) c.new-spans.result)) ≤ length
      c.new-spans.result.bytes)
      × (c.in_ok-read.read.messages ≡ length (messages_in (spans_left (sight_of c.args.path.now.by sent)
      c.new-spans.result)))
  taken = c.in_ok-read.ensures.audits sent audits short

  its_audits : Audits sent (messages_in its.spans) c.write_spans.new.path
  its_audits = subst (λ s. Audits sent (messages_in s) c.write_spans.new.path) its_spans taken.0

  few : length (messages_in its.spans) < 2 ^ 64
  few =
      let most = taken.3 in
      let low = short in
      let same = ap (λ s. length (messages_in s)) its_spans in
      omega (arith, most, low, same)

  how_is : c.write_spans.new.path.by ≡ by_packets c.args.asked.now.packets
  how_is = c.write_spans.ensures.by ∙ by_is

  -- How it was read.
  noting : c.write_spans.new.noted ≡ noted_of c.args.harts (known_all c.write_spans.new.path.by sent)
      (known_all c.write_spans.new.path.by (messages_in its.spans))
  noting =
      c.in_ok-read.ensures.noted sent audits short
      ∙ notes_are c.args.path.now.by (by_packets c.args.asked.now.packets) sent c.args.bytes.now
      c.start_of-start.result.header c.start_of-start.result.fault c.new-spans.result c.first_place-from.result by_is
      c.first_place-from.ensures (c.new-spans.ensures.spans (sight_of c.args.path.now.by sent)) c.args.harts
      ∙ (λ i. noted_of c.args.harts (known_all (sym how_is i) sent) (known_all (sym how_is i) (messages_in its.spans)))

  has : HasReceived c.args.harts sent c.write_spans.new.path (record {
    header = c.start_of-start.result.header;
    fault = c.start_of-start.result.fault;
    read = c.in_ok-read.read;
    noted = c.write_spans.new.noted;
  }) its
  has = record {
    audits = its_audits;
    few = few;
    header = refl;
    fault = refl;
    messages = taken.4 ∙ ap (λ s. length (messages_in s)) its_spans;
    bytes = taken.1 ∙ ap bytes_in its_spans;
    runs = taken.2 ∙ ap runs_in its_spans;
    noted = noting;
  }

  text : Appends (g.O.Write.contents c.args.out.now) (g.O.Write.contents c.write_spans.new.out)
      (front_rows (by_packets c.args.asked.now.packets) report sent its.spans)
  text =
      subst (Appends (g.O.Write.contents c.args.out.now) (g.O.Write.contents c.write_spans.new.out))
      (rows_are c.args.path.now.by (by_packets c.args.asked.now.packets) sent c.args.bytes.now
      c.start_of-start.result.header c.start_of-start.result.fault c.new-spans.result c.first_place-from.result by_is
      c.first_place-from.ensures (c.new-spans.ensures.spans (sight_of c.args.path.now.by sent)) report)
      (c.in_ok-read.ensures.text sent audits short)

pub returns-in_err-read-clause-cut : goal.returns-in_err-read-clause-cut
returns-in_err-read-clause-cut g c = λ sent audits by_is.
    let how = by_packets c.args.asked.now.packets in
    let few = c.new-spans.ensures.few in
    let short : length c.new-spans.result.bytes < 2 ^ 64 = omega (arith, few) in
    cut_in_front c.args.asked.now c.args.harts
    (record { header = c.args.path.now.header; messages = sent }) c.args.bytes.now
    (came_of how sent c.args.bytes.now c.start_of-start.result.header c.start_of-start.result.fault)
    (is_came_of how sent c.args.bytes.now c.start_of-start.result.header c.start_of-start.result.fault
    c.start_of-start.ensures) (g.O.Write.contents c.args.out.now) (g.O.Write.contents c.write_spans.new.out)
    (subst
    (λ text. AppendsBeginning text (g.O.Write.contents c.args.out.now) (g.O.Write.contents c.write_spans.new.out))
    (rows_are c.args.path.now.by how sent c.args.bytes.now c.start_of-start.result.header c.start_of-start.result.fault
    c.new-spans.result c.first_place-from.result by_is c.first_place-from.ensures
    (c.new-spans.ensures.spans (sight_of c.args.path.now.by sent))
    (record { format = c.args.asked.now.format; harts = c.args.harts; summary = c.args.asked.now.summary }))
    (c.write_spans.ensures.begun sent audits short))

pub returns-clause-printed : goal.returns-clause-printed
returns-clause-printed g c = λ sent audits by_is.
    let at = (goal.at.returns-clause-printed g c).After-write_rest in
    let mid = g.O.Write.contents c.write_spans.new.out in
    let new = g.O.Write.contents c.write_rest.new.out in
    let asked = c.args.asked.now in
    let how = by_packets asked.packets in
    let came = came_of how sent c.args.bytes.now c.start_of-start.result.header c.start_of-start.result.fault in
    audit_printed asked c.args.harts (record { header = c.args.path.now.header; messages = sent }) c.args.bytes.now came
    (is_came_of how sent c.args.bytes.now c.start_of-start.result.header c.start_of-start.result.fault
    c.start_of-start.ensures) c.write_rest.result
    (g.O.Write.contents c.args.out.now) mid new (text g at sent audits by_is)
    (subst
    (λ header. EndsRest how (report g at sent audits by_is) asked.received
    (record { header = header; messages = sent }) came c.write_rest.result mid new) c.write_spans.ensures.header
    (subst
    (λ h. EndsRest h (report g at sent audits by_is) asked.received
    (record { header = c.write_spans.new.path.header; messages = sent })
    came c.write_rest.result mid new) (how_is g at sent audits by_is)
    (c.write_rest.ensures.written sent came (has g at sent audits by_is))))

pub returns-clause-cut : goal.returns-clause-cut
returns-clause-cut g c = λ sent audits by_is.
    let at = (goal.at.returns-clause-cut g c).After-write_rest in
    let mid = g.O.Write.contents c.write_spans.new.out in
    let new = g.O.Write.contents c.write_rest.new.out in
    let asked = c.args.asked.now in
    let how = by_packets asked.packets in
    let came = came_of how sent c.args.bytes.now c.start_of-start.result.header c.start_of-start.result.fault in
    cut_in_rest asked c.args.harts (record { header = c.args.path.now.header; messages = sent }) c.args.bytes.now came
    (is_came_of how sent c.args.bytes.now c.start_of-start.result.header c.start_of-start.result.fault
    c.start_of-start.ensures)
    (g.O.Write.contents c.args.out.now) mid new (text g at sent audits by_is)
    (subst
    (λ header. AppendsBeginning (rows_behind how (report g at sent audits by_is)
    (record { header = header; messages = sent }) came) mid new) c.write_spans.ensures.header
    (subst
    (λ h. AppendsBeginning (rows_behind h (report g at sent audits by_is)
    (record { header = c.write_spans.new.path.header; messages = sent }) came) mid new) (how_is g at sent audits by_is)
    (c.write_rest.ensures.begun sent came (has g at sent audits by_is))))
