-- The text and the end are those of the definition, by what was counted: by lemmas, which no tactic finds.
use Rattle.std.proofs.lemmas.List.{length-map}
use Rattle.std.proofs.Common.{◌≡◌, ◌∙◌, List, inr, ap, length, map, subst}
use Rattle.std.specs.Prelude.{◌&&◌, ◌==◌, is_none, not}
use Rattle.std.specs.Io.KnownBytes.{Appends}
use Rattle.output.specs.Begun.{AppendsBeginning}
use Rattle.frames.specs.Counted.{messages_in}
use Rattle.frames.specs.declared.span.Span.{Span}
use Rattle.message.specs.declared.message.Message.{Message}
use Rattle.std.specs.List.{filter}
use Rattle.message.specs.Range.{selects}
use Rattle.auditing.specs.Arrivals.{arrival_lines}
use Rattle.path_commands.proofs.ByHartLemmas.{strangers_are}
use Rattle.path_commands.proofs.MatchedRuns.{none_begun}
use Rattle.path_commands.specs.MatchedRows.{matched_report}
use Rattle.path_commands.specs.Rows.{report_of}
use Rattle.path_commands.specs.ReceivedCapture.{ReceivedCapture, is_undamaged}
use Rattle.path_commands.specs.Sides.{end_of_audit}
use Rattle.path_commands.specs.Unnumbered.{byte_runs, is_whole_unnumbered, lines_of, matched_total, strangers_among}
use Rattle.path_commands.specs.Unnumbered.{unnumbered_audit}
use Rattle.path_commands.specs.UnnumberedText.{first_place_of, hart_of}
use Rattle.path_commands.specs.declared.matched_rows.MatchedTotal.{MatchedTotal}
use Rattle.path_commands.specs.declared.report.Report.{Report}
use Rattle.path_commands.specs.steps.Matching.{KeepsSpans, capture_with, strangers_of}
use Rattle.path_commands.proofs.matching.write_found.Goals.{After-write_report}
use Rattle.path_commands.proofs.matching.write_found.Goals as goal

module _ (g : _) (c : After-write_report g) (spans : List Span) (own : KeepsSpans c.args.harts spans c.args.came.now) where
  abbrev its : ReceivedCapture
  its = capture_with c.args.came.now spans

  abbrev messages : List Message
  messages = messages_in spans

  abbrev report : Report
  report = report_of c.args.asked.now.format c.args.asked.now c.args.harts

  harts_are : c.as_slice-own.result.now ≡ map (λ (message : Message). message.hart) messages
  harts_are = c.as_slice-own.ensures.value ∙ own.lists.each

  counted : length c.as_slice-own.result.now ≡ length messages
  counted = ap length harts_are ∙ length-map messages (λ (message : Message). message.hart)

  lines_is : c.as_slice-lines.result.now ≡ lines_of c.args.harts its c.args.all.now
  lines_is =
      c.as_slice-lines.ensures.value ∙ c.in_ok-kept.ensures
      ∙ ap (λ l. filter (λ one. selects c.args.harts (hart_of one)) (arrival_lines c.args.all.now l)) harts_are

  strangers_is : c.strangers_among-strangers.result ≡ strangers_among c.args.harts (length c.args.all.now) messages
  strangers_is =
      c.strangers_among-strangers.ensures
      ∙ ap (strangers_of c.args.harts (length c.args.all.now)) harts_are
      ∙ strangers_are c.args.harts (length c.args.all.now) messages

  undamaged : c.is_undamaged-undamaged.result ≡ is_undamaged its
  undamaged = c.is_undamaged-undamaged.ensures ∙ ap (λ n. is_none c.args.came.now.fault && (n == 0)) own.bytes

  whole : c.is_whole-whole.result ≡ is_whole_unnumbered c.args.harts c.args.header its c.args.all.now
  whole =
      c.is_whole-whole.ensures
      ∙ (λ i. (c.total_of-total.ensures i).whole && (strangers_is i == 0) && not (c.are_unlike-unlike.ensures i)
      && undamaged i)

  abbrev total : MatchedTotal
  total = record {
    harts = c.count_among.result;
    total = c.total_of-total.result;
    messages = length c.as_slice-own.result.now;
    strangers = c.strangers_among-strangers.result;
    bytes = c.args.came.now.read.bytes;
    runs = c.args.came.now.read.runs;
    unlike = c.are_unlike-unlike.result;
    first = c.first_of.result;
    whole = c.is_whole-whole.result;
  }

  total_is : total ≡ matched_total c.args.harts c.args.header its c.args.all.now
  total_is = λ i. record {
    harts = c.count_among.ensures i;
    total = c.total_of-total.ensures i;
    messages = counted i;
    strangers = strangers_is i;
    bytes = own.bytes i;
    runs = own.count i;
    unlike = c.are_unlike-unlike.ensures i;
    first = (c.first_of.ensures ∙ ap first_place_of lines_is) i;
    whole = whole i;
  }

  runs_is : c.as_slice-runs.result.now ≡ byte_runs 0 spans
  runs_is = c.as_slice-runs.ensures.value ∙ own.runs

  text : matched_report report c.args.all.now c.as_slice-runs.result.now c.as_slice-lines.result.now total
      ≡ unnumbered_audit report c.args.header its c.args.all.now
  text = λ i. matched_report report c.args.all.now (runs_is i) (lines_is i) (total_is i)

pub returns-in_err-kept-clause-begun : goal.returns-in_err-kept-clause-begun
returns-in_err-kept-clause-begun g c = λ spans own.
    none_begun
    (unnumbered_audit (report_of c.args.asked.now.format c.args.asked.now c.args.harts) c.args.header
    (capture_with c.args.came.now spans) c.args.all.now) (g.O.Write.contents c.args.out.now)

pub returns-in_err-write_report-clause-begun : goal.returns-in_err-write_report-clause-begun
returns-in_err-write_report-clause-begun g c = λ spans own.
    let at = (goal.at.returns-in_err-write_report-clause-begun g c).After-write_report in
    subst (λ t. AppendsBeginning t (g.O.Write.contents c.args.out.now) (g.O.Write.contents c.write_report.new.out))
    (text g at spans own) c.write_report.ensures.begun

pub returns-clause-begun : goal.returns-clause-begun
returns-clause-begun g c = λ spans own.
    let at = (goal.at.returns-clause-begun g c).After-write_report in
    subst (λ t. AppendsBeginning t (g.O.Write.contents c.args.out.now) (g.O.Write.contents c.write_report.new.out))
    (text g at spans own) c.write_report.ensures.begun

pub returns-clause-written : goal.returns-clause-written
returns-clause-written g c = λ spans own.
    let at = (goal.at.returns-clause-written g c).After-write_report in
    inr (inr (
      subst (Appends (g.O.Write.contents c.args.out.now) (g.O.Write.contents c.write_report.new.out))
          (text g at spans own) c.in_ok-write_report.ensures.text,
      c.ended.ensures.value
          ∙ ap (end_of_audit c.args.asked.now.received c.args.came.now.fault) (whole g at spans own),
    ))
