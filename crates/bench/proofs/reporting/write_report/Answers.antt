-- The three parts of the text are written one after the other.
use Rattle.std.proofs.Common.{◌≡◌, List, ℕ, map, refl, ap, subst, ◌∙◌}
use Rattle.std.specs.Prelude.{◌&&◌, ◌++◌, Result, Ok, is_none}
use Rattle.std.specs.Io.KnownBytes.{Appends}
use Rattle.output.specs.Begun.{AppendsBeginning}
use Rattle.output.proofs.Beginnings.{begun_behind, begun_in_front}
use Rattle.legalpath.specs.ProgramLog.{ProgramLog}
use Rattle.message.proofs.Writes.{Appends-then}
use Rattle.bench.specs.Got.{got_of}
use Rattle.bench.specs.Report.{are_whole, report_lines, is_whole, result_line, stop_line}
use Rattle.bench.specs.declared.outcome.HartOutcome.{HartOutcome}
use Rattle.bench.specs.declared.outcome.Outcome.{Outcome}
use Rattle.bench.proofs.ReportLemmas.{none_of}
use Rattle.bench.proofs.reporting.write_report.Goals.{After-write_result}
use Rattle.bench.proofs.reporting.write_report.Goals as goal

-- The lines of harts.
abbrev lines_of : {A : Type 0} → List (HartOutcome A) → List ProgramLog → List ℕ
lines_of harts logs = report_lines 0 (map got_of harts) logs

-- What stands behind the lines of an outcome's harts.
abbrev behind : {A : Type 0} → Outcome A → List ProgramLog → List ℕ
behind outcome logs =
    stop_line outcome.stop ++ result_line (is_whole outcome.stop (map got_of outcome.harts.items) logs)

pub returns-in_err-all_whole-clause-begun : goal.returns-in_err-all_whole-clause-begun
returns-in_err-all_whole-clause-begun g c =
    let outcome = c.args.outcome.now in
    let logs = c.args.logs.now in
    begun_in_front (lines_of outcome.harts.items logs) (behind outcome logs) _ _
    (subst (λ harts. AppendsBeginning (lines_of harts logs) (g.W.Write.contents c.args.sink.now)
    (g.W.Write.contents c.write_harts.new.sink)) c.as_slice.ensures.value c.write_harts.ensures.begun)

pub returns-in_err-write_stop-clause-begun : goal.returns-in_err-write_stop-clause-begun
returns-in_err-write_stop-clause-begun g c =
    let outcome = c.args.outcome.now in
    let logs = c.args.logs.now in
    begun_behind (lines_of outcome.harts.items logs) (behind outcome logs) _ _ _
    (subst (λ harts. Appends (g.W.Write.contents c.args.sink.now) (g.W.Write.contents c.write_harts.new.sink)
    (lines_of harts logs)) c.as_slice.ensures.value c.in_ok-all_whole.ensures.text)
    (begun_in_front (stop_line outcome.stop) _ _ _ c.write_stop.ensures.begun)

module _ (g : _) (c : After-write_result g) where
  -- The line of the result is that of the definition.
  both : (c.is_none.result && c.in_ok-all_whole.all_whole) ≡ (is_none c.args.outcome.now.stop
      && are_whole (map got_of c.args.outcome.now.harts.items) c.args.logs.now)
  both =
      ap (λ n. n && c.in_ok-all_whole.all_whole) (none_of c.args.outcome.now.stop c.is_none.result c.is_none.ensures)
      ∙ ap (λ w. is_none c.args.outcome.now.stop && w) (c.in_ok-all_whole.ensures.whole
      ∙ ap (λ harts. are_whole (map got_of harts) c.args.logs.now) c.as_slice.ensures.value)

  -- The lines of the harts are written.
  harts_written : Appends (g.W.Write.contents c.args.sink.now) (g.W.Write.contents c.write_harts.new.sink)
      (lines_of c.args.outcome.now.harts.items c.args.logs.now)
  harts_written =
      subst (λ harts. Appends (g.W.Write.contents c.args.sink.now) (g.W.Write.contents c.write_harts.new.sink)
      (lines_of harts c.args.logs.now)) c.as_slice.ensures.value c.in_ok-all_whole.ensures.text

  -- What is written is a beginning of the report.
  begun : AppendsBeginning (lines_of c.args.outcome.now.harts.items c.args.logs.now
      ++ behind c.args.outcome.now c.args.logs.now) (g.W.Write.contents c.args.sink.now)
      (g.W.Write.contents c.write_result.new.sink)
  begun =
      let outcome = c.args.outcome.now in
      let logs = c.args.logs.now in
      begun_behind (lines_of outcome.harts.items logs) (behind outcome logs) _ _ _ harts_written
      (begun_behind (stop_line outcome.stop) _ _ _ _ c.in_ok-write_stop.ensures.text
      (subst (λ whole. AppendsBeginning (result_line whole) (g.W.Write.contents c.write_stop.new.sink)
      (g.W.Write.contents c.write_result.new.sink)) both c.write_result.ensures.begun))

pub returns-in_err-write_result-clause-begun : goal.returns-in_err-write_result-clause-begun
returns-in_err-write_result-clause-begun g c = begun g (goal.at.returns-in_err-write_result-clause-begun g c).After-write_result

pub returns-clause-whole : goal.returns-clause-whole
returns-clause-whole g c = both g (goal.at.returns-clause-whole g c).After-write_result

pub returns-clause-text : goal.returns-clause-text
returns-clause-text g c =
    let after = (goal.at.returns-clause-text g c).After-write_result in
    let outcome = c.args.outcome.now in
    let lines = lines_of outcome.harts.items c.args.logs.now in
    let last = behind outcome c.args.logs.now in
    let all : Result (Unit {0}) (Unit {0}) = Ok tt in
    let late = Appends-then all _ _ _ (stop_line outcome.stop) (stop_line outcome.stop)
    (result_line (c.is_none.result && c.in_ok-all_whole.all_whole)) _ refl (ap result_line (both g after))
    c.in_ok-write_stop.ensures.text c.in_ok-write_result.ensures.text in
    Appends-then all _ _ _ lines lines last last refl refl (harts_written g after) late

pub returns-clause-begun : goal.returns-clause-begun
returns-clause-begun g c = begun g (goal.at.returns-clause-begun g c).After-write_result
