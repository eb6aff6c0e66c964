-- The parts are written one after the other: by lemmas on parts of a text, which no tactic finds.
use Rattle.std.proofs.Common.{◌++◌, List, Option, ℕ}
use Rattle.std.proofs.KnownBytes.{Appends-trans}
use Rattle.std.specs.Io.KnownBytes.{Appends}
use Rattle.output.specs.Begun.{AppendsBeginning}
use Rattle.output.proofs.Beginnings.{begun_behind, begun_between, begun_in_front, begun_kept}
use Rattle.command_inputs.proofs.Runs.{appends-keeps}
use Rattle.path_commands.specs.AuditText.{unless_summary}
use Rattle.path_commands.specs.MatchedRows.{matched_rows, own_row, single_rows, total_row}
use Rattle.path_commands.specs.UnnumberedText.{of_selected, texts_from}
use Rattle.path_commands.proofs.matched_report.write_matched_rows.Goals.{After-write_text}
use Rattle.path_commands.proofs.matched_report.write_matched_rows.Goals as goal

pub returns-in_err-write_singles-clause-begun : goal.returns-in_err-write_singles-clause-begun
returns-in_err-write_singles-clause-begun g c =
    let report = c.args.report in
    begun_in_front (unless_summary report.summary (single_rows report.format c.args.all.now c.args.runs.now c.args.lines.now))
    (texts_from (of_selected report.harts (own_row report.format)) 0 c.args.all.now
    ++ total_row report.format c.args.its)
    (g.O.Write.contents c.args.out.now) (g.O.Write.contents c.write_singles.new.out) c.write_singles.ensures.begun

pub returns-in_err-write_aligned-clause-begun : goal.returns-in_err-write_aligned-clause-begun
returns-in_err-write_aligned-clause-begun g c =
    let report = c.args.report in
    begun_between (unless_summary report.summary (single_rows report.format c.args.all.now c.args.runs.now c.args.lines.now))
    (texts_from (of_selected report.harts (own_row report.format)) 0 c.args.all.now)
    (total_row report.format c.args.its)
    (g.O.Write.contents c.args.out.now) (g.O.Write.contents c.write_singles.new.out)
    (g.O.Write.contents c.write_aligned.new.out) c.in_ok-write_singles.ensures.text c.write_aligned.ensures.begun

module _ (g : _) (c : After-write_text g) where
  abbrev text : List ℕ
  text = matched_rows c.args.report c.args.all.now c.args.runs.now c.args.lines.now c.args.its

  abbrev singles : List ℕ
  singles =
      unless_summary c.args.report.summary (single_rows c.args.report.format c.args.all.now c.args.runs.now c.args.lines.now)

  abbrev rows : List ℕ
  rows = texts_from (of_selected c.args.report.harts (own_row c.args.report.format)) 0 c.args.all.now

  abbrev last : List ℕ
  last = total_row c.args.report.format c.args.its

  last_begun : (new : Option (List ℕ)) → AppendsBeginning last (g.O.Write.contents c.write_aligned.new.out) new
      → AppendsBeginning text (g.O.Write.contents c.args.out.now) new
  last_begun new begun =
      begun_behind singles (rows ++ last) (g.O.Write.contents c.args.out.now)
      (g.O.Write.contents c.write_singles.new.out) new c.in_ok-write_singles.ensures.text
      (begun_behind rows last (g.O.Write.contents c.write_singles.new.out)
      (g.O.Write.contents c.write_aligned.new.out) new c.in_ok-write_aligned.ensures.text begun)

  last_all : (new : Option (List ℕ)) → Appends (g.O.Write.contents c.write_aligned.new.out) new last
      → Appends (g.O.Write.contents c.args.out.now) new text
  last_all new all =
      Appends-trans (g.O.Write.contents c.args.out.now) (g.O.Write.contents c.write_singles.new.out) new singles
      (rows ++ last) c.in_ok-write_singles.ensures.text
      (Appends-trans (g.O.Write.contents c.write_singles.new.out) (g.O.Write.contents c.write_aligned.new.out) new rows
      last c.in_ok-write_aligned.ensures.text all)

pub returns-in_err-write_text-clause-begun : goal.returns-in_err-write_text-clause-begun
returns-in_err-write_text-clause-begun g c =
    last_begun g (goal.at.returns-in_err-write_text-clause-begun g c).After-write_text
    (g.O.Write.contents c.write_text.new.out) c.write_text.ensures.begun

pub returns-in_err-flush-clause-begun : goal.returns-in_err-flush-clause-begun
returns-in_err-flush-clause-begun g c =
    let at = (goal.at.returns-in_err-flush-clause-begun g c).After-write_text in
    let mid = g.O.Write.contents c.write_text.new.out in
    begun_kept (text g at) (g.O.Write.contents c.args.out.now) mid (g.O.Write.contents c.flush.new.self)
    (last_begun g at mid c.write_text.ensures.begun) c.flush.ensures.bytes

pub returns-clause-begun : goal.returns-clause-begun
returns-clause-begun g c =
    let at = (goal.at.returns-clause-begun g c).After-write_text in
    let mid = g.O.Write.contents c.write_text.new.out in
    begun_kept (text g at) (g.O.Write.contents c.args.out.now) mid (g.O.Write.contents c.flush.new.self)
    (last_begun g at mid c.write_text.ensures.begun) c.flush.ensures.bytes

pub returns-clause-text : goal.returns-clause-text
returns-clause-text g c =
    let at = (goal.at.returns-clause-text g c).After-write_text in
    let mid = g.O.Write.contents c.write_text.new.out in
    appends-keeps (g.O.Write.contents c.args.out.now) mid (g.O.Write.contents c.flush.new.self) (text g at)
    (last_all g at mid c.in_ok-write_text.ensures.whole) c.flush.ensures.bytes
