-- The prover tries no chain of steps by itself: what each step found is handed to it, in order.
use Rattle.std.proofs.Common.{◌≡◌, ◌∙◌, Err, List, ap, inl, length, subst, sym}
use Rattle.std.proofs.lemmas.Result.{err_from_is_err_and}
use Rattle.std.specs.Prelude.{◌+◌, ◌-◌, min}
use Rattle.bench.specs.Got.{Got}
use Rattle.command_inputs.proofs.Runs.{ends_silently}
use Rattle.comparing.proofs.SomeHarts.{of_length}
use Rattle.comparing.specs.Compared.{of_harts}
use Rattle.comparing.specs.Sourced.{AreNumbered, AreSourced, StopsEarly}
use Rattle.rvclass.specs.Fetch.{words_of}
use Rattle.log_streams.specs.Known.{Content}
use Rattle.capture_commands.specs.Comparing.{CanCompareCapture, ComparesCapture}
use Rattle.command_inputs.specs.declared.words.Compare.{Compare}
use Rattle.capture_commands.specs.Comparison.{count_at, rows_of}
use Rattle.capture_commands.specs.steps.Surveyed.{gots_in}
use Rattle.capture_commands.specs.steps.Lines.{AreLinesOfLogs}
use Rattle.capture_commands.specs.steps.Inputs.{names_in}
use Rattle.capture_commands.proofs.ComparedRuns.{as_many, count_ends, lines_never_early, lines_numbered}
use Rattle.capture_commands.proofs.ComparedRuns.{logs_end, report_cut, report_printed}
use Rattle.capture_commands.proofs.FoundHarts.{gots_found}
use Rattle.capture_commands.proofs.against_logs.compare_found.Goals.{After-check_count, After-write_report}
use Rattle.capture_commands.proofs.against_logs.compare_found.Goals as goal

module _ (g : _) (c : After-check_count g) where
  abbrev content : Content
  content = g.F.Files.content c.args.files.now

  abbrev asked : Compare
  asked = c.args.asked.now

  abbrev gots : List Got
  gots = gots_in c.args.input.now.only c.requires.found.lists c.args.found.now

  -- There are as many as lists of places.
  many : length gots ≡ length (of_harts c.args.input.now.only c.args.found.now.places.items)
  many =
      gots_found c.args.input.now.only (words_of c.args.input.now.program.now) c.args.found.now c.requires.found.lists
      c.requires.found.are

  -- What the count of logs is compared with, and what it is found to be.
  counted : c.check_count.result ≡ count_at (length gots) asked.logs.items
  counted =
      c.check_count.ensures
      ∙ ap (λ harts. count_at harts c.as_slice-paths.result.now)
      (c.harts_below.ensures.count
      ∙ ap (λ many. min (c.args.input.now.only.last + 1 - c.args.input.now.only.first) (many - c.args.input.now.only.first))
      (c.len.ensures ∙ c.args.found.now.places.ok.0)
      ∙ sym (of_length c.args.input.now.only c.args.found.now.places.items) ∙ sym many)
      ∙ ap (count_at (length gots)) c.as_slice-paths.ensures.value

pub returns-in_err-check_count-clause-printed : goal.returns-in_err-check_count-clause-printed
returns-in_err-check_count-clause-printed g c =
    let at = (goal.at.returns-in_err-check_count-clause-printed g c).After-check_count in
    let found = c.args.found.now in
    let why = c.in_err-check_count.field-0.0 in
    let made = err_from_is_err_and c.from_residual.result
    c.from_residual.ensures.1 in
    let is : c.from_residual.result ≡ Err why = made.1 ∙ ap Err made.2 in
    count_ends (content g at) (asked g at) c.args.input.now.only c.args.input.now.program.now (names_in c.args.input.now) c.args.input.now.bytes.now (gots g at) found.stop
    c.requires.found.got c.requires.no_memory why
    c.from_residual.result (g.O.Write.contents c.args.out.now) is
    (sym c.in_err-check_count.was ∙ counted g at)

pub lines_of_logs-requires-clause-many : goal.lines_of_logs-requires-clause-many
lines_of_logs-requires-clause-many g c = λ lifetimes live.
    let at = (goal.at.lines_of_logs-requires-clause-many g c).After-check_count in
    as_many (length (gots g at)) c.args.asked.now.logs.items tt (sym c.in_ok-check_count.was ∙ counted g at)
    ∙ many g at

pub returns-in_err-lines-clause-printed : goal.returns-in_err-lines-clause-printed
returns-in_err-lines-clause-printed g c =
    let at = (goal.at.returns-in_err-lines-clause-printed g c).After-check_count in
    let found = c.args.found.now in
    let why = c.in_err-lines.field-0.0 in
    let made = err_from_is_err_and c.from_residual-in_err-lines.result c.from_residual-in_err-lines.ensures.1 in
    let is : c.from_residual-in_err-lines.result ≡ Err why = made.1 ∙ ap Err made.2 in
    logs_end (content g at) (asked g at) c.args.input.now.only c.args.input.now.program.now (names_in c.args.input.now) c.args.input.now.bytes.now (gots g at) found.stop
    c.requires.found.got c.requires.no_memory tt (sym c.in_ok-check_count.was ∙ counted g at) why
    c.from_residual-in_err-lines.result (g.O.Write.contents c.args.out.now) is c.in_err-lines.ensures.fault

pub sourced_lines-requires-clause-numbered : goal.sourced_lines-requires-clause-numbered
sourced_lines-requires-clause-numbered g c =
    let at = (goal.at.sourced_lines-requires-clause-numbered g c).After-check_count in
    subst (AreNumbered c.args.input.now.only.first) (sym c.as_slice-said.ensures.value)
    (lines_numbered (rows_of c.args.asked.now.long) (content g at) c.args.input.now.program.now c.args.asked.now.logs.items
    c.args.input.now.only.first (gots g at) c.in_ok-lines.lines.items
    (c.in_ok-lines.ensures.lines c.requires.found.lists c.requires.found.are))

pub sourced_lines-requires-clause-never : goal.sourced_lines-requires-clause-never
sourced_lines-requires-clause-never g c =
    let at = (goal.at.sourced_lines-requires-clause-never g c).After-check_count in
    let words = words_of c.args.input.now.program.now in
    subst (λ lines. ¬ StopsEarly words c.args.input.now.bytes.now c.args.found.now.stop lines)
    (sym c.as_slice-said.ensures.value)
    (lines_never_early (rows_of c.args.asked.now.long) (content g at) c.args.input.now.program.now
    c.args.asked.now.logs.items c.args.input.now.only c.args.asked.now.harts c.args.input.now.bytes.now (gots g at)
    c.args.found.now.stop c.in_ok-lines.lines.items (c.in_ok-lines.ensures.lines c.requires.found.lists c.requires.found.are)
    c.requires.found.got)

pub returns-in_err-sourced-clause-printed : goal.returns-in_err-sourced-clause-printed
returns-in_err-sourced-clause-printed g c =
    let at = (goal.at.returns-in_err-sourced-clause-printed g c).After-check_count in
    let why = c.in_err-sourced.field-0.0 in
    let made = err_from_is_err_and c.from_residual-in_err-sourced.result c.from_residual-in_err-sourced.ensures.1 in
    let is : c.from_residual-in_err-sourced.result ≡ Err why = made.1 ∙ ap Err made.2 in
    ends_silently
    (ComparesCapture (content g at) (asked g at) c.args.input.now.only c.args.input.now.program.now (names_in c.args.input.now)
    c.args.input.now.bytes.now)
    (CanCompareCapture (content g at) (asked g at) c.args.input.now.only c.args.input.now.program.now c.args.input.now.bytes.now)
    ⊥ why c.from_residual-in_err-sourced.result (g.O.Write.contents c.args.out.now) is (inl c.in_err-sourced.ensures.fault)
    (λ none. absurd none)

module _ (g : _) (c : After-write_report g) where
  lines_are : AreLinesOfLogs (rows_of c.args.asked.now.long) (g.F.Files.content c.args.files.now) c.args.input.now.program.now
      c.args.asked.now.logs.items c.args.input.now.only.first
      (gots_in c.args.input.now.only c.requires.found.lists c.args.found.now) c.as_slice-said.result.now
  lines_are =
      subst (λ lines. AreLinesOfLogs (rows_of c.args.asked.now.long) (g.F.Files.content c.args.files.now)
      c.args.input.now.program.now c.args.asked.now.logs.items c.args.input.now.only.first
      (gots_in c.args.input.now.only c.requires.found.lists c.args.found.now) lines)
      (sym c.as_slice-said.ensures.value)
      (c.in_ok-lines.ensures.lines c.requires.found.lists c.requires.found.are)

  sourced_are : AreSourced (words_of c.args.input.now.program.now) c.args.input.now.bytes.now c.args.found.now.stop
      c.as_slice-said.result.now c.as_slice-harts.result.now
  sourced_are =
      subst
      (AreSourced (words_of c.args.input.now.program.now) c.args.input.now.bytes.now c.args.found.now.stop
      c.as_slice-said.result.now)
      (sym c.as_slice-harts.ensures.value) c.in_ok-sourced.ensures.sourced

pub returns-clause-refused : goal.returns-clause-refused
returns-clause-refused g c = λ refused. absurd (c.write_report.ensures.never_refused refused)

pub returns-clause-untouched : goal.returns-clause-untouched
returns-clause-untouched g c = λ memory.
    absurd (c.requires.no_memory (c.write_report.ensures.memory memory))

pub returns-clause-printed : goal.returns-clause-printed
returns-clause-printed g c =
    let before = (goal.at.returns-clause-printed g c).After-check_count in
    let at = (goal.at.returns-clause-printed g c).After-write_report in
    let found = c.args.found.now in
    report_printed (content g before) (asked g before) c.args.input.now.only c.args.input.now.program.now (names_in c.args.input.now) c.args.input.now.bytes.now
    (gots g before) found.stop c.requires.found.got c.requires.no_memory tt
    (sym c.in_ok-check_count.was ∙ counted g before)
    c.as_slice-said.result.now c.as_slice-harts.result.now (lines_are g at) (sourced_are g at) c.write_report.result (g.O.Write.contents c.args.out.now)
    (g.O.Write.contents c.write_report.new.out) c.write_report.ensures.printed

pub returns-clause-cut : goal.returns-clause-cut
returns-clause-cut g c =
    let before = (goal.at.returns-clause-cut g c).After-check_count in
    let at = (goal.at.returns-clause-cut g c).After-write_report in
    let found = c.args.found.now in
    report_cut (content g before) (asked g before) c.args.input.now.only c.args.input.now.program.now (names_in c.args.input.now) c.args.input.now.bytes.now
    (gots g before) found.stop c.requires.found.got c.requires.no_memory tt
    (sym c.in_ok-check_count.was ∙ counted g before)
    c.as_slice-said.result.now c.as_slice-harts.result.now (lines_are g at) (sourced_are g at) (g.O.Write.contents c.args.out.now)
    (g.O.Write.contents c.write_report.new.out) c.write_report.ensures.begun
