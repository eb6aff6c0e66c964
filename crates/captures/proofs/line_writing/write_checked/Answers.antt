-- What a capture begins with and the messages are written one after the other: by a lemma on what a writer holds.
use Rattle.std.proofs.Common.{[], ◌++◌, false, Some, subst}
use Rattle.std.specs.Str.Lines.{lines}
use Rattle.captures.specs.Versions.{start_bytes}
use Rattle.message.specs.Capture.{capture}
use Rattle.output.proofs.Beginnings.{begun_in_front}
use Rattle.captures.specs.Capture.{header_with}
use Rattle.captures.specs.Pass.{IsPassed, no_lines, pass}
use Rattle.captures.proofs.Passes.{IsWritten, all_written}
use Rattle.captures.proofs.line_writing.write_checked.Goals.{After-add}
use Rattle.captures.proofs.line_writing.write_checked.Goals as goal

pub returns-in_default-clause-begun : goal.returns-in_default-clause-begun
returns-in_default-clause-begun g c =
    let start = start_bytes c.args.settings.now.version (header_with c.args.settings.now c.args.harts) in
    let sent = capture (pass c.args.settings.now false (no_lines (Some c.args.form)) (lines c.args.text.now)).messages
    in
    let begun = rw (c.from-harts.ensures, c.unwrap_or.ensures) at c.write_start.ensures.begun in
    begun_in_front start sent (g.W.Write.contents c.args.sink.now) (g.W.Write.contents c.write_start.new.sink) begun

module _ (g : _) (c : After-add g) where
  all : IsWritten (start_bytes c.args.settings.now.version (header_with c.args.settings.now c.args.harts)
      ++ capture (pass c.args.settings.now false (no_lines (Some c.args.form)) (lines c.args.text.now)).messages)
      c.add.result (g.W.Write.contents c.args.sink.now) (g.W.Write.contents c.add.new.sink)
  all =
      let settings = c.args.settings.now in
      let text = lines c.args.text.now in
      let mid = g.W.Write.contents c.write_start.new.sink in
      let new = g.W.Write.contents c.add.new.sink in
      all_written (start_bytes settings.version (header_with settings c.args.harts))
      (pass settings false (no_lines (Some c.args.form)) text) c.add.new.self (g.W.Write.contents c.args.sink.now) mid
      new c.add.result c.requires.right (rw (c.from-harts.ensures, c.unwrap_or.ensures) at c.in-Ok.ensures.written)
      (subst (λ own. IsPassed [] (pass settings false own text) c.add.result c.add.new.self mid new)
      c.of_form-passed.ensures c.add.ensures)

pub returns-clause-written : goal.returns-clause-written
returns-clause-written g c = (all g (goal.at.returns-clause-written g c).After-add).written

pub returns-clause-begun : goal.returns-clause-begun
returns-clause-begun g c = (all g (goal.at.returns-clause-begun g c).After-add).begun

pub returns-clause-fault : goal.returns-clause-fault
returns-clause-fault g c = (all g (goal.at.returns-clause-fault g c).After-add).fault
