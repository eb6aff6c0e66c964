-- What was checked and written line by line is the capture of the text: by a lemma on its lines.
use Rattle.std.proofs.Common.{◌≡◌, ◌<◌, ◌^◌, ◌∙◌, false, Some, Err, refl, rules, sym}
use Rattle.std.specs.Str.Lines.{lines}
use Rattle.captures.specs.Capture.{capture_of_text}
use Rattle.captures.specs.Pass.{no_lines, pass}
use Rattle.captures.proofs.Whole.{IsAccepted, accepted_text, may_start, refused_text}
use Rattle.captures.proofs.line_writing.write_capture.Goals.{After-write_checked}
use Rattle.captures.proofs.line_writing.write_capture.Goals as goal

pub returns-in-Err-clause-write_fault : goal.returns-in-Err-clause-write_fault
returns-in-Err-clause-write_fault g c =
    let wrong : capture_of_text c.args.settings c.args.text.now ≡ Err c.in-Err.fault =
    refused_text c.args.settings c.form_of-form.result c.args.text.now c.form_of-form.ensures c.in-Err.fault
    (sym c.check.ensures.value ∙ c.in-Err.is) in
    rw wrong tt

pub returns-in-Err-clause-line_fault : goal.returns-in-Err-clause-line_fault
returns-in-Err-clause-line_fault g c =
    let wrong : capture_of_text c.args.settings c.args.text.now ≡ Err c.in-Err.fault =
    refused_text c.args.settings c.form_of-form.result c.args.text.now c.form_of-form.ensures c.in-Err.fault
    (sym c.check.ensures.value ∙ c.in-Err.is) in
    rw wrong refl

module _ (g : _) (c : After-write_checked g) where
  right : IsAccepted c.args.settings c.in-Ok.harts (capture_of_text c.args.settings c.args.text.now)
      (pass c.args.settings false (no_lines (Some c.form_of-form.result)) (lines c.args.text.now))
  right =
      accepted_text c.args.settings c.form_of-form.result c.args.text.now c.form_of-form.ensures c.in-Ok.harts
      (sym c.check.ensures.value ∙ c.in-Ok.is)

pub write_checked-requires : goal.write_checked-requires
write_checked-requires g c =
    let few : c.args.settings.period < 2 ^ 16 = search rules in
    let accepted = accepted_text c.args.settings c.form_of-form.result c.args.text.now c.form_of-form.ensures
    c.in-Ok.harts (sym c.check.ensures.value ∙ c.in-Ok.is) in
    record {
      header =
          may_start c.args.settings c.in-Ok.harts c.requires.period few c.requires.harts c.in-Ok.ensures.some
          c.in-Ok.ensures.few;
      numbers = c.requires.numbers;
      right = accepted.right;
    }

pub returns-clause-capture : goal.returns-clause-capture
returns-clause-capture g c =
    let is = (right g (goal.at.returns-clause-capture g c).After-write_checked).capture_is in
    rw is c.write_checked.ensures.written

pub returns-clause-begun : goal.returns-clause-begun
returns-clause-begun g c =
    let is = (right g (goal.at.returns-clause-begun g c).After-write_checked).capture_is in
    rw is c.write_checked.ensures.begun

pub returns-clause-line_fault : goal.returns-clause-line_fault
returns-clause-line_fault g c =
    let is = (right g (goal.at.returns-clause-line_fault g c).After-write_checked).capture_is in
    rw is tt

pub returns-clause-unwritten : goal.returns-clause-unwritten
returns-clause-unwritten g c =
    let is = (right g (goal.at.returns-clause-unwritten g c).After-write_checked).capture_is in
    rw is tt
