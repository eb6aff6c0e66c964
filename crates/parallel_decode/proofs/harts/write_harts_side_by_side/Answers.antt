-- The stretches have the text of the harts: it is handed on by hand.
use Rattle.std.proofs.Common.{List, subst, sym}
use Rattle.rvclass.proofs.WordsLemmas.{words_of-IsProgram}
use Rattle.rvclass.specs.Fetch.{words_of}
use Rattle.retire.specs.declared.event.Event.{Event}
use Rattle.parallel_decode.proofs.PutLemmas.{put_begun, put_never_memory, put_whole}
use Rattle.parallel_decode.specs.HartsText.{harts_text_of}
use Rattle.parallel_decode.specs.Marks.{AreMarkedLogs}
use Rattle.parallel_decode.proofs.PuttingLemmas.{left_all}
use Rattle.parallel_decode.proofs.ShelfLemmas.{shelves_hold}
use Rattle.parallel_decode.specs.steps.Stretches.{HaveText}
use Rattle.parallel_decode.proofs.harts.write_harts_side_by_side.Goals.{After-slots_for-slots}
use Rattle.parallel_decode.proofs.harts.write_harts_side_by_side.Goals as goal

module _ (g : _) (c : After-slots_for-slots g) (logs : List (List Event))
    (are : AreMarkedLogs (words_of c.args.messages.now.program.now) c.args.messages.now.bytes.now
    c.args.survey.now.places.items c.args.survey.now.marks.items logs) where
  -- The stretches add the text.
  have : HaveText (words_of c.args.messages.now.program.now) c.args.messages.now.bytes.now c.as_slice-places.result.now
      c.as_slice-2.result.now (harts_text_of c.args.messages.now.range 0 logs)
  have =
      let words = words_of c.args.messages.now.program.now in
      let bytes = c.args.messages.now.bytes.now in
      let places = c.as_slice-places.result.now in
      subst (λ stretches. HaveText words bytes places stretches (harts_text_of c.args.messages.now.range 0 logs))
      (sym c.as_slice-2.ensures.value)
      (c.in_ok-stretches.ensures words bytes logs
      (words_of-IsProgram c.args.messages.now.program.now c.byte_count.ensures.kept)
      (subst (λ marks. AreMarkedLogs words bytes places marks logs) (sym c.as_slice.ensures.value)
      (subst (λ own. AreMarkedLogs words bytes own c.args.survey.now.marks.items logs)
      (sym c.as_slice-places.ensures.value) are)))

pub write_in_rounds-requires-clause-job : goal.write_in_rounds-requires-clause-job
write_in_rounds-requires-clause-job g c = λ κs within.
    shelves_hold _ (
      harts_text_of c.args.messages.now.range 0 c.requires.marked.0,
      have g (goal.at.write_in_rounds-requires-clause-job g c).After-slots_for-slots c.requires.marked.0
          c.requires.marked.1,
    )

pub returns-clause-text : goal.returns-clause-text
returns-clause-text g c = λ logs are.
    let text = harts_text_of c.args.messages.now.range 0 logs in
    let old = g.O.Write.contents c.args.out.now in
    put_whole c.write_in_rounds.result old (g.O.Write.contents c.write_in_rounds.new.out) text
    (c.write_in_rounds.ensures text old
    (left_all _ text old (have g (goal.at.returns-clause-text g c).After-slots_for-slots logs are)))

pub returns-clause-begun : goal.returns-clause-begun
returns-clause-begun g c = λ logs are.
    let text = harts_text_of c.args.messages.now.range 0 logs in
    let old = g.O.Write.contents c.args.out.now in
    put_begun c.write_in_rounds.result old (g.O.Write.contents c.write_in_rounds.new.out) text
    (c.write_in_rounds.ensures text old
    (left_all _ text old (have g (goal.at.returns-clause-begun g c).After-slots_for-slots logs are)))

pub returns-clause-untouched : goal.returns-clause-untouched
returns-clause-untouched g c = λ memory.
    let text = harts_text_of c.args.messages.now.range 0 c.requires.marked.0 in
    let old = g.O.Write.contents c.args.out.now in
    let after = (goal.at.returns-clause-untouched g c).After-slots_for-slots in
    absurd (put_never_memory c.write_in_rounds.result old (g.O.Write.contents c.write_in_rounds.new.out) text
    (c.write_in_rounds.ensures text old
    (left_all _ text old (have g after c.requires.marked.0 c.requires.marked.1))) memory)
