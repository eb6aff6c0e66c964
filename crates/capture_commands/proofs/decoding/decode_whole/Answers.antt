-- The prover does not go through the ways in which writing ends: the lemmas on them are handed to it.
use Rattle.std.proofs.Common.{◌≡◌, ◌∙◌, Err, ap, arith, inl, inr, refl, subst, sym}
use Rattle.std.proofs.lemmas.Grind.{common_steps}
use Rattle.std.specs.Prelude.{⊤}
use Rattle.parallel_decode.specs.HartsText.{harts_text_of}
use Rattle.output.proofs.Beginnings.{begun_kept, whole_begun}
use Rattle.command_inputs.proofs.Runs.{appends-keeps, prints}
use Rattle.command_inputs.specs.Begun.{IsCutOf}
use Rattle.command_inputs.specs.Faults.{write_fault}
use Rattle.command_inputs.specs.Printed.{PrintsUnlessDenied}
use Rattle.command_inputs.specs.declared.fault.Fault.TheVariants as fault
use Rattle.capture_commands.proofs.DecodedRuns.{decodes}
use Rattle.capture_commands.proofs.WrittenOutcomes.{harts_cut, never_memory, write_denied, write_memory}
use Rattle.capture_commands.specs.Decoded.{WritesDecoded}
use Rattle.capture_commands.specs.Decoding.{end_of_capture_of}
use Rattle.capture_commands.proofs.decoding.decode_whole.Goals.{After-flush}
use Rattle.capture_commands.proofs.decoding.decode_whole.Goals as goal

pub returns-in_err-decoded-clause-untouched : goal.returns-in_err-decoded-clause-untouched
returns-in_err-decoded-clause-untouched g c = λ memory.
    let why = c.in_err-decoded.field-0.0 in
    let failed : c.from_residual.result ≡ Err (write_fault why) = grind (arith, common_steps) in
    let refused = write_memory why (cc (sym failed ∙ memory)) in
    c.write_decoded_side_by_side.ensures.untouched (c.in_err-decoded.was ∙ ap Err refused)

pub returns-in_err-decoded-clause-printed : goal.returns-in_err-decoded-clause-printed
returns-in_err-decoded-clause-printed g c =
    let why = c.in_err-decoded.field-0.0 in
    let failed : c.from_residual.result ≡ Err (write_fault why) = grind (arith, common_steps) in
    subst (λ ended. PrintsUnlessDenied (WritesDecoded c.args.harts c.args.input.now.only c.args.input.now.program.now c.args.input.now.bytes.now) ⊤ ended
    (g.O.Write.contents c.args.out.now) (g.O.Write.contents c.write_decoded_side_by_side.new.out)) (sym failed) (inl (write_denied why))

pub returns-in_err-decoded-clause-cut : goal.returns-in_err-decoded-clause-cut
returns-in_err-decoded-clause-cut g c =
    harts_cut c.args.harts c.args.input.now.only c.args.input.now.program.now c.args.input.now.bytes.now (g.O.Write.contents c.args.out.now)
    (g.O.Write.contents c.write_decoded_side_by_side.new.out) c.write_decoded_side_by_side.ensures.begun

module _ (g : _) (c : After-flush g) where
  -- The logs were written that the capture decodes to.
  whole : IsCutOf (WritesDecoded c.args.harts c.args.input.now.only c.args.input.now.program.now c.args.input.now.bytes.now) (g.O.Write.contents c.args.out.now)
      (g.O.Write.contents c.flush.new.self)
  whole =
      let all = c.in_ok-decoded.ensures.written in
      let old = g.O.Write.contents c.args.out.now in
      let mid = g.O.Write.contents c.write_decoded_side_by_side.new.out in
      inr (record {
        printed = record {
          text = harts_text_of c.args.input.now.only 0 all.lists;
          ended = end_of_capture_of c.args.input.now.only c.in_ok-decoded.decoded.fault c.in_ok-decoded.decoded.closed.items;
        };
        prints = decodes c.args.harts c.args.input.now.only c.args.input.now.program.now c.args.input.now.bytes.now all.lists c.in_ok-decoded.decoded.closed.items
            c.in_ok-decoded.decoded.fault all.decoded;
        begun = begun_kept (harts_text_of c.args.input.now.only 0 all.lists) old mid (g.O.Write.contents c.flush.new.self)
            (whole_begun (harts_text_of c.args.input.now.only 0 all.lists) old mid all.appended) c.flush.ensures.bytes;
      })

pub returns-in_err-flush-clause-cut : goal.returns-in_err-flush-clause-cut
returns-in_err-flush-clause-cut g c = whole g (goal.at.returns-in_err-flush-clause-cut g c).After-flush

pub returns-clause-cut : goal.returns-clause-cut
returns-clause-cut g c = whole g (goal.at.returns-clause-cut g c).After-flush

pub returns-in_err-flush-clause-printed : goal.returns-in_err-flush-clause-printed
returns-in_err-flush-clause-printed g c =
    let failed : c.from_residual-in_err-flush.result ≡ Err fault.Output = grind (arith, common_steps) in
    subst (λ ended. PrintsUnlessDenied (WritesDecoded c.args.harts c.args.input.now.only c.args.input.now.program.now c.args.input.now.bytes.now) ⊤ ended
    (g.O.Write.contents c.args.out.now) (g.O.Write.contents c.flush.new.self)) (sym failed) (inl (inr (refl, tt)))

pub returns-clause-printed : goal.returns-clause-printed
returns-clause-printed g c =
    let all = c.in_ok-decoded.ensures.written in
    let old = g.O.Write.contents c.args.out.now in
    let mid = g.O.Write.contents c.write_decoded_side_by_side.new.out in
    let new = g.O.Write.contents c.flush.new.self in
    let run = WritesDecoded c.args.harts c.args.input.now.only c.args.input.now.program.now c.args.input.now.bytes.now in
    let closed = c.in_ok-decoded.decoded.closed.items in
    let stop = c.in_ok-decoded.decoded.fault in
    let ended = c.ended_of.ensures.value ∙ ap (end_of_capture_of c.args.input.now.only stop) c.as_slice.ensures.value in
    prints run ⊤ c.ended_of.result old new (record {
      text = harts_text_of c.args.input.now.only 0 all.lists;
      prints = subst (λ end. run (record { text = harts_text_of c.args.input.now.only 0 all.lists; ended = end })) (sym ended)
          (decodes c.args.harts c.args.input.now.only c.args.input.now.program.now c.args.input.now.bytes.now all.lists closed stop all.decoded);
      appended = appends-keeps old mid new (harts_text_of c.args.input.now.only 0 all.lists) all.appended c.flush.ensures.bytes;
    })

pub returns-clause-untouched : goal.returns-clause-untouched
returns-clause-untouched g c = λ memory.
    let closed = c.in_ok-decoded.decoded.closed.items in
    let stop = c.in_ok-decoded.decoded.fault in
    let ended = c.ended_of.ensures.value ∙ ap (end_of_capture_of c.args.input.now.only stop) c.as_slice.ensures.value in
    absurd (never_memory c.args.input.now.only stop closed c.in_ok-decoded.ensures.never_memory (sym ended ∙ memory))
