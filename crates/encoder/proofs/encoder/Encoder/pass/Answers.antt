-- The search does not hold the events that are passed over in turn.
use Rattle.std.proofs.Common.{◌+◌, [], Some, get_or, refl, sym, ap, ◌∙◌}
use Rattle.retire.specs.declared.event.Event.TheVariants.{Retire}
use Rattle.rvclass.specs.Fetch.{words_of}
use Rattle.encoder.specs.declared.due.Due.TheVariants as due
use Rattle.encoder.specs.declared.encoder.Encoder.{Encoder}
use Rattle.encoder.proofs.EventsPassed.{passed, after_passed, given_passed}
use Rattle.encoder.proofs.SeveralEvents.{becomes_more}
use Rattle.encoder.proofs.encoder.Encoder.pass.Goals as goal

pub loop-event-preserved : goal.loop-event-preserved
loop-event-preserved c =
    let words = words_of c.args.program.now in
    let held = c.loop-event.held in
    let next = get_or c.args.events.now c.loop-event.event-index (Retire 0 0 0) in
    let e : Encoder = record c.args.self.now {
      left = c.loop-event.left;
      held = Some held;
      due = due.Nothing;
      pending = c.loop-event.pending;
    } in
    let yes = sym c.passes.ensures.value ∙ c.if-not-passes.false in
    let same = ap (λ p. record (passed e next) { pending = p }) c.add_outcome.ensures in (
      ap (λ n. n + 1) c.loop-event.invariant.0,
      becomes_more words c.args.self.now e _ c.args.events.now c.loop-event.event-index [] c.loop-event-test.true
          c.loop-event.invariant.1 c.passes.ensures.numbers (same ∙ after_passed words e held next refl refl yes)
          (given_passed words e held next refl refl yes),
    )
