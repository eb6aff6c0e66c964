-- What is reported is a record, of which one clause holds of any count of events before: by a lemma.
use Rattle.std.proofs.Common.{◌∙◌, refl, sym}
use Rattle.ffi.proofs.EventsGiven.{filled}
use Rattle.ffi.specs.Generated.{Filled, NoProgram}
use Rattle.ffi.proofs.generating.generate_over.Goals as goal

pub returns-in-Err : goal.returns-in-Err
returns-in-Err c =
    NoProgram c.in-Err.fault c.in-Err.is (λ none. let same = c.in-Some.ensures ∙ none in cc) c.status.ensures refl refl

pub returns : goal.returns
returns c =
    Filled c.in-Ok.program c.in-Ok.is c.in-Some.mix (sym c.in-Some.ensures) refl
    (filled c.in-Ok.program c.in-Some.mix c.args.state.now c.numbers_of_kept.result c.kept_in.result c.state.result
    c.of-walk.result c.fill_events.new.walk c.args.events.now c.fill_events.new.events c.kept_in.ensures
    c.of-walk.ensures.walk c.of-walk.ensures.image c.fill_events.ensures.events c.fill_events.ensures.walk
    c.state.ensures c.numbers_of_kept.ensures)
