-- What is reported is a record, of each log that the state's numbers stand for, which the search does not instantiate.
use Rattle.std.proofs.Common.{ap, arith, refl, sym, ◌∙◌}
use Rattle.std.proofs.lemmas.Grind.{common_steps}
use Rattle.encoder.specs.StateStands.{state_of}
use Rattle.ffi.proofs.PushedInTurn.{all_reported, none_reported}
use Rattle.ffi.specs.EncoderKept.{numbers_of_state}
use Rattle.ffi.specs.PushedAll.{BadState, NoProgram}
use Rattle.ffi.proofs.pushing_all.push_all_over.Goals as goal

pub returns-in-None : goal.returns-in-None
returns-in-None c =
    none_reported c.args.image.now c.args.state.now c.args.events.now _ c.args.packets.now
    (BadState (λ some. let same = c.in-None.ensures.only some.0 some.1 in cc) refl refl) (λ small. cc)
    (λ program makes are. let same = c.in-None.ensures.only are.0 are.1 in cc)

pub returns-in-Err : goal.returns-in-Err
returns-in-Err c =
    none_reported c.args.image.now c.args.state.now c.args.events.now _ c.args.packets.now
    (NoProgram (c.in-Some.before, c.in-Some.ensures.found) c.in-Err.fault c.in-Err.is refl c.status.ensures)
    (λ small. grind (arith, common_steps)) (λ program makes are. let no = sym c.in-Err.is ∙ makes in cc)

pub returns : goal.returns
returns c =
    all_reported c.args.image.now c.in-Ok.program c.in-Ok.is c.args.state.now c.in-Some.before c.in-Some.ensures.only
    c.from_state-encoder.result
    (λ words period mode log stands. c.from_state-encoder.ensures.stands words period mode log stands)
    c.args.events.now c.push_while_room-status.new.taken c.push_while_room-status.new.encoder
    c.push_while_room-status.new.count c.args.packets.now c.push_while_room-status.new.packets
    c.push_while_room-status.ensures.pushed (c.in-Some.before, c.in-Some.ensures.found)
    c.push_while_room-status.result c.push_while_room-status.ensures.ends c.state.result
    (λ words period mode log stands. c.state.ensures.stands words period mode log stands) c.numbers_of_state.result
    (record { few = c.numbers_of_state.ensures.few; same = c.numbers_of_state.ensures.same })
    (λ stays. c.numbers_of_state.ensures.same
    ∙ ap numbers_of_state (ap state_of (c.state.ensures.back ∙ stays) ∙ c.from_state-encoder.ensures.back)
    ∙ sym c.in-Some.ensures.found.same)
