-- What came of a payload is reported: by the constructor for each.
use Rattle.std.proofs.Common.{map, refl, subst}
use Rattle.ffi.specs.Events.{numbers_of_event}
use Rattle.ffi.specs.Fed.{Taken, Refused}
use Rattle.ffi.specs.Handed.{IsHandedOut}
use Rattle.ffi.proofs.feeding.report_feed.Goals as goal

pub returns-in-Ok : goal.returns-in-Ok
returns-in-Ok c =
    Taken c.in-Ok.fed.numbers c.in-Ok.fed.events.items c.in-Ok.ensures
    (subst (λ given. IsHandedOut (map numbers_of_event given) c.hand_out_events-status.result
    c.hand_out_events-status.new.count c.args.events.now c.hand_out_events-status.new.events) c.as_slice.ensures.value
    c.hand_out_events-status.ensures) c.go_on_if_done.ensures

pub returns-in-Err : goal.returns-in-Err
returns-in-Err c = Refused c.in-Err.fault c.in-Err.ensures c.status.ensures refl refl refl
