-- What was read is the front of a capture: by laws on captures, which no tactic finds.
use Rattle.std.proofs.Common.{◌≡◌, arith, length, subst, sym}
use Rattle.std.proofs.lemmas.Grind.{common_steps}
use Rattle.captures.proofs.WholeCaptures.{front_stops, never_both, whole_only}
use Rattle.captures.proofs.capture_reading.read_messages.Goals as goal
use Rattle.captures.specs.Whole.{IsReadFault}
use Rattle.captures.specs.declared.capture_reading.ReadFault.TheVariants as fault

pub returns-in-Some-clause-memory : goal.returns-in-Some-clause-memory
returns-in-Some-clause-memory g c = λ header messages whole.
    let bytes = c.args.bytes.now in
    let front = c.in-Ok.front in
    let why = c.in-Some.why in
    let count : c.len.result ≡ length front.messages.items = grind (arith, common_steps) in
    let stops = front_stops bytes front.header front.messages.items why (rw c.in-Some.is at c.in-Ok.ensures) in
    never_both bytes header messages (fault.Message c.len.result why) whole
    (subst (λ number. IsReadFault bytes (fault.Message number why)) (sym count) stops)

pub returns-in-None-clause-reads_back : goal.returns-in-None-clause-reads_back
returns-in-None-clause-reads_back g c = λ header messages whole.
    let front = c.in-Ok.front in
    whole_only c.args.bytes.now front.header header front.messages.items messages
    (rw c.in-None.is at c.in-Ok.ensures) whole
