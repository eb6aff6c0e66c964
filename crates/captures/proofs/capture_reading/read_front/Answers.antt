-- What was read behind a header or without one: by laws on captures, which no tactic finds.
use Rattle.std.proofs.Common.{Ok, Err, arith, inr, refl, ap, subst}
use Rattle.std.proofs.lemmas.Grind.{common_steps}
use Rattle.message.specs.Header.{HasBadHeader, IsCutHeader}
use Rattle.captures.proofs.HeaderFaults.{no_header}
use Rattle.captures.proofs.WholeCaptures.{begins_with, front_of}
use Rattle.captures.proofs.capture_reading.read_front.Goals as goal
use Rattle.captures.specs.Whole.{BeginsWith}

pub returns-in-Err : goal.returns-in-Err
returns-in-Err g c =
    let bytes = c.new-left.ensures in
    let ensured = c.in-Err.ensures in
    inr (record {
      no_header = refl;
      no_messages = grind (arith, common_steps);
      none =
          no_header c.args.bytes.now c.in-Err.fault ensured.fault
          (λ is. subst IsCutHeader bytes (ensured.short.0 (ap (λ f. Err f) is)))
          (λ is. subst HasBadHeader bytes (ensured.bad_header.0 (ap (λ f. Err f) is)));
    })

pub returns : goal.returns
returns g c =
    let ensured = c.in-Ok.ensures in
    let begins =
    subst (λ bytes. BeginsWith c.in-Ok.header bytes c.header.new.self) c.new-left.ensures
    (begins_with c.new-left.result c.header.new.self c.in-Ok.header ensured.header
    (λ is. ensured.none.0 (ap (λ h. Ok h) is)) (λ is. ensured.stays (ap (λ h. Ok h) is))) in
    front_of c.args.bytes.now c.header.new.self c.in-Ok.header c.read_into.new.messages.items c.in_ok-stop.stop
    begins c.in_ok-stop.ensures
