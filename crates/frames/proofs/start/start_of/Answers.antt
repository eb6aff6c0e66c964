-- What a header's own clauses say is said of how a capture begins: by lemmas on captures, which no tactic finds.
use Rattle.std.proofs.Common.{Ok, Err, ap, refl, subst}
use Rattle.message.specs.Header.{HasBadHeader, IsCutHeader}
use Rattle.captures.proofs.HeaderFaults.{no_header}
use Rattle.captures.proofs.WholeCaptures.{begins_with}
use Rattle.captures.specs.Whole.{BeginsWith}
use Rattle.frames.proofs.start.start_of.Goals as goal

pub returns-in-Ok : goal.returns-in-Ok
returns-in-Ok c =
    let ensured = c.in-Ok.ensures in (
      c.header.new.self,
      subst (λ bytes. BeginsWith c.in-Ok.header bytes c.header.new.self) c.new-messages.ensures
          (begins_with c.new-messages.result c.header.new.self c.in-Ok.header ensured.header
          (λ is. ensured.none.0 (ap (λ h. Ok h) is)) (λ is. ensured.stays (ap (λ h. Ok h) is))),
    )

pub returns-in-Err : goal.returns-in-Err
returns-in-Err c =
    let bytes = c.new-messages.ensures in
    let ensured = c.in-Err.ensures in (
      refl,
      no_header c.args.capture.now c.in-Err.fault ensured.fault
          (λ is. subst IsCutHeader bytes (ensured.short.0 (ap (λ f. Err f) is)))
          (λ is. subst HasBadHeader bytes (ensured.bad_header.0 (ap (λ f. Err f) is))),
    )
