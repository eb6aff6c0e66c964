-- What was read behind a header or without one: by laws on captures, which no tactic finds.
use Rattle.std.proofs.Common.{rules, inr, None, Ok, [], ap, subst}
use Rattle.captures.proofs.WholeCaptures.{begins_with, front_of}
use Rattle.captures.specs.Whole.{BeginsWith, HasNoFront}
use Rattle.path_commands.specs.steps.Matching.{IsByHart}
use Rattle.path_commands.proofs.by_hart.read_by_hart.Goals as goal

pub returns-clause-front : goal.returns-clause-front
returns-clause-front c =
    let ensured = c.in-Ok.ensures in
    let begins =
    subst (λ bytes. BeginsWith c.in-Ok.header bytes c.header.new.self) c.new-left.ensures
    (begins_with c.new-left.result c.header.new.self c.in-Ok.header ensured.header
    (λ is. ensured.none.0 (ap (λ h. Ok h) is)) (λ is. ensured.stays (ap (λ h. Ok h) is))) in
    let read = c.in_ok-stop.ensures.read in (
      read.0,
      front_of c.args.bytes.now c.header.new.self c.in-Ok.header read.0 c.in_ok-stop.stop begins read.1,
      read.2,
    )

pub returns-in-Err-clause-front : goal.returns-in-Err-clause-front
returns-in-Err-clause-front c =
    let none : HasNoFront c.args.bytes.now None [] c.in-Err.fault = search rules in
    let kept : IsByHart c.args.harts [] (record {
      harts = c.in_ok-with_capacity.field-0;
      payloads = c.in_ok-with_space.field-0;
    }) = search rules in
    ([], inr none, kept)
