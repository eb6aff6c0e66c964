-- How far messages were received: by lemmas on captures, which no tactic finds.
use Rattle.std.proofs.Common.{◌∙◌, ◌∷◌, All, Err, Ok, None, Some, [], ap, arith, length, refl, subst, sym}
use Rattle.message.specs.Accepted.{AreAccepted, newcomers}
use Rattle.message.specs.Range.{selected}
use Rattle.receiver.specs.NotReceived.{IsNotReceived}
use Rattle.rvclass.specs.Fetch.{words_of}
use Rattle.captures.proofs.FoundInFront.{in_front}
use Rattle.captures.proofs.ReachingHarts.{stops_before}
use Rattle.captures.specs.Returned.{IsMemory}
use Rattle.captures.specs.declared.outcome.CaptureFault.TheVariants as fault
use Rattle.parallel_decode.proofs.Owns.{all_accepted}
use Rattle.parallel_decode.proofs.SurveyLemmas.{begins_none, never_memory_of, reaches_more, reaches_none, surveyed}
use Rattle.parallel_decode.specs.steps.Walked.{IsOfHarts}
use Rattle.parallel_decode.proofs.indexing.receive_all.Goals as goal

pub loop-message-init : goal.loop-message-init
loop-message-init g c = record {
  reaches = reaches_none c.args.selection.now.range (words_of c.args.selection.now.program.now)
      (length c.args.owns.now.items) c.args.announced c.args.messages c.args.owns.now.items c.requires;
  counted = omega arith;
  harts = refl;
}

pub loop-message-preserved : goal.loop-message-preserved
loop-message-preserved g c =
    let left = c.loop-message.messages in
    let next = c.next.new.self in
    let said = c.in-Ok-Some.ensures in
    let front = in_front left next _ c.in-Ok-Some.message c.in-Ok-Some.field-0-is said.ranges said.message
    said.shorter in
    let shorter = front.shorter in
    let r = c.loop-message.invariant.reaches in
    record {
      reaches = reaches_more c.args.selection.now.range (words_of c.args.selection.now.program.now)
          (length c.args.owns.now.items) c.args.announced c.args.messages left next c.loop-message.received
          c.loop-message.owns.items c.receive_selected.new.owns.items c.in-Ok-Some.message r front.is_message front.here
          (subst (λ n. All (IsOfHarts n) (selected c.args.selection.now.range (c.in-Ok-Some.message ∷ [])))
          c.loop-message.invariant.harts c.in-Ok.ensures.of_harts)
          (c.in-Ok.ensures.received (selected c.args.selection.now.range r.messages) r.owns_are);
      counted = omega (arith, c.loop-message.invariant.counted, shorter);
      harts = c.receive_selected.ensures.harts ∙ c.loop-message.invariant.harts;
    }

pub returns-in-Err-clause-surveyed : goal.returns-in-Err-clause-surveyed
returns-in-Err-clause-surveyed g c =
    let r = c.loop-message.invariant.reaches in
    let said = c.in-Err.ensures in
    let left = c.loop-message.messages in
    let owns = c.loop-message.owns.items in
    surveyed c.args.selection.now.range (words_of c.args.selection.now.program.now) (length c.args.owns.now.items)
    c.args.announced c.args.messages left c.loop-message.received owns owns
    (Some (c.loop-message.received, fault.Message c.in-Err.fault)) r c.loop-message.invariant.harts refl (
      r.counted,
      begins_none left c.in-Err.fault said.fault (λ short. said.short.0 (ap (λ f. Err f) short))
          (λ bad. said.bad_length.0 (ap (λ f. Err f) bad)),
    ) (λ memory. memory)

pub returns-in-Err-receive_selected-clause-surveyed : goal.returns-in-Err-receive_selected-clause-surveyed
returns-in-Err-receive_selected-clause-surveyed g c =
    let range = c.args.selection.now.range in
    let words = words_of c.args.selection.now.program.now in
    let harts = length c.args.owns.now.items in
    let announced = c.args.announced in
    let r = c.loop-message.invariant.reaches in
    let said = c.in-Ok-Some.ensures in
    let front = in_front c.loop-message.messages c.next.new.self _ c.in-Ok-Some.message c.in-Ok-Some.field-0-is
    said.ranges said.message said.shorter in
    let told = c.in-Err-receive_selected.ensures in
    let owns = c.loop-message.owns.items in
    let many = c.loop-message.invariant.harts in
    let own = selected range r.messages in
    let why = c.in-Err-receive_selected.fault in
    let not = told.refused own r.owns_are (subst (λ n. AreAccepted (newcomers n) own) (sym many)
    (all_accepted words harts announced own r.of_harts owns many r.owns_are)) in
    surveyed range words harts announced c.args.messages c.loop-message.messages c.loop-message.received owns
    c.receive_selected.new.owns.items (Some (c.loop-message.received, c.from.result)) r many told.closed
    (stops_before range words harts announced r.messages c.loop-message.messages c.next.new.self
    c.loop-message.received c.in-Ok-Some.message why c.from.result r.counted front.is_message front.here not.0
    (subst (λ n. IsNotReceived words n announced own c.in-Ok-Some.message why) many not.1) c.from.ensures)
    (subst (λ f. ¬ IsMemory f) (sym c.from.ensures) (never_memory_of why not.2))

pub returns-in-Ok-None-clause-surveyed : goal.returns-in-Ok-None-clause-surveyed
returns-in-Ok-None-clause-surveyed g c =
    let owns = c.loop-message.owns.items in
    surveyed c.args.selection.now.range (words_of c.args.selection.now.program.now) (length c.args.owns.now.items)
    c.args.announced c.args.messages c.loop-message.messages c.loop-message.received owns owns None
    c.loop-message.invariant.reaches c.loop-message.invariant.harts refl
    (c.in-Ok-None.ensures.end.0 (ap (λ m. Ok m) c.in-Ok-None.field-0-is)) tt
