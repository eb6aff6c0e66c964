-- The clauses hold for any packets before, which the search does not instantiate.
use Rattle.std.proofs.Common.{◌≡◌, ◌≤◌, ◌++◌, ◌∷◌, [], ℕ, All, Option, Some, arith, length, subst, sym}
use Rattle.std.specs.Prelude.{IfSome}
use Rattle.std.proofs.lemmas.Grind.{common_steps}
use Rattle.std.proofs.lemmas.List.{nil_from_length}
use Rattle.retire.specs.declared.event.Event.{Event}
use Rattle.rvclass.specs.Fetch.{words_of}
use Rattle.payload.specs.Profile.{InProfile}
use Rattle.encoder.specs.EncoderStands.{EncoderStands}
use Rattle.encoder.specs.PacketsSoFar.{packets_so_far}
use Rattle.stimulus.specs.Mixed.{Plan, Stand, has_turn}
use Rattle.stimulus.specs.Walked.{HasWalked, Walks}
use Rattle.stimulus.specs.declared.sender.Phase.{Phase}
use Rattle.stimulus.specs.steps.Sending.{Gives, HasGiven}
use Rattle.stimulus.proofs.TraceLemmas.{Runs, gives_few, none_in_profile, runs_first, runs_gives, runs_on, runs_spent}
use Rattle.stimulus.proofs.sender.Tracer.run.Goals.{After-push-burst}
use Rattle.stimulus.proofs.sender.Tracer.run.Goals as goal

-- What holds of an event that there is.
fewer_left : {P : Type 0} {found : Option Event} {event : Event} → found ≡ Some event → IfSome found (λ event. P) → P
fewer_left {P} is holds = subst (λ o. IfSome o (λ event. P)) is holds

module _ (c : After-push-burst) (plan : Plan) (number : ℕ) (stand : Stand)
    (has : HasGiven (words_of c.args.program.now) plan number stand c.args.self.now) where
  -- How far the hart ran before the event.
  runs : Runs (words_of c.args.program.now) plan number stand c.loop-event.self
  runs = c.loop-event.invariant.runs plan number stand has

  -- The hart has given the event.
  walked : HasWalked (words_of c.args.program.now) (plan.start number) (runs.seen ++ c.in-Some.event ∷ [])
      c.next_event.new.self
  walked =
      subst (λ o. Walks (words_of c.args.program.now) (plan.start number) runs.seen o c.next_event.new.self) c.in-Some.is
      (c.next_event.ensures.walks (plan.start number) runs.seen runs.walked)

  -- And the encoder what it makes due.
  due : packets_so_far (words_of c.args.program.now) plan.period plan.mode (runs.seen ++ c.in-Some.event ∷ [])
      ≡ packets_so_far (words_of c.args.program.now) plan.period plan.mode runs.seen ++ c.push-burst.result.items
  due = c.push-burst.ensures.packets plan.period plan.mode runs.seen runs.stands walked.legal

  stands : EncoderStands (words_of c.args.program.now) plan.period plan.mode (runs.seen ++ c.in-Some.event ∷ [])
      c.push-burst.new.self
  stands = c.push-burst.ensures.stands plan.period plan.mode runs.seen runs.stands walked.legal

  profile : All InProfile c.push-burst.result.items
  profile = c.push-burst.ensures.profile plan.period plan.mode runs.seen runs.stands walked.legal

  on : c.push-burst.result.items ≡ [] → Runs (words_of c.args.program.now) plan number stand (record {
    hart = c.next_event.new.self;
    encoder = c.push-burst.new.self;
    phase = c.loop-event.self.phase;
  })
  on none =
      runs_on (words_of c.args.program.now) plan number stand c.loop-event.self runs c.in-Some.event
      c.next_event.new.self c.push-burst.new.self c.push-burst.result.items walked stands due c.loop-event.self.phase none

  gives : 1 ≤ length c.push-burst.result.items
      → Gives (words_of c.args.program.now) plan number stand (has_turn stand) (record {
        hart = c.next_event.new.self;
        encoder = c.push-burst.new.self;
        phase = c.loop-event.self.phase;
      }) c.push-burst.result.items
  gives some =
      let few = gives_few (words_of c.args.program.now) plan number stand c.loop-event.self runs c.in-Some.event
      c.push-burst.result.items walked.legal due in
      subst (λ (p : Phase). Gives (words_of c.args.program.now) plan number stand (has_turn stand) (record {
        hart = c.next_event.new.self;
        encoder = c.push-burst.new.self;
        phase = p;
      }) c.push-burst.result.items) (sym c.loop-event.invariant.is_open)
      (runs_gives (words_of c.args.program.now) plan number stand c.loop-event.self runs c.in-Some.event
      c.next_event.new.self c.push-burst.new.self c.push-burst.result.items walked stands due
      (omega (arith, few, some)))

pub loop-event-init : goal.loop-event-init
loop-event-init c = record {
  is_open = c.requires;
  runs = λ plan number stand has.
      runs_first (words_of c.args.program.now) plan number stand c.args.self.now has c.requires;
}

pub returns-clause-given : goal.returns-clause-given
returns-clause-given c = λ plan number stand has.
    let words = words_of c.args.program.now in
    let runs = c.loop-event.invariant.runs plan number stand has in
    runs_spent words plan number stand c.loop-event.self runs c.next_event.new.self c.loop-event.self.phase
    c.new.result.items c.new.ensures c.loop-event.invariant.is_open
    (subst (λ o. Walks words (plan.start number) runs.seen o c.next_event.new.self) c.in_default.is
    (c.next_event.ensures.walks (plan.start number) runs.seen runs.walked))

pub returns-clause-profile : goal.returns-clause-profile
returns-clause-profile c = λ plan number stand has. none_in_profile c.new.result.items c.new.ensures

pub returns-then-not-is_empty-clause-given : goal.returns-then-not-is_empty-clause-given
returns-then-not-is_empty-clause-given c = λ plan number stand has.
    gives (goal.at.returns-then-not-is_empty-clause-given c).After-push-burst plan number stand has
    (grind (arith, common_steps))

pub returns-then-not-is_empty-clause-profile : goal.returns-then-not-is_empty-clause-profile
returns-then-not-is_empty-clause-profile c = λ plan number stand has.
    profile (goal.at.returns-then-not-is_empty-clause-profile c).After-push-burst plan number stand has

pub loop-event-preserved : goal.loop-event-preserved
loop-event-preserved c =
    let items = c.push-burst.result.items in
    let none : items ≡ [] = nil_from_length items (grind (arith, common_steps)) in record {
      is_open = c.loop-event.invariant.is_open;
      runs = λ plan number stand has.
          on (goal.at.loop-event-preserved c).After-push-burst plan number stand has none;
    }

pub loop-event-smaller : goal.loop-event-smaller
loop-event-smaller c =
    let fewer = fewer_left c.in-Some.is c.next_event.ensures.fewer in
    let less = fewer.0 in
    let few = fewer.1 in
    omega (arith, less, few)
