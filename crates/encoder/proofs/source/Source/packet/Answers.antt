-- The search does not find the place of a packet among the packets of the whole log.
use Rattle.std.proofs.Common.{◌≡◌, ℕ, ◌+◌, [], length, Option, Some, None, refl, sym, ap, subst, ◌∙◌, arith}
use Rattle.std.proofs.lemmas.List.Elements.{All-cons, All-nil}
use Rattle.std.proofs.lemmas.Option.{slice_get_past}
use Rattle.std.specs.List.{slice_get}
use Rattle.std.specs.Option.{option_to_list}
use Rattle.payload.specs.Profile.{InProfile}
use Rattle.payload.specs.declared.packet.Packet.{Packet}
use Rattle.payload.specs.declared.packet.Packet.TheVariants as packet
use Rattle.encoder.specs.SourceAt.{SourceAt}
use Rattle.encoder.specs.steps.SourceFields.{packets_of_log, stands_at, AreTakenAtStage}
use Rattle.encoder.specs.declared.source.Stage.TheVariants as stage
use Rattle.encoder.proofs.PacketsInTurn.{Ran, ran_by, source_on, given_running, counted_running, end_some, end_none}
use Rattle.encoder.proofs.PacketsInTurn.{given_closing, further}
use Rattle.encoder.proofs.SeveralEvents.{rest_from}
use Rattle.encoder.proofs.source.Source.packet.Goals.{After-push_until_packet-count}
use Rattle.encoder.proofs.source.Source.packet.Goals as goal

module _ (g : _) (c : After-push_until_packet-count g) where
  abbrev taken' : ℕ
  taken' = c.self.inside.taken + c.push_until_packet-count.result.0

  ran : Ran c.self.inside.log.now.program c.self.inside.log.now.events c.self.inside.encoder c.self.inside.taken
      c.push_until_packet-count.new.self taken' c.push_until_packet-count.result.1
  ran =
      ran_by c.program.result.now _ c.events.result.now _ _ c.self.inside.encoder c.self.inside.taken
      c.push_until_packet-count.result.0 c.push_until_packet-count.new.self c.push_until_packet-count.result.1
      c.program.ensures.program c.events.ensures.events
      (rest_from c.self.inside.taken c.events.result.now) c.events.ensures.legal c.self.invariant.stands
      (subst (λ stage. AreTakenAtStage stage c.self.inside.taken (length c.self.inside.log.now.events)) c.in-Running.is
      c.self.invariant.within) c.push_until_packet-count.ensures.within c.push_until_packet-count.ensures.all
      (λ period mode front stands legal. (
        c.push_until_packet-count.ensures.stands period mode front stands legal,
        c.push_until_packet-count.ensures.packets period mode front stands legal,
        c.push_until_packet-count.ensures.profile period mode front stands legal,
      ))

  -- This is `ran` with what a branch of the code knows of the packet: it is this one, or there is none.
  ran_with : (given : Option Packet) → c.push_until_packet-count.result.1 ≡ given
      → Ran c.self.inside.log.now.program c.self.inside.log.now.events c.self.inside.encoder c.self.inside.taken
      c.push_until_packet-count.new.self taken' given
  ran_with given is =
      subst (Ran c.self.inside.log.now.program c.self.inside.log.now.events c.self.inside.encoder c.self.inside.taken
      c.push_until_packet-count.new.self taken') is ran

  here : stands_at c.self.inside.log.now c.self.inside.encoder stage.Running c.self.inside.taken ≡ c.args.self.now
  here = ap (λ stage. stands_at c.self.inside.log.now c.self.inside.encoder stage c.self.inside.taken)
      (sym c.in-Running.is) ∙ c.self.view_is

pub invariant_of-self-in-Some : goal.invariant_of-self-in-Some
invariant_of-self-in-Some g c =
    let before = (goal.at.invariant_of-self-in-Some g c).After-push_until_packet-count in
    source_on c.self.inside.log.now c.self.inside.encoder c.push_until_packet-count.new.self c.self.inside.stage
    c.self.inside.taken (taken' g before) _ (ran g before)
    (subst (λ stage. AreTakenAtStage stage (taken' g before) (length c.self.inside.log.now.events))
    (sym c.in-Running.is) (ran g before).within)

pub returns-in-Some-clause-given : goal.returns-in-Some-clause-given
returns-in-Some-clause-given g c =
    let before = (goal.at.returns-in-Some-clause-given g c).After-push_until_packet-count in
    subst (λ (s : SourceAt). Some c.in-Some.packet ≡ slice_get (packets_of_log s.period s.mode s.log) s.number)
    (here g before)
    (given_running _ _ _ _ _ _ c.events.ensures.legal c.in-Some.packet (ran_with g before _ c.in-Some.is))

pub returns-in-Some-clause-goes_on : goal.returns-in-Some-clause-goes_on
returns-in-Some-clause-goes_on g c =
    let before = (goal.at.returns-in-Some-clause-goes_on g c).After-push_until_packet-count in
    let next = ran_with g before _ c.in-Some.is in
    ap (λ stage. stands_at c.self.inside.log.now c.push_until_packet-count.new.self stage (taken' g before))
    c.in-Running.is
    ∙ further c.self.inside.log.now c.self.inside.encoder c.push_until_packet-count.new.self stage.Running
    (taken' g before) _ c.args.self.now next.stands.between next.stands.in_mode
    (counted_running _ _ _ _ _ _ c.events.ensures.legal c.in-Some.packet next) (here g before)

pub returns-in-Some-clause-profile : goal.returns-in-Some-clause-profile
returns-in-Some-clause-profile g c =
    let before = (goal.at.returns-in-Some-clause-profile g c).After-push_until_packet-count in
    All-cons InProfile c.in-Some.packet [] (ran_with g before _ c.in-Some.is).profile (All-nil InProfile)

pub invariant_of-self-in-Some-last : goal.invariant_of-self-in-Some-last
invariant_of-self-in-Some-last g c =
    let before = (goal.at.invariant_of-self-in-Some-last g c).After-push_until_packet-count in
    let ended = ran_with g before _ c.in_default.is in
    source_on c.self.inside.log.now c.self.inside.encoder c.push_until_packet-count.new.self stage.Closing
    c.self.inside.taken (taken' g before) _ ended (ended.all refl)

pub returns-in-Some-last-clause-given : goal.returns-in-Some-last-clause-given
returns-in-Some-last-clause-given g c =
    let before = (goal.at.returns-in-Some-last-clause-given g c).After-push_until_packet-count in
    let ended = ran_with g before _ c.in_default.is in
    let is = here g before in
    subst (λ (s : SourceAt). Some c.in-Some-last.packet ≡ slice_get (packets_of_log s.period s.mode s.log) s.number) is
    (end_some _ _ _ _ _ _ c.events.ensures.legal c.in-Some-last.packet ended
    (sym (ap option_to_list c.in-Some-last.is) ∙ c.last.ensures)).0

pub returns-in-Some-last-clause-goes_on : goal.returns-in-Some-last-clause-goes_on
returns-in-Some-last-clause-goes_on g c =
    let before = (goal.at.returns-in-Some-last-clause-goes_on g c).After-push_until_packet-count in
    let ended = ran_with g before _ c.in_default.is in
    let is = here g before in
    further c.self.inside.log.now c.self.inside.encoder c.push_until_packet-count.new.self stage.Closing
    (taken' g before) _ c.args.self.now ended.stands.between ended.stands.in_mode
    (end_some _ _ _ _ _ _ c.events.ensures.legal c.in-Some-last.packet ended
    (sym (ap option_to_list c.in-Some-last.is) ∙ c.last.ensures)).1 is

pub returns-in-Some-last-clause-profile : goal.returns-in-Some-last-clause-profile
returns-in-Some-last-clause-profile g c =
    let before = (goal.at.returns-in-Some-last-clause-profile g c).After-push_until_packet-count in
    let ended = ran_with g before _ c.in_default.is in
    (end_some _ _ _ _ _ _ c.events.ensures.legal c.in-Some-last.packet ended
    (sym (ap option_to_list c.in-Some-last.is) ∙ c.last.ensures)).2

pub invariant_of-self-in-Running : goal.invariant_of-self-in-Running
invariant_of-self-in-Running g c =
    let before = (goal.at.invariant_of-self-in-Running g c).After-push_until_packet-count in
    let ended = ran_with g before _ c.in_default.is in
    source_on c.self.inside.log.now c.self.inside.encoder c.push_until_packet-count.new.self stage.Ended
    c.self.inside.taken (taken' g before) _ ended (ended.all refl)

pub returns-in_default-last-clause-given : goal.returns-in_default-last-clause-given
returns-in_default-last-clause-given g c =
    let before = (goal.at.returns-in_default-last-clause-given g c).After-push_until_packet-count in
    let ended = ran_with g before _ c.in_default.is in
    let is = here g before in
    subst (λ (s : SourceAt). Some (packet.Support c.closing.result)
    ≡ slice_get (packets_of_log s.period s.mode s.log) s.number) is
    (end_none _ _ _ _ _ _ c.events.ensures.legal c.closing.result ended
    (sym (ap option_to_list c.in_default-last.is) ∙ c.last.ensures) c.closing.ensures).0

pub returns-in_default-last-clause-goes_on : goal.returns-in_default-last-clause-goes_on
returns-in_default-last-clause-goes_on g c =
    let before = (goal.at.returns-in_default-last-clause-goes_on g c).After-push_until_packet-count in
    let ended = ran_with g before _ c.in_default.is in
    let is = here g before in
    further c.self.inside.log.now c.self.inside.encoder c.push_until_packet-count.new.self stage.Ended
    (taken' g before) _ c.args.self.now ended.stands.between ended.stands.in_mode
    (end_none _ _ _ _ _ _ c.events.ensures.legal c.closing.result ended
    (sym (ap option_to_list c.in_default-last.is) ∙ c.last.ensures) c.closing.ensures).1 is

pub returns-in-Closing-clause-given : goal.returns-in-Closing-clause-given
returns-in-Closing-clause-given g c =
    let is = ap (λ stage. stands_at c.self.inside.log.now c.self.inside.encoder stage c.self.inside.taken)
    (sym c.in-Closing.is) ∙ c.self.view_is in
    subst (λ (s : SourceAt). Some (packet.Support c.closing-in-Closing.result)
    ≡ slice_get (packets_of_log s.period s.mode s.log) s.number) is
    (given_closing c.self.inside.log.now.program (c.self.inside.encoder.between + 1) c.self.inside.encoder.mode
    c.self.inside.log.now.events
    c.self.inside.encoder c.self.inside.taken c.closing-in-Closing.result c.self.invariant.stands
    (subst (λ stage. AreTakenAtStage stage c.self.inside.taken (length c.self.inside.log.now.events)) c.in-Closing.is
    c.self.invariant.within) c.closing-in-Closing.ensures)

pub returns-in-Ended-clause-given : goal.returns-in-Ended-clause-given
returns-in-Ended-clause-given g c =
    let is = ap (λ stage. stands_at c.self.inside.log.now c.self.inside.encoder stage c.self.inside.taken)
    (sym c.in-Ended.is) ∙ c.self.view_is in
    subst (λ (s : SourceAt). None ≡ slice_get (packets_of_log s.period s.mode s.log) s.number) is
    (let all = packets_of_log (c.self.inside.encoder.between + 1) c.self.inside.encoder.mode c.self.inside.log.now in
    sym (slice_get_past all (length all) (omega arith)))
