-- Behind a header or without one: by laws on captures, which no tactic finds.
use Rattle.std.proofs.Common.{◌≡◌, ◌∙◌, [], None, Some, Ok, Err, ap, arith, inr, map, refl, subst, sym}
use Rattle.std.proofs.lemmas.Grind.{common_steps}
use Rattle.std.specs.Prelude.{IfErr, IfOk}
use Rattle.captures.proofs.HeaderFaults.{no_header}
use Rattle.captures.proofs.WholeCaptures.{begins_with, front_of}
use Rattle.captures.specs.Whole.{BeginsWith}
use Rattle.listing.specs.Placed.{placed}
use Rattle.message.specs.Header.{HasBadHeader, IsCutHeader}
use Rattle.rvclass.specs.Fetch.{words_of}
use Rattle.comparing.proofs.CountedFronts.{before_none}
use Rattle.comparing.proofs.FollowedHarts.{stopped_none}
use Rattle.comparing.proofs.FollowedMessages.{none_stops}
use Rattle.comparing.proofs.SourcedHarts.{numbered_from, result_sourced, stops_early}
use Rattle.comparing.specs.Counts.{before_stop}
use Rattle.comparing.specs.Sourced.{AreNumbered, StopsEarly}
use Rattle.comparing.specs.declared.source.SourcingFault.TheVariants.{Stops}
use Rattle.comparing.specs.steps.Sourcing.{AreFollowed, sourced_by, stopped_in}
use Rattle.comparing.proofs.sourcing.sources_of.Goals as goal

pub returns-in-Ok-clause-sourced : goal.returns-in-Ok-clause-sourced
returns-in-Ok-clause-sourced g c =
    let words = words_of c.args.program.now in
    let up = c.in_ok-stopped-in-Ok.ensures.followed in
    let ensured = c.in-Ok.ensures in
    let header = c.in-Ok.header in
    let begins =
    subst (λ bytes. BeginsWith header bytes c.header.new.self) c.new-left.ensures
    (begins_with c.new-left.result c.header.new.self header ensured.header
    (λ is. ensured.none.0 (ap (λ h. Ok h) is)) (λ is. ensured.stays (ap (λ h. Ok h) is))) in
    let trails = c.in_ok-trails.trails.items in
    let numbered = numbered_from c.args.first trails
    (subst (AreNumbered c.args.first) (sym c.in_ok-trails.ensures.harts) c.requires.numbered) in
    let followed = up.followed (c.in_ok-trails.ensures.none words c.first_offset.result) numbered in
    result_sourced words c.args.bytes.now c.args.stop header up.messages up.end
    (front_of c.args.bytes.now c.header.new.self header up.messages up.end begins up.read)
    c.args.harts.now c.follow_messages.new.trails.items c.in_ok-stopped-in-Ok.stopped c.sourced_of.result
    (up.harts ∙ c.in_ok-trails.ensures.harts)
    (subst (λ offset. AreFollowed words offset (before_stop c.args.stop up.messages) c.follow_messages.new.trails.items)
    c.first_offset.ensures followed)
    (up.stopped_is ∙ ap (λ offset. stopped_in c.args.stop (placed 0 offset up.messages)) c.first_offset.ensures)
    (subst (λ trails. IfOk c.sourced_of.result (λ sourced. sourced.items ≡ map (sourced_by c.in_ok-stopped-in-Ok.stopped) trails))
    c.as_slice.ensures.value c.sourced_of.ensures.sourced)

pub returns-clause-sourced : goal.returns-clause-sourced
returns-clause-sourced g c =
    let words = words_of c.args.program.now in
    let bytes = c.new-left.ensures in
    let ensured = c.in-Err.ensures in
    let why = c.in-Err.field-0 in
    let trails = c.in_ok-trails.trails.items in
    result_sourced words c.args.bytes.now c.args.stop None [] (Some why)
    (inr (record {
      no_header = refl;
      no_messages = refl;
      none =
          no_header c.args.bytes.now why ensured.fault
          (λ is. subst IsCutHeader bytes (ensured.short.0 (ap (λ f. Err f) is)))
          (λ is. subst HasBadHeader bytes (ensured.bad_header.0 (ap (λ f. Err f) is)));
    })) c.args.harts.now trails None c.sourced_of-in-Err.result c.in_ok-trails.ensures.harts
    (subst (λ messages. AreFollowed words 0 messages trails) (sym (before_none [] 0 c.args.stop))
    (c.in_ok-trails.ensures.none words 0)) (stopped_none c.args.stop)
    (subst (λ trails. IfOk c.sourced_of-in-Err.result (λ sourced. sourced.items ≡ map (sourced_by None) trails))
    c.as_slice-in-Err.ensures.value c.sourced_of-in-Err.ensures.sourced)

pub returns-in_err-stopped-in-Ok-clause-stops : goal.returns-in_err-stopped-in-Ok-clause-stops
returns-in_err-stopped-in-Ok-clause-stops g c =
    let words = words_of c.args.program.now in
    let ensured = c.in-Ok.ensures in
    let header = c.in-Ok.header in
    let why = c.in_err-stopped-in-Ok.field-0.0 in
    let begins =
    subst (λ bytes. BeginsWith header bytes c.header.new.self) c.new-left.ensures
    (begins_with c.new-left.result c.header.new.self header ensured.header
    (λ is. ensured.none.0 (ap (λ h. Ok h) is)) (λ is. ensured.stays (ap (λ h. Ok h) is))) in
    let trails = c.in_ok-trails.trails.items in
    let numbered = numbered_from c.args.first trails
    (subst (AreNumbered c.args.first) (sym c.in_ok-trails.ensures.harts) c.requires.numbered) in
    let is : c.from_residual-in_err-stopped-in-Ok.result ≡ Err why = grind (arith, common_steps) in
    subst (λ r. IfErr r (λ why. why ≡ Stops → StopsEarly words c.args.bytes.now c.args.stop c.args.harts.now)) (sym is)
    (λ stops. stops_early _ c.args.bytes.now c.header.new.self header trails c.args.harts.now begins
    c.in_ok-trails.ensures.harts c.first_offset.ensures (c.in_ok-trails.ensures.none words c.first_offset.result) numbered
    (c.in_err-stopped-in-Ok.ensures.stops stops))

pub returns-in-Ok-clause-stops : goal.returns-in-Ok-clause-stops
returns-in-Ok-clause-stops g c = none_stops _ c.sourced_of.result c.sourced_of.ensures.fault

pub returns-clause-stops : goal.returns-clause-stops
returns-clause-stops g c = none_stops _ c.sourced_of-in-Err.result c.sourced_of-in-Err.ensures.fault
