-- By lemmas on the messages of a hart that are followed.
use Rattle.std.proofs.Common.{◌≡◌, ◌∙◌, ◌++◌, ◌∷◌, [], Err, ap, arith, subst, sym}
use Rattle.std.proofs.lemmas.Grind.{common_steps}
use Rattle.std.specs.Prelude.{IfErr}
use Rattle.message.specs.declared.message.Message.{Message}
use Rattle.payload.specs.Reading.{reading}
use Rattle.rvclass.specs.Fetch.{words_of}
use Rattle.comparing.proofs.FollowedMessages.{followed_after, followed_before, none_stops, refused_after}
use Rattle.comparing.specs.Sources.{EndsRefused}
use Rattle.comparing.specs.declared.source.SourcingFault.TheVariants.{Stops}
use Rattle.comparing.proofs.trail.Trail.follow.Goals as goal

pub returns-then-is_some-clause-followed : goal.returns-then-is_some-clause-followed
returns-then-is_some-clause-followed g c = λ own one is_message is_at are followed.
    followed_before (words_of c.args.program.now) own one c.args.at is_at are c.args.self.now
    (sym c.is_some.ensures ∙ c.if-is_some.true) followed

pub returns-clause-followed : goal.returns-clause-followed
returns-clause-followed g c = λ own one is_message is_at are followed.
    followed_after (words_of c.args.program.now) own one c.args.at is_at are c.args.self.now
    (sym c.is_some.ensures ∙ c.if-is_some.false) c.decode.new.decoder c.unpack-read.result c.in_ok-added.added
    (c.unpack-read.ensures.value ∙ ap reading c.bytes.ensures.same
    ∙ ap (λ (m : Message). reading m.payload) (sym is_message)) followed c.in_ok-added.ensures.decoded c.add.result
    c.add.new.self c.read_waits-waits.result c.read_closes-closes.result c.read_waits-waits.ensures
    c.read_closes-closes.ensures c.add.ensures.after

pub returns-in_err-added-clause-stops : goal.returns-in_err-added-clause-stops
returns-in_err-added-clause-stops g c = λ own one is_message followed.
    let words = words_of c.args.program.now in
    let is : c.from_residual.result ≡ Err c.in_err-added.field-0.0 = grind (arith, common_steps) in
    let read =
    c.unpack-read.ensures.value ∙ ap reading c.bytes.ensures.same ∙ ap (λ (m : Message). reading m.payload) (sym is_message) in
    subst (λ r. IfErr r (λ why. why ≡ Stops → EndsRefused words (own ++ one ∷ []) c.args.self.now.hart.row)) (sym is)
    (λ stops. refused_after words own one c.args.self.now (sym c.is_some.ensures ∙ c.if-is_some.false) c.unpack-read.result
    read followed (λ packets events stands. c.in_err-added.ensures.stops packets events stands stops))

pub returns-clause-stops : goal.returns-clause-stops
returns-clause-stops g c = λ own one is_message followed. none_stops _ c.add.result c.add.ensures.fault
