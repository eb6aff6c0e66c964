-- The search does not go into a clause that holds of any events before.
use Rattle.std.proofs.Common.{◌≡◌, [], false, subst, sym, rules}
use Rattle.encoder.specs.EncoderStands.{EncoderStands}
use Rattle.payload.specs.Profile.{InProfile}
use Rattle.captures.specs.HasEncoded.{AreWritten, packets_written}
use Rattle.captures.specs.steps.Encodes.{EncodedSoFar}
use Rattle.captures.proofs.EncodedEvents.{encoded_none}
use Rattle.captures.proofs.hart_messages.HartMessages.open.Goals as goal

pub returns-in_ok-write-clause-encoded : goal.returns-in_ok-write-clause-encoded
returns-in_ok-write-clause-encoded g c = λ words period mode hart seen encoded.
    let before = c.args.self.now in
    let closed : before.is_open ≡ false = search rules in
    let none : seen ≡ [] = encoded.first closed in
    let stands : EncoderStands words period mode [] before.encoder =
    subst (λ seen. EncoderStands words period mode seen before.encoder) none encoded.stands in
    let written : AreWritten g.F.Form.text hart [] before.messages =
    subst (λ is. AreWritten g.F.Form.text hart (packets_written words period mode seen is) before.messages) closed
    encoded.written in
    let profile : InProfile c.open.result =
    subst InProfile (sym (c.open.ensures.open words period mode [] stands)) tt in
    subst (λ seen. EncodedSoFar g.F.Form.text words period mode hart seen c.open.new.self c.write.new.self) (sym none)
    (encoded_none g.F.Form.text words period mode hart c.open.result before.encoder c.open.new.self before.messages
    c.write.new.self stands c.open.ensures.same (c.open.ensures.packets words period mode [] stands) written
    (c.in_ok-write.ensures profile))
