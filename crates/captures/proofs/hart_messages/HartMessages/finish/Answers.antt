-- The search does not go into a clause that holds of any events before.
use Rattle.std.proofs.Common.{All, subst, sym}
use Rattle.rvclass.specs.Fetch.{words_of}
use Rattle.encoder.specs.Packets.{packets}
use Rattle.encoder.specs.PacketsSoFar.{packets_so_far}
use Rattle.payload.specs.Profile.{InProfile}
use Rattle.captures.specs.HasEncoded.{AreWritten}
use Rattle.captures.specs.steps.Adds.{Adds}
use Rattle.captures.proofs.EncodedEvents.{written_more}
use Rattle.captures.proofs.hart_messages.HartMessages.finish.Goals as goal

pub returns : goal.returns
returns g c = λ period mode hart seen encoded legal.
    let words = words_of c.args.program.now in
    let opened = c.open.new.self.messages in
    let before = c.in_ok-open.ensures.encoded words period mode hart seen encoded in
    let profile : All InProfile c.as_slice.result.now =
    subst (All InProfile) (sym c.as_slice.ensures.value)
    (c.finish.ensures.profile period mode seen before.stands legal) in
    let adds : Adds g.F.Form.text c.finish.result.items opened c.write_all.new.self =
    subst (λ ps. Adds g.F.Form.text ps opened c.write_all.new.self) c.as_slice.ensures.value
    (c.in_ok-write_all.ensures profile) in
    let written : AreWritten g.F.Form.text hart (packets words period mode seen) c.write_all.new.self =
    subst (λ ps. AreWritten g.F.Form.text hart ps c.write_all.new.self)
    (sym (c.finish.ensures.packets period mode seen before.stands))
    (written_more g.F.Form.text hart (packets_so_far words period mode seen) c.finish.result.items opened
    c.write_all.new.self before.written adds) in
    written.bytes
