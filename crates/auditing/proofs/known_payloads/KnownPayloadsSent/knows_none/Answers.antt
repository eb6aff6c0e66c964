-- Where all count as sent, no message is known by its payload alone: by a lemma, which no search finds.
use Rattle.std.proofs.Common.{◌∙◌, ap, sym}
use Rattle.auditing.proofs.Recognised.{framed_knows_none}
use Rattle.auditing.specs.PayloadSights.{KnownSent}
use Rattle.auditing.proofs.known_payloads.KnownPayloadsSent.knows_none.Goals as goal

pub returns : goal.returns
returns g c = λ is. framed_knows_none c.args.self.now (sym (ap (λ (k : KnownSent). k.framed) c.self.view_is) ∙ is)
