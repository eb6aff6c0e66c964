-- What the decoder answers, and how many events that are: by lemmas on packets and lists.
use Rattle.std.proofs.Common.{◌≡◌, ◌++◌, ◌∙◌, Err, arith, ap, inr, sym}
use Rattle.std.proofs.lemmas.List.{length-append}
use Rattle.rvclass.specs.Fetch.{words_of}
use Rattle.decoder.specs.declared.fault.DecodeFault.TheVariants.{Memory}
use Rattle.message.proofs.HartMessages.{last_is_closing-next}
use Rattle.receiver.proofs.AcceptLemmas.{not_decoded}
use Rattle.parallel_decode.proofs.OwnLemmas.{same_err}
use Rattle.parallel_decode.proofs.own.Own.decode.Goals as goal

pub returns-in-Ok-clause-decoded : goal.returns-in-Ok-clause-decoded
returns-in-Ok-clause-decoded g c = λ packets log stands.
    let added = c.feed_packet.new.piece.items ++ c.in-Ok.left in (
      added,
      omega (arith, length-append c.feed_packet.new.piece.items c.in-Ok.left),
      c.in-Ok.ensures.adds packets log added stands (sym (ap (λ l. l ++ added) c.new-piece.ensures.items)),
    )

pub returns-in-Ok-clause-closed : goal.returns-in-Ok-clause-closed
returns-in-Ok-clause-closed g c = λ packets.
    c.is_closing-self.ensures ∙ sym (last_is_closing-next packets c.args.packet.now)

pub returns-clause-not_decoded : goal.returns-clause-not_decoded
returns-clause-not_decoded g c = λ packets log stands.
    not_decoded (words_of c.args.program.now) packets c.args.packet.now c.in-Err.fault
    (same_err _ _ _ (c.in-Err.ensures.adds_first packets log stands))
    (same_err _ _ _ (c.in-Err.ensures.adds_closed packets log stands))
    (inr (c.in-Err.ensures.adds_none packets log stands))
    (λ memory.
    let same : c.in-Err.fault ≡ Memory = cc in
    absurd (c.in-Err.ensures.never_memory (ap (λ why. Err why) same)))
