-- What the decoder adds is told by its clauses, for lists that it is handed.
use Rattle.std.proofs.Common.{◌≡◌, ◌++◌, ◌∷◌, ◌∙◌, [], ap, arith, subst, sym}
use Rattle.std.proofs.lemmas.List.{length-append}
use Rattle.decoder.specs.DecoderStands.{DecoderStands}
use Rattle.decoder.specs.Describes.{Describes}
use Rattle.rvclass.specs.Fetch.{words_of}
use Rattle.payload.specs.declared.packet.Packet.{Packet}
use Rattle.comparing.proofs.trail.decode.Goals as goal

pub returns-in-Some-clause-decoded : goal.returns-in-Some-clause-decoded
returns-in-Some-clause-decoded g c = λ packets events stands.
    let piece = c.feed_in_pieces.new.piece.items in
    let left = c.in-Ok-feed_in_pieces.left in
    let same = ap words_of c.of.ensures in
    let cleared : piece ++ left ≡ c.clear.new.self.items ++ (piece ++ left) =
    sym (ap (λ l. l ++ (piece ++ left)) c.clear.ensures.items) in
    let all = length-append piece left in
    let sum = c.in-Some.ensures in
    let some = c.len.ensures in
    let others = c.len-2.ensures in
    record {
      packet = c.in-Ok.packet;
      added = piece ++ left;
      is = c.in-Ok.is;
      counted = omega (arith, sum, some, others, all);
      stands = subst (λ words. DecoderStands words (packets ++ c.in-Ok.packet ∷ []) (events ++ (piece ++ left))
          c.feed_in_pieces.new.self) same
          (c.in-Ok-feed_in_pieces.ensures.adds packets events (piece ++ left)
          (subst (λ words. DecoderStands words packets events c.args.decoder.now) (sym same) stands) cleared);
    }

pub returns-in-Err-clause-stops : goal.returns-in-Err-clause-stops
returns-in-Err-clause-stops g c = λ packets events stands stops packet is log described.
    let same = ap words_of c.of.ensures in
    let packet_is : packet ≡ c.in-Ok.packet = let both = sym is ∙ c.in-Ok.is in cc in
    c.in-Err.ensures.adds_none packets events (subst (λ words. DecoderStands words packets events c.args.decoder.now) (sym same) stands)
    log (subst (λ words. Describes words (packets ++ c.in-Ok.packet ∷ []) log) (sym same)
    (subst (λ (packet : Packet). Describes (words_of c.args.program.now) (packets ++ packet ∷ []) log) packet_is described))
