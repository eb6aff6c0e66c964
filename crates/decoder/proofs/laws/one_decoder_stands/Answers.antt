-- What a decoder remembers follows from the packets and their pieces, of which there is one list.
use Rattle.std.proofs.Common.{◌≡◌, None, sym, ap, subst, ◌∙◌}
use Rattle.legalpath.specs.Legal.{Legal}
use Rattle.std.specs.List.{last_or}
use Rattle.decoder.proofs.UniqueLemmas.{one_log, pieces_same}
use Rattle.decoder.specs.ModeOf.{mode_of}
use Rattle.decoder.specs.Pieces.{reported_end}
use Rattle.decoder.specs.declared.decoding.Decoder.{Decoder}
use Rattle.decoder.proofs.laws.one_decoder_stands.Goals as goal

-- A decoder is what it remembers.
same_decoder : (d e : Decoder) → d.phase ≡ e.phase → d.waiting ≡ e.waiting → d.last ≡ e.last → d.mode ≡ e.mode →
    d.announced ≡ e.announced → d.reported ≡ e.reported → d ≡ e
same_decoder d e phase waiting last mode announced reported =
    let is : ◌≡◌ {A = Decoder} (record {
      phase = d.phase;
      waiting = d.waiting;
      last = d.last;
      mode = d.mode;
      announced = d.announced;
      reported = d.reported;
    }) (record {
      phase = e.phase;
      waiting = e.waiting;
      last = e.last;
      mode = e.mode;
      announced = e.announced;
      reported = e.reported;
    }) = cc in is

pub returns : goal.returns
returns c = λ words packets log other d e announced program one two has has'.
    let a = one.described in
    let b = two.described in
    let same = pieces_same words program (mode_of packets) None 0 packets None a.pieces b.pieces a.each b.each
    (subst (Legal words) a.whole a.legal) (subst (Legal words) b.whole b.legal) in
    let logs = one_log words program packets log other a b in
    same_decoder d e (one.phase ∙ sym two.phase) (one.waiting ∙ sym two.waiting)
    (one.last ∙ ap (last_or None) logs ∙ sym two.last) (one.mode ∙ sym two.mode) (has ∙ sym has')
    (one.reported ∙ ap (reported_end 0 packets) same ∙ sym two.reported)
