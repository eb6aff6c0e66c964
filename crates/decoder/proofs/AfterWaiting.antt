-- One packet more, where an address packet with plain bits waits.
use Rattle.std.proofs.Common.{◌≡◌, ℕ, Bool, List, [], ◌∷◌, ◌++◌, Some, None, sym, ap, subst, ◌∙◌}
use Rattle.std.proofs.lemmas.List.{append-nil}
use Rattle.std.specs.List.{last_or}
use Rattle.retire.specs.declared.event.Event.{Event}
use Rattle.rvclass.specs.Words.{Words, IsProgram}
use Rattle.legalpath.proofs.FollowOnLemmas.{follow_on_split, follow_on_join}
use Rattle.legalpath.specs.Join.{join}
use Rattle.legalpath.specs.LastPlace.{last_place}
use Rattle.legalpath.specs.Legal.{FollowOn, Legal}
use Rattle.payload.specs.AddressField.{aim}
use Rattle.payload.specs.declared.mode.Mode.{Mode}
use Rattle.payload.specs.declared.packet.Packet.{Packet}
use Rattle.payload.specs.declared.packet.Packet.TheVariants.{Address}
use Rattle.payload.specs.declared.packet.Report.TheVariants.{Plain}
use Rattle.decoder.proofs.ModeAnnounced.{mode_of-behind}
use Rattle.decoder.proofs.OnePacketMore.{join-append, pieces_split, pieces_join}
use Rattle.decoder.proofs.UniqueLemmas.{pieces_same}
use Rattle.decoder.specs.Describes.{Describes}
use Rattle.decoder.specs.Fits.{AfterRetirement, FitsAddress, Fits}
use Rattle.decoder.specs.ModeOf.{mode_of}
use Rattle.decoder.specs.Order.{MayPrecede, Begins}
use Rattle.decoder.specs.Pieces.{reported_end, Pieces}
use Rattle.decoder.specs.Settling.{settled_by}

module _ (words : Words) (mode : Mode) where
  -- What is known while this address packet waits: the mode, and the pieces of the packets before it.
  pub record Waiting (packets : List Packet) (taken : List Bool) (delta : ℕ) (log : List Event) : Type 0 where
    pub begins : Begins (packets ++ Address taken delta Plain ∷ [])
    pub announced : mode ≡ mode_of (packets ++ Address taken delta Plain ∷ [])
    pub pieces : List (List Event)
    pub whole : log ≡ join pieces
    pub legal : Legal words log
    pub each : Pieces words mode None 0 packets (Some (Address taken delta Plain)) pieces
    pub after : AfterRetirement (last_or None log)

  -- It is the mode of the packets with one more, too.
  pub all_announced : (packets : List Packet) (taken : List Bool) (delta : ℕ) (p : Packet) →
      mode ≡ mode_of (packets ++ Address taken delta Plain ∷ []) →
      mode ≡ mode_of (packets ++ Address taken delta Plain ∷ p ∷ [])
  all_announced packets taken delta p announced =
      announced ∙ sym (mode_of-behind packets (Address taken delta Plain) (p ∷ []))

  -- The log that the waiting packet and one more describe, with the pieces of both.
  abbrev pub settle : (packets : List Packet) (taken : List Bool) (delta : ℕ) (p : Packet)
      (log piece more : List Event) →
      (w : Waiting packets taken delta log) →
      MayPrecede (Address taken delta Plain) (Some p) →
      FitsAddress words (last_or None log) taken (aim mode (reported_end 0 packets w.pieces) delta)
      (settled_by (Some p)) piece →
      Fits words mode (last_or (last_or None log) piece) (last_place (reported_end 0 packets w.pieces) piece) p None
      more → FollowOn words (last_or None log) (piece ++ more) →
      Begins (packets ++ Address taken delta Plain ∷ p ∷ []) →
      Describes words (packets ++ Address taken delta Plain ∷ p ∷ []) (log ++ (piece ++ more))
  settle packets taken delta p log piece more w may fits then follows begins =
      let r = reported_end 0 packets w.pieces in
      let first_fits = subst (λ l. FitsAddress words (last_or None l) taken (aim mode r delta) (settled_by (Some p))
      piece) w.whole fits in
      let then_fits = subst (λ l. Fits words mode (last_or (last_or None l) piece) (last_place r piece) p None more)
      w.whole then in
      let tail : join (piece ∷ more ∷ []) ≡ piece ++ more = ap (λ l. piece ++ l) (append-nil more) in
      record {
        begins = begins;
        pieces = w.pieces ++ piece ∷ more ∷ [];
        whole = ap (λ l. l ++ (piece ++ more)) w.whole ∙ ap (λ l. join w.pieces ++ l) (sym tail)
            ∙ sym (join-append w.pieces (piece ∷ more ∷ []));
        legal = follow_on_join words None log (piece ++ more) w.legal follows;
        each = subst (λ m. Pieces words m None 0 (packets ++ Address taken delta Plain ∷ p ∷ []) None
            (w.pieces ++ piece ∷ more ∷ [])) (all_announced packets taken delta p w.announced)
            (pieces_join words mode None 0 packets (Address taken delta Plain ∷ p ∷ []) None w.pieces
            (piece ∷ more ∷ []) w.each (may, first_fits, (tt, then_fits, tt)));
      }

  -- What the waiting packet and one more add to the log.
  pub record AddedTwo (packets : List Packet) (taken : List Bool) (delta : ℕ) (p : Packet) (log : List Event)
      (w : Waiting packets taken delta log) (other : List Event) : Type 0 where
    pub piece : List Event
    pub more : List Event
    pub is : other ≡ log ++ (piece ++ more)
    pub may : MayPrecede (Address taken delta Plain) (Some p)
    pub first_fits : FitsAddress words (last_or None log) taken (aim mode (reported_end 0 packets w.pieces) delta)
        (settled_by (Some p)) piece
    pub then_fits : Fits words mode (last_or (last_or None log) piece)
        (last_place (reported_end 0 packets w.pieces) piece) p None more
    pub follows : FollowOn words (last_or None log) (piece ++ more)

  -- And every log that they describe is made so.
  pub waiting_only : IsProgram words → (packets : List Packet) (taken : List Bool) (delta : ℕ) (p : Packet)
      (log other : List Event) → (w : Waiting packets taken delta log) →
      Describes words (packets ++ Address taken delta Plain ∷ p ∷ []) other → AddedTwo packets taken delta p log w other
  waiting_only program packets taken delta p log other w all =
      let each = subst (λ m. Pieces words m None 0 (packets ++ Address taken delta Plain ∷ p ∷ []) None all.pieces)
      (sym (all_announced packets taken delta p w.announced)) all.each in
      let parts = pieces_split words mode None 0 packets (Address taken delta Plain ∷ p ∷ []) None all.pieces each in
      take_two parts.front parts.back (all.whole ∙ ap join parts.is ∙ join-append parts.front parts.back) parts.early
      parts.late
    where
      take_two : (front back : List (List Event)) → other ≡ join front ++ join back →
          Pieces words mode None 0 packets (Some (Address taken delta Plain)) front →
          Pieces words mode (last_or None (join front)) (reported_end 0 packets front)
          (Address taken delta Plain ∷ p ∷ []) None back → AddedTwo packets taken delta p log w other
      take_two front [] is early late = absurd late
      take_two front (piece ∷ []) is early late = absurd late.2
      take_two front (piece ∷ more ∷ third ∷ pieces) is early late = absurd late.2.2
      take_two front (piece ∷ more ∷ []) is early late =
          let whole : other ≡ join front ++ (piece ++ more) = is ∙ ap (λ l. join front ++ (piece ++ l))
          (append-nil more) in
          let parts = follow_on_split words None (join front) (piece ++ more) (subst (Legal words) whole all.legal) in
          let same : w.pieces ≡ front = pieces_same words program mode None 0 packets (Some (Address taken delta Plain))
          w.pieces front w.each early (subst (Legal words) w.whole w.legal) parts.0 in
          let logs : join front ≡ log = ap join (sym same) ∙ sym w.whole in
          let one = subst (λ l. FitsAddress words (last_or None l) taken (aim mode (reported_end 0 packets front) delta)
          (settled_by (Some p)) piece) logs late.1 in
          let two = subst (λ l. Fits words mode (last_or (last_or None l) piece)
          (last_place (reported_end 0 packets front) piece) p None more) logs late.2.1 in
          record {
            piece = piece;
            more = more;
            is = whole ∙ ap (λ l. l ++ (piece ++ more)) logs;
            may = late.0;
            first_fits = subst (λ x. FitsAddress words (last_or None log) taken
                (aim mode (reported_end 0 packets x) delta) (settled_by (Some p)) piece) (sym same) one;
            then_fits = subst (λ x. Fits words mode (last_or (last_or None log) piece)
                (last_place (reported_end 0 packets x) piece) p None more) (sym same) two;
            follows = subst (λ l. FollowOn words (last_or None l) (piece ++ more)) logs parts.1;
          }
