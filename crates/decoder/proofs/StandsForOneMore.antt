-- What a decoder stands for after one packet more.
use Rattle.std.proofs.Common.{◌≡◌, ◌⊎◌, inl, inr, ℕ, ◌+◌, ◌<◌, List, [], ◌∷◌, ◌++◌, Option, Some}
use Rattle.std.proofs.Common.{None, refl, sym, ap, subst, ◌∙◌, append_assoc, length, length-append, arith}
use Rattle.std.proofs.lemmas.List.{append-nil}
use Rattle.std.specs.List.{last_or}
use Rattle.std.specs.Prelude.{Ok, is_some}
use Rattle.retire.specs.declared.event.Event.{Event}
use Rattle.rvclass.specs.Words.{Words, IsProgram}
use Rattle.legalpath.proofs.FollowOnLemmas.{follow_on_split, follow_on_join, last_or-append}
use Rattle.legalpath.specs.Join.{join}
use Rattle.legalpath.specs.LastPlace.{last_place}
use Rattle.legalpath.specs.Legal.{FollowOn}
use Rattle.payload.specs.AddressField.{aim}
use Rattle.payload.specs.declared.mode.Mode.{Mode}
use Rattle.payload.specs.declared.packet.Packet.{Packet}
use Rattle.payload.specs.declared.packet.Packet.TheVariants as packet
use Rattle.payload.specs.declared.packet.Report.TheVariants as report
use Rattle.decoder.proofs.ModeAnnounced.{mode_of-behind, mode_past-first, mode_past-later}
use Rattle.decoder.proofs.OnePacketMore.{Takes, feed_more, feed_only, pieces_split, join-append, begins_more}
use Rattle.decoder.proofs.OnePacketMore.{reported_end-append}
use Rattle.decoder.proofs.StretchEnds.{last_or-last, stretch_count-gives, stretch_last-gives, stretch_place-gives}
use Rattle.decoder.proofs.StretchEnds.{right_after}
use Rattle.decoder.proofs.AfterWaiting.{Waiting as Held, settle, waiting_only}
use Rattle.decoder.specs.Describes.{Describes}
use Rattle.decoder.specs.Fits.{AfterRetirement, FitsAddress, Fits}
use Rattle.decoder.specs.ModeOf.{mode_announced_by, mode_of}
use Rattle.decoder.specs.Order.{MayPrecede, IsOpen, Begins}
use Rattle.decoder.specs.steps.Stretches.{stretch_count, stretch_last, stretch_place, Gives, RightBefore}
use Rattle.decoder.specs.Pieces.{reported_after, reported_end, Pieces}
use Rattle.decoder.specs.steps.Planning.{MayCome, FitsWaiting, CanFollow, CanFollowAt, admitted}
use Rattle.decoder.specs.steps.Planning.{decoder_after, mode_past, reported_past}
use Rattle.decoder.specs.Settling.{settled_by}
use Rattle.decoder.specs.DecoderStands.{DecoderStands, phase_after, waiting_after}
use Rattle.decoder.specs.declared.decoding.Decoder.{Decoder}
use Rattle.decoder.specs.declared.added_events.AddedEvents.{AddedEvents}
use Rattle.decoder.specs.declared.settling.Waiting.{Waiting}
use Rattle.decoder.proofs.NextPacket.{Ending, ending, opens, opens_only, waits_for, waits_plain, precedes, admits_after}
use Rattle.decoder.proofs.NextPacket.{reported_past-after}

module _ (words : Words) where
  -- The last event of a log that a decoder stands for is right.
  pub stands_right : (packets : List Packet) (log : List Event) (d : Decoder) → DecoderStands words packets log d →
      RightBefore words d.last
  stands_right packets log d s = subst (RightBefore words) (sym s.last)
      (right_after words None log tt s.described.legal)

  -- What follows what a decoder remembers follows what it stands for.
  recalled : {packets : List Packet} {log : List Event} {d : Decoder} {p : Packet} {piece more : List Event} →
      (s : DecoderStands words packets log d) → CanFollowAt words d p piece more →
      CanFollow words d.mode (phase_after (last_or None packets)) (waiting_after (last_or None packets))
      (last_or None log) (reported_end 0 packets s.described.pieces) p piece more
  recalled {packets} {log} {d} {p} {piece} {more} s can =
      let one = subst (λ x. CanFollow words d.mode x d.waiting d.last d.reported p piece more) s.phase can in
      let two = subst (λ x. CanFollow words d.mode (phase_after (last_or None packets)) x d.last d.reported p piece
      more) s.waiting one in
      let three = subst (λ x. CanFollow words d.mode (phase_after (last_or None packets))
      (waiting_after (last_or None packets)) x d.reported p piece more) s.last two in
      subst (λ x. CanFollow words d.mode (phase_after (last_or None packets)) (waiting_after (last_or None packets))
      (last_or None log) x p piece more) s.reported three

  -- And the other way round.
  kept_in_mind : {packets : List Packet} {log : List Event} {d : Decoder} {p : Packet} {piece more : List Event} →
      (s : DecoderStands words packets log d) → CanFollow words d.mode (phase_after (last_or None packets))
      (waiting_after (last_or None packets)) (last_or None log) (reported_end 0 packets s.described.pieces) p piece
      more → CanFollowAt words d p piece more
  kept_in_mind {packets} {log} {d} {p} {piece} {more} s can =
      let one = subst (λ x. CanFollow words d.mode x (waiting_after (last_or None packets)) (last_or None log)
      (reported_end 0 packets s.described.pieces) p piece more) (sym s.phase) can in
      let two = subst (λ x. CanFollow words d.mode d.phase x (last_or None log)
      (reported_end 0 packets s.described.pieces) p piece more) (sym s.waiting) one in
      let three = subst (λ x. CanFollow words d.mode d.phase d.waiting x (reported_end 0 packets s.described.pieces) p
      piece more) (sym s.last) two in
      subst (λ x. CanFollow words d.mode d.phase d.waiting d.last x p piece more) (sym s.reported) three

  -- What the decoder remembers after one packet more is what is to be remembered of it.
  remembered : (packets after : List Packet) (log : List Event) (d : Decoder) (p : Packet)
      (settled of_packet : AddedEvents)
      (piece more : List Event) → DecoderStands words packets log d → Gives words settled piece →
      Gives words of_packet more → last_or None after ≡ Some p → mode_past p d.mode ≡ mode_of after →
      (new : Describes words after (log ++ (piece ++ more))) →
      reported_end 0 after new.pieces ≡ reported_after p (last_place d.reported piece) more →
      DecoderStands words after (log ++ (piece ++ more)) (decoder_after d p settled of_packet)
  remembered packets after log d p settled of_packet piece more s one two last announced new reported =
      let at = stretch_place-gives words d.reported settled piece one in
      let before = stretch_last-gives words d.last settled piece one in
      record {
        described = new;
        phase = ap phase_after (sym last);
        waiting = ap waiting_after (sym last);
        last = ap (λ b. stretch_last b of_packet) before
            ∙ stretch_last-gives words (last_or d.last piece) of_packet more two
            ∙ sym (last_or-append d.last piece more) ∙ ap (λ b. last_or b (piece ++ more)) s.last
            ∙ sym (last_or-append None log (piece ++ more));
        mode = announced;
        reported = ap (λ r. reported_past p r (stretch_place r of_packet)) at
            ∙ ap (λ r. reported_past p (last_place d.reported piece) r)
            (stretch_place-gives words (last_place d.reported piece) of_packet more two)
            ∙ reported_past-after p (last_place d.reported piece) more ∙ sym reported;
      }

  -- The last packet does not wait, and the next may come after it.
  takes : (last : Option Packet) (p : Packet) → admitted (phase_after last) p ≡ Ok tt →
      MayCome (phase_after last) (waiting_after last) p → waiting_after last ≡ None → Takes last p
  takes None p admits comes none = tt
  takes (Some q) p admits comes none = (sym (waits_for q) ∙ ap is_some none, precedes q p admits comes)

  begins_with : (packets : List Packet) (p : Packet) → Begins packets →
      admitted (phase_after (last_or None packets)) p ≡ Ok tt → Begins (packets ++ p ∷ [])
  begins_with [] p begins admits = opens_only p admits
  begins_with (q ∷ packets) p begins admits = begins_more q packets (p ∷ []) begins

  -- The mode after the packet is the one that all of them announce.
  mode_settled : (packets : List Packet) (p : Packet) → Takes (last_or None packets) p →
      mode_past p (mode_of packets) ≡ mode_of (packets ++ p ∷ [])
  mode_settled [] p takes = mode_past-first p
  mode_settled (q ∷ packets) p takes = behind_last q packets takes
    where
      behind_last : (r : Packet) (rest : List Packet) → Takes (last_or (Some r) rest) p →
          mode_past p (mode_announced_by q) ≡ mode_announced_by q
      behind_last r [] takes = mode_past-later r p (mode_announced_by q) takes.1.1
      behind_last r (next ∷ rest) takes = behind_last next rest takes

  more_settled : (packets : List Packet) (log : List Event) (d : Decoder) (p : Packet) (settled of_packet : AddedEvents)
      (more : List Event) → DecoderStands words packets log d → waiting_after (last_or None packets) ≡ None →
      Gives words settled [] → Gives words of_packet more → CanFollowAt words d p [] more →
      DecoderStands words (packets ++ p ∷ []) (log ++ more) (decoder_after d p settled of_packet)
  more_settled packets log d p settled of_packet more s none one two can =
      let c = recalled s can in
      let takes_it = takes (last_or None packets) p c.admits c.comes none in
      let new = feed_more words d.mode packets p log more s.described s.mode
      (begins_with packets p s.described.begins c.admits) takes_it c.fits c.follows in
      let announced = ap (mode_past p) s.mode ∙ mode_settled packets p takes_it in
      let end = reported_end-append words (mode_of packets) None 0 packets (p ∷ []) None s.described.pieces (more ∷ [])
      s.described.each in
      remembered packets (packets ++ p ∷ []) log d p settled of_packet [] more s one two (last_or-last None packets p)
      announced new (end ∙ ap (λ r. reported_after p r more) (sym s.reported))

  abbrev plain : Waiting → Packet
  plain waiting = packet.Address waiting.outcomes waiting.delta report.Plain

  -- Where an address packet waits, it is the last of the packets.
  waits_last : (packets : List Packet) (waiting : Waiting) → waiting_after (last_or None packets) ≡ Some waiting →
      (packets ≡ []) ⊎ Ending packets → (front : List Packet) × (packets ≡ front ++ plain waiting ∷ [])
  waits_last packets waiting some (inl is) = let no : None ≡ Some waiting =
      sym (ap (λ l. waiting_after (last_or None l)) is) ∙ some in cc
  waits_last packets waiting some (inr e) =
      let last = ap (last_or None) e.is ∙ last_or-last None e.front e.last in
      let q = waits_plain e.last waiting (sym (ap waiting_after last) ∙ some) in
      (e.front, e.is ∙ ap (λ x. e.front ++ x ∷ []) q)

  -- The pieces of the packets before one that waits.
  record Behind (front : List Packet) (waiting : Waiting) (log : List Event) (d : Decoder) : Type 0 where
    held : Held words d.mode front waiting.outcomes waiting.delta log
    reported : d.reported ≡ reported_end 0 front held.pieces

  behind : (front : List Packet) (waiting : Waiting) (log : List Event) (d : Decoder) →
      DecoderStands words (front ++ plain waiting ∷ []) log d → Behind front waiting log d
  behind front waiting log d s =
      let all = s.described in
      let each = subst (λ m. Pieces words m None 0 (front ++ plain waiting ∷ []) None all.pieces) (sym s.mode)
      all.each in
      let parts = pieces_split words d.mode None 0 front (plain waiting ∷ []) None all.pieces each in
      take_one parts.front parts.back parts.is parts.early parts.late
    where
      take_one : (pieces back : List (List Event)) → s.described.pieces ≡ pieces ++ back →
          Pieces words d.mode None 0 front (Some (plain waiting)) pieces →
          Pieces words d.mode (last_or None (join pieces)) (reported_end 0 front pieces)
          (plain waiting ∷ []) None back → Behind front waiting log d
      take_one pieces [] is early late = absurd late
      take_one pieces (piece ∷ other ∷ back) is early late = absurd late.2
      take_one pieces (piece ∷ []) is early late =
          let all = s.described in
          let none : piece ≡ [] = late.1.1 in
          let tail : join (piece ∷ []) ≡ [] = ap (λ l. l ++ []) none in
          let whole : log ≡ join pieces = all.whole ∙ ap join is ∙ join-append pieces (piece ∷ [])
          ∙ ap (λ l. join pieces ++ l) tail ∙ append-nil (join pieces) in
          let end = ap (λ l. reported_end 0 (front ++ plain waiting ∷ []) l) is
          ∙ reported_end-append words d.mode None 0 front (plain waiting ∷ []) (Some (plain waiting)) pieces
          (piece ∷ []) early in
          record {
            held = record {
              begins = all.begins;
              announced = s.mode;
              pieces = pieces;
              whole = whole;
              legal = all.legal;
              each = early;
              after = subst (λ l. AfterRetirement (last_or None l)) (sym whole) late.1.0;
            };
            reported = s.reported ∙ end ∙ ap (last_place (reported_end 0 front pieces)) none;
          }

  begins_on : (front : List Packet) (q p : Packet) → Begins (front ++ q ∷ []) → Begins (front ++ q ∷ p ∷ [])
  begins_on [] q p begins = begins
  begins_on (r ∷ front) q p begins = begins

  -- What follows after a packet that waits, said of that packet.
  after_waiting : (front : List Packet) {log : List Event} {d : Decoder} {p : Packet} {piece more : List Event}
      (waiting : Waiting) → DecoderStands words (front ++ plain waiting ∷ []) log d → CanFollowAt words d p piece more →
      CanFollow words d.mode (phase_after (Some (plain waiting))) (Some waiting) d.last d.reported p piece more
  after_waiting front {log} {d} {p} {piece} {more} waiting s can =
      let last = last_or-last None front (plain waiting) in
      let one = subst (λ x. CanFollow words d.mode x d.waiting d.last d.reported p piece more)
      (s.phase ∙ ap phase_after last) can in
      subst (λ x. CanFollow words d.mode (phase_after (Some (plain waiting))) x d.last d.reported p piece more)
      (s.waiting ∙ ap waiting_after last) one

  before_waiting : (front : List Packet) {log : List Event} {d : Decoder} {p : Packet} {piece more : List Event}
      (waiting : Waiting) → DecoderStands words (front ++ plain waiting ∷ []) log d →
      CanFollow words d.mode (phase_after (Some (plain waiting))) (Some waiting) d.last d.reported p piece more →
      CanFollowAt words d p piece more
  before_waiting front {log} {d} {p} {piece} {more} waiting s can =
      let last = last_or-last None front (plain waiting) in
      let one = subst (λ x. CanFollow words d.mode x (Some waiting) d.last d.reported p piece more)
      (sym (s.phase ∙ ap phase_after last)) can in
      subst (λ x. CanFollow words d.mode d.phase x d.last d.reported p piece more)
      (sym (s.waiting ∙ ap waiting_after last)) one

  more_waiting : (front : List Packet) (waiting : Waiting) (log : List Event) (d : Decoder) (p : Packet)
      (settled of_packet : AddedEvents) (piece more : List Event) →
      DecoderStands words (front ++ plain waiting ∷ []) log d → Gives words settled piece →
      Gives words of_packet more → CanFollowAt words d p piece more →
      DecoderStands words ((front ++ plain waiting ∷ []) ++ p ∷ []) (log ++ (piece ++ more))
      (decoder_after d p settled of_packet)
  more_waiting front waiting log d p settled of_packet piece more s one two can =
      let c = after_waiting front waiting s can in
      let b = behind front waiting log d s in
      let h = b.held in
      let r = reported_end 0 front h.pieces in
      let assoc = append_assoc front (plain waiting ∷ []) (p ∷ []) in
      let settles = subst (λ x. FitsAddress words x waiting.outcomes (aim d.mode d.reported waiting.delta)
      (settled_by (Some p)) piece) s.last c.settles in
      let first_fits = subst (λ x. FitsAddress words (last_or None log) waiting.outcomes (aim d.mode x waiting.delta)
      (settled_by (Some p)) piece) b.reported settles in
      let fits = subst (λ x. Fits words d.mode (last_or x piece) (last_place d.reported piece) p None more) s.last
      c.fits in
      let then_fits = subst (λ x. Fits words d.mode (last_or (last_or None log) piece) (last_place x piece) p None more)
      b.reported fits in
      let follows = subst (λ x. FollowOn words x (piece ++ more)) s.last
      (follow_on_join words d.last piece more c.settled_follows c.follows) in
      let may = precedes (plain waiting) p c.admits c.comes in
      let announced = mode_past-later (plain waiting) p d.mode may.1 ∙ s.mode
      ∙ sym (mode_of-behind front (plain waiting) (p ∷ [])) in
      let new = settle words d.mode front waiting.outcomes waiting.delta p log piece more h
      may first_fits then_fits follows
      (begins_on front (plain waiting) p h.begins) in
      let end = reported_end-append words d.mode None 0 front (plain waiting ∷ p ∷ []) (Some (plain waiting)) h.pieces
      (piece ∷ more ∷ []) h.each in
      let last = ap (last_or None) (sym assoc) ∙ last_or-last None (front ++ plain waiting ∷ []) p in
      let stands = remembered (front ++ plain waiting ∷ []) (front ++ plain waiting ∷ p ∷ []) log d p settled of_packet
      piece more s one two last announced new
      (end ∙ ap (λ x. reported_after p (last_place x piece) more) (sym b.reported)) in
      subst (λ l. DecoderStands words l (log ++ (piece ++ more)) (decoder_after d p settled of_packet)) (sym assoc)
      stands

  -- A decoder stands for one packet more with the events that can follow.
  pub stands_more : (packets : List Packet) (log : List Event) (d : Decoder) (p : Packet)
      (settled of_packet : AddedEvents)
      (piece more : List Event) → DecoderStands words packets log d → Gives words settled piece →
      Gives words of_packet more → CanFollowAt words d p piece more →
      DecoderStands words (packets ++ p ∷ []) (log ++ (piece ++ more)) (decoder_after d p settled of_packet)
  stands_more packets log d p settled of_packet piece more s one two can =
      by_waiting (waiting_after (last_or None packets)) refl (ending packets)
    where
      by_waiting : (waiting : Option Waiting) → waiting_after (last_or None packets) ≡ waiting →
          (packets ≡ []) ⊎ Ending packets → DecoderStands words (packets ++ p ∷ []) (log ++ (piece ++ more))
          (decoder_after d p settled of_packet)
      by_waiting None none e =
          let empty : piece ≡ [] = subst (λ x. FitsWaiting words d.mode d.last d.reported x p piece) (s.waiting ∙ none)
          can.settles in
          let one' = subst (Gives words settled) empty one in
          let can' = subst (λ x. CanFollowAt words d p x more) empty can in
          subst (λ x. DecoderStands words (packets ++ p ∷ []) (log ++ (x ++ more))
          (decoder_after d p settled of_packet)) (sym empty)
          (more_settled packets log d p settled of_packet more s none one' two can')
      by_waiting (Some waiting) some e =
          let (front, whole) = waits_last packets waiting some e in
          subst (λ l. DecoderStands words (l ++ p ∷ []) (log ++ (piece ++ more)) (decoder_after d p settled of_packet))
          (sym whole)
          (more_waiting front waiting log d p settled of_packet piece more
          (subst (λ l. DecoderStands words l log d) whole s) one two can)

  -- Where they do not fit behind the log, a log is described that is longer than what there is room for.
  pub stands_longer : (packets : List Packet) (log : List Event) (d : Decoder) (p : Packet)
      (settled of_packet : AddedEvents) (piece more : List Event) (room : ℕ) →
      DecoderStands words packets log d → Gives words settled piece → Gives words of_packet more →
      CanFollowAt words d p piece more → room < length log + (stretch_count settled + stretch_count of_packet) →
      (other : List Event) × Describes words (packets ++ p ∷ []) other × (room < length other)
  stands_longer packets log d p settled of_packet piece more room s one two can full =
      let new = stands_more packets log d p settled of_packet piece more s one two can in
      let counted = stretch_count-gives words settled piece one in
      let counted' = stretch_count-gives words of_packet more two in
      let long : room < length (log ++ (piece ++ more)) =
      omega (arith, full, counted, counted', length-append log (piece ++ more), length-append piece more) in
      (log ++ (piece ++ more), new.described, long)

  -- The packet that comes next, after the last of these.
  precede_last : (mode : Mode) (front : List Packet) (q p : Packet) (pieces : List (List Event)) →
      Pieces words mode None 0 (front ++ q ∷ []) (Some p) pieces → MayPrecede q (Some p)
  precede_last mode front q p pieces each =
      let parts = pieces_split words mode None 0 front (q ∷ []) (Some p) pieces each in
      of_last _ _ parts.back parts.late
    where
      of_last : (before : Option Event) (reported : ℕ) (back : List (List Event)) →
          Pieces words mode before reported (q ∷ []) (Some p) back → MayPrecede q (Some p)
      of_last before reported [] late = absurd late
      of_last before reported (piece ∷ back) late = late.0

  -- The packet that comes next is admitted, and may come.
  next_admitted : (packets : List Packet) (p : Packet) (other : List Event) →
      Describes words (packets ++ p ∷ []) other → (admitted (phase_after (last_or None packets)) p ≡ Ok tt) ×
      MayCome (phase_after (last_or None packets)) (waiting_after (last_or None packets)) p
  next_admitted packets p other all = by_last packets (ending packets) all
    where
      by_last : (packets : List Packet) → (packets ≡ []) ⊎ Ending packets → Describes words (packets ++ p ∷ []) other →
          (admitted (phase_after (last_or None packets)) p ≡ Ok tt) × MayCome (phase_after (last_or None packets))
          (waiting_after (last_or None packets)) p
      by_last packets (inl is) all =
          let first : IsOpen p = subst (λ l. Begins (l ++ p ∷ [])) is all.begins in
          subst (λ l. (admitted (phase_after (last_or None l)) p ≡ Ok tt) ×
          MayCome (phase_after (last_or None l)) (waiting_after (last_or None l)) p) (sym is) (opens p first)
      by_last packets (inr e) all =
          let mode = mode_of (packets ++ p ∷ []) in
          let parts = pieces_split words mode None 0 packets (p ∷ []) None all.pieces all.each in
          let early = subst (λ l. Pieces words mode None 0 l (Some p) parts.front) e.is parts.early in
          let last = ap (last_or None) e.is ∙ last_or-last None e.front e.last in
          subst (λ x. (admitted (phase_after x) p ≡ Ok tt) × MayCome (phase_after x) (waiting_after x) p) (sym last)
          (admits_after e.last p (precede_last mode e.front e.last p parts.front early))

  -- What can follow, if the packets and one more describe any log.
  pub record Followed (d : Decoder) (p : Packet) : Type 0 where
    pub piece : List Event
    pub more : List Event
    pub can : CanFollowAt words d p piece more

  only_settled : IsProgram words → (packets : List Packet) (log : List Event) (d : Decoder) (p : Packet)
      (other : List Event) → (s : DecoderStands words packets log d) → waiting_after (last_or None packets) ≡ None →
      Describes words (packets ++ p ∷ []) other → Followed d p
  only_settled program packets log d p other s none all =
      let next = next_admitted packets p other all in
      let added = feed_only words d.mode program packets p log other s.described s.mode
      (takes (last_or None packets) p next.0 next.1 none) all in
      let can : CanFollow words d.mode (phase_after (last_or None packets)) (waiting_after (last_or None packets))
      (last_or None log) (reported_end 0 packets s.described.pieces) p [] added.piece = record {
        admits = next.0;
        comes = next.1;
        settles = subst (λ x. FitsWaiting words d.mode (last_or None log) (reported_end 0 packets s.described.pieces) x
            p []) (sym none) refl;
        settled_follows = tt;
        fits = added.fits;
        follows = added.follows;
      } in
      record { piece = []; more = added.piece; can = kept_in_mind s can }

  only_waiting : IsProgram words → (front : List Packet) (waiting : Waiting) (log : List Event) (d : Decoder)
      (p : Packet) (other : List Event) → (s : DecoderStands words (front ++ plain waiting ∷ []) log d) →
      Describes words ((front ++ plain waiting ∷ []) ++ p ∷ []) other → Followed d p
  only_waiting program front waiting log d p other s all =
      let b = behind front waiting log d s in
      let h = b.held in
      let all' = subst (λ l. Describes words l other) (append_assoc front (plain waiting ∷ []) (p ∷ [])) all in
      let added = waiting_only words d.mode program front waiting.outcomes waiting.delta p log other h all' in
      let next = admits_after (plain waiting) p added.may in
      let follows = follow_on_split words (last_or None log) added.piece added.more added.follows in
      let can : CanFollow words d.mode (phase_after (Some (plain waiting))) (Some waiting) (last_or None log)
      (reported_end 0 front h.pieces) p added.piece added.more = record {
        admits = next.0;
        comes = next.1;
        settles = added.first_fits;
        settled_follows = follows.0;
        fits = added.then_fits;
        follows = follows.1;
      } in
      let here = subst (λ x. CanFollow words d.mode (phase_after (Some (plain waiting))) (Some waiting) x
      (reported_end 0 front h.pieces) p added.piece added.more) (sym s.last) can in
      let there = subst (λ x. CanFollow words d.mode (phase_after (Some (plain waiting))) (Some waiting) d.last x p
      added.piece added.more) (sym b.reported) here in
      record { piece = added.piece; more = added.more; can = before_waiting front waiting s there }

  pub stands_only : IsProgram words → (packets : List Packet) (log : List Event) (d : Decoder) (p : Packet)
      (other : List Event) → DecoderStands words packets log d → Describes words (packets ++ p ∷ []) other →
      Followed d p
  stands_only program packets log d p other s all = by_waiting (waiting_after (last_or None packets)) refl
      (ending packets)
    where
      by_waiting : (waiting : Option Waiting) → waiting_after (last_or None packets) ≡ waiting →
          (packets ≡ []) ⊎ Ending packets → Followed d p
      by_waiting None none e = only_settled program packets log d p other s none all
      by_waiting (Some waiting) some e =
          let (front, whole) = waits_last packets waiting some e in
          only_waiting program front waiting log d p other (subst (λ l. DecoderStands words l log d) whole s)
          (subst (λ l. Describes words (l ++ p ∷ []) other) whole all)
