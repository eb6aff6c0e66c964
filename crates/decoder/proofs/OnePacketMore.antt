-- One packet more, where none waits.
use Rattle.std.proofs.Common.{◌≡◌, ℕ, false, List, [], ◌∷◌, ◌++◌, Option, Some, None, refl, sym, ap, subst, ◌∙◌}
use Rattle.std.proofs.Common.{append_assoc}
use Rattle.std.proofs.lemmas.List.{append-nil}
use Rattle.std.specs.List.{last_or}
use Rattle.retire.specs.declared.event.Event.{Event}
use Rattle.rvclass.specs.Words.{Words, IsProgram}
use Rattle.legalpath.proofs.FollowOnLemmas.{follow_on_split, follow_on_join, last_or-append}
use Rattle.legalpath.specs.Join.{join}
use Rattle.legalpath.specs.Legal.{FollowOn, Legal}
use Rattle.payload.specs.declared.mode.Mode.{Mode}
use Rattle.payload.specs.declared.packet.Packet.{Packet}
use Rattle.payload.specs.declared.packet.Packet.TheVariants as packet
use Rattle.payload.specs.declared.packet.Report.TheVariants as report
use Rattle.decoder.proofs.ModeAnnounced.{pieces_with, fits_with}
use Rattle.decoder.proofs.UniqueLemmas.{pieces_same}
use Rattle.decoder.specs.Describes.{Describes}
use Rattle.decoder.specs.Fits.{Fits}
use Rattle.decoder.specs.ModeOf.{mode_of}
use Rattle.decoder.specs.Order.{MayPrecede, Begins, first}
use Rattle.decoder.specs.Pieces.{reported_after, reported_end, Pieces}
use Rattle.decoder.specs.Settling.{waits}

pub join-append : (pieces more : List (List Event)) → join (pieces ++ more) ≡ join pieces ++ join more
join-append [] more = refl
join-append (piece ∷ pieces) more = ap (λ l. piece ++ l) (join-append pieces more)
    ∙ sym (append_assoc piece (join pieces) (join more))

first-append : (packets more : List Packet) (next : Option Packet) → first (packets ++ more) next ≡ first packets
    (first more next)
first-append [] more next = refl
first-append (p ∷ packets) more next = refl

pub reported_end-append : (words : Words) (mode : Mode) (before : Option Event) (reported : ℕ)
    (packets more : List Packet) (next : Option Packet) (pieces others : List (List Event)) →
    Pieces words mode before reported packets next pieces →
    reported_end reported (packets ++ more) (pieces ++ others) ≡ reported_end (reported_end reported packets pieces)
    more others
reported_end-append words mode before reported [] more next [] others each = refl
reported_end-append words mode before reported [] more next (piece ∷ pieces) others each = absurd each
reported_end-append words mode before reported (p ∷ packets) more next [] others each = absurd each
reported_end-append words mode before reported (p ∷ packets) more next (piece ∷ pieces) others each =
    reported_end-append words mode (last_or before piece) (reported_after p reported piece) packets more next pieces
    others each.2

pub begins_more : (p : Packet) (packets more : List Packet) → Begins (p ∷ packets) → Begins (p ∷ packets ++ more)
begins_more p packets more begins = begins

-- The last of the packets does not wait, and this one may come after it.
abbrev pub Takes : Option Packet → Packet → Type 0
Takes None p = Unit {0}
Takes (Some q) p = (waits q ≡ false) × MayPrecede q (Some p)

module _ (words : Words) (mode : Mode) where
  -- The pieces of more packets, taken apart.
  pub record Split (before : Option Event) (reported : ℕ) (packets more : List Packet) (next : Option Packet)
      (pieces : List (List Event)) : Type 0 where
    pub front : List (List Event)
    pub back : List (List Event)
    pub is : pieces ≡ front ++ back
    pub early : Pieces words mode before reported packets (first more next) front
    pub late : Pieces words mode (last_or before (join front)) (reported_end reported packets front) more next back

  pub pieces_split : (before : Option Event) (reported : ℕ) (packets more : List Packet) (next : Option Packet)
      (pieces : List (List Event)) → Pieces words mode before reported (packets ++ more) next pieces →
      Split before reported packets more next pieces
  pieces_split before reported [] more next pieces each =
      record { front = []; back = pieces; is = refl; early = tt; late = each }
  pieces_split before reported (p ∷ packets) more next [] each = absurd each
  pieces_split before reported (p ∷ packets) more next (piece ∷ pieces) each =
      let rest = pieces_split (last_or before piece) (reported_after p reported piece) packets more next pieces
      each.2 in
      let follows = first-append packets more next in
      let late = subst (λ b. Pieces words mode b (reported_end (reported_after p reported piece) packets rest.front)
      more next rest.back) (sym (last_or-append before piece (join rest.front))) rest.late in
      record {
        front = piece ∷ rest.front;
        back = rest.back;
        is = ap (λ l. piece ∷ l) rest.is;
        early = (
          subst (MayPrecede p) follows each.0,
          subst (λ n. Fits words mode before reported p n piece) follows each.1,
          rest.early,
        );
        late = late;
      }

  pub pieces_join : (before : Option Event) (reported : ℕ) (packets more : List Packet) (next : Option Packet)
      (pieces others : List (List Event)) → Pieces words mode before reported packets (first more next) pieces →
      Pieces words mode (last_or before (join pieces)) (reported_end reported packets pieces) more next others →
      Pieces words mode before reported (packets ++ more) next (pieces ++ others)
  pieces_join before reported [] more next [] others early late = late
  pieces_join before reported [] more next (piece ∷ pieces) others early late = absurd early
  pieces_join before reported (p ∷ packets) more next [] others early late = absurd early
  pieces_join before reported (p ∷ packets) more next (piece ∷ pieces) others early late =
      let follows = sym (first-append packets more next) in
      let behind = subst (λ b. Pieces words mode b (reported_end (reported_after p reported piece) packets pieces) more
      next others) (last_or-append before piece (join pieces)) late in (
        subst (MayPrecede p) follows early.0,
        subst (λ n. Fits words mode before reported p n piece) follows early.1,
        pieces_join (last_or before piece) (reported_after p reported piece) packets more next pieces others early.2
            behind,
      )

  settled_fits : (before : Option Event) (reported : ℕ) (q : Packet) (next other : Option Packet) (piece : List Event) →
      waits q ≡ false → Fits words mode before reported q next piece → Fits words mode before reported q other piece
  settled_fits before reported (packet.Sync taken priv address) next other piece settled fits = fits
  settled_fits before reported (packet.Trap taken priv cause interrupt handler address tval) next other piece settled
      fits = fits
  settled_fits before reported (packet.Support support) next other piece settled fits = fits
  settled_fits before reported (packet.Address taken delta report.Plain) next other piece settled fits = cc
  settled_fits before reported (packet.Address taken delta report.Updiscon) next other piece settled fits = fits
  settled_fits before reported (packet.Address taken delta report.Notify) next other piece settled fits = fits
  settled_fits before reported (packet.Map taken) next other piece settled fits = fits

  -- Where the last packet does not wait, all have the same pieces before this packet and before none.
  pub next_known : (before : Option Event) (reported : ℕ) (packets : List Packet) (p : Packet)
      (pieces : List (List Event)) → Takes (last_or None packets) p → Pieces words mode before reported packets None
      pieces → Pieces words mode before reported packets (Some p) pieces
  next_known before reported [] p [] takes each = tt
  next_known before reported [] p (piece ∷ pieces) takes each = absurd each
  next_known before reported (q ∷ packets) p [] takes each = absurd each
  next_known before reported (q ∷ []) p (piece ∷ []) takes each =
      (takes.1, settled_fits before reported q None (Some p) piece takes.0 each.1, tt)
  next_known before reported (q ∷ []) p (piece ∷ other ∷ pieces) takes each = absurd each.2
  next_known before reported (q ∷ r ∷ packets) p (piece ∷ pieces) takes each = (
    each.0,
    each.1,
    next_known (last_or before piece) (reported_after q reported piece) (r ∷ packets) p pieces takes
        each.2,
  )

  pub next_unknown : (before : Option Event) (reported : ℕ) (packets : List Packet) (p : Packet)
      (pieces : List (List Event)) → Takes (last_or None packets) p → Pieces words mode before reported packets (Some p)
      pieces → Pieces words mode before reported packets None pieces
  next_unknown before reported [] p [] takes each = tt
  next_unknown before reported [] p (piece ∷ pieces) takes each = absurd each
  next_unknown before reported (q ∷ packets) p [] takes each = absurd each
  next_unknown before reported (q ∷ []) p (piece ∷ []) takes each =
      (tt, settled_fits before reported q (Some p) None piece takes.0 each.1, tt)
  next_unknown before reported (q ∷ []) p (piece ∷ other ∷ pieces) takes each = absurd each.2
  next_unknown before reported (q ∷ r ∷ packets) p (piece ∷ pieces) takes each = (
    each.0,
    each.1,
    next_unknown (last_or before piece) (reported_after q reported piece) (r ∷ packets) p pieces
        takes each.2,
  )

module _ (words : Words) (mode : Mode) where
  -- Packets of which the last does not wait describe, with one more and its piece, the log that goes on.
  abbrev pub feed_more : (packets : List Packet) (p : Packet) (log piece : List Event) →
      (d : Describes words packets log) → mode ≡ mode_of packets → Begins (packets ++ p ∷ []) →
      Takes (last_or None packets) p →
      Fits words mode (last_or None log) (reported_end 0 packets d.pieces) p None piece →
      FollowOn words (last_or None log) piece → Describes words (packets ++ p ∷ []) (log ++ piece)
  feed_more packets p log piece d announced begins takes fits follows =
      let after = mode_of (packets ++ p ∷ []) in
      let r = reported_end 0 packets d.pieces in
      let each = (pieces_with words packets (p ∷ []) None d.pieces).0 d.each in
      let known = next_known words after None 0 packets p d.pieces takes each in
      let here = (fits_with words packets p (last_or None log) r None piece begins).0
      (subst (λ m. Fits words m (last_or None log) r p None piece) announced fits) in
      let last = subst (λ l. Fits words after (last_or None l) r p None piece) d.whole here in
      record {
        begins = begins;
        pieces = d.pieces ++ piece ∷ [];
        whole = ap (λ l. l ++ piece) d.whole ∙ ap (λ l. join d.pieces ++ l) (sym (append-nil piece))
            ∙ sym (join-append d.pieces (piece ∷ []));
        legal = follow_on_join words None log piece d.legal follows;
        each =
            pieces_join words after None 0 packets (p ∷ []) None d.pieces (piece ∷ []) known (tt, last, tt);
      }

  -- What one packet more adds to the log.
  pub record Added (packets : List Packet) (p : Packet) (log : List Event) (d : Describes words packets log)
      (other : List Event) : Type 0 where
    pub piece : List Event
    pub is : other ≡ log ++ piece
    pub fits : Fits words mode (last_or None log) (reported_end 0 packets d.pieces) p None piece
    pub follows : FollowOn words (last_or None log) piece

  -- And every log that they describe is made so.
  pub feed_only : IsProgram words → (packets : List Packet) (p : Packet) (log other : List Event) →
      (d : Describes words packets log) → mode ≡ mode_of packets → Takes (last_or None packets) p →
      Describes words (packets ++ p ∷ []) other → Added packets p log d other
  feed_only program packets p log other d announced takes all =
      let parts = pieces_split words (mode_of (packets ++ p ∷ [])) None 0 packets (p ∷ []) None all.pieces all.each in
      let known = next_unknown words (mode_of (packets ++ p ∷ [])) None 0 packets p parts.front takes parts.early in
      let early = (pieces_with words packets (p ∷ []) None parts.front).1 known in
      let whole = all.whole ∙ ap join parts.is ∙ join-append parts.front parts.back in
      let follows =
      follow_on_split words None (join parts.front) (join parts.back) (subst (Legal words) whole all.legal) in
      let same : d.pieces ≡ parts.front = pieces_same words program (mode_of packets) None 0 packets None d.pieces
      parts.front d.each early (subst (Legal words) d.whole d.legal) follows.0 in
      let logs : log ≡ join parts.front = d.whole ∙ ap join same in
      last parts.back whole logs same parts.late follows.1
    where
      last : {front : List (List Event)} (back : List (List Event)) → other ≡ join front ++ join back →
          log ≡ join front → d.pieces ≡ front → Pieces words (mode_of (packets ++ p ∷ [])) (last_or None (join front))
          (reported_end 0 packets front) (p ∷ []) None back → FollowOn words (last_or None (join front)) (join back) →
          Added packets p log d other
      last [] whole logs same late follows = absurd late
      last {front} (piece ∷ []) whole logs same late follows =
          let ran = subst (FollowOn words (last_or None (join front))) (append-nil piece) follows in
          let here = (fits_with words packets p (last_or None (join front)) (reported_end 0 packets front) None piece
          all.begins).1 late.1 in
          let there = subst (λ m. Fits words m (last_or None (join front)) (reported_end 0 packets front) p None piece)
          (sym announced) here in
          let fits = subst (λ l. Fits words mode (last_or None l) (reported_end 0 packets front) p None piece)
          (sym logs) there in
          record {
            piece = piece;
            is = whole ∙ ap (λ l. l ++ (piece ++ [])) (sym logs) ∙ ap (λ l. log ++ l) (append-nil piece);
            fits = subst (λ x. Fits words mode (last_or None log) (reported_end 0 packets x) p None piece) (sym same)
                fits;
            follows = subst (λ l. FollowOn words (last_or None l) piece) (sym logs) ran;
          }
      last (piece ∷ other ∷ pieces) whole logs same late follows = absurd late.2
