-- Where packets that came one after the other begin a stretch.
use Rattle.std.proofs.Common.{◌≡◌, ◌≢◌, ◌⊎◌, inl, inr, ℕ, zero, suc, ◌+◌, ◌<◌, Bool, true, false, List, [], ◌∷◌, ◌++◌}
use Rattle.std.proofs.Common.{drop, take, Option, Some, None, slice_get, refl, sym, ap, subst, ◌∙◌, arith}
use Rattle.std.specs.List.{last_or}
use Rattle.retire.specs.declared.event.Event.{Event}
use Rattle.rvclass.specs.Words.{Words}
use Rattle.legalpath.specs.Join.{join}
use Rattle.payload.specs.declared.mode.Mode.{Mode}
use Rattle.payload.specs.declared.packet.Packet.{Packet}
use Rattle.payload.specs.declared.packet.Packet.TheVariants as packet
use Rattle.payload.specs.declared.packet.Support.TheVariants as support
use Rattle.decoder.specs.Fits.{Fits}
use Rattle.decoder.specs.Order.{IsOpen, MayFollow}
use Rattle.decoder.specs.Pieces.{Pieces, reported_after}
use Rattle.decoder.specs.Resuming.{IsSync}
use Rattle.decoder.specs.SettledPieces.{piece_unless, settled_pieces}
use Rattle.decoder.specs.Settling.{waits}
use Rattle.losses.specs.WholeStretches.{BeginsAt}
use Rattle.losses.specs.Parts.{begins_stretch, here_or_later, stretch_of}
use Rattle.losses.proofs.BlockDescribed.{Rest, rest_behind}

-- Items of a list from a place on, and of its first ones.
pub slice_get-drop : {X : Type 0} (count : ℕ) (xs : List X) (i : ℕ)
    → slice_get (drop count xs) i ≡ slice_get xs (count + i)
slice_get-drop zero xs i = let on : i ≡ zero + i = omega arith in ap (slice_get xs) on
slice_get-drop (suc count) [] i = refl
slice_get-drop (suc count) (x ∷ xs) i =
    let on : suc (count + i) ≡ suc count + i = omega arith in
    slice_get-drop count xs i ∙ ap (slice_get (x ∷ xs)) on

pub slice_get-take : {X : Type 0} (count : ℕ) (xs : List X) (i : ℕ) → i < count
    → slice_get (take count xs) i ≡ slice_get xs i
slice_get-take zero xs i below = absurd (omega (arith, below))
slice_get-take (suc count) [] i below = refl
slice_get-take (suc count) (x ∷ xs) zero below = refl
slice_get-take (suc count) (x ∷ xs) (suc i) below = slice_get-take count xs i (omega (arith, below))

pub drop_from : {X : Type 0} (xs : List X) (i : ℕ) (x : X) → slice_get xs i ≡ Some x → drop i xs ≡ x ∷ drop (suc i) xs
drop_from [] i x at = cc
drop_from (y ∷ xs) zero x at = let same : y ≡ x = cc in ap (λ z. z ∷ xs) same
drop_from (y ∷ xs) (suc i) x at = drop_from xs i x at

none_left : {X : Type 0} (xs ys : List X) → xs ++ ys ≡ [] → (xs ≡ []) × (ys ≡ [])
none_left [] ys none = (refl, none)
none_left (x ∷ xs) ys none = cc

-- What is known of single packets.
sync_begins : (p : Packet) → IsSync p → begins_stretch p ≡ true
sync_begins (packet.Sync taken priv address) sync = refl
sync_begins (packet.Trap taken priv cause interrupt handler address tval) sync = absurd sync
sync_begins (packet.Support support) sync = absurd sync
sync_begins (packet.Address taken delta report) sync = absurd sync
sync_begins (packet.Map taken) sync = absurd sync

sync_has_event : (words : Words) (mode : Mode) (before : Option Event) (reported : ℕ) (p : Packet)
    (next : Option Packet) (piece : List Event) → IsSync p → Fits words mode before reported p next piece
    → (waits p ≡ false) × (piece ≢ [])
sync_has_event words mode before reported (packet.Sync taken priv address) next piece sync fits =
    let one = fits.1 in (refl, λ empty. cc)
sync_has_event words mode before reported (packet.Trap taken priv cause interrupt handler address tval) next piece sync
    fits = absurd sync
sync_has_event words mode before reported (packet.Support support) next piece sync fits = absurd sync
sync_has_event words mode before reported (packet.Address taken delta report) next piece sync fits = absurd sync
sync_has_event words mode before reported (packet.Map taken) next piece sync fits = absurd sync

open_never_follows : (p q : Packet) → MayFollow p q → ¬ IsOpen q
open_never_follows p (packet.Support (support.Open announced)) follows open_packet = follows
open_never_follows p (packet.Support support.EndedRep) follows open_packet = open_packet
open_never_follows p (packet.Support support.EndedNtr) follows open_packet = open_packet
open_never_follows p (packet.Sync taken priv address) follows open_packet = open_packet
open_never_follows p (packet.Trap taken priv cause interrupt handler address tval) follows open_packet = open_packet
open_never_follows p (packet.Address taken delta report) follows open_packet = open_packet
open_never_follows p (packet.Map taken) follows open_packet = open_packet

-- The packet that opens the trace has number 0.
pub open_is_first : (words : Words) (mode : Mode) (before : Option Event) (reported : ℕ) (ps : List Packet)
    (pieces : List (List Event)) → Pieces words mode before reported ps None pieces → (i : ℕ) (q : Packet)
    → slice_get ps i ≡ Some q → IsOpen q → i ≡ 0
open_is_first words mode before reported [] pieces each i q at opens = cc
open_is_first words mode before reported (p ∷ ps) [] each i q at opens = absurd each
open_is_first words mode before reported (p ∷ ps) (piece ∷ pieces) each zero q at opens = refl
open_is_first words mode before reported (p ∷ []) (piece ∷ pieces) each (suc i) q at opens = cc
open_is_first words mode before reported (p ∷ next ∷ ps) (piece ∷ pieces) each (suc i) q at opens =
    let first = open_is_first words mode (last_or before piece) (reported_after p reported piece) (next ∷ ps) pieces
    each.2 i q at opens in
    let at_first : slice_get (next ∷ ps) 0 ≡ Some q = subst (λ j. slice_get (next ∷ ps) j ≡ Some q) first at in
    let same : next ≡ q = cc in
    absurd (open_never_follows p q (subst (MayFollow p) same each.0.1) opens)

-- Where packets begin a stretch: which of them does, before which no synchronisation packet is.
pub record Start (ps : List Packet) (pieces : List (List Event)) : Type 0 where
  pub skip : ℕ
  pub packet : Packet
  pub here : slice_get ps skip ≡ Some packet
  pub begins : begins_stretch packet ≡ true
  pub skipped : (i : ℕ) (p : Packet) → i < skip → slice_get ps i ≡ Some p → ¬ IsSync p
  pub is : stretch_of ps pieces ≡ join (settled_pieces (drop skip ps) (drop skip pieces))

abbrev pub NoSync : List Packet → Type 0
NoSync ps = (i : ℕ) (p : Packet) → slice_get ps i ≡ Some p → ¬ IsSync p

abbrev pub Starts : List Packet → List (List Event) → Type 0
Starts ps pieces = ((stretch_of ps pieces ≡ []) × NoSync ps) ⊎ Start ps pieces

module _ (words : Words) (mode : Mode) where
  pub starts : (ps more : List Packet) (pieces : List (List Event)) → Rest words mode (ps ++ more) pieces
      → Starts ps pieces
  starts [] more pieces r = inl (refl, λ i p at sync. cc)
  starts (p ∷ ps) more [] r = absurd r.each
  starts (p ∷ ps) more (piece ∷ pieces) r =
      by_kind (begins_stretch p) refl (starts ps more pieces (rest_behind words mode p (ps ++ more) piece pieces r))
    where
      by_kind : (begins : Bool) → begins_stretch p ≡ begins → Starts ps pieces → Starts (p ∷ ps) (piece ∷ pieces)
      by_kind true begins later = inr (record {
        skip = 0;
        packet = p;
        here = refl;
        begins = begins;
        skipped = λ i q below. absurd (omega (arith, below));
        is = ap (λ b. here_or_later b (join (settled_pieces (p ∷ ps) (piece ∷ pieces))) (stretch_of ps pieces)) begins;
      })
      by_kind false begins later = by_later later
        where
          not_first : (q : Packet) → Some p ≡ Some q → ¬ IsSync q
          not_first q at sync = let same : p ≡ q = cc in let one = sync_begins q sync in cc

          stands : stretch_of (p ∷ ps) (piece ∷ pieces) ≡ stretch_of ps pieces
          stands =
              ap (λ b. here_or_later b (join (settled_pieces (p ∷ ps) (piece ∷ pieces))) (stretch_of ps pieces)) begins

          by_later : Starts ps pieces → Starts (p ∷ ps) (piece ∷ pieces)
          by_later (inl (empty, none)) = inl (stands ∙ empty, no_sync)
            where
              no_sync : NoSync (p ∷ ps)
              no_sync zero q at = not_first q at
              no_sync (suc i) q at = none i q at
          by_later (inr s) = inr (record {
            skip = suc s.skip;
            packet = s.packet;
            here = s.here;
            begins = s.begins;
            skipped = skipped;
            is = stands ∙ s.is;
          })
            where
              skipped : (i : ℕ) (q : Packet) → i < suc s.skip → slice_get (p ∷ ps) i ≡ Some q → ¬ IsSync q
              skipped zero q below at = not_first q at
              skipped (suc i) q below at = s.skipped i q (omega (arith, below)) at

  -- Packets whose settled pieces have no event are no synchronisation packets.
  pub empty_no_sync : (ps more : List Packet) (pieces : List (List Event)) → Rest words mode (ps ++ more) pieces
      → join (settled_pieces ps pieces) ≡ [] → NoSync ps
  empty_no_sync [] more pieces r empty i q at sync = cc
  empty_no_sync (p ∷ ps) more [] r empty i q at sync = absurd r.each
  empty_no_sync (p ∷ []) more (piece ∷ pieces) r empty zero q at sync =
      let same : p ≡ q = cc in
      let e = sync_has_event words mode _ _ p _ piece (subst IsSync (sym same) sync) r.each.1 in
      let one : join (piece ∷ []) ≡ [] = sym (ap (λ b. join (piece_unless b piece ∷ [])) e.0) ∙ empty in
      e.1 (none_left piece [] one).0
  empty_no_sync (p ∷ []) more (piece ∷ pieces) r empty (suc i) q at sync = cc
  empty_no_sync (p ∷ next ∷ ps) more (piece ∷ pieces) r empty zero q at sync =
      let same : p ≡ q = cc in
      let e = sync_has_event words mode _ _ p _ piece (subst IsSync (sym same) sync) r.each.1 in
      e.1 (none_left piece (join (settled_pieces (next ∷ ps) pieces)) empty).0
  empty_no_sync (p ∷ next ∷ ps) more (piece ∷ pieces) r empty (suc i) q at sync =
      empty_no_sync (next ∷ ps) more pieces (rest_behind words mode p (next ∷ ps ++ more) piece pieces r)
      (none_left piece (join (settled_pieces (next ∷ ps) pieces)) empty).1 i q at sync

  -- The settled pieces begin where their first packet says.
  pub begins_at : (q : Packet) (own later : List Packet) (pieces : List (List Event)) (before : List Event)
      → Rest words mode (q ∷ later) pieces → begins_stretch q ≡ true → (IsOpen q → before ≡ [])
      → BeginsAt q before (join (settled_pieces (q ∷ own) pieces))
  begins_at q own later [] before r begins opens = absurd r.each
  begins_at (packet.Sync taken priv address) [] later (piece ∷ pieces) before r begins opens =
      let fits = r.each.1 in (fits.0, [], ap (λ l. l ++ []) fits.1, fits.2)
  begins_at (packet.Sync taken priv address) (next ∷ own) later (piece ∷ pieces) before r begins opens =
      let fits = r.each.1 in
      let rest = join (settled_pieces (next ∷ own) pieces) in
      (fits.0, rest, ap (λ l. l ++ rest) fits.1, fits.2)
  begins_at (packet.Support (support.Open announced)) own later (piece ∷ pieces) before r begins opens = opens tt
  begins_at (packet.Support support.EndedRep) own later (piece ∷ pieces) before r begins opens = cc
  begins_at (packet.Support support.EndedNtr) own later (piece ∷ pieces) before r begins opens = cc
  begins_at (packet.Trap taken priv cause interrupt handler address tval) own later (piece ∷ pieces) before r begins
      opens = cc
  begins_at (packet.Address taken delta report) own later (piece ∷ pieces) before r begins opens = cc
  begins_at (packet.Map taken) own later (piece ∷ pieces) before r begins opens = cc

-- The settled pieces up to a place and from there on.
settled_none : (ps : List Packet) → settled_pieces ps [] ≡ []
settled_none [] = refl
settled_none (p ∷ ps) = refl

pub settled_from : (place : ℕ) (ps : List Packet) (pieces : List (List Event)) (q : Packet)
    → slice_get ps place ≡ Some q
    → settled_pieces ps pieces ≡ take place pieces ++ settled_pieces (drop place ps) (drop place pieces)
settled_from zero ps pieces q at = refl
settled_from (suc place) [] pieces q at = cc
settled_from (suc place) (p ∷ []) pieces q at = cc
settled_from (suc place) (p ∷ next ∷ ps) [] q at = sym (settled_none (drop place (next ∷ ps)))
settled_from (suc place) (p ∷ next ∷ ps) (piece ∷ pieces) q at =
    ap (λ l. piece ∷ l) (settled_from place (next ∷ ps) pieces q at)
