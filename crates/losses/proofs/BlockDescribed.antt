-- The last packets of a log, and what they describe from one on that begins a stretch.
use Rattle.std.proofs.Common.{◌≡◌, ℕ, zero, suc, List, [], ◌∷◌, ◌++◌, drop, Option, Some, None, refl, sym, ap}
use Rattle.std.proofs.Common.{subst}
use Rattle.std.proofs.Common.{◌∙◌}
use Rattle.std.specs.List.{last_or}
use Rattle.retire.specs.declared.event.Event.{Event}
use Rattle.rvclass.specs.Words.{Words, IsProgram}
use Rattle.legalpath.proofs.FollowOnLemmas.{follow_on_split}
use Rattle.legalpath.specs.Join.{join}
use Rattle.legalpath.specs.LastPlace.{last_place}
use Rattle.legalpath.specs.Legal.{FollowOn, Legal}
use Rattle.payload.specs.declared.mode.Mode.{Mode}
use Rattle.payload.specs.declared.packet.Packet.{Packet}
use Rattle.payload.specs.declared.packet.Packet.TheVariants as packet
use Rattle.payload.specs.declared.packet.Support.TheVariants as support
use Rattle.encoder.specs.Packets.{packets}
use Rattle.decoder.proofs.ExtendingLemmas.{front_describes}
use Rattle.decoder.specs.Describes.{Describes}
use Rattle.decoder.specs.Order.{MayPrecede, first}
use Rattle.decoder.specs.Pieces.{Pieces, reported_after}
use Rattle.roundtrip.proofs.FirstPackets.{join-stretches, packets_have_stretches}
use Rattle.roundtrip.specs.Reach.{stretches}
use Rattle.losses.specs.Parts.{stretch_of}

-- Events that follow on another are legal by themselves.
legal_alone : (words : Words) (before : Option Event) (events : List Event) → FollowOn words before events
    → Legal words events
legal_alone words before [] follows = tt
legal_alone words before (event ∷ events) follows = (follows.0, tt, follows.2)

-- Where the first packet opens a trace, nothing comes before, and it announces this mode.
abbrev pub IsOpening : Mode → Option Event → ℕ → List Packet → Type 0
IsOpening mode before reported ps =
    (announced : Mode) → first ps None ≡ Some (packet.Support (support.Open announced)) →
    (before ≡ None) × (reported ≡ 0) × (announced ≡ mode)

-- The last packets of a log with their pieces.
pub record Rest (words : Words) (mode : Mode) (ps : List Packet) (pieces : List (List Event)) : Type 0 where
  pub before : Option Event
  pub reported : ℕ
  pub each : Pieces words mode before reported ps None pieces
  pub follows : FollowOn words before (join pieces)
  pub opening : IsOpening mode before reported ps

module _ (words : Words) (mode : Mode) where
  -- The pieces from a synchronisation packet on need nothing of what came before.
  sync_restarts : (before : Option Event) (reported : ℕ) (p : Packet) (ps : List Packet) (piece : List Event)
      (pieces : List (List Event)) (event : Event) → piece ≡ event ∷ []
      → Pieces words mode (last_or before piece) (last_place reported piece) ps None pieces
      → Pieces words mode (last_or None piece) (last_place 0 piece) ps None pieces
  sync_restarts before reported p ps piece pieces event one later =
      let last : last_or before piece ≡ last_or None piece = ap (last_or before) one ∙ sym (ap (last_or None) one) in
      let place : last_place reported piece ≡ last_place 0 piece =
      ap (last_place reported) one ∙ sym (ap (last_place 0) one) in
      let by_last = subst (λ b. Pieces words mode b (last_place reported piece) ps None pieces) last later in
      subst (λ r. Pieces words mode (last_or None piece) r ps None pieces) place by_last

  -- No packet behind another opens a trace.
  none_opens : (p : Packet) (ps : List Packet) (before : Option Event) (reported : ℕ) → MayPrecede p (first ps None)
      → IsOpening mode before reported ps
  none_opens p ps before reported precedes = λ announced is.
      let may : MayPrecede p (Some (packet.Support (support.Open announced))) = subst (MayPrecede p) is precedes in
      absurd may.1

  -- Behind the first of the last packets come the others.
  pub rest_behind : (p : Packet) (ps : List Packet) (piece : List Event) (pieces : List (List Event))
      → Rest words mode (p ∷ ps) (piece ∷ pieces) → Rest words mode ps pieces
  rest_behind p ps piece pieces r = record {
    before = last_or r.before piece;
    reported = reported_after p r.reported piece;
    each = r.each.2;
    follows = (follow_on_split words r.before piece (join pieces) r.follows).1;
    opening = none_opens p ps (last_or r.before piece) (reported_after p r.reported piece) r.each.0;
  }

  pub rest_drop : (count : ℕ) (ps : List Packet) (pieces : List (List Event)) → Rest words mode ps pieces
      → Rest words mode (drop count ps) (drop count pieces)
  rest_drop zero ps pieces r = r
  rest_drop (suc count) [] [] r = r
  rest_drop (suc count) [] (piece ∷ pieces) r = absurd r.each
  rest_drop (suc count) (p ∷ ps) [] r = absurd r.each
  rest_drop (suc count) (p ∷ ps) (piece ∷ pieces) r = rest_drop count ps pieces (rest_behind p ps piece pieces r)

  -- From a synchronisation on.
  pub sync_described : (taken : _) (priv address : ℕ) (ps more : List Packet) (piece : List Event) (pieces : List (List Event))
      → Rest words mode (packet.Sync taken priv address ∷ ps ++ more) (piece ∷ pieces)
      → Describes words (packet.Support (support.Open mode) ∷ packet.Sync taken priv address ∷ ps)
      (stretch_of (packet.Sync taken priv address ∷ ps) (piece ∷ pieces))
  sync_described taken priv address ps more piece pieces r =
      let sync = packet.Sync taken priv address in
      let open_packet = packet.Support (support.Open mode) in
      let fits = r.each.1 in
      let later = sync_restarts r.before r.reported sync (ps ++ more) piece pieces fits.0 fits.1 r.each.2 in
      let all : Describes words ((open_packet ∷ sync ∷ ps) ++ more) (join (piece ∷ pieces)) = record {
        begins = tt;
        pieces = [] ∷ piece ∷ pieces;
        whole = refl;
        legal = legal_alone words r.before (join (piece ∷ pieces)) r.follows;
        each = ((refl, tt), refl, (r.each.0, fits, later));
      } in
      (front_describes words (open_packet ∷ sync ∷ ps) more (join (piece ∷ pieces)) all).0

  -- From the packet on that opens the trace.
  pub open_described : (announced : Mode) (ps more : List Packet) (piece : List Event) (pieces : List (List Event))
      → Rest words mode (packet.Support (support.Open announced) ∷ ps ++ more) (piece ∷ pieces)
      → Describes words (packet.Support (support.Open announced) ∷ ps)
      (stretch_of (packet.Support (support.Open announced) ∷ ps) (piece ∷ pieces))
  open_described announced ps more piece pieces r =
      let opens = packet.Support (support.Open announced) in
      let is = r.opening announced refl in
      let by_mode = subst (λ m. Pieces words m r.before r.reported (opens ∷ ps ++ more) None (piece ∷ pieces))
      (sym is.2) r.each in
      let by_before = subst (λ b. Pieces words announced b r.reported (opens ∷ ps ++ more) None (piece ∷ pieces))
      is.0 by_mode in
      let each = subst (λ a. Pieces words announced None a (opens ∷ ps ++ more) None (piece ∷ pieces)) is.1 by_before in
      let all : Describes words ((opens ∷ ps) ++ more) (join (piece ∷ pieces)) = record {
        begins = tt;
        pieces = piece ∷ pieces;
        whole = refl;
        legal = legal_alone words r.before (join (piece ∷ pieces)) r.follows;
        each = each;
      } in
      (front_describes words (opens ∷ ps) more (join (piece ∷ pieces)) all).0

-- The packets of a legal log, with its stretches.
pub rest_of_log : (words : Words) → IsProgram words → (period : ℕ) (mode : Mode) (log : List Event) → Legal words log
    → Rest words mode (packets words period mode log) (stretches words period log)
rest_of_log words program period mode log legal = record {
  before = None;
  reported = 0;
  each = packets_have_stretches words program period mode log legal;
  follows = subst (FollowOn words None) (sym (join-stretches words program period mode log legal)) legal;
  opening = λ announced is. (refl, refl, same announced is);
}
  where
    same : (announced : Mode) → Some (packet.Support (support.Open mode))
        ≡ Some (packet.Support (support.Open announced))
        → announced ≡ mode
    same announced is = cc
