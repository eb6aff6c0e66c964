-- The same packets describe one log at most.
use Rattle.std.proofs.Common.{◌≡◌, ℕ, Bool, true, false, List, [], ◌∷◌, Option, Some, None, sym, ap, subst, refl, ◌∙◌}
use Rattle.std.specs.List.{last_or}
use Rattle.retire.specs.Events.{is_taken}
use Rattle.retire.specs.declared.event.Event.{Event}
use Rattle.retire.specs.declared.event.Event.TheVariants.{Retire, Trap}
use Rattle.rvclass.specs.Words.{Words, IsProgram}
use Rattle.legalpath.proofs.EventLemmas.{stand_together, keep_privilege}
use Rattle.legalpath.proofs.FollowOnLemmas.{follow_on_split}
use Rattle.legalpath.proofs.StepLemmas.{same_type}
use Rattle.legalpath.specs.Join.{join}
use Rattle.legalpath.specs.Legal.{FollowOn, Legal}
use Rattle.legalpath.specs.Right.{Right}
use Rattle.payload.specs.AddressField.{aim}
use Rattle.payload.specs.declared.mode.Mode.{Mode}
use Rattle.payload.specs.declared.packet.Packet.{Packet}
use Rattle.payload.specs.declared.packet.Packet.TheVariants as packet
use Rattle.decoder.proofs.OneWalk.{walk_same}
use Rattle.decoder.specs.Describes.{Describes}
use Rattle.decoder.specs.Fits.{IsReported, FitsTrap, FitsAddress, Fits}
use Rattle.decoder.specs.ModeOf.{mode_of}
use Rattle.decoder.specs.Order.{first}
use Rattle.decoder.specs.Pieces.{reported_after, Pieces}
use Rattle.decoder.specs.Settling.{AddressKind, Explicit, Target, Unknown, settled}
use Rattle.decoder.specs.Walk.{AtBranch, AtAddress, AtTarget}

module _ (words : Words) (program : IsProgram words) where
  -- Two right retirements that are reported alike are the same.
  pub reported_same : (taken : Bool) (priv address : ℕ) (event other : Event) → IsReported taken priv address event →
      IsReported taken priv address other → Right words event → Right words other → event ≡ other
  reported_same taken priv address event other (itype, is, branch) (itype', is', branch') right right' =
      let one : Right words (Retire address itype priv) = subst (Right words) is right in
      let two : Right words (Retire address itype' priv) = subst (Right words) is' right' in
      let alike = ap is_taken (sym is) ∙ branch ∙ sym branch' ∙ ap is_taken is' in
      let type : itype ≡ itype' = same_type (words address) itype itype' priv priv one.0 two.0 alike in
      cc

  sync_same : (before : Option Event) (taken : Bool) (priv address : ℕ) (event other : Event)
      (piece walk : List Event) → piece ≡ event ∷ [] → walk ≡ other ∷ [] → IsReported taken priv address event →
      IsReported taken priv address other → FollowOn words before piece → FollowOn words before walk → piece ≡ walk
  sync_same before taken priv address event other piece walk is is' reported reported' follows follows' =
      let one : FollowOn words before (event ∷ []) = subst (FollowOn words before) is follows in
      let two : FollowOn words before (other ∷ []) = subst (FollowOn words before) is' follows' in
      let same : event ≡ other = reported_same taken priv address event other reported reported' one.0 two.0 in
      cc

  trap_same : (before : Option Event) (taken : Bool) (priv cause : ℕ) (interrupt handler : Bool) (address tval : ℕ)
      (piece other : List Event) → FitsTrap words before taken priv cause interrupt handler address tval piece →
      FitsTrap words before taken priv cause interrupt handler address tval other → FollowOn words before piece →
      FollowOn words before other → piece ≡ other
  trap_same before taken priv cause interrupt false address tval piece other fits fits' follows follows' = fits.0
      ∙ sym fits'.0
  trap_same None taken priv cause interrupt true address tval piece other fits fits' follows follows' = absurd fits.0
  trap_same (Some before) taken priv cause interrupt true address tval piece other
      (after, epc, from, event, is, reported) (after', epc', from', event', is', reported') follows follows' =
      let trap = Trap from interrupt cause epc tval in
      let trap' = Trap from' interrupt cause epc' tval in
      let one : FollowOn words (Some before) (trap ∷ event ∷ []) = subst (FollowOn words (Some before)) is follows in
      let two : FollowOn words (Some before) (trap' ∷ event' ∷ []) =
      subst (FollowOn words (Some before)) is' follows' in
      let at : epc ≡ epc' = stand_together words before trap trap' after.0 after.1 one.1 two.1 in
      let level : from ≡ from' = keep_privilege words before trap after.0 after.1 one.1
      ∙ sym (keep_privilege words before trap' after.0 after.1 two.1) in
      let last : event ≡ event' = reported_same taken priv address event event' reported reported' one.2.0 two.2.0 in
      cc

  pub address_same : (before : Option Event) (taken : List Bool) (addr : ℕ) (end : AddressKind)
      (piece other : List Event) → FitsAddress words before taken addr end piece →
      FitsAddress words before taken addr end other → FollowOn words before piece → FollowOn words before other
      → piece ≡ other
  address_same before taken addr Explicit piece other fits fits' follows follows' =
      walk_same words program before taken (AtAddress addr) piece other fits fits' follows follows'
  address_same before taken addr Target piece other fits fits' follows follows' =
      walk_same words program before taken (AtTarget addr) piece other fits fits' follows follows'
  address_same before taken addr Unknown piece other fits fits' follows follows' = fits.1 ∙ sym fits'.1

  -- A packet has one piece at most.
  pub fits_same : (mode : Mode) (before : Option Event) (reported : ℕ) (p : Packet) (next : Option Packet)
      (piece other : List Event) → Fits words mode before reported p next piece →
      Fits words mode before reported p next other → FollowOn words before piece → FollowOn words before other →
      piece ≡ other
  fits_same mode before reported (packet.Sync taken priv address) next piece other (event, is, rep) (event', is', rep')
      follows
      follows' =
      sync_same before taken priv address event event' piece other is is' rep rep' follows follows'
  fits_same mode before reported (packet.Trap taken priv cause interrupt handler address tval) next piece other
      fits fits' follows follows' =
      trap_same before taken priv cause interrupt handler address tval piece other fits fits' follows follows'
  fits_same mode before reported (packet.Support support) next piece other fits fits' follows follows' =
      fits ∙ sym fits'
  fits_same mode before reported (packet.Address taken delta report) next piece other fits fits' follows follows' =
      address_same before taken (aim mode reported delta) (settled report next) piece other fits fits' follows follows'
  fits_same mode before reported (packet.Map taken) next piece other fits fits' follows follows' =
      walk_same words program before taken AtBranch piece other fits fits' follows follows'

  -- Packets have one list of pieces at most.
  pub pieces_same : (mode : Mode) (before : Option Event) (reported : ℕ) (packets : List Packet) (next : Option Packet)
      (pieces others : List (List Event)) → Pieces words mode before reported packets next pieces →
      Pieces words mode before reported packets next others → FollowOn words before (join pieces) →
      FollowOn words before (join others) → pieces ≡ others
  pieces_same mode before reported [] next [] [] each each' follows follows' = refl
  pieces_same mode before reported [] next [] (other ∷ others) each each' follows follows' = absurd each'
  pieces_same mode before reported [] next (piece ∷ pieces) others each each' follows follows' = absurd each
  pieces_same mode before reported (p ∷ packets) next [] others each each' follows follows' = absurd each
  pieces_same mode before reported (p ∷ packets) next (piece ∷ pieces) [] each each' follows follows' = absurd each'
  pieces_same mode before reported (p ∷ packets) next (piece ∷ pieces) (other ∷ others) each each' follows follows' =
      let parts = follow_on_split words before piece (join pieces) follows in
      let parts' = follow_on_split words before other (join others) follows' in
      let one : piece ≡ other = fits_same mode before reported p (first packets next) piece other each.1 each'.1 parts.0
      parts'.0 in
      let later = subst (λ x. Pieces words mode (last_or before x) (reported_after p reported x) packets next others)
      (sym one) each'.2 in
      let ran = subst (λ x. FollowOn words (last_or before x) (join others)) (sym one) parts'.1 in
      let rest : pieces ≡ others = pieces_same mode (last_or before piece) (reported_after p reported piece) packets
      next pieces others each.2 later parts.1 ran in
      cc

  pub one_log : (packets : List Packet) (log other : List Event) → Describes words packets log →
      Describes words packets other → log ≡ other
  one_log packets log other one two =
      let follows = subst (Legal words) one.whole one.legal in
      let follows' = subst (Legal words) two.whole two.legal in
      one.whole ∙ ap join (pieces_same (mode_of packets) None 0 packets None one.pieces two.pieces one.each two.each
      follows follows') ∙ sym two.whole
