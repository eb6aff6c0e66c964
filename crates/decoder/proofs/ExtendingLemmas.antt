-- What more packets describe begins with what the first of them describe.
use Rattle.std.proofs.Common.{◌≡◌, ℕ, Bool, true, false, List, [], ◌∷◌, ◌++◌, Option, Some, None, refl, sym, ap, subst}
use Rattle.std.proofs.Common.{◌∙◌, append_assoc}
use Rattle.std.specs.List.{last_or}
use Rattle.retire.specs.declared.event.Event.{Event}
use Rattle.rvclass.specs.Words.{Words, IsProgram}
use Rattle.legalpath.proofs.FollowOnLemmas.{follow_on_split}
use Rattle.legalpath.specs.Join.{join}
use Rattle.legalpath.specs.Legal.{Legal}
use Rattle.payload.specs.AddressField.{aim}
use Rattle.payload.specs.declared.mode.Mode.{Mode}
use Rattle.payload.specs.declared.packet.Packet.{Packet}
use Rattle.payload.specs.declared.packet.Packet.TheVariants as packet
use Rattle.payload.specs.declared.packet.Report.TheVariants as report
use Rattle.decoder.proofs.ModeAnnounced.{pieces_with}
use Rattle.decoder.proofs.UniqueLemmas.{one_log}
use Rattle.decoder.specs.Describes.{Describes}
use Rattle.decoder.specs.Fits.{AfterRetirement, FitsAddress, Fits}
use Rattle.decoder.specs.ModeOf.{mode_of}
use Rattle.decoder.specs.Order.{Begins, first}
use Rattle.decoder.specs.Pieces.{reported_after, Pieces}
use Rattle.decoder.specs.SettledPieces.{piece_unless, settled_pieces}
use Rattle.decoder.specs.Settling.{AddressKind, Explicit, Target, Unknown, settled_by, waits}
use Rattle.decoder.specs.Walk.{End, IsWalkFrom}

-- One list begins with another.
pub record IsBeginning (front whole : List Event) : Type 0 where
  pub rest : List Event
  pub is : whole ≡ front ++ rest

module _ (words : Words) where
  -- A walk follows a retirement.
  pub after_walk : (before : Option Event) (taken : List Bool) (end : End) (walk : List Event) →
      IsWalkFrom words before taken end walk → AfterRetirement before
  after_walk None taken end walk is = absurd is
  after_walk (Some before) taken end walk is = is.retirements.0.0

  -- And so does every address packet.
  pub after_address : (before : Option Event) (taken : List Bool) (addr : ℕ) (end : AddressKind) (piece : List Event) →
      FitsAddress words before taken addr end piece → AfterRetirement before
  after_address before taken addr Explicit piece fits = after_walk before taken _ piece fits
  after_address before taken addr Target piece fits = after_walk before taken _ piece fits
  after_address before taken addr Unknown piece fits = fits.0

  -- A packet that comes last has its piece, or none where it waits.
  fits_last : (mode : Mode) (before : Option Event) (reported : ℕ) (p : Packet) (next : Option Packet)
      (piece : List Event) → Fits words mode before reported p next piece →
      Fits words mode before reported p None (piece_unless (waits p) piece)
  fits_last mode before reported (packet.Sync taken priv address) next piece fits = fits
  fits_last mode before reported (packet.Trap taken priv cause interrupt handler address tval) next piece fits = fits
  fits_last mode before reported (packet.Support support) next piece fits = fits
  fits_last mode before reported (packet.Address taken delta report.Plain) next piece fits =
      (after_address before taken (aim mode reported delta) (settled_by next) piece fits, refl)
  fits_last mode before reported (packet.Address taken delta report.Updiscon) next piece fits = fits
  fits_last mode before reported (packet.Address taken delta report.Notify) next piece fits = fits
  fits_last mode before reported (packet.Map taken) next piece fits = fits

  last_begins : (waiting : Bool) (piece : List Event) (pieces : List (List Event)) →
      IsBeginning (piece_unless waiting piece ++ []) (piece ++ join pieces)
  last_begins true piece pieces = record { rest = piece ++ join pieces; is = refl }
  last_begins false piece pieces = record { rest = join pieces; is = sym (append_assoc piece [] (join pieces)) }

  -- The first packets have their settled pieces, with which the pieces of all begin.
  pub pieces_front : (mode : Mode) (before : Option Event) (reported : ℕ) (packets more : List Packet)
      (pieces : List (List Event)) → Pieces words mode before reported (packets ++ more) None pieces →
      Pieces words mode before reported packets None (settled_pieces packets pieces) ×
      IsBeginning (join (settled_pieces packets pieces)) (join pieces)
  pieces_front mode before reported [] more pieces each = (tt, record { rest = join pieces; is = refl })
  pieces_front mode before reported (p ∷ packets) more [] each = absurd each
  pieces_front mode before reported (p ∷ []) more (piece ∷ pieces) each =
      ((tt, fits_last mode before reported p (first more None) piece each.1, tt), last_begins (waits p) piece pieces)
  pieces_front mode before reported (p ∷ q ∷ packets) more (piece ∷ pieces) each =
      let rest = pieces_front mode (last_or before piece) (reported_after p reported piece) (q ∷ packets) more pieces
      each.2 in
      let front = join (settled_pieces (q ∷ packets) pieces) in (
        (each.0, each.1, rest.0),
        record {
          rest = rest.1.rest;
          is = ap (λ l. piece ++ l) rest.1.is
              ∙ sym (append_assoc piece front rest.1.rest);
        },
      )

  pub begins_front : (packets more : List Packet) → Begins (packets ++ more) → Begins packets
  begins_front [] more begins = tt
  begins_front (p ∷ packets) more begins = begins

  -- The first packets describe a beginning of the log.
  pub front_describes : (packets more : List Packet) (log : List Event) →
      (all : Describes words (packets ++ more) log) → Describes words packets (join (settled_pieces packets all.pieces))
      × IsBeginning (join (settled_pieces packets all.pieces)) log
  front_describes packets more log all =
      let rest = pieces_front (mode_of (packets ++ more)) None 0 packets more all.pieces all.each in
      let front = join (settled_pieces packets all.pieces) in
      let is : log ≡ front ++ rest.1.rest = all.whole ∙ rest.1.is in
      let legal = (follow_on_split words None front rest.1.rest (subst (Legal words) is all.legal)).0 in (
        record {
          begins = begins_front packets more all.begins;
          pieces = settled_pieces packets all.pieces;
          whole =
              refl;
          legal = legal;
          each = (pieces_with words packets more None (settled_pieces packets all.pieces)).1 rest.0;
        },
        record { rest = rest.1.rest; is = is },
      )

  pub log_goes_on : IsProgram words → (packets more : List Packet) (log other : List Event) →
      Describes words packets log → Describes words (packets ++ more) other → IsBeginning log other
  log_goes_on program packets more log other few all =
      let front = front_describes packets more other all in
      let same = one_log words program packets log (join (settled_pieces packets all.pieces)) few front.0 in
      subst (λ l. IsBeginning l other) (sym same) front.1
