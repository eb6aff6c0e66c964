-- The mode that packets announce stays as more come, and the packet that announces it is read in none.
use Rattle.std.proofs.Common.{◌≡◌, ◌↔◌, ℕ, List, [], ◌∷◌, ◌++◌, Option, None, refl}
use Rattle.retire.specs.declared.event.Event.{Event}
use Rattle.rvclass.specs.Words.{Words}
use Rattle.payload.specs.declared.mode.Mode.{Mode}
use Rattle.payload.specs.declared.mode.Mode.TheVariants.{Differential}
use Rattle.payload.specs.declared.packet.Packet.{Packet}
use Rattle.payload.specs.declared.packet.Packet.TheVariants as packet
use Rattle.payload.specs.declared.packet.Support.TheVariants as support
use Rattle.decoder.specs.Fits.{Fits}
use Rattle.decoder.specs.ModeOf.{mode_announced_by, mode_of}
use Rattle.decoder.specs.Order.{MayFollow, IsOpen, Begins}
use Rattle.decoder.specs.Pieces.{Pieces}
use Rattle.decoder.specs.steps.Planning.{mode_past}

-- What comes behind a packet announces no mode.
pub mode_of-behind : (front : List Packet) (q : Packet) (more : List Packet) →
    mode_of (front ++ q ∷ more) ≡ mode_of (front ++ q ∷ [])
mode_of-behind [] q more = refl
mode_of-behind (p ∷ front) q more = refl

-- After the first packet it is the mode that this one announces.
pub mode_past-first : (p : Packet) → mode_past p Differential ≡ mode_announced_by p
mode_past-first (packet.Sync taken priv address) = refl
mode_past-first (packet.Trap taken priv cause interrupt handler address tval) = refl
mode_past-first (packet.Support (support.Open mode)) = refl
mode_past-first (packet.Support support.EndedRep) = refl
mode_past-first (packet.Support support.EndedNtr) = refl
mode_past-first (packet.Address taken delta report) = refl
mode_past-first (packet.Map taken) = refl

-- A packet that may follow another leaves the mode.
pub mode_past-later : (q p : Packet) (mode : Mode) → MayFollow q p → mode_past p mode ≡ mode
mode_past-later q (packet.Sync taken priv address) mode follows = refl
mode_past-later q (packet.Trap taken priv cause interrupt handler address tval) mode follows = refl
mode_past-later q (packet.Support (support.Open announced)) mode follows = absurd follows
mode_past-later q (packet.Support support.EndedRep) mode follows = refl
mode_past-later q (packet.Support support.EndedNtr) mode follows = refl
mode_past-later q (packet.Address taken delta report) mode follows = refl
mode_past-later q (packet.Map taken) mode follows = refl

module _ (words : Words) where
  -- The first packets have the same pieces in the mode that they announce and in the mode of all.
  pub pieces_with : (packets more : List Packet) (next : Option Packet) (pieces : List (List Event)) →
      Pieces words (mode_of packets) None 0 packets next pieces ↔
      Pieces words (mode_of (packets ++ more)) None 0 packets next pieces
  pieces_with [] more next [] = (λ each. tt, λ each. tt)
  pieces_with [] more next (piece ∷ pieces) = (λ each. absurd each, λ each. absurd each)
  pieces_with (p ∷ packets) more next pieces = (λ each. each, λ each. each)

  -- A packet that opens a trace has the same events in each mode.
  fits_opening : (mode other : Mode) (before : Option Event) (reported : ℕ) (p : Packet) (next : Option Packet)
      (piece : List Event) → IsOpen p → Fits words mode before reported p next piece →
      Fits words other before reported p next piece
  fits_opening mode other before reported (packet.Sync taken priv address) next piece opens fits = absurd opens
  fits_opening mode other before reported (packet.Trap taken priv cause interrupt handler address tval) next piece opens
      fits = absurd opens
  fits_opening mode other before reported (packet.Support support) next piece opens fits = fits
  fits_opening mode other before reported (packet.Address taken delta report) next piece opens fits = absurd opens
  fits_opening mode other before reported (packet.Map taken) next piece opens fits = absurd opens

  -- One packet more has the same events in the mode of those before and in the mode of all.
  pub fits_with : (packets : List Packet) (p : Packet) (before : Option Event) (reported : ℕ) (next : Option Packet)
      (piece : List Event) → Begins (packets ++ p ∷ []) →
      Fits words (mode_of packets) before reported p next piece ↔
      Fits words (mode_of (packets ++ p ∷ [])) before reported p next piece
  fits_with [] p before reported next piece opens = (
    fits_opening Differential (mode_announced_by p) before reported p next piece opens,
    fits_opening (mode_announced_by p) Differential before reported p next piece opens,
  )
  fits_with (q ∷ packets) p before reported next piece begins = (λ fits. fits, λ fits. fits)
