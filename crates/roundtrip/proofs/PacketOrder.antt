-- The packets of pieces, and in which order they come.
use Rattle.std.proofs.Common.{◌≡◌, ℕ, Bool, false, List, [], ◌∷◌, ◌++◌, Some, None, refl, ◌∙◌}
use Rattle.retire.specs.declared.event.Event.{Event}
use Rattle.retire.specs.declared.event.Event.TheVariants.{Retire, Trap}
use Rattle.legalpath.specs.LastPlace.{last_place}
use Rattle.payload.specs.Closing.{is_closing_packet}
use Rattle.payload.specs.declared.mode.Mode.{Mode}
use Rattle.payload.specs.declared.packet.Packet.{Packet}
use Rattle.payload.specs.declared.packet.Packet.TheVariants as packet
use Rattle.payload.specs.declared.packet.Support.TheVariants.{Open}
use Rattle.encoder.specs.Packets.{trap_packet, first_or, packet_by, reported_by, reports, last_rule, closing}
use Rattle.encoder.specs.Piece.{Piece}
use Rattle.encoder.specs.declared.rule.Rule.{Rule}
use Rattle.encoder.specs.declared.rule.Rule.TheVariants as by
use Rattle.decoder.specs.Order.{MayFollow, MayPrecede, first}
use Rattle.decoder.specs.Pieces.{reported_after}
use Rattle.decoder.proofs.StretchEnds.{last_place-last}

-- The packets of the last pieces of a log, in this mode, after this last reported address and a piece of this rule, and
-- the closing packet.
abbrev pub last_packets : Mode → ℕ → Rule → List Piece → List Packet
last_packets mode reported by_last pieces =
    reports mode reported pieces ++ packet.Support (closing (last_rule by_last pieces)) ∷ []

-- The first of them: that of the first piece, or the closing packet.
abbrev pub head_packet : Mode → ℕ → Rule → List Piece → Packet
head_packet mode reported by_last [] = packet.Support (closing by_last)
head_packet mode reported by_last (piece ∷ pieces) = packet_by mode reported piece.front piece.last piece.by

pub first_is_head : (mode : Mode) (reported : ℕ) (by_last : Rule) (pieces : List Piece)
    → first (last_packets mode reported by_last pieces) None ≡ Some (head_packet mode reported by_last pieces)
first_is_head mode reported by_last [] = refl
first_is_head mode reported by_last (piece ∷ pieces) = refl

-- A packet of a piece closes nothing.
trap_not_closing : (event : Event) (taken : Bool) (level : ℕ) (handler : Bool) (address : ℕ)
    → is_closing_packet (trap_packet event taken level handler address) ≡ false
trap_not_closing (Retire addr itype priv) taken level handler address = refl
trap_not_closing (Trap priv interrupt cause epc tval) taken level handler address = refl

pub not_closing : (mode : Mode) (reported : ℕ) (front : List Event) (last : Event) (rule : Rule)
    → is_closing_packet (packet_by mode reported front last rule) ≡ false
not_closing mode reported front last (by.Trap handler) = trap_not_closing last _ _ _ _
not_closing mode reported front last by.Handler = trap_not_closing (first_or last front) _ _ _ _
not_closing mode reported front last by.Sync = refl
not_closing mode reported front last (by.Target cut_off) = refl
not_closing mode reported front last by.Explicit = refl
not_closing mode reported front last by.Notify = refl
not_closing mode reported front last by.MapOrNothing = refl

-- It may follow any packet.
trap_follows : (before : Packet) (event : Event) (taken : Bool) (level : ℕ) (handler : Bool) (address : ℕ)
    → MayFollow before (trap_packet event taken level handler address)
trap_follows before (Retire addr itype priv) taken level handler address = tt
trap_follows before (Trap priv interrupt cause epc tval) taken level handler address = tt

pub follows : (before : Packet) (mode : Mode) (reported : ℕ) (front : List Event) (last : Event) (rule : Rule)
    → MayFollow before (packet_by mode reported front last rule)
follows before mode reported front last (by.Trap handler) = trap_follows before last _ _ _ _
follows before mode reported front last by.Handler = trap_follows before (first_or last front) _ _ _ _
follows before mode reported front last by.Sync = tt
follows before mode reported front last (by.Target cut_off) = tt
follows before mode reported front last by.Explicit = tt
follows before mode reported front last by.Notify = tt
follows before mode reported front last by.MapOrNothing = tt

-- The closing packet may follow the packet of the last piece.
closes : (mode : Mode) (reported : ℕ) (front : List Event) (last : Event) (rule : Rule)
    → MayFollow (packet_by mode reported front last rule) (packet.Support (closing rule))
closes mode reported front last (by.Trap handler) = tt
closes mode reported front last by.Handler = tt
closes mode reported front last by.Sync = tt
closes mode reported front last (by.Target cut_off) = tt
closes mode reported front last by.Explicit = refl
closes mode reported front last by.Notify = tt
closes mode reported front last by.MapOrNothing = tt

-- The packet of a piece may come before those of the pieces after it.
pub precedes : (mode : Mode) (reported : ℕ) (front : List Event) (last : Event) (rule : Rule) (after : ℕ)
    (pieces : List Piece)
    → MayPrecede (packet_by mode reported front last rule) (Some (head_packet mode after rule pieces))
precedes mode reported front last rule after [] =
    (not_closing mode reported front last rule, closes mode reported front last rule)
precedes mode reported front last rule after (piece ∷ pieces) =
    (not_closing mode reported front last rule, follows _ mode after piece.front piece.last piece.by)

-- And so may Open.
pub open_precedes : (mode : Mode) (reported : ℕ) (pieces : List Piece)
    → MayPrecede (packet.Support (Open mode)) (Some (head_packet mode reported by.MapOrNothing pieces))
open_precedes mode reported [] = (refl, tt)
open_precedes mode reported (piece ∷ pieces) =
    (refl, follows (packet.Support (Open mode)) mode reported piece.front piece.last piece.by)

-- Decoder and encoder take the same address for the last reported one: first for a trap packet, then for all.
reported_after-trap_packet : (event : Event) (taken : Bool) (level : ℕ) (handler : Bool) (address reported : ℕ)
    (piece : List Event) → reported_after (trap_packet event taken level handler address) reported piece ≡ last_place
    reported piece
reported_after-trap_packet (Retire addr itype priv) taken level handler address reported piece = refl
reported_after-trap_packet (Trap priv interrupt cause epc tval) taken level handler address reported piece = refl

pub reported_after-packet_by : (mode : Mode) (reported : ℕ) (front : List Event) (last : Event) (rule : Rule)
    → reported_after (packet_by mode reported front last rule) reported (front ++ last ∷ []) ≡ reported_by rule reported
    last
reported_after-packet_by mode reported front last (by.Trap handler) =
    reported_after-trap_packet last _ _ _ _ reported _ ∙ last_place-last reported front last
reported_after-packet_by mode reported front last by.Handler =
    reported_after-trap_packet (first_or last front) _ _ _ _ reported _ ∙ last_place-last reported front last
reported_after-packet_by mode reported front last by.Sync = last_place-last reported front last
reported_after-packet_by mode reported front last (by.Target cut_off) = last_place-last reported front last
reported_after-packet_by mode reported front last by.Explicit = last_place-last reported front last
reported_after-packet_by mode reported front last by.Notify = last_place-last reported front last
reported_after-packet_by mode reported front last by.MapOrNothing = refl
