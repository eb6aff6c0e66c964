-- A stretch that begins with a synchronisation after a loss is that of a trace which begins with it.
use Rattle.std.proofs.Common.{◌≡◌, ℕ, ◌+◌, ◌<◌, List, [], ◌∷◌, ◌++◌, refl, sym, subst, length, length-append, arith}
use Rattle.std.specs.Prelude.{Ok}
use Rattle.retire.specs.declared.event.Event.{Event}
use Rattle.rvclass.specs.Words.{Words, IsProgram}
use Rattle.payload.specs.declared.mode.Mode.{Mode}
use Rattle.payload.specs.declared.packet.Packet.{Packet}
use Rattle.payload.specs.declared.packet.Packet.TheVariants as packet
use Rattle.decoder.proofs.StandsForOneMore.{stands_more, stands_only, stands_right}
use Rattle.decoder.proofs.StretchEnds.{stretch_count-gives}
use Rattle.decoder.specs.Describes.{Describes}
use Rattle.decoder.specs.Order.{open_packet}
use Rattle.decoder.specs.Resuming.{IsSync, PassesOver}
use Rattle.decoder.specs.DecoderStands.{DecoderStands}
use Rattle.decoder.specs.steps.Planning.{CanFollow, CanFollowAt, MayCome, admitted, decoder_after}
use Rattle.decoder.specs.steps.Stretches.{Gives, RightBefore, stretch_count}
use Rattle.decoder.specs.declared.decoding.Decoder.{Decoder}
use Rattle.decoder.specs.declared.state.Phase.{Phase}
use Rattle.decoder.specs.declared.state.Phase.TheVariants.{Running}
use Rattle.decoder.specs.declared.added_events.AddedEvents.{AddedEvents}

-- The decoder as it is after the packet that opens a trace.
abbrev opened : Decoder → Decoder
opened decoder = record decoder { phase = Running }

module _ (words : Words) (mode : Mode) (d : Decoder) (over : PassesOver mode d) where
  -- A decoder that passes over packets remembers what one does that a trace was opened for.
  stands_opened : DecoderStands words (open_packet mode ∷ []) [] (opened d)
  stands_opened = record {
    described = record { begins = tt; pieces = [] ∷ []; whole = refl; legal = tt; each = (tt, refl, tt) };
    phase = refl;
    waiting = over.waiting;
    last = over.last;
    mode = over.reads;
    reported = over.reported;
  }

  -- What can follow can follow in each phase in which the packet may come.
  in_phase : (phase now : Phase) (p : Packet) (piece more : List Event) →
      CanFollow words d.mode phase d.waiting d.last d.reported p piece more → admitted now p ≡ Ok tt →
      MayCome now d.waiting p → CanFollow words d.mode now d.waiting d.last d.reported p piece more
  in_phase phase now p piece more can admits comes = record {
    admits = admits;
    comes = comes;
    settles = can.settles;
    settled_follows = can.settled_follows;
    fits = can.fits;
    follows = can.follows;
  }

  -- What can follow of a synchronisation is the same of both.
  after_opening : (p : Packet) (piece more : List Event) → IsSync p → CanFollowAt words d p piece more →
      CanFollowAt words (opened d) p piece more
  after_opening (packet.Sync taken priv address) piece more sync can =
      in_phase d.phase Running (packet.Sync taken priv address) piece more can refl tt
  after_opening other piece more sync can = absurd sync

  after_passing : (p : Packet) (piece more : List Event) → IsSync p → CanFollowAt words (opened d) p piece more →
      CanFollowAt words d p piece more
  after_passing (packet.Sync taken priv address) piece more sync can =
      in_phase Running d.phase (packet.Sync taken priv address) piece more can
      (subst (λ phase. admitted phase (packet.Sync taken priv address) ≡ Ok tt) (sym over.phase) refl) tt
  after_passing other piece more sync can = absurd sync

  pub passing_right : RightBefore words d.last
  passing_right = stands_right words (open_packet mode ∷ []) [] (opened d) stands_opened

  -- After the synchronisation the decoder stands for it behind a packet that opens the trace.
  pub begins_stretch : (p : Packet) (settled of_packet : AddedEvents) (piece more : List Event) → IsSync p →
      Gives words settled piece → Gives words of_packet more → CanFollowAt words d p piece more →
      DecoderStands words (open_packet mode ∷ p ∷ []) (piece ++ more) (decoder_after d p settled of_packet)
  begins_stretch p settled of_packet piece more sync one two can =
      stands_more words (open_packet mode ∷ []) [] (opened d) p settled of_packet piece more stands_opened one two
      (after_opening p piece more sync can)

  -- Where there is too little room, a log is described for which there is too little behind the events before.
  pub begins_longer : (p : Packet) (settled of_packet : AddedEvents) (piece more : List Event) (before room : ℕ) →
      IsSync p → Gives words settled piece → Gives words of_packet more → CanFollowAt words d p piece more →
      room < before + (stretch_count settled + stretch_count of_packet) →
      (other : List Event) × Describes words (open_packet mode ∷ p ∷ []) other × (room < before + length other)
  begins_longer p settled of_packet piece more before room sync one two can full =
      let new = begins_stretch p settled of_packet piece more sync one two can in
      let counted = stretch_count-gives words settled piece one in
      let counted' = stretch_count-gives words of_packet more two in
      (piece ++ more, new.described, omega (arith, full, counted, counted', length-append piece more))

  -- What can follow, if the packets describe any log.
  pub begins_only : IsProgram words → (p : Packet) (other : List Event) → IsSync p →
      Describes words (open_packet mode ∷ p ∷ []) other →
      (piece : List Event) × (more : List Event) × CanFollowAt words d p piece more
  begins_only program p other sync all =
      let one = stands_only words program (open_packet mode ∷ []) [] (opened d) p other stands_opened all in
      (one.piece, one.more, after_passing p one.piece one.more sync one.can)
