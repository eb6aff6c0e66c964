-- Which log the state of an encoder stands for.
use Rattle.std.specs.Prelude.{ℕ, ◌≡◌, ◌<◌, ◌+◌, ◌*◌, All, List, [], ◌∷◌, ◌++◌, None, if◌then◌else◌}
use Rattle.std.specs.List.{last_or}
use Rattle.retire.specs.Events.{outcomes}
use Rattle.retire.specs.Is64Bit.{Is64Bit}
use Rattle.retire.specs.declared.event.Event.{Event}
use Rattle.rvclass.specs.Words.{Words}
use Rattle.payload.specs.declared.mode.Mode.{Mode}
use Rattle.encoder.specs.Due.{due_of_last}
use Rattle.encoder.specs.Packets.{reported_by}
use Rattle.encoder.specs.PacketsSoFar.{is_known, decided}
use Rattle.encoder.specs.Piece.{Piece, is_cut, pieces}
use Rattle.encoder.specs.Rule.{rule}
use Rattle.encoder.specs.Spot.{Spot, spots_of, count_with}
use Rattle.encoder.specs.declared.encoder.Encoder.{Encoder}

-- How many retirements there are up to the last of these events, where this many come before them.
abbrev pub count_all : ℕ → List Event → ℕ
count_all number [] = number
count_all number (event ∷ events) = count_all (count_with number event) events

-- The last reported address after these pieces, where it is this one before them.
abbrev pub reported_after_pieces : ℕ → List Piece → ℕ
reported_after_pieces reported [] = reported
reported_after_pieces reported (piece ∷ pieces) =
    reported_after_pieces (reported_by piece.by reported piece.last) pieces

-- The events since the last cut, after the events at these spots. `front` has the events since the last cut before
-- them.
abbrev pub since_cut : Words → ℕ → List Event → List Spot → List Event
since_cut words period front [] = front
since_cut words period front (spot ∷ rest) =
    since_cut words period (if is_cut front spot.event (rule words period spot) then [] else front ++ spot.event ∷ [])
    rest

-- The last of these events, where its rule is not known yet.
abbrev pub undecided : Words → List Spot → List Event
undecided words [] = []
undecided words (spot ∷ []) = if is_known words spot then [] else spot.event ∷ []
undecided words (spot ∷ next ∷ rest) = undecided words (next ∷ rest)

-- The last address that the packets of a log so far report.
abbrev pub reported_so_far : Words → ℕ → List Event → ℕ
reported_so_far words period log = reported_after_pieces 0 (pieces words period [] (decided words (spots_of log)))

-- The events of a log that its packets so far do not report: those since the last cut, and the last event where its
-- rule is not known yet.
abbrev pub unreported : Words → ℕ → List Event → List Event
unreported words period log =
    since_cut words period [] (decided words (spots_of log)) ++ undecided words (spots_of log)

-- The next retirement has the number `number`, and `left` retirements come before the next one whose number the period
-- divides.
pub record AreLeft (period number left : ℕ) : Type 0 where
  pub few : left < period
  pub rounds : ℕ
  pub whole : number + left ≡ rounds * period

-- An encoder stands for a log: its state is that after the events of the log were pushed.
pub record EncoderStands (words : Words) (period : ℕ) (mode : Mode) (log : List Event) (encoder : Encoder)
    : Type 0 where
  pub numbers : All Is64Bit log
  pub between : encoder.between + 1 ≡ period
  pub in_mode : encoder.mode ≡ mode
  pub left : AreLeft period (count_all 0 log) encoder.left
  pub held : encoder.held ≡ last_or None log
  pub due : encoder.due ≡ due_of_last words period log
  pub pending : encoder.pending ≡ outcomes (unreported words period log)
  pub reported : encoder.reported ≡ reported_so_far words period log
