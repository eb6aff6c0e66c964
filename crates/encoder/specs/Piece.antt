-- The pieces of a log.
use Rattle.std.specs.Prelude.{ℕ, ◌==◌, ◌&&◌, not, Bool, true, false, List, [], ◌∷◌, ◌++◌, length}
use Rattle.retire.specs.Events.{is_branch, outcomes}
use Rattle.retire.specs.declared.event.Event.{Event}
use Rattle.rvclass.specs.Words.{Words}
use Rattle.payload.specs.Limits.{most_outcomes}
use Rattle.encoder.specs.Rule.{rule}
use Rattle.encoder.specs.Spot.{Spot, spots_of}
use Rattle.encoder.specs.declared.rule.Rule.{Rule}
use Rattle.encoder.specs.declared.rule.Rule.TheVariants as rule_of

-- What one packet reports: the event `last`, which is a cut, the events `front` before it since the cut before, and the
-- rule of the last.
pub record Piece : Type 0 where
  pub front : List Event
  pub last : Event
  pub by : Rule

-- The events of a piece.
abbrev pub events_of : Piece → List Event
events_of piece = piece.front ++ piece.last ∷ []

-- An event with this rule is a cut, where `front` has the events before it since the last cut. A trap that is reported
-- with its handler is no cut. By the rule `MapOrNothing` the event is a cut where it is the 31st branch since the last
-- cut, which fills the branch map. By any other rule it is a cut.
abbrev pub is_cut : List Event → Event → Rule → Bool
is_cut front event (rule_of.Trap handler) = not handler
is_cut front event rule_of.MapOrNothing = is_branch event && (length (outcomes (front ++ event ∷ [])) == most_outcomes)
is_cut front event other = true

-- A piece ends at a cut, and what follows begins the next piece. Where there is no cut, the piece goes on.
abbrev pub cut_or_go_on : Bool → Piece → (List Event → List Piece) → List Piece
cut_or_go_on true piece rest = piece ∷ rest []
cut_or_go_on false piece rest = rest (events_of piece)

-- The pieces from an event on. `front` has the events before it since the last cut. `rest` gives the pieces of what
-- follows, from the events since the last cut.
abbrev pub next_piece : List Event → Event → Rule → (List Event → List Piece) → List Piece
next_piece front event by rest =
    cut_or_go_on (is_cut front event by) (record { front = front; last = event; by = by }) rest

-- The pieces of the events at these spots. `front` has the events before them since the last cut. Events after the last
-- cut are in no piece.
abbrev pub pieces : Words → ℕ → List Event → List Spot → List Piece
pieces words period front [] = []
pieces words period front (spot ∷ rest) =
    next_piece front spot.event (rule words period spot) (λ since. pieces words period since rest)

-- The pieces of a log.
abbrev pub pieces_of : Words → ℕ → List Event → List Piece
pieces_of words period log = pieces words period [] (spots_of log)
