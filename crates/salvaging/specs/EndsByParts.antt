-- Where a hart may end, by the parts that its entries leave.
use Rattle.std.specs.Prelude.{ℕ, ◌≡◌, ◌↔◌, ◌++◌, List, [], ◌∷◌}
use Rattle.rvclass.specs.Words.{Words}
use Rattle.payload.specs.declared.mode.Mode.{Mode}
use Rattle.salvaging.specs.Ends.{IsEnd}
use Rattle.salvaging.specs.Entries.{Entry, Used}
use Rattle.salvaging.specs.LeftParts.{LeftPart, Events, BadNumber}
use Rattle.salvaging.specs.declared.reason.Reason.{Reason}

-- None of these parts is a stretch.
abbrev pub NoStretch : List LeftPart → Type 0
NoStretch [] = Unit {0}
NoStretch (Events first last events ∷ parts) = ⊥
NoStretch (part ∷ parts) = NoStretch parts

-- Entries leave these parts where none of them is the end of their hart. So the used message that closes the trace,
-- with this number and at this place, is bad, since these entries come after it. The hart may end at it if and only if
-- no stretch comes after its part.
pub record MayEndByParts (words : Words) (mode : Mode) (number place : ℕ) (payload : List ℕ) (later : List Entry)
    (parts : List LeftPart) : Type 0 where
  pub ahead : List LeftPart
  pub why : Reason
  pub after : List LeftPart
  pub whole : parts ≡ ahead ++ BadNumber number place why ∷ after
  pub may_end : IsEnd words mode (Used number place payload) later ↔ NoStretch after
