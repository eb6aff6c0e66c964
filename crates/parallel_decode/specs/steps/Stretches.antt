-- Stretches of harts' messages, and the text that each adds.
use Rattle.std.specs.Prelude.{ℕ, ◌≡◌, ◌≤◌, ◌-◌, ◌++◌, Bool, true, false, List, [], ◌∷◌, Some, drop, length, slice_get, take}
use Rattle.std.specs.List.{flat_map}
use Rattle.std.specs.declared.vec.Vec.{Vec}
use Rattle.retire.specs.LogText.{event_line}
use Rattle.retire.specs.declared.event.Event.{Event}
use Rattle.rvclass.specs.Fetch.{words_of}
use Rattle.rvclass.specs.Words.{Words}
use Rattle.parallel_decode.specs.HartsText.{head_of}
use Rattle.parallel_decode.specs.Parts.{IsPart}
use Rattle.parallel_decode.specs.declared.stretch.Plan.{Plan}
use Rattle.parallel_decode.specs.declared.stretch.Stretch.{Stretch}

-- The stretch is one of the messages at the places of its hart.
pub record LiesIn {A : Type 0} (places : List (Vec ℕ A)) (stretch : Stretch) : Type 0 where
  pub own : Vec ℕ A
  pub hart : slice_get places stretch.hart ≡ Some own
  pub ordered : stretch.from ≤ stretch.to
  pub within : stretch.to ≤ length own.items

-- The messages of the stretch settle this part of its hart's log.
pub record IsStretch {A : Type 0} (words : Words) (bytes : List ℕ) (places : List (Vec ℕ A)) (stretch : Stretch)
    (part : List Event) : Type 0 where
  pub lies : LiesIn places stretch
  pub is_part : IsPart words bytes (take (stretch.to - stretch.from) (drop stretch.from lies.own.items)) stretch.decoder
      part

-- So the messages of a plan's stretch do.
abbrev pub IsPartOf : Plan → Stretch → List Event → Type 0
IsPartOf plan stretch part =
    IsStretch (words_of plan.program.now) plan.bytes.now plan.places.now stretch part

-- There is such a part.
abbrev pub HavePart : Plan → Stretch → Type 0
HavePart plan stretch = (part : List Event) × IsPartOf plan stretch part

-- What comes before the rows of a stretch: where it is a hart's first, the lines before the hart's rows.
abbrev pub head_if : Bool → ℕ → List ℕ
head_if true hart = head_of hart
head_if false hart = []

-- The text that a stretch adds.
abbrev pub stretch_text : Stretch → List Event → List ℕ
stretch_text stretch part = head_if stretch.is_first stretch.hart ++ flat_map event_line part

-- The stretches add this text, one after the other.
abbrev pub HaveText : {A : Type 0} → Words → List ℕ → List (Vec ℕ A) → List Stretch → List ℕ → Type 0
HaveText words bytes places [] text = text ≡ []
HaveText words bytes places (stretch ∷ stretches) text =
    (part : List Event) × (rest : List ℕ) × IsStretch words bytes places stretch part
    × HaveText words bytes places stretches rest × (text ≡ stretch_text stretch part ++ rest)

-- The stretches of a plan from a place on add this text.
abbrev pub HaveTextFrom : Plan → ℕ → List ℕ → Type 0
HaveTextFrom plan from text =
    HaveText (words_of plan.program.now) plan.bytes.now plan.places.now (drop from plan.stretches.now) text

-- There is a text that they all add.
abbrev pub HaveTexts : Plan → Type 0
HaveTexts plan = (text : List ℕ) × HaveTextFrom plan 0 text
