-- Sections of a hart's messages that are received by themselves.
use Rattle.std.specs.Prelude.{ℕ, ◌≡◌, ◌-◌, ◌^◌, ◌≤◌, ◌++◌, All, List, Option, Some, drop, length, min}
use Rattle.std.specs.Prelude.{slice_get, take}
use Rattle.std.specs.declared.vec.Vec.{Vec}
use Rattle.retire.specs.declared.event.Event.{Event}
use Rattle.rvclass.specs.Words.{Words}
use Rattle.payload.specs.declared.mode.Mode.{Mode}
use Rattle.message.specs.declared.message.Message.{Message}
use Rattle.parallel_decode.specs.steps.OwnMessages.{IsOwn}
use Rattle.parallel_decode.specs.steps.Starts.{StartAt}
use Rattle.parallel_decode.specs.declared.own.Own.{Own}
use Rattle.parallel_decode.specs.declared.section_ends.SectionEnd.{SectionEnd}
use Rattle.parallel_decode.specs.declared.sections.Section.{Section}

-- These messages and so many events come after all that leads to the one state, and lead to the other.
abbrev pub IsPassed : Words → Option Mode → List Message → Own → Own → ℕ → Type 0
IsPassed words announced messages from to events = (before : List Message) (log : List Event)
    → IsOwn words announced before log from
    → (added : List Event) × (events ≡ min (2 ^ 64 - 1) (length added))
    × IsOwn words announced (before ++ messages) (log ++ added) to

-- What is in a section.
abbrev pub within : {X : Type 0} → Section → List X → List X
within section xs = take (section.end - section.first) (drop section.first xs)

-- The messages in the section, of those that begin at these places, lead from the one state to the other.
pub record IsSectionEnd (words : Words) (announced : Option Mode) (bytes places : List ℕ) (end : SectionEnd)
    : Type 0 where
  pub forward : end.section.first ≤ end.section.end
  pub inside : end.section.end ≤ length places
  pub passed : (messages : List Message) → StartAt bytes places messages
      → IsPassed words announced (within end.section messages) end.from end.to end.events

-- So are they in a section of this hart.
abbrev pub IsSectionOf : Words → Option Mode → List ℕ → List ℕ → ℕ → SectionEnd → Type 0
IsSectionOf words announced bytes places hart end =
    (end.section.hart ≡ hart) × IsSectionEnd words announced bytes places end

-- Sections of this hart, whose messages begin at these places, were added.
pub record AreAdded (words : Words) (announced : Option Mode) (bytes places : List ℕ) (hart : ℕ)
    (old new : List SectionEnd) : Type 0 where
  pub added : List SectionEnd
  pub behind : new ≡ old ++ added
  pub are : All (IsSectionOf words announced bytes places hart) added

-- It is so if the section is one of this hart, whose messages begin at these places.
abbrev pub IsOfHart : Words → Option Mode → List ℕ → List ℕ → ℕ → SectionEnd → Type 0
IsOfHart words announced bytes places hart end =
    end.section.hart ≡ hart → IsSectionEnd words announced bytes places end

-- It is so of each hart, whose messages begin at the places of its list.
abbrev pub IsOfHarts : {A : Type 0} → Words → Option Mode → List ℕ → List (Vec ℕ A) → SectionEnd → Type 0
IsOfHarts {A} words announced bytes places end = (hart : ℕ) (own : Vec ℕ A) → slice_get places hart ≡ Some own
    → IsOfHart words announced bytes own.items hart end
