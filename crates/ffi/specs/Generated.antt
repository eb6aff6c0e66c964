-- What calls report of what is generated: images, and the events of a hart, step by step.
use Rattle.std.specs.Prelude.{ℕ, ◌≡◌, ◌≢◌, ◌+◌, ◌++◌, ◌==◌, [], ◌∷◌, if◌then◌else◌, List, length, map, nat_lt}
use Rattle.std.specs.Prelude.{Option, Some, None, Ok, Err, slice_get}
use Rattle.legalpath.specs.Legal.{Legal}
use Rattle.retire.specs.declared.event.Event.{Event}
use Rattle.rvclass.specs.Fetch.{words_of}
use Rattle.rvclass.specs.Image.{Image}
use Rattle.stimulus.specs.ImageBytes.{image_bytes}
use Rattle.stimulus.specs.Walk.{walked}
use Rattle.stimulus.specs.WalkKept.{HasGone, state_of, walk_of}
use Rattle.stimulus.specs.Walked.{hart_log}
use Rattle.stimulus.specs.declared.mix.Mix.{Mix}
use Rattle.stimulus.specs.declared.mix.Mix.TheVariants.{Mixed, Branches, Jumps, Traps, Longest, Straight}
use Rattle.stimulus.specs.declared.walk.Walk.{Walk}
use Rattle.stimulus.specs.declared.walk.WalkState.{WalkState}
use Rattle.ffi.specs.Events.{numbers_of_event}
use Rattle.ffi.specs.Handed.{IsHandedOut}
use Rattle.ffi.specs.Images.{Judged}
use Rattle.ffi.specs.Statuses.{image_status}
use Rattle.ffi.specs.declared.events.EventNumbers.{EventNumbers}
use Rattle.ffi.specs.declared.fault.ImageFault.{ImageFault}
use Rattle.ffi.specs.declared.generating.WalkNumbers.{WalkNumbers}
use Rattle.ffi.specs.declared.generating.TheConstants.{FIRST, ANYWHERE, AT_PLACE}
use Rattle.ffi.specs.declared.status.TheConstants.{DONE, MEMORY, OUT_OF_RANGE}

-- The mix of a number, if there is one.
abbrev pub mix_of : ℕ → Option Mix
mix_of number = slice_get (Mixed ∷ Branches ∷ Jumps ∷ Traps ∷ Longest ∷ Straight ∷ []) number

-- The image of a mix and a seed was handed out; or nothing was written, since no mix is named or an allocation failed.
pub data ReportsGenerateImage (asked : Option Mix) (seed status wanted_before wanted : ℕ) (old new : List ℕ) : Type 0 where
  HandedOut : (mix : Mix) → asked ≡ Some mix → IsHandedOut (image_bytes mix seed) status wanted old new
      → ReportsGenerateImage asked seed status wanted_before wanted old new
  NoMix : asked ≡ None → status ≡ OUT_OF_RANGE → wanted ≡ wanted_before → new ≡ old
      → ReportsGenerateImage asked seed status wanted_before wanted old new
  NoMemory : asked ≢ None → status ≡ MEMORY → wanted ≡ wanted_before → new ≡ old
      → ReportsGenerateImage asked seed status wanted_before wanted old new

-- What a walk of these numbers kept; nothing before its first event.
abbrev pub kept_in : WalkNumbers → Option WalkState
kept_in numbers =
    if numbers.next == FIRST then None
    else Some (record {
      random = numbers.random;
      at = numbers.at;
      privilege = numbers.privilege;
      is_free = numbers.next == ANYWHERE;
    })

-- The numbers of a walk that keeps this, where its seed, mix and hart are those of these numbers.
abbrev pub numbers_of_kept : WalkNumbers → WalkState → WalkNumbers
numbers_of_kept numbers kept = record numbers {
  random = kept.random;
  at = kept.at;
  privilege = kept.privilege;
  next = if kept.is_free then ANYWHERE else AT_PLACE;
}

-- The mix of the numbers of a walk, if they are such.
abbrev pub mix_in : WalkNumbers → Option Mix
mix_in numbers = if nat_lt AT_PLACE numbers.next then None else mix_of numbers.mix

-- The walk of these numbers.
abbrev pub walk_in : Image → Mix → WalkNumbers → Walk
walk_in program mix numbers = walk_of program mix numbers.seed numbers.hart (kept_in numbers)

-- Its next events, so many, and the walk after them.
abbrev pub walks_on : Image → Mix → WalkNumbers → ℕ → List Event × Walk
walks_on program mix numbers more = walked (words_of program) (walk_in program mix numbers) more

-- The numbers are those of a hart that runs a program and has given so many events of its log.
abbrev pub AreAfter : Image → Mix → ℕ → WalkNumbers → Type 0
AreAfter program mix count numbers =
    HasGone program mix numbers.seed numbers.hart count (walk_in program mix numbers)

-- A hart that had given so many events of its log gave so many more, which are these. Then it stands after them, and the
-- log is legal.
pub record GivesMore (program : Image) (mix : Mix) (count more : ℕ) (events : List Event) (before after : WalkNumbers)
    : Type 0 where
  pub log : hart_log program mix before.seed before.hart (count + more)
      ≡ hart_log program mix before.seed before.hart count ++ events
  pub legal : Legal (words_of program) (hart_log program mix before.seed before.hart (count + more))
  pub stands : AreAfter program mix (count + more) after

-- The next events of a walk fill a buffer, and its state after them is written. If the walk is that of a hart, they are
-- the next of its log.
pub record FillsEvents (program : Image) (mix : Mix) (before after : WalkNumbers) (old new : List EventNumbers)
    : Type 0 where
  pub written : new ≡ map numbers_of_event (walks_on program mix before (length old)).0
  pub state : after ≡ numbers_of_kept before (state_of (walks_on program mix before (length old)).1)
  pub given : (count : ℕ) → AreAfter program mix count before
      → GivesMore program mix count (length old) (walks_on program mix before (length old)).0 before after

-- The buffer was filled; or nothing was written, since the numbers are those of no walk or there is no program.
pub data ReportsGenerateEvents (image : Judged) (status : ℕ) (before after : WalkNumbers) (old new : List EventNumbers)
    : Type 0 where
  Filled : (program : Image) → image ≡ Ok program → (mix : Mix) → mix_in before ≡ Some mix → status ≡ DONE
      → FillsEvents program mix before after old new
      → ReportsGenerateEvents image status before after old new
  NoWalk : mix_in before ≡ None → status ≡ OUT_OF_RANGE → after ≡ before → new ≡ old
      → ReportsGenerateEvents image status before after old new
  NoProgram : (fault : ImageFault) → image ≡ Err fault → mix_in before ≢ None → status ≡ image_status fault
      → after ≡ before → new ≡ old
      → ReportsGenerateEvents image status before after old new
