-- What is found on the way through the messages of a hart.
use Rattle.std.specs.Prelude.{ℕ, ◌≡◌, ◌≤◌, ◌-◌, ◌^◌, All, List, Option, Some, None, length, min, slice_get, take}
use Rattle.std.specs.declared.vec.Vec.{Vec}
use Rattle.retire.specs.declared.event.Event.{Event}
use Rattle.rvclass.specs.Words.{Words}
use Rattle.payload.specs.declared.mode.Mode.{Mode}
use Rattle.message.specs.declared.message.Message.{Message}
use Rattle.parallel_decode.specs.Marks.{AreRising, IsMark}
use Rattle.parallel_decode.specs.declared.mark.Mark.{Mark}
use Rattle.parallel_decode.specs.steps.OwnMessages.{IsOwn}
use Rattle.parallel_decode.specs.steps.Starts.{StartAt}
use Rattle.parallel_decode.specs.declared.hart.Entry.{Entry}
use Rattle.parallel_decode.specs.declared.hart.HartEnd.{HartEnd}
use Rattle.parallel_decode.specs.declared.hart.HartSoFar.{HartSoFar}
use Rattle.parallel_decode.specs.declared.trail.Trail.{Trail}

-- The mark comes after no more than so many messages.
abbrev pub IsUpTo : ℕ → Mark → Type 0
IsUpTo taken mark = mark.taken ≤ taken

-- The marks are on the way through these messages, whose events are this log.
pub record AreOnWay (words : Words) (messages : List Message) (log : List Event) (marks : List Mark) : Type 0 where
  pub marked : All (IsMark words messages log) marks
  pub rising : AreRising 0 marks
  pub behind : All (IsUpTo (length messages)) marks

-- So many messages were decoded, and these marks were made.
pub record IsTrail (words : Words) (messages : List Message) (log : List Event) (trail : Trail) : Type 0 where
  pub counted : trail.events ≡ min (2 ^ 64 - 1) (length log)
  pub on_way : AreOnWay words messages log trail.marks.items

-- All messages of a hart were received, and these marks were made on the way.
pub record IsReceivedHart (words : Words) (announced : Option Mode) (messages : List Message) (end : HartEnd)
    : Type 0 where
  pub log : List Event
  pub own : IsOwn words announced messages log end.own
  pub on_way : AreOnWay words messages log end.marks.items

-- If none is refused, all messages that begin at these places were received.
abbrev pub IsEnd : Words → Option Mode → List ℕ → List ℕ → HartEnd → Type 0
IsEnd words announced bytes places end =
    end.refused ≡ None → (messages : List Message) → StartAt bytes places messages
    → IsReceivedHart words announced messages end

-- So it is of the hart of an entry.
abbrev pub IsEntry : {A : Type 0} → Words → Option Mode → List ℕ → List (Vec ℕ A) → Entry → Type 0
IsEntry {A} words announced bytes places entry = (own : Vec ℕ A) → slice_get places entry.hart ≡ Some own
    → IsEnd words announced bytes own.items entry.end

-- So it is of each hart.
abbrev pub AreEnds : {A : Type 0} → Words → Option Mode → List ℕ → List (Vec ℕ A) → List HartEnd → Type 0
AreEnds {A} words announced bytes places ends = (hart : ℕ) (own : Vec ℕ A) (end : HartEnd)
    → slice_get places hart ≡ Some own → slice_get ends hart ≡ Some end
    → IsEnd words announced bytes own.items end

-- The first messages of a hart were received, as many as were taken, and marks were made on the way.
pub record IsReceivedSoFar (words : Words) (announced : Option Mode) (messages : List Message) (so_far : HartSoFar)
    : Type 0 where
  pub log : List Event
  pub received : IsOwn words announced (take so_far.taken messages) log so_far.own
  pub made : IsTrail words (take so_far.taken messages) log so_far.trail
