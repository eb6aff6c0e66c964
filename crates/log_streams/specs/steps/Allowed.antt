-- What may be made of the logs that threads share.
use Rattle.std.specs.Prelude.{◌≡◌, All, IfErr, ℕ, List, Result, Some, slice_get}
use Rattle.std.specs.Borrow.{Bor}
use Rattle.retire.specs.declared.event.Event.{Event}
use Rattle.rvclass.specs.Image.{Image}
use Rattle.log_streams.specs.Gave.{Gave}
use Rattle.log_streams.specs.Known.{Content}
use Rattle.log_streams.specs.Made.{IsMadeOf, IsMadeOfGiven}
use Rattle.log_streams.specs.Refusing.{MayStop}
use Rattle.log_streams.specs.declared.entry.Entry.{Entry}
use Rattle.log_streams.specs.declared.illegal_row.IllegalRow.{IllegalRow}
use Rattle.log_streams.specs.declared.stop.Stop.{Stop}
use Rattle.log_streams.specs.declared.work.Work.{Work}

-- This is made of the log of a hart, in the file at a path, or nothing for this reason: by what is known of the file, and
-- by what calls gave of it.
abbrev pub IsMadeAt : {X : Type 0} → (ℕ → List Event → X → Type 0) → (List Event → IllegalRow → X → Type 0) → Content
    → (List ℕ → Gave → Type 0) → Image → ℕ → List ℕ → ℕ → Result X Stop → Type 0
IsMadeAt Makes OfIllegal content Gives program most path hart made =
    IsMadeOf Makes OfIllegal (content path) program most hart made
    × IsMadeOfGiven Makes OfIllegal (Gives path) program most hart made

-- This may be made of the log at a place, if there is one, or nothing for this reason. What is made of the log at a path
-- is given.
abbrev pub MayBeMade : {X : Type 0} → (List ℕ → ℕ → Result X Stop → Type 0) → Type 0 → List (Bor (List ℕ)) → ℕ
    → Result X Stop → Type 0
MayBeMade IsMade MayRefuse paths place made =
    ((path : Bor (List ℕ)) → slice_get paths place ≡ Some path → IsMade path.now place made)
    × IfErr made (MayStop MayRefuse)

-- The same of the logs that threads share, by what their task makes, what is known of their files, and what these give.
abbrev pub MayBeMadeIn : {F T X : Type 0} → (T → Image → ℕ → List Event → X → Type 0)
    → (T → Image → List Event → IllegalRow → X → Type 0) → (T → Type 0) → (F → Content)
    → (F → List ℕ → Gave → Type 0) → Work F T → ℕ → Result X Stop → Type 0
MayBeMadeIn Makes OfIllegal MayRefuse content Gives work place made =
    MayBeMade (IsMadeAt (Makes work.task.now work.program.now) (OfIllegal work.task.now work.program.now)
    (content work.files.now) (Gives work.files.now) work.program.now work.most)
    (MayRefuse work.task.now) work.paths.now place made

-- Each entry says what may be made of the log at its place.
abbrev pub AreEntries : {F T X : Type 0} → (T → Image → ℕ → List Event → X → Type 0)
    → (T → Image → List Event → IllegalRow → X → Type 0) → (T → Type 0) → (F → Content)
    → (F → List ℕ → Gave → Type 0) → Work F T → List (Entry X) → Type 0
AreEntries Makes OfIllegal MayRefuse content Gives work entries =
    All (λ entry. MayBeMadeIn Makes OfIllegal MayRefuse content Gives work entry.place entry.made) entries
