-- What salvaging does with each message where a capture is not damaged: it has the effect that a listing has of it.
use Rattle.std.specs.Prelude.{ℕ, ◌≡◌, ◌≤◌, ◌^◌, All, Bool, false, List, [], Option, Some, None, length, map}
use Rattle.rvclass.specs.Fetch.{words_of}
use Rattle.rvclass.specs.Image.{Image}
use Rattle.rvclass.specs.Words.{Words, IsProgram}
use Rattle.legalpath.specs.ProgramLog.{ProgramLog}
use Rattle.payload.specs.declared.mode.Mode.{Mode}
use Rattle.frames.specs.Frame.{IsFrame}
use Rattle.message.specs.Accepted.{AreAccepted, newcomers}
use Rattle.message.specs.Range.{every_hart}
use Rattle.message.specs.declared.header.Header.{Header}
use Rattle.message.specs.declared.message.Message.{Message}
use Rattle.captures.specs.Messages.{messages_of_harts}
use Rattle.captures.specs.Returned.{IsLongLegalLog}
use Rattle.captures.specs.Whole.{IsWhole}
use Rattle.frames.specs.Harts.{harts_counted}
use Rattle.frames.specs.Start.{known_harts, spans_of}
use Rattle.listing.specs.Effect.{Effect, HaveEffects}
use Rattle.listing.specs.Listing.{IsListing}
use Rattle.listing.specs.declared.form.Form.TheVariants.{Lines}
use Rattle.salvaging.specs.Treatments.{AreTreated, added_of}
use Rattle.salvaging.specs.declared.treatment.Treated.{Treated}
use Rattle.salvaging.specs.declared.treatment.Treatment.TheVariants as treatment
use Rattle.salvage_reports.specs.HartRows.{in_rows}
use Rattle.salvage_reports.specs.TreatedText.{treated_text}

-- A message that has this effect is taken, and is neither far nor late: it adds the events of the effect.
abbrev pub taken_with : Effect → Treated
taken_with effect = record { treatment = treatment.Taken (added_of effect.added); far = false; late = false }

-- A demultiplexer accepts messages of so many harts, one after the other, and they have these effects. Then salvaging
-- takes each of them with its effect, whatever mode is handed in.
abbrev pub AcceptedAreTaken : Type 0
AcceptedAreTaken =
    (words : Words) (mode : Mode) (harts : ℕ) (messages : List Message) (effects : List Effect) (treated : List Treated)
    → IsProgram words → AreAccepted (newcomers harts) messages → HaveEffects words [] messages effects
    → AreTreated words mode harts messages treated → treated ≡ map taken_with effects

-- A capture is a header, or none, and messages that are frames, and a listing of it in lines comes to its end. Then the
-- text of what salvaging does with each of its messages is the text of the listing.
abbrev pub CapturesAreListedAlike : Type 0
CapturesAreListedAlike =
    (words : Words) (mode : Mode) (harts : ℕ) (symbols : Option (List ℕ)) (bytes text : List ℕ) (closed : List Bool)
    (header : Option Header) (messages : List Message) (treated : List Treated)
    → IsProgram words → IsListing words (Lines false) every_hart harts symbols bytes closed None text
    → IsWhole bytes header messages
    → All (IsFrame (known_harts header)) messages
    → AreTreated words mode (harts_counted (Some harts) header bytes) messages treated
    → treated_text (Lines false) symbols header (spans_of header bytes) (in_rows (Lines false) messages treated) ≡ text

-- The messages of legal logs of one program, long ones among them, as an encoder writes them: those of each hart in
-- order, one hart after the other. They have effects, and salvaging takes each of them with its effect, whatever mode is
-- handed in.
abbrev pub LogsAreTaken : Type 0
LogsAreTaken =
    (program : Image) (period : ℕ) (mode handed : Mode) (logs : List ProgramLog) (treated : List Treated)
    → All IsLongLegalLog logs → All (λ (log : ProgramLog). log.program ≡ program) logs → length logs ≤ 2 ^ 16
    → AreTreated (words_of program) handed (length logs) (messages_of_harts period mode 0 logs) treated
    → (effects : List Effect) × HaveEffects (words_of program) [] (messages_of_harts period mode 0 logs) effects
    × (treated ≡ map taken_with effects)
