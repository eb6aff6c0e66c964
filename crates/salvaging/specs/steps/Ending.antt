-- How the end of a hart is found, and what is taken beyond it.
use Rattle.std.specs.Prelude.{ℕ, ◌≡◌, ◌++◌, Bool, false, List, [], Option, Some, None, map}
use Rattle.rvclass.specs.Words.{Words}
use Rattle.payload.specs.Closing.{is_closing}
use Rattle.payload.specs.declared.mode.Mode.{Mode}
use Rattle.payload.specs.declared.packet.Packet.{Packet}
use Rattle.decoder.specs.Resuming.{IsSync}
use Rattle.losses.specs.Runs.{run_of}
use Rattle.salvaging.specs.Bad.{IsBad, IsGood}
use Rattle.salvaging.specs.Ends.{AllLeaveBeyond}
use Rattle.salvaging.specs.Entries.{Entry, Used, Doubtful}
use Rattle.salvaging.specs.LeftParts.{LeftPart, BadNumber, AloneNumber}
use Rattle.salvaging.specs.PartsIn.{parts_in}
use Rattle.salvaging.specs.Shares.{Share, Spoils, StandsAlone, Doubts}
use Rattle.salvaging.specs.Treatments.{treatment_of}
use Rattle.salvaging.specs.declared.reason.Reason.{Reason}
use Rattle.salvaging.specs.declared.trail.HartOutcome.{HartOutcome}
use Rattle.salvaging.specs.declared.treatment.Treatment.{Treatment}

-- A used message with this payload was checked where a synchronisation is looked for: it is good, or bad for this reason.
abbrev pub JudgedAlone : Words → Mode → List ℕ → Option ℕ → Option Reason → Type 0
JudgedAlone words mode payload following None =
    (packet : Packet) × IsGood words mode (run_of 1 []) payload following packet
JudgedAlone words mode payload following (Some why) = IsBad words mode (run_of 1 []) payload following why

-- A stretch begins at a used message with this payload, where a synchronisation is looked for.
abbrev pub BeginsBy : Words → Mode → List ℕ → Type 0
BeginsBy words mode payload = (packet : Packet) × IsSync packet × IsGood words mode (run_of 1 []) payload None packet

-- The entry is used, and its packet closes the trace.
abbrev pub closes : Entry → Bool
closes (Used number place payload) = is_closing payload
closes (Doubtful number first second) = false

-- What an entry beyond the end of its hart does, by the part that it leaves.
abbrev pub share_of_part : LeftPart → Share
share_of_part (BadNumber number place why) = Spoils why
share_of_part (AloneNumber number place) = StandsAlone
share_of_part other = Doubts

-- Entries beyond the end of their hart were taken: what they leave, and what is kept of what they do, was added.
pub record TakesBeyond {A M : Type 0} (kept : Treatment → M) (words : Words) (mode : Mode) (entries : List Entry)
    (old new : HartOutcome A M) : Type 0 where
  pub after : List LeftPart
  pub parts : parts_in new.parts.items ≡ parts_in old.parts.items ++ after
  pub marks : new.marks.items ≡ old.marks.items ++ map kept (map treatment_of (map share_of_part after))
  pub leaves : AllLeaveBeyond words mode entries after
