-- What each entry of a hart adds to its log.
use Rattle.std.specs.Prelude.{ℕ, ◌≡◌, ◌≢◌, ◌+◌, ◌-◌, ◌++◌, List, [], ◌∷◌, Option}
use Rattle.retire.specs.declared.event.Event.{Event}
use Rattle.rvclass.specs.Words.{Words}
use Rattle.payload.specs.declared.mode.Mode.{Mode}
use Rattle.payload.specs.declared.packet.Packet.{Packet}
use Rattle.decoder.specs.Describes.{Describes}
use Rattle.losses.specs.Runs.{Run, first_run, longer, run_behind, run_of, trace_of_run}
use Rattle.salvaging.specs.Bad.{IsBad, IsGood}
use Rattle.salvaging.specs.Entries.{Entry, Used, Doubtful, next_used}
use Rattle.salvaging.specs.Leaving.{kept}
use Rattle.salvaging.specs.declared.reason.Reason.{Reason}

-- What an entry does, when the numbers of its hart are taken in order: its message is good and adds these events to the
-- stretch under way; it is good and adds nothing while a synchronisation is looked for; it is bad for this reason; it
-- stands alone; or the number is doubtful.
pub data Share : Type 0 where
  Adds : List Event → Share
  Passes : Share
  Spoils : Reason → Share
  StandsAlone : Share
  Doubts : Share

-- What a good packet does after the run under way. Where the stretch of the run has begun with it, the one log that the
-- trace of the run describes goes on with the events that the packet adds. Else it is passed over.
abbrev pub IsGoodShare : Words → Mode → Run → Packet → Share → Type 0
IsGoodShare words mode run packet (Adds events) =
    (kept run.missing (run.packets ++ packet ∷ []) ≢ [])
    × (before : List Event) × Describes words (trace_of_run mode run) before
    × Describes words (trace_of_run mode (longer run (packet ∷ []))) (before ++ events)
IsGoodShare words mode run packet Passes = kept run.missing (run.packets ++ packet ∷ []) ≡ []
IsGoodShare words mode run packet other = ⊥

-- What a used message does after the run under way, where `following` is the next greater number of its hart that is
-- used. A good one goes on with the run. A bad one ends it, and a new run begins after it, before which numbers are
-- lost. What is under way after it shares the rest.
abbrev pub UsedShares : Words → Mode → Run → List ℕ → Option ℕ → Share → (Run → Type 0) → Type 0
UsedShares words mode run payload following (Spoils why) RestShares =
    IsBad words mode run payload following why × RestShares (run_of 1 [])
UsedShares words mode run payload following share RestShares =
    (packet : Packet) × IsGood words mode run payload following packet × IsGoodShare words mode run packet share
    × RestShares (longer run (packet ∷ []))

-- What each of the entries still to come does, where a run is under way and `next` is the number after its last one. A
-- doubtful number ends the run and is lost itself.
abbrev pub EntriesShare : Words → Mode → Run → ℕ → List Entry → List Share → Type 0
EntriesShare words mode run next [] [] = Unit {0}
EntriesShare words mode run next [] (share ∷ shares) = ⊥
EntriesShare words mode run next (entry ∷ entries) [] = ⊥
EntriesShare words mode run next (Used number place payload ∷ entries) (share ∷ shares) =
    UsedShares words mode (run_behind (number - next) run) payload (next_used entries) share
    (λ behind. EntriesShare words mode behind (number + 1) entries shares)
EntriesShare words mode run next (Doubtful number first second ∷ entries) (share ∷ shares) =
    (share ≡ Doubts) × EntriesShare words mode (run_of 1 []) number entries shares

-- What an entry beyond the end of its hart does, where this is the next greater number that is used: it is bad, as after
-- a gap, or it stands alone. A doubtful number is doubtful there too.
abbrev pub SharesBeyond : Words → Mode → Entry → Option ℕ → Share → Type 0
SharesBeyond words mode (Used number place payload) following (Spoils why) =
    IsBad words mode (run_of 1 []) payload following why
SharesBeyond words mode (Used number place payload) following StandsAlone =
    (packet : Packet) × IsGood words mode (run_of 1 []) payload following packet
SharesBeyond words mode (Doubtful number first second) following Doubts = Unit {0}
SharesBeyond words mode entry following share = ⊥

-- What each of the entries beyond the end does.
abbrev pub AllShareBeyond : Words → Mode → List Entry → List Share → Type 0
AllShareBeyond words mode [] [] = Unit {0}
AllShareBeyond words mode [] (share ∷ shares) = ⊥
AllShareBeyond words mode (entry ∷ entries) [] = ⊥
AllShareBeyond words mode (entry ∷ entries) (share ∷ shares) =
    SharesBeyond words mode entry (next_used entries) share × AllShareBeyond words mode entries shares

-- What each entry of a hart does, where this mode is its own. To the entries up to its end it is as if none came after
-- them.
pub record HartShares (words : Words) (mode : Mode) (upto beyond : List Entry) (shares : List Share) : Type 0 where
  pub first : List Share
  pub after : List Share
  pub shares_upto : EntriesShare words mode first_run 0 upto first
  pub shares_beyond : AllShareBeyond words mode beyond after
  pub whole : shares ≡ first ++ after
