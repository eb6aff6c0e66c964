-- Where a hart ends, and what is left after its end.
use Rattle.std.specs.Prelude.{ℕ, ◌≡◌, ◌≢◌, ◌++◌, Bool, true, false, List, [], ◌∷◌, Option, None}
use Rattle.rvclass.specs.Words.{Words}
use Rattle.payload.specs.Closing.{is_closing}
use Rattle.payload.specs.declared.mode.Mode.{Mode}
use Rattle.payload.specs.declared.packet.Packet.{Packet}
use Rattle.decoder.specs.Resuming.{IsSync}
use Rattle.losses.specs.Runs.{first_run, run_of}
use Rattle.salvaging.specs.Bad.{IsBad, IsGood}
use Rattle.salvaging.specs.Entries.{Entry, Used, Doubtful, next_used}
use Rattle.salvaging.specs.Leaving.{EntriesLeave}
use Rattle.salvaging.specs.LeftParts.{LeftPart, BadNumber, DoubtfulNumber, AloneNumber}

-- A stretch begins at this entry, where a synchronisation is looked for: it is used, its packet is a synchronisation, and
-- the trace that begins with it describes a log.
abbrev pub BeginsStretch : Words → Mode → Entry → Type 0
BeginsStretch words mode (Used number place payload) =
    (packet : Packet) × IsSync packet × IsGood words mode (run_of 1 []) payload None packet
BeginsStretch words mode (Doubtful number first second) = ⊥

-- A stretch begins at none of these entries.
abbrev pub NoneBegins : Words → Mode → List Entry → Type 0
NoneBegins words mode [] = Unit {0}
NoneBegins words mode (entry ∷ entries) = (¬ BeginsStretch words mode entry) × NoneBegins words mode entries

-- A hart may end at this entry, where these come after it. It is used and closes the trace, a greater number is used,
-- and no stretch begins at a greater one.
abbrev pub IsEnd : Words → Mode → Entry → List Entry → Type 0
IsEnd words mode (Used number place payload) later =
    (is_closing payload ≡ true) × (next_used later ≢ None) × NoneBegins words mode later
IsEnd words mode (Doubtful number first second) later = ⊥

-- A hart may end at none of these entries, which others follow.
abbrev pub NoneEnds : Words → Mode → List Entry → List Entry → Type 0
NoneEnds words mode [] later = Unit {0}
NoneEnds words mode (entry ∷ entries) later =
    (¬ IsEnd words mode entry (entries ++ later)) × NoneEnds words mode entries later

-- The hart ends at the last of its entries up to here, the lowest at which it may end; or there is none after them, and
-- it may end at none of them.
abbrev pub EndsAtLast : Words → Mode → List Entry → List Entry → Type 0
EndsAtLast words mode upto [] = NoneEnds words mode upto []
EndsAtLast words mode upto (first ∷ beyond) =
    (front : List Entry) × (last : Entry) × (upto ≡ front ++ last ∷ []) × IsEnd words mode last (first ∷ beyond)
    × NoneEnds words mode front (last ∷ first ∷ beyond)

-- The entries of a hart are those up to its end, and those beyond. Where it does not end before its last entry, none is
-- beyond.
pub record AreCutAtEnd (words : Words) (mode : Mode) (entries upto beyond : List Entry) : Type 0 where
  pub whole : entries ≡ upto ++ beyond
  pub ends : EndsAtLast words mode upto beyond

-- What an entry beyond the end leaves, where this is the next greater number that is used: it is bad, as after a gap,
-- or it stands alone. A doubtful number is doubtful there too.
abbrev pub LeavesBeyond : Words → Mode → Entry → Option ℕ → LeftPart → Type 0
LeavesBeyond words mode (Used number place payload) following (BadNumber bad at why) =
    (bad ≡ number) × (at ≡ place) × IsBad words mode (run_of 1 []) payload following why
LeavesBeyond words mode (Used number place payload) following (AloneNumber alone at) =
    (alone ≡ number) × (at ≡ place) × (packet : Packet) × IsGood words mode (run_of 1 []) payload following packet
LeavesBeyond words mode (Doubtful number first second) following (DoubtfulNumber doubtful at behind) =
    (doubtful ≡ number) × (at ≡ first) × (behind ≡ second)
LeavesBeyond words mode entry following part = ⊥

-- What the entries beyond the end leave: each a part, and no gap is counted.
abbrev pub AllLeaveBeyond : Words → Mode → List Entry → List LeftPart → Type 0
AllLeaveBeyond words mode [] [] = Unit {0}
AllLeaveBeyond words mode [] (part ∷ parts) = ⊥
AllLeaveBeyond words mode (entry ∷ entries) [] = ⊥
AllLeaveBeyond words mode (entry ∷ entries) (part ∷ parts) =
    LeavesBeyond words mode entry (next_used entries) part × AllLeaveBeyond words mode entries parts

-- None of these entries is good.
abbrev pub none_good : List Entry → List Bool
none_good [] = []
none_good (entry ∷ entries) = false ∷ none_good entries

-- What the entries of a hart leave, where this mode is its own. Before the first entry the run from number 0 on is under
-- way, without a packet. To the entries up to its end it is as if none came after them. Of each entry `goods` says
-- whether it is used, and neither bad nor alone.
pub record HartLeaves (words : Words) (mode : Mode) (upto beyond : List Entry) (goods : List Bool)
    (parts : List LeftPart) : Type 0 where
  pub good_first : List Bool
  pub first : List LeftPart
  pub after : List LeftPart
  pub leaves : EntriesLeave words mode first_run 0 upto good_first first
  pub beyond_leaves : AllLeaveBeyond words mode beyond after
  pub goods_are : goods ≡ good_first ++ none_good beyond
  pub parts_are : parts ≡ first ++ after
