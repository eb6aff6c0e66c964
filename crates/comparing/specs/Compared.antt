-- What a capture has of logs.
use Rattle.std.specs.Prelude.{ℕ, ◌+◌, ◌-◌, ◌^◌, ◌≡◌, ◌≤◌, ◌⊎◌, ◌++◌, ◌&&◌, is_none, Bool, List, [], ◌∷◌, Option, drop, length}
use Rattle.std.specs.Prelude.{min, take}
use Rattle.bench.specs.Got.{Got}
use Rattle.bench.specs.Report.{are_whole, report_lines, result_line}
use Rattle.bench.specs.Verdict.{count_alike}
use Rattle.captures.specs.Decoded.{IsDecoded, IsDecodedOf}
use Rattle.captures.specs.Whole.{IsFront}
use Rattle.captures.specs.declared.outcome.CaptureFault.{CaptureFault}
use Rattle.message.specs.declared.range.HartRange.{HartRange}
use Rattle.legalpath.specs.ProgramLog.{ProgramLog}
use Rattle.message.specs.declared.fault.MessageFault.{MessageFault}
use Rattle.message.specs.declared.header.Header.{Header}
use Rattle.message.specs.declared.message.Message.{Message}
use Rattle.retire.specs.declared.event.Event.{Event}
use Rattle.rvclass.specs.Words.{Words}
use Rattle.comparing.specs.Counts.{before_stop, count_of}
use Rattle.comparing.specs.RowsAbout.{near_rows}
use Rattle.comparing.specs.declared.hart_count.HartCount.{HartCount}
use Rattle.comparing.specs.declared.pieces.Comparing.{Comparing}

-- These events of a log and these decoded ones were compared: how many they are, how many of the first are alike, and
-- the rows about the first that are not. Of the decoded ones 2^64 - 1 is counted if there are more.
pub record HasCompared (decoded : List Event) (seen : List Event) (comparing : Comparing) : Type 0 where
  pub events : comparing.events ≡ length seen
  pub counted : comparing.decoded ≡ min (length decoded) (2 ^ 64 - 1)
  pub alike : comparing.alike ≡ count_alike decoded seen
  pub near : comparing.near ≡ near_rows decoded seen

-- These come next of what is decoded and of the log: of the one of which fewer came before, none comes any more.
abbrev pub AreNext : List Event → List Event → List Event → List Event → Type 0
AreNext before seen decoded events =
    ((length before ≤ length seen) ⊎ (events ≡ [])) × ((length seen ≤ length before) ⊎ (decoded ≡ []))

-- What is decoded of a hart, with the count of its messages. The packets are not kept.
abbrev pub got_by : HartCount → List Event → Bool → Got
got_by count decoded closed = record {
  packets = [];
  taken = count.taken;
  bytes = count.bytes;
  decoded = decoded;
  closed = closed;
}

-- What is decoded of harts, by their counts, lists and flags. So many harts are left, and the first has this number.
abbrev pub gots_by : (ℕ → HartCount) → ℕ → List (List Event) → List Bool → List Got
gots_by count hart [] closed = []
gots_by count hart (decoded ∷ lists) [] = []
gots_by count hart (decoded ∷ lists) (flag ∷ closed) =
    got_by (count hart) decoded flag ∷ gots_by count (hart + 1) lists closed

-- The bytes of a capture decode to this of each hart, and decoding stops there. The messages of a hart are counted
-- before that place.
pub record AreGot (words : Words) (harts : ℕ) (bytes : List ℕ) (gots : List Got) (stop : Option (ℕ × CaptureFault))
    : Type 0 where
  pub lists : List (List Event)
  pub closed : List Bool
  pub decoded : IsDecoded words harts bytes lists closed stop
  pub header : Option Header
  pub messages : List Message
  pub end : Option MessageFault
  pub front : IsFront bytes header messages end
  pub each : gots ≡ gots_by (count_of (before_stop stop messages)) 0 lists closed

-- What there is of these harts, where there is something of each hart: from the first of them to the last.
abbrev pub of_harts : {X : Type 0} → HartRange → List X → List X
of_harts range each = take (range.last + 1 - range.first) (drop range.first each)

-- The bytes of a capture decode to this of each of these harts that it has, and decoding them stops there. Messages of
-- other harts are passed over. The messages of a hart are counted before that place.
pub record AreGotOf (range : HartRange) (words : Words) (harts : ℕ) (bytes : List ℕ) (gots : List Got)
    (stop : Option (ℕ × CaptureFault)) : Type 0 where
  pub lists : List (List Event)
  pub closed : List Bool
  pub decoded : IsDecodedOf range words harts bytes lists closed stop
  pub header : Option Header
  pub messages : List Message
  pub end : Option MessageFault
  pub front : IsFront bytes header messages end
  pub each : gots ≡ of_harts range (gots_by (count_of (before_stop stop messages)) 0 lists closed)

-- Each hart's log came back whole, and decoding came to the end.
abbrev pub is_compared_whole : Option (ℕ × CaptureFault) → List Got → List ProgramLog → Bool
is_compared_whole stop gots logs = is_none stop && are_whole gots logs

-- The report of a comparison: a line for each hart, of which the first has this number, and one for the result.
abbrev pub comparison_text_of : ℕ → Option (ℕ × CaptureFault) → List Got → List ProgramLog → List ℕ
comparison_text_of hart stop gots logs =
    report_lines hart gots logs ++ result_line (is_compared_whole stop gots logs)

-- The report of a comparison of all harts.
abbrev pub comparison_text : Option (ℕ × CaptureFault) → List Got → List ProgramLog → List ℕ
comparison_text stop gots logs = comparison_text_of 0 stop gots logs
