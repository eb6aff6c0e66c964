-- What a call reports of a capture and logs.
use Rattle.std.specs.Prelude.{ℕ, ◌≡◌, ◌≢◌, ◌⊎◌, Bool, false, List, None, Option, Result, Ok, Err, length, map}
use Rattle.bench.specs.Got.{Got}
use Rattle.captures.specs.declared.outcome.CaptureFault.{CaptureFault}
use Rattle.comparing.specs.Compared.{AreGot, is_compared_whole}
use Rattle.comparing.specs.Explained.{explained_harts, explained_text}
use Rattle.comparing.specs.Sourced.{AreSourced}
use Rattle.comparing.specs.declared.sourcing.SourcedHart.{SourcedHart}
use Rattle.legalpath.specs.ProgramLog.{ProgramLog}
use Rattle.rvclass.specs.Fetch.{words_of}
use Rattle.rvclass.specs.Image.{Image}
use Rattle.ffi.specs.Decoded.{stop_fault, stop_place}
use Rattle.ffi.specs.Encoded.{AreLogs, HasRefusedLog}
use Rattle.ffi.specs.Handed.{IsHandedOut}
use Rattle.ffi.specs.Images.{Judged}
use Rattle.ffi.specs.Numbers.{flag}
use Rattle.ffi.specs.Statuses.{fault_row, fault_status}
use Rattle.ffi.specs.Texts.{first_unclosed}
use Rattle.ffi.specs.declared.encoding.LogPlace.{LogPlace}
use Rattle.ffi.specs.declared.fault.Fault.{Fault}
use Rattle.ffi.specs.declared.fault.Fault.TheVariants.{Count, Memory, NoProgram}
use Rattle.ffi.specs.declared.status.TheConstants.{MEMORY}
use Rattle.ffi.specs.declared.texts.TextEnd.{TextEnd}
use Rattle.ffi.specs.declared.texts.Written.{Written}

-- Which harts are closed, by what is decoded of them.
abbrev pub closed_in : List Got → List Bool
closed_in gots = map (λ (got : Got). got.closed) gots

-- How the text of a comparison ends, in numbers: by the flags of the harts, where decoding stops, and whether the
-- comparison is whole.
abbrev pub compare_end : List Bool → Option (ℕ × CaptureFault) → Bool → TextEnd
compare_end closed stop whole = record {
  harts = length closed;
  unclosed = first_unclosed closed;
  place = stop_place stop;
  fault = stop_fault stop;
  whole = flag whole;
}

-- An image makes a program, by which a capture decodes to something of each hart. No allocation failed on the way.
pub record HoldsFor (image : Judged) (harts : ℕ) (capture : List ℕ) (program : Image) (gots : List Got)
    (stop : Option (ℕ × CaptureFault)) : Type 0 where
  pub made : image ≡ Ok program
  pub got : AreGot (words_of program) harts capture gots stop
  pub memory : stop_fault stop ≢ MEMORY

-- The text says how a capture compares with the legal logs of texts, as many as it has harts, and below the line of each
-- that is not whole the first row in which both differ and the message that it comes from; and this is how it ends.
pub record HasComparison (image : Judged) (harts : ℕ) (capture bytes ends text : List ℕ) (end : TextEnd)
    : Type 0 where
  pub program : Image
  pub gots : List Got
  pub stop : Option (ℕ × CaptureFault)
  pub held : HoldsFor image harts capture program gots stop
  pub logs : List ProgramLog
  pub many : length logs ≡ length gots
  pub are : AreLogs program bytes 0 ends logs
  pub sourced : List SourcedHart
  pub from : AreSourced (words_of program) capture stop (explained_harts 0 gots logs) sourced
  pub written : text ≡ explained_text false None stop sourced
  pub ended : end ≡ compare_end (closed_in gots) stop (is_compared_whole stop gots logs)

-- There are more or fewer logs than the capture has harts.
pub record HasOtherCount (image : Judged) (harts : ℕ) (capture ends : List ℕ) : Type 0 where
  pub program : Image
  pub gots : List Got
  pub stop : Option (ℕ × CaptureFault)
  pub held : HoldsFor image harts capture program gots stop
  pub many : length ends ≢ length gots

-- There are as many logs as the capture has harts.
pub record HasAsMany (image : Judged) (harts : ℕ) (capture ends : List ℕ) : Type 0 where
  pub program : Image
  pub gots : List Got
  pub stop : Option (ℕ × CaptureFault)
  pub held : HoldsFor image harts capture program gots stop
  pub many : length ends ≡ length gots

-- The result for a capture and the texts of logs: a comparison; or why there is none, and for which log. The image makes
-- no program; or there are more or fewer logs than harts; or a text is no legal log's; or an allocation failed, for a text
-- or for something else.
abbrev pub IsCompared : Judged → ℕ → List ℕ → List ℕ → List ℕ → Result Written (ℕ × Fault) → Type 0
IsCompared image harts capture bytes ends (Ok found) =
    HasComparison image harts capture bytes ends found.text.items found.end
IsCompared image harts capture bytes ends (Err (place, Memory)) =
    (place ≡ 0) ⊎ HasRefusedLog image bytes ends place Memory
IsCompared image harts capture bytes ends (Err (place, NoProgram why)) = (place ≡ 0) × (image ≡ Err why)
IsCompared image harts capture bytes ends (Err (place, Count)) =
    (place ≡ 0) × HasOtherCount image harts capture ends
IsCompared image harts capture bytes ends (Err (place, why)) =
    HasAsMany image harts capture ends × HasRefusedLog image bytes ends place why

-- A comparison was handed out, and it was reported how it ends; or the status says why there is none, and of which log
-- and row.
pub data ReportsCompared (compared : Result Written (ℕ × Fault)) (status wanted_before wanted : ℕ)
    (ended_before ended : TextEnd) (place_before place : LogPlace) (old new : List ℕ) : Type 0 where
  Handed : (found : Written) → compared ≡ Ok found → IsHandedOut found.text.items status wanted old new
      → ended ≡ found.end → place ≡ place_before
      → ReportsCompared compared status wanted_before wanted ended_before ended place_before place old new
  Refused : (log : ℕ) (fault : Fault) → compared ≡ Err (log, fault) → status ≡ fault_status fault
      → place ≡ record { log = log; row = fault_row fault } → wanted ≡ wanted_before → ended ≡ ended_before
      → new ≡ old
      → ReportsCompared compared status wanted_before wanted ended_before ended place_before place old new

-- A capture was compared with the texts of logs, and the result was reported.
abbrev pub ReportsCompare : Judged → ℕ → List ℕ → List ℕ → List ℕ → ℕ → ℕ → ℕ → TextEnd → TextEnd → LogPlace → LogPlace
    → List ℕ → List ℕ → Type 0
ReportsCompare image harts capture bytes ends status wanted_before wanted ended_before ended place_before place old new =
    (compared : Result Written (ℕ × Fault)) × IsCompared image harts capture bytes ends compared
    × ReportsCompared compared status wanted_before wanted ended_before ended place_before place old new
