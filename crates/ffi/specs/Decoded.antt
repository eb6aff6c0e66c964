-- What a call reports of all harts of a capture.
use Rattle.std.specs.Prelude.{ℕ, ◌≡◌, ◌+◌, ◌⊎◌, ◌<◌, ◌≤◌, ◌++◌, Bool, List, [], ◌∷◌, Option, Some, None, Result, Ok, Err}
use Rattle.std.specs.Prelude.{drop, length, slice_get}
use Rattle.std.specs.List.{flat_map}
use Rattle.captures.specs.Decoded.{IsDecoded}
use Rattle.captures.specs.declared.outcome.CaptureFault.{CaptureFault}
use Rattle.retire.specs.LogText.{log_text}
use Rattle.retire.specs.declared.event.Event.{Event}
use Rattle.rvclass.specs.Fetch.{words_of}
use Rattle.rvclass.specs.Image.{Image}
use Rattle.ffi.specs.Images.{Judged}
use Rattle.ffi.specs.Numbers.{flag}
use Rattle.ffi.specs.Statuses.{capture_status, fault_status}
use Rattle.ffi.specs.declared.decoding.DecodeAllEnd.{DecodeAllEnd}
use Rattle.ffi.specs.declared.decoding.DecodedTexts.{DecodedTexts}
use Rattle.ffi.specs.declared.decoding.HartEnd.{HartEnd}
use Rattle.ffi.specs.declared.fault.Fault.{Fault}
use Rattle.ffi.specs.declared.fault.Fault.TheVariants.{Memory, NoProgram}
use Rattle.ffi.specs.declared.status.TheConstants.{DONE, TOO_SMALL}

-- Where decoding stops; 0 where it comes to the end.
abbrev pub stop_place : Option (ℕ × CaptureFault) → ℕ
stop_place None = 0
stop_place (Some stop) = stop.0

-- Why decoding stops, as a status.
abbrev pub stop_fault : Option (ℕ × CaptureFault) → ℕ
stop_fault None = DONE
stop_fault (Some stop) = capture_status stop.1

-- A flag that may be missing, as a number.
abbrev pub flag_or_none : Option Bool → ℕ
flag_or_none None = 0
flag_or_none (Some closed) = flag closed

-- Whether the closing packet of a hart was decoded, as a number.
abbrev pub closed_at : List Bool → ℕ → ℕ
closed_at closed hart = flag_or_none (slice_get closed hart)

-- The capture decodes to these lists and flags by the program of an image.
pub record Decodes (image : Judged) (harts : ℕ) (capture : List ℕ) (lists : List (List Event))
    (closed : List Bool) (stop : Option (ℕ × CaptureFault)) : Type 0 where
  pub program : Image
  pub made : image ≡ Ok program
  pub decoded : IsDecoded (words_of program) harts capture lists closed stop

-- The texts of harts' logs, one after the other.
abbrev pub texts_of : List (List Event) → List ℕ
texts_of lists = flat_map log_text lists

-- Where the text of each hart ends, and whether the hart is closed by these flags. The first of these harts has this
-- number, and its text starts here.
abbrev pub hart_ends : List Bool → ℕ → ℕ → List (List Event) → List HartEnd
hart_ends closed hart start [] = []
hart_ends closed hart start (events ∷ lists) =
    record { end = start + length (log_text events); closed = closed_at closed hart }
    ∷ hart_ends closed (hart + 1) (start + length (log_text events)) lists

-- How decoding ends for all harts, in numbers.
abbrev pub decode_all_end : List (List Event) → Option (ℕ × CaptureFault) → DecodeAllEnd
decode_all_end lists stop = record { harts = length lists; place = stop_place stop; fault = stop_fault stop }

-- A capture decodes to the logs of its harts. These are their texts, where each ends, and how decoding ends.
pub record HasTexts (image : Judged) (harts : ℕ) (capture : List ℕ) (text : List ℕ) (ends : List HartEnd)
    (end : DecodeAllEnd) : Type 0 where
  pub lists : List (List Event)
  pub closed : List Bool
  pub stop : Option (ℕ × CaptureFault)
  pub decodes : Decodes image harts capture lists closed stop
  pub written : text ≡ texts_of lists
  pub parted : ends ≡ hart_ends closed 0 0 lists
  pub ended : end ≡ decode_all_end lists stop

-- The result for a capture: the texts of its harts; or the image makes no program, or an allocation failed.
abbrev pub AreDecoded : Judged → ℕ → List ℕ → Result DecodedTexts Fault → Type 0
AreDecoded image harts capture (Ok found) =
    HasTexts image harts capture found.text.items found.ends.items found.end
AreDecoded image harts capture (Err Memory) = Unit {0}
AreDecoded image harts capture (Err (NoProgram why)) = image ≡ Err why
AreDecoded image harts capture (Err other) = ⊥

-- So many bytes were wanted. Where the texts and their ends both fit into the buffers, they are at their starts, what
-- was after them stays, and all is done. Where one of them does not, both buffers are as they were, and too small.
pub record AreHandedOut (text : List ℕ) (ends : List HartEnd) (status wanted : ℕ) (old new : List ℕ)
    (ends_before ends_after : List HartEnd) : Type 0 where
  pub count : wanted ≡ length text
  pub fit : length text ≤ length old → length ends ≤ length ends_before
      → (status ≡ DONE) × (new ≡ text ++ drop (length text) old)
      × (ends_after ≡ ends ++ drop (length ends) ends_before)
  pub small : (length old < length text) ⊎ (length ends_before < length ends)
      → (status ≡ TOO_SMALL) × (new ≡ old) × (ends_after ≡ ends_before)

-- The logs of all harts were decoded and handed out, and it was reported how decoding ends; or nothing was written, and
-- the status says why.
pub data ReportsDecodeAll (image : Judged) (harts : ℕ) (capture : List ℕ) (status wanted_before wanted : ℕ)
    (ended_before ended : DecodeAllEnd) (old new : List ℕ) (ends_before ends_after : List HartEnd) : Type 0 where
  Found : (text : List ℕ) (ends : List HartEnd) → HasTexts image harts capture text ends ended
      → AreHandedOut text ends status wanted old new ends_before ends_after
      → ReportsDecodeAll image harts capture status wanted_before wanted ended_before ended old new ends_before
      ends_after
  Refused : (fault : Fault) → AreDecoded image harts capture (Err fault) → status ≡ fault_status fault
      → wanted ≡ wanted_before → ended ≡ ended_before → new ≡ old → ends_after ≡ ends_before
      → ReportsDecodeAll image harts capture status wanted_before wanted ended_before ended old new ends_before
      ends_after
