-- What a call reports of what is salvaged of a capture.
use Rattle.std.specs.Prelude.{ℕ, ◌≡◌, ◌==◌, ◌&&◌, not, is_none, Bool, if◌then◌else◌, List, Option, Some, None}
use Rattle.std.specs.Prelude.{Result, Ok, Err, length}
use Rattle.std.specs.List.{list_any}
use Rattle.std.specs.Option.{unwrap_or}
use Rattle.std.specs.declared.alloc.Global.{Global}
use Rattle.message.specs.Range.{every_hart}
use Rattle.message.specs.declared.range.HartRange.{HartRange}
use Rattle.message.specs.declared.fault.MessageFault.{MessageFault}
use Rattle.message.specs.declared.header.Header.{Header}
use Rattle.rvclass.specs.Image.{Image}
use Rattle.salvage_reports.specs.Damage.{closed_harts, first_unclosed, is_damaged}
use Rattle.salvage_reports.specs.Found.{IsSalvagedCapture}
use Rattle.salvage_reports.specs.Frames.{is_run}
use Rattle.salvage_reports.specs.HartItems.{items_of}
use Rattle.salvage_reports.specs.Layouts.{salvaged_as}
use Rattle.salvage_reports.specs.declared.found_writing.Layout.{Layout}
use Rattle.salvage_reports.specs.declared.found_writing.Layout.TheVariants as layout
use Rattle.salvaging.specs.declared.salvaged.Salvaged.{Salvaged}
use Rattle.salvaging.specs.declared.salvaged.SalvagedHart.{SalvagedHart}
use Rattle.frames.specs.Start.{spans_of}
use Rattle.ffi.specs.Images.{Judged}
use Rattle.ffi.specs.Numbers.{flag}
use Rattle.ffi.specs.Statuses.{header_fault}
use Rattle.ffi.specs.Texts.{ReportsText}
use Rattle.ffi.specs.declared.fault.Fault.{Fault}
use Rattle.ffi.specs.declared.fault.Fault.TheVariants.{Memory, NoProgram, Range}
use Rattle.ffi.specs.declared.listing_capture.TheConstants.{CSV, TEXT}
use Rattle.ffi.specs.declared.salvaged.TheConstants.{HARTS_SHOWN, SUMMARY}
use Rattle.ffi.specs.declared.texts.TextEnd.{TextEnd}
use Rattle.ffi.specs.declared.texts.Written.{Written}

-- The count of harts that a number asks for; one number asks for none.
abbrev pub harts_asked : ℕ → Option ℕ
harts_asked number = if number == HARTS_SHOWN then None else Some number

-- The layout of a number.
abbrev pub layout_of : ℕ → Option Layout
layout_of number =
    if number == TEXT then Some layout.Text
    else if number == CSV then Some layout.Table
    else if number == SUMMARY then Some layout.Summary
    else None

-- How a text ends of what is salvaged of these harts, in numbers: how many they are; the first of them that is not
-- closed, or where each is, how many they are; why there is no valid header; and whether nothing is damaged, and no
-- byte belongs to no frame.
abbrev pub own_end : HartRange → Option MessageFault → Bool → List (SalvagedHart Global) → ℕ → TextEnd
own_end only why runs harts strangers = record {
  harts = length harts;
  unclosed = unwrap_or (first_unclosed only.first (closed_harts harts)) (length harts);
  place = 0;
  fault = header_fault why;
  whole = flag (is_none why && (is_none (first_unclosed only.first (closed_harts harts))
      && (not (is_damaged harts strangers) && not runs)));
}

abbrev pub salvage_end : HartRange → Option MessageFault → Bool → Salvaged Global → TextEnd
salvage_end only why runs salvaged =
    own_end only why runs (items_of only salvaged.harts.items) salvaged.strangers

-- The text is what is salvaged of a capture by the program of an image, in a layout, and how it ends.
pub record HasSalvaged (layout : Layout) (image : Judged) (asked : Option ℕ) (capture text : List ℕ) (end : TextEnd)
    : Type 0 where
  pub program : Image
  pub header : Option Header
  pub why : Option MessageFault
  pub salvaged : Salvaged Global
  pub made : image ≡ Ok program
  pub found : IsSalvagedCapture asked program capture header why salvaged
  pub laid_out : text ≡ salvaged_as layout None every_hart header (spans_of header capture) salvaged
  pub ended : end ≡ salvage_end every_hart why (list_any is_run (spans_of header capture)) salvaged

-- The result for a capture, in a layout that is named: what is salvaged of it; or the image makes no program; or an
-- allocation failed.
abbrev pub IsSalvagedAs : Layout → Judged → Option ℕ → List ℕ → Result Written Fault → Type 0
IsSalvagedAs layout image asked capture (Ok found) = HasSalvaged layout image asked capture found.text.items found.end
IsSalvagedAs layout image asked capture (Err Memory) = Unit {0}
IsSalvagedAs layout image asked capture (Err (NoProgram why)) = image ≡ Err why
IsSalvagedAs layout image asked capture (Err other) = ⊥

-- The same, where the layout is a number: it comes first, and names none, or the layout.
pub data IsSalvagedIn (image : Judged) (harts : ℕ) (capture : List ℕ) (format : ℕ) (written : Result Written Fault)
    : Type 0 where
  NoLayout : layout_of format ≡ None → written ≡ Err Range
      → IsSalvagedIn image harts capture format written
  InLayout : (named : Layout) → layout_of format ≡ Some named
      → IsSalvagedAs named image (harts_asked harts) capture written
      → IsSalvagedIn image harts capture format written

-- What is salvaged of a capture was written, and the result was reported.
abbrev pub ReportsSalvage : Judged → ℕ → List ℕ → ℕ → ℕ → ℕ → ℕ → TextEnd → TextEnd → List ℕ → List ℕ → Type 0
ReportsSalvage image harts capture format status wanted_before wanted ended_before ended old new =
    (written : Result Written Fault) × IsSalvagedIn image harts capture format written
    × ReportsText written status wanted_before wanted ended_before ended old new
