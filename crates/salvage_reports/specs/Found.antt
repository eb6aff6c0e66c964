-- What is found of some harts of a capture that may be damaged.
use Rattle.std.specs.Prelude.{◌≡◌, ℕ, List, Option}
use Rattle.std.specs.declared.alloc.Global.{Global}
use Rattle.message.specs.Range.{every_hart, selected}
use Rattle.message.specs.declared.range.HartRange.{HartRange}
use Rattle.message.specs.declared.fault.MessageFault.{MessageFault}
use Rattle.message.specs.declared.header.Header.{Header}
use Rattle.rvclass.specs.Image.{Image}
use Rattle.salvaging.specs.Salvages.{GivesSalvaged}
use Rattle.salvaging.specs.declared.salvaged.Salvaged.{Salvaged}
use Rattle.frames.specs.Harts.{harts_counted}
use Rattle.frames.specs.Search.{chosen, mode_of}
use Rattle.frames.specs.Start.{IsStart, spans_of}
use Rattle.salvage_reports.specs.Frames.{AreFrames, messages_in}
use Rattle.salvage_reports.specs.declared.found.Found.{Found}

-- A capture begins with this header, or with none, for this reason. Of the messages of its frames those of these harts
-- are read, and this is salvaged of them. This count of harts is asked for, if one is.
pub record IsSalvagedOf (only : HartRange) (asked : Option ℕ) (program : Image) (bytes : List ℕ)
    (header : Option Header) (why : Option MessageFault) (salvaged : Salvaged Global) : Type 0 where
  pub start : IsStart bytes header why
  pub left : GivesSalvaged program (harts_counted asked header bytes) (mode_of header)
      (selected only (messages_in (spans_of header bytes))) salvaged

-- This is salvaged of all messages of a capture's frames.
abbrev pub IsSalvagedCapture : Option ℕ → Image → List ℕ → Option Header → Option MessageFault → Salvaged Global
    → Type 0
IsSalvagedCapture asked program bytes header why salvaged =
    IsSalvagedOf every_hart asked program bytes header why salvaged

-- This is found of these harts of a capture, where this count of harts is asked for, if one is: what is salvaged of
-- them, and their frames.
pub record IsFound (only : HartRange) (asked : Option ℕ) (program : Image) (bytes : List ℕ) (found : Found)
    : Type 0 where
  pub only_is : found.only ≡ only
  pub salvaged : IsSalvagedOf only asked program bytes found.header found.fault found.salvaged
  pub frames : AreFrames (harts_counted asked found.header bytes) (chosen only (spans_of found.header bytes))
      found.frames

-- This is found of these harts of a capture that has so many, where it begins with this header, or with none, for this
-- reason.
pub record IsFoundBehind (header : Option Header) (why : Option MessageFault) (harts : ℕ) (only : HartRange)
    (program : Image) (bytes : List ℕ) (found : Found) : Type 0 where
  pub only_is : found.only ≡ only
  pub header_is : found.header ≡ header
  pub fault_is : found.fault ≡ why
  pub left : GivesSalvaged program harts (mode_of header) (selected only (messages_in (spans_of header bytes)))
      found.salvaged
  pub frames : AreFrames harts (chosen only (spans_of header bytes)) found.frames
