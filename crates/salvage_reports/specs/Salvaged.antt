-- What is written of what is salvaged of a capture that may be damaged.
use Rattle.std.specs.Prelude.{ℕ, List, Option, None}
use Rattle.std.specs.declared.alloc.Global.{Global}
use Rattle.message.specs.declared.range.HartRange.{HartRange}
use Rattle.message.specs.declared.fault.MessageFault.{MessageFault}
use Rattle.message.specs.declared.header.Header.{Header}
use Rattle.output.specs.Begun.{AppendsBeginning}
use Rattle.rvclass.specs.Image.{Image}
use Rattle.salvaging.specs.declared.salvaged.Salvaged.{Salvaged}
use Rattle.frames.specs.Start.{spans_of}
use Rattle.salvage_reports.specs.Found.{IsSalvagedOf}
use Rattle.salvage_reports.specs.Layouts.{salvaged_as}
use Rattle.salvage_reports.specs.declared.found_writing.Layout.{Layout}

-- Something is salvaged of these harts of a capture, and a prefix of its text was appended.
pub record BeginsSalvaged (layout : Layout) (only : HartRange) (asked : Option ℕ) (program : Image) (bytes : List ℕ)
    (old new : Option (List ℕ)) : Type 0 where
  pub header : Option Header
  pub why : Option MessageFault
  pub salvaged : Salvaged Global
  pub found : IsSalvagedOf only asked program bytes header why salvaged
  pub begun : AppendsBeginning (salvaged_as layout None only header (spans_of header bytes) salvaged) old new
