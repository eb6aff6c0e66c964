-- What explains the events of a log.
use Rattle.std.specs.Prelude.{◌⊎◌, List}
use Rattle.retire.specs.declared.event.Event.{Event}
use Rattle.rvclass.specs.Image.{Image}
use Rattle.ffi.specs.Explained.{IsIllegal, IsLegal}
use Rattle.ffi.specs.declared.explaining_log.Explained.{Explained}

-- The text is what explains the first illegal row of these events, if there is one.
abbrev pub IsExplainedOf : Image → List Event → Explained → Type 0
IsExplainedOf program events found =
    IsLegal program events found.text.items found.end ⊎ IsIllegal program events found.text.items found.end
