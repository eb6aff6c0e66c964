-- The spans so far are read.
use Rattle.frames.specs.Search.{chosen}
use Rattle.salvage_reports.proofs.OffsetLists.{ReadSo}
use Rattle.salvage_reports.proofs.frame_reading.frames_of.Given as goal

abbrev pub invariant-loop-span : goal.invariant-loop-span
invariant-loop-span l = ReadSo l.harts (chosen l.only l.fn.spans) (chosen l.only l.span-iterator) l.frames
