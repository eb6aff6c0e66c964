-- The text of some ranges is theirs one by one, by a lemma.
use Rattle.std.proofs.Common.{◌∙◌, sym}
use Rattle.std.proofs.Output.{has_written_of_eq}
use Rattle.rvclass.specs.Memory.{in_order}
use Rattle.explaining.proofs.RangeTextsLemmas.{image_is}
use Rattle.explaining.specs.Ranges.{ranges_of}
use Rattle.explaining.proofs.ranges.ImageRangesDisplay.fmt.Goals as goal

pub returns-in-Some-clause-writes : goal.returns-in-Some-clause-writes
returns-in-Some-clause-writes g c = λ plain ok.
    has_written_of_eq _ _ _ _ _
    (image_is (ranges_of (in_order c.args.self.now.0.now)) c.in-Some.range (sym c.range_at.ensures ∙ c.in-Some.is))
    (c.write.ensures.writes plain ok)
