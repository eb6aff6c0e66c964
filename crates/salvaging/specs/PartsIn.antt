-- The parts that the code's types represent.
use Rattle.std.specs.Prelude.{List, map}
use Rattle.salvaging.specs.LeftParts.{LeftPart, Missing, Events, BadNumber, DoubtfulNumber, AloneNumber}
use Rattle.salvaging.specs.declared.part.Part.{Part}
use Rattle.salvaging.specs.declared.part.Part.TheVariants.{Gap, Stretch, Bad, Doubtful, Alone}

-- The part that a part of the code represents.
abbrev pub part_of : {A : Type 0} → Part A → LeftPart
part_of (Gap missing) = Missing missing
part_of (Stretch first last events) = Events first last events.items
part_of (Bad number place why) = BadNumber number place why
part_of (Doubtful number first second) = DoubtfulNumber number first second
part_of (Alone number place) = AloneNumber number place

-- The parts that a list of parts of the code represents.
abbrev pub parts_in : {A : Type 0} → List (Part A) → List LeftPart
parts_in parts = map part_of parts
