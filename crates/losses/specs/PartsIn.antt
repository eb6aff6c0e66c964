-- The parts that the code's types represent.
use Rattle.std.specs.Prelude.{List, map}
use Rattle.losses.specs.Parts.{LogPart, Events, Missing}
use Rattle.losses.specs.declared.part.Part.{Part}
use Rattle.losses.specs.declared.part.Part.TheVariants.{Stretch, Gap}

-- The part that a part of the code represents.
abbrev pub part_of : {A : Type 0} → Part A → LogPart
part_of (Stretch events) = Events events.items
part_of (Gap missing) = Missing missing

-- The parts that a list of parts of the code represents.
abbrev pub parts_in : {A : Type 0} → List (Part A) → List LogPart
parts_in parts = map part_of parts
