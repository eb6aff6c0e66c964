-- What a place is named, as the code holds it.
use Rattle.symbols.specs.Nearest.{Naming}
use Rattle.symbols.specs.declared.named.Named.{Named}

-- The name and the distance.
abbrev pub naming : Named → Naming
naming named = record { name = named.name.now; distance = named.distance }
