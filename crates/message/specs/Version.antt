-- Of how many harts a capture has the logs.
use Rattle.std.specs.Prelude.{ℕ}
use Rattle.message.specs.declared.header.Version.{Version}
use Rattle.message.specs.declared.header.Version.TheVariants.{One, Two}

-- The most logs, one of each hart, that a capture of this version is made of.
abbrev pub most_harts : Version → ℕ
most_harts One = 64
most_harts Two = 1024
