-- The texts of why nothing is sent at all.
use Rattle.std.specs.Prelude.{ℕ, List, codes}
use Rattle.bench.specs.declared.setup.Setup.{Setup}
use Rattle.bench.specs.declared.setup.Setup.TheVariants as setup

-- Why nothing is sent at all, as a line of text.
abbrev pub setup_text : Setup → List ℕ
setup_text setup.NoHarts = codes "no harts"
setup_text setup.TooManyHarts = codes "too many harts"
setup_text setup.Capacity = codes "capacity is not 1 to 65536"
setup_text setup.Period = codes "period is 0"
setup_text setup.Memory = codes "out of memory"
