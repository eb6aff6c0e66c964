-- The header of some harts has its numbers within their ranges.
use Rattle.std.proofs.Common.{ℕ, ◌^◌, ◌<◌, ◌≤◌, arith}
use Rattle.captures.specs.Versions.{MayStart}
use Rattle.message.specs.Version.{most_harts}
use Rattle.message.specs.declared.header.Version.{Version}
use Rattle.message.specs.declared.header.Version.TheVariants.{One, Two}
use Rattle.payload.specs.declared.mode.Mode.{Mode}

-- A period that is not 0, and a hart at least, and at most as many as the version has.
pub may_start : (version : Version) (period : ℕ) (mode : Mode) (harts : ℕ) → 1 ≤ period → period < 2 ^ 16
    → 1 ≤ harts → harts ≤ most_harts version
    → MayStart version (record { mode = mode; period = period; harts = harts })
may_start One period mode harts some fits first few = tt
may_start Two period mode harts some fits first few =
    record { some_period = some; period = fits; some_harts = first; harts = few }

-- The harts of a version are few.
pub few_harts : (version : Version) → most_harts version ≤ 1024
few_harts One = omega arith
few_harts Two = omega arith
