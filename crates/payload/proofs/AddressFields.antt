-- An address field names the address that it holds or whose difference it holds.
use Rattle.std.proofs.Common.{◌≡◌, ◌<◌, ◌^◌, ℕ, refl, arith}
use Rattle.payload.specs.AddressField.{aim, delta}
use Rattle.payload.specs.declared.mode.Mode.{Mode}
use Rattle.payload.specs.declared.mode.Mode.TheVariants.{Differential, Full}

pub aim-delta : (mode : Mode) (reported address : ℕ) → address < 2 ^ 64
    → aim mode reported (delta mode reported address) ≡ address
aim-delta Differential reported address a = omega arith
aim-delta Full reported address a = refl
