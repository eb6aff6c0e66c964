-- A header is known by its numbers.
use Rattle.std.proofs.Common.{◌≡◌, refl, ap, arith}
use Rattle.message.specs.declared.header.Header.{Header}
use Rattle.payload.specs.declared.mode.Mode.{Mode}
use Rattle.payload.specs.declared.mode.Mode.TheVariants.{Differential, Full}
use Rattle.ffi.specs.Numbers.{number_of_mode}
use Rattle.ffi.specs.Sending.{numbers_of_header}
use Rattle.ffi.specs.declared.headers.HeaderNumbers.{HeaderNumbers}

-- A mode is known by its number.
same_mode : (mode other : Mode) → number_of_mode mode ≡ number_of_mode other → mode ≡ other
same_mode Differential Differential is = refl
same_mode Differential Full is = absurd (omega (arith, is))
same_mode Full Differential is = absurd (omega (arith, is))
same_mode Full Full is = refl

pub same_header : (header other : Header) → numbers_of_header header ≡ numbers_of_header other → header ≡ other
same_header header other is =
    let mode = same_mode header.mode other.mode (ap (λ (n : HeaderNumbers). n.mode) is) in
    let period = ap (λ (n : HeaderNumbers). n.period) is in
    let harts = ap (λ (n : HeaderNumbers). n.harts) is in
    λ i. record { mode = mode i; period = period i; harts = harts i }
