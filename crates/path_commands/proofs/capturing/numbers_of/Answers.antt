-- A power of 2 is known by its exponent: by lemmas on numbers.
use Rattle.std.proofs.Common.{◌∙◌, ◌≤◌, ap, arith, subst, sym, Some}
use Rattle.std.proofs.lemmas.Nat.{one_shl, pow_below}
use Rattle.command_inputs.specs.Limits.{AreBitsIfGiven}
use Rattle.path_commands.specs.Capturing.{numbers_of}
use Rattle.path_commands.proofs.capturing.numbers_of.Goals as goal

pub returns-in-Some : goal.returns-in-Some
returns-in-Some c =
    let bits = c.in-Some.bits in
    let known : (4 ≤ bits) × (bits ≤ 32) = subst AreBitsIfGiven c.in-Some.is c.requires in
    let is = one_shl bits 64 (omega (arith, known)) in
    let more = pow_below 1 bits (omega (arith, known)) in
    record { value = ap Some is ∙ ap numbers_of (sym c.in-Some.is); some = omega (arith, is, more) }
