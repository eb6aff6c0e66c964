-- Which bytes make a program.
use Rattle.std.specs.Prelude.{ℕ, ◌+◌, ◌%◌, ◌^◌, nat_le, nat_lt, ◌==◌, not, if◌then◌else◌, List, length, Result, Ok, Err}
use Rattle.rvclass.specs.Image.{Image, image_at}
use Rattle.rvclass.specs.declared.fault.ProgramFault.{ProgramFault}
use Rattle.rvclass.specs.declared.fault.ProgramFault.TheVariants.{OddBase, TooLarge, PastEnd}

-- The program of these bytes from a base on, or the first fault that applies.
abbrev pub program_of : ℕ → List ℕ → Result Image ProgramFault
program_of base bytes =
    if not (base % 2 == 0) then Err OddBase else
    if nat_lt (2 ^ 24) (length bytes) then Err TooLarge else
    if nat_le (2 ^ 64) (base + length bytes) then Err PastEnd else
    Ok (image_at base bytes)
