-- The class of a 16-bit instruction, by the "C" extension's instruction listings in the RISC-V Unprivileged ISA.
use Rattle.std.specs.Prelude.{ℕ, ◌==◌, ◌&&◌, ◌||◌, not, if◌then◌else◌, Bool}
use Rattle.rvclass.specs.Bits.{bits, moved}
use Rattle.rvclass.specs.Offset.{cb_offset, cj_offset}
use Rattle.rvclass.specs.declared.class.Class.{Class}
use Rattle.rvclass.specs.declared.class.Class.TheVariants.{Plain, Jump, Branch, Uninferable, NotRetirable}

-- The instruction has this quadrant, its bits 1:0, and this funct3.
abbrev pub is_at : ℕ → ℕ → ℕ → Bool
is_at quadrant funct w = (bits w 1 0 == quadrant) && (bits w 15 13 == funct)

-- The instruction is C.J.
abbrev pub is_c_j : ℕ → Bool
is_c_j w = is_at 0b01 0b101 w

-- The instruction is C.BEQZ or C.BNEZ.
abbrev pub is_c_branch : ℕ → Bool
is_c_branch w = is_at 0b01 0b110 w || is_at 0b01 0b111 w

-- The instruction is C.JR or C.JALR: rs2 is 0 and rs1 is not.
abbrev pub is_c_jump_to_register : ℕ → Bool
is_c_jump_to_register w = is_at 0b10 0b100 w && ((bits w 6 2 == 0) && not (bits w 11 7 == 0))

-- The instruction is C.EBREAK, which raises an exception and does not retire.
abbrev pub is_c_ebreak : ℕ → Bool
is_c_ebreak w = w == 0x9002

-- The 16 bits are zeros, which the ISA defines as an illegal instruction.
abbrev pub is_zeros : ℕ → Bool
is_zeros w = w == 0

-- The class of a 16-bit instruction at an address.
unfoldable pub class16 : ℕ → ℕ → Class
class16 addr w =
    if is_c_j w then Jump (moved 12 addr (cj_offset w)) else
    if is_c_branch w then Branch (moved 9 addr (cb_offset w)) else
    if is_c_jump_to_register w then Uninferable else
    if is_c_ebreak w || is_zeros w then NotRetirable else
    Plain
