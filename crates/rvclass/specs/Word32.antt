-- The class of a 32-bit instruction, by the instruction listings of the RISC-V Unprivileged ISA and, for the trap
-- returns, of the Privileged Architecture.
use Rattle.std.specs.Prelude.{ℕ, ◌==◌, ◌&&◌, ◌||◌, not, if◌then◌else◌, Bool}
use Rattle.rvclass.specs.Bits.{bits, moved}
use Rattle.rvclass.specs.Offset.{b_offset, i_offset, j_offset}
use Rattle.rvclass.specs.declared.class.Class.{Class}
use Rattle.rvclass.specs.declared.class.Class.TheVariants.{Plain, Jump, Branch, Uninferable, TrapReturn, NotRetirable}
use Rattle.rvclass.specs.declared.class.Return.TheVariants.{Mret, Sret}

-- The instruction's opcode field.
abbrev pub opcode : ℕ → ℕ
opcode w = bits w 6 0

-- The field that distinguishes the instructions of one opcode.
abbrev pub funct3 : ℕ → ℕ
funct3 w = bits w 14 12

-- The number of the register that JALR adds its offset to.
abbrev pub rs1 : ℕ → ℕ
rs1 w = bits w 19 15

-- The instruction is JAL, by its opcode.
abbrev pub is_jal : ℕ → Bool
is_jal w = opcode w == 0b1101111

-- The instruction is JALR: that opcode, with funct3 0. The other values of funct3 are reserved.
abbrev pub is_jalr : ℕ → Bool
is_jalr w = (opcode w == 0b1100111) && (funct3 w == 0)

-- The instruction is a conditional branch: the opcode BRANCH, with any funct3 but 2 and 3, which are reserved.
abbrev pub is_branch_word : ℕ → Bool
is_branch_word w = (opcode w == 0b1100011) && (not (funct3 w == 2) && not (funct3 w == 3))

-- The instruction is ECALL, which raises an exception and does not retire.
abbrev pub is_ecall : ℕ → Bool
is_ecall w = w == 0x00000073

-- The instruction is EBREAK, which raises an exception and does not retire.
abbrev pub is_ebreak : ℕ → Bool
is_ebreak w = w == 0x00100073

-- The instruction is SRET, the return from a trap into S-mode.
abbrev pub is_sret : ℕ → Bool
is_sret w = w == 0x10200073

-- The instruction is MRET, the return from a trap into M-mode.
abbrev pub is_mret : ℕ → Bool
is_mret w = w == 0x30200073

-- The class of a 32-bit instruction at an address. This project's profile: JALR is inferable if and only if rs1 is 0.
unfoldable pub class32 : ℕ → ℕ → Class
class32 addr w =
    if is_jal w then Jump (moved 21 addr (j_offset w)) else
    if is_jalr w && (rs1 w == 0) then Jump (moved 12 0 (i_offset w)) else
    if is_jalr w then Uninferable else
    if is_branch_word w then Branch (moved 13 addr (b_offset w)) else
    if is_ecall w || is_ebreak w then NotRetirable else
    if is_sret w then TrapReturn Sret else
    if is_mret w then TrapReturn Mret else
    Plain
