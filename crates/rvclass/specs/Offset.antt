-- The offsets of jumps and branches, by the immediate formats of the RISC-V Unprivileged ISA: which bits of the
-- instruction are which bits of the offset. Bit 0 of each offset is 0.
use Rattle.std.specs.Prelude.{ℕ, ◌+◌, ◌*◌, ◌^◌}
use Rattle.rvclass.specs.Bits.{bits}

-- The offset of JAL, 21 bits.
abbrev pub j_offset : ℕ → ℕ
j_offset w = 2 ^ 20 * bits w 31 31 + 2 ^ 12 * bits w 19 12 + 2 ^ 11 * bits w 20 20 + 2 * bits w 30 21

-- The offset of a conditional branch, 13 bits.
abbrev pub b_offset : ℕ → ℕ
b_offset w = 2 ^ 12 * bits w 31 31 + 2 ^ 11 * bits w 7 7 + 2 ^ 5 * bits w 30 25 + 2 * bits w 11 8

-- The offset of JALR with its bit 0 cleared, 12 bits.
abbrev pub i_offset : ℕ → ℕ
i_offset w = 2 * bits w 31 21

-- The offset of C.J, 12 bits.
abbrev pub cj_offset : ℕ → ℕ
cj_offset w = 2 ^ 11 * bits w 12 12 + 2 ^ 10 * bits w 8 8 + 2 ^ 8 * bits w 10 9 + 2 ^ 7 * bits w 6 6
    + 2 ^ 6 * bits w 7 7 + 2 ^ 5 * bits w 2 2 + 2 ^ 4 * bits w 11 11 + 2 * bits w 5 3

-- The offset of C.BEQZ and C.BNEZ, 9 bits.
abbrev pub cb_offset : ℕ → ℕ
cb_offset w = 2 ^ 8 * bits w 12 12 + 2 ^ 6 * bits w 6 5 + 2 ^ 5 * bits w 2 2 + 2 ^ 3 * bits w 11 10 + 2 * bits w 4 3
