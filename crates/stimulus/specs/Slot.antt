-- The instructions of a program's slots, by the RISC-V Unprivileged ISA. A slot is 4 bytes: one instruction of 4
-- bytes, or
-- two of 2 bytes. `from` is the number of the slot, and `bits` are 32 bits that were drawn for it.
use Rattle.std.specs.Prelude.{ℕ, ◌+◌, ◌-◌, ◌*◌, ◌/◌, ◌%◌, nat_lt, if◌then◌else◌}
use Rattle.stimulus.specs.declared.mix.Bounds.{Bounds}

-- How far ahead a slot is of another, in bytes, modulo a power of two.
unfoldable pub ahead : ℕ → ℕ → ℕ → ℕ
ahead modulus from to = (4 * to + modulus * 8 - 4 * from) % modulus

-- The same from the second half of a slot, modulo 4096.
unfoldable pub behind_half : ℕ → ℕ → ℕ
behind_half from to = (4 * to + 4096 - 4 * from - 2) % 4096

-- Two instructions of 2 bytes.
unfoldable pub pair : ℕ → ℕ → ℕ
pair low high = low + 65536 * high

-- C.LI, of any register and value.
unfoldable pub load : ℕ → ℕ
load bits = 0x4001 + 4 * (bits % 2048)

-- ADDI, of any registers and value.
unfoldable pub add : ℕ → ℕ
add bits = 0x13 + 0x80 * (bits % 32) + 0x8000 * (bits / 32 % 131072)

-- A conditional branch so far ahead, modulo 8192. All six conditions come.
unfoldable pub branch : ℕ → ℕ → ℕ
branch far bits =
    0x63 + 0x80 * (far / 2048 % 2) + 0x100 * (far / 2 % 16)
    + 0x1000 * (bits % 6 + 2 * ((bits % 6 + 4) / 6))
    + 0x8000 * (bits / 8 % 1024) + 0x2000000 * (far / 32 % 64) + 0x80000000 * (far / 4096 % 2)

-- C.BEQZ or C.BNEZ so far ahead, modulo 512.
unfoldable pub short_branch : ℕ → ℕ → ℕ
short_branch far bits =
    0xc001 + 4 * (far / 32 % 2) + 8 * (far / 2 % 4) + 0x20 * (far / 64 % 4) + 0x80 * (bits % 8)
    + 0x400 * (far / 8 % 4) + 0x1000 * (far / 256 % 2) + 0x2000 * (bits / 8 % 2)

-- JAL so far ahead, modulo 2^21, with any link register.
unfoldable pub jump : ℕ → ℕ → ℕ
jump far bits =
    0x6f + 0x80 * (bits % 32) + 0x1000 * (far / 4096 % 256) + 0x100000 * (far / 2048 % 2)
    + 0x200000 * (far / 2 % 1024) + 0x80000000 * (far / 1048576 % 2)

-- C.J so far ahead, modulo 4096.
unfoldable pub short_jump : ℕ → ℕ
short_jump far =
    0xa001 + 4 * (far / 32 % 2) + 8 * (far / 2 % 8) + 0x40 * (far / 128 % 2) + 0x80 * (far / 64 % 2)
    + 0x100 * (far / 1024 % 2) + 0x200 * (far / 256 % 4) + 0x800 * (far / 16 % 2) + 0x1000 * (far / 2048 % 2)

-- JALR through a register that is not 0, with any link register and offset.
unfoldable pub computed : ℕ → ℕ
computed bits = 0x67 + 0x80 * (bits % 32) + 0x8000 * (1 + bits / 32 % 31) + 0x100000 * (bits / 1024 % 4096)

-- C.JR or C.JALR through a register that is not 0.
unfoldable pub short_computed : ℕ → ℕ
short_computed bits = 0x8002 + 0x80 * (1 + bits % 31) + 0x1000 * (bits / 32 % 2)

-- The word of the slot `from`, whose kind is chosen by `pick`, below 256.
unfoldable pub slot_word : Bounds → ℕ → ℕ → ℕ → ℕ
slot_word bounds from pick bits =
    if nat_lt pick bounds.short_plain then pair (load bits) (load (bits / 2048)) else
    if nat_lt pick bounds.plain then add bits else
    if nat_lt pick bounds.branch then branch (ahead 8192 from (bits % 1024)) (bits / 1024) else
    if nat_lt pick bounds.short_branch
    then pair (short_branch (ahead 512 from (from / 4 * 4 + bits % 4)) (bits / 64)) (load (bits / 2048)) else
    if nat_lt pick bounds.jump then jump (ahead 2097152 from (bits % 1024)) (bits / 1024) else
    if nat_lt pick bounds.short_jump
    then pair (load (bits / 2048)) (short_jump (behind_half from (from / 512 * 512 + bits % 512))) else
    if nat_lt pick bounds.computed then computed bits else
    if nat_lt pick bounds.short_computed then pair (load (bits / 2048)) (short_computed bits) else
    if nat_lt pick bounds.mret then 0x30200073 else
    if nat_lt pick bounds.sret then 0x10200073 else
    0x73
