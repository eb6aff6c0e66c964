-- Lines that were worked by hand, as the definition gives them.
use Rattle.std.proofs.Common.{None, ◌≡◌, ℕ, ◌+◌, true, false, List, [], ◌∷◌, ◌++◌, refl}
use Rattle.std.specs.Prelude.{codes}
use Rattle.rvclass.specs.Piece.{Piece, piece_at}
use Rattle.retire.specs.declared.event.Event.{Event}
use Rattle.retire.specs.declared.event.Event.TheVariants.{Retire, Trap}
use Rattle.rvclass.specs.Fetch.{words_of}
use Rattle.rvclass.specs.Word16.{class16}
use Rattle.rvclass.specs.Word32.{class32}
use Rattle.rvclass.specs.Image.{Image, image_at}
use Rattle.legalpath.specs.declared.fault.Why.{Why}
use Rattle.legalpath.specs.declared.fault.Why.TheVariants.{OffProgram, NotRetirable, WrongType, WrongNext}
use Rattle.legalpath.specs.declared.fault.Why.TheVariants.{WrongPrivilege, WrongEpc}
use Rattle.std.specs.Fmt.{digits}
use Rattle.explaining.specs.Explanation.{explanation}

abbrev base : ℕ
base = 0x8000_0000

-- BEQ to 80000008, ADDI, ECALL, JAL to 80000014, MRET, SRET, JALR by ra, C.NOP, and C.J to itself.
abbrev image : Image
image = image_at base
    (0x63 ∷ 0x04 ∷ 0x00 ∷ 0x00
    ∷ 0x13 ∷ 0x00 ∷ 0x00 ∷ 0x00
    ∷ 0x73 ∷ 0x00 ∷ 0x00 ∷ 0x00
    ∷ 0x6f ∷ 0x00 ∷ 0x80 ∷ 0x00
    ∷ 0x73 ∷ 0x00 ∷ 0x20 ∷ 0x30
    ∷ 0x73 ∷ 0x00 ∷ 0x20 ∷ 0x10
    ∷ 0x67 ∷ 0x80 ∷ 0x00 ∷ 0x00
    ∷ 0x01 ∷ 0x00
    ∷ 0x01 ∷ 0xa0 ∷ [])

-- A retirement so far from the base, of this type and privilege.
abbrev at : ℕ → ℕ → ℕ → Event
at offset itype priv = Retire (base + offset) itype priv

-- An exception with this cause and an interrupt with this value so far from the base, from this privilege.
abbrev exception : ℕ → ℕ → ℕ → Event
exception offset priv cause = Trap priv false cause (base + offset) 0

abbrev interrupt : ℕ → ℕ → ℕ → Event
interrupt offset priv value = Trap priv true 7 (base + offset) value

-- The line of a log's row with this reason.
abbrev line : List Event → ℕ → Why → List ℕ
line log row why = explanation None image log (record { row = row; why = why })

off_program : line (at 0x20 0 3 ∷ []) 1 OffProgram
    ≡ codes "  80000020: no whole word: the image is 80000000 to 8000001f\n"
unfolding words_of class16 class32 digits
off_program = refl

no_image : explanation None (image_at base []) (at 0 0 3 ∷ []) (record { row = 1; why = OffProgram })
    ≡ codes "  80000000: no whole word: the image is empty\n"
unfolding words_of class16 class32 digits
no_image = refl

not_retirable : line (at 8 0 3 ∷ []) 1 NotRetirable ≡ codes "  80000008: 00000073 does not retire\n"
unfolding words_of class16 class32 digits
not_retirable = refl

type_of_a_branch : line (at 0 0 3 ∷ []) 1 WrongType ≡ codes "  80000000: 00000463 is a branch: its type is 4 or 5\n"
unfolding words_of class16 class32 digits
type_of_a_branch = refl

type_of_a_plain_word : line (at 4 4 3 ∷ []) 1 WrongType
    ≡ codes "  80000004: 00000013 is a plain word: its type is 0\n"
unfolding words_of class16 class32 digits
type_of_a_plain_word = refl

type_of_a_short_word : line (at 0x1c 3 3 ∷ []) 1 WrongType ≡ codes "  8000001c: 0001 is a plain word: its type is 0\n"
unfolding words_of class16 class32 digits
type_of_a_short_word = refl

type_of_a_jump : line (at 0xc 6 3 ∷ []) 1 WrongType ≡ codes "  8000000c: 0080006f is a jump: its type is 0\n"
unfolding words_of class16 class32 digits
type_of_a_jump = refl

type_of_a_return : line (at 0x18 0 3 ∷ []) 1 WrongType
    ≡ codes "  80000018: 00008067 is an uninferable jump: its type is 6\n"
unfolding words_of class16 class32 digits
type_of_a_return = refl

type_of_mret : line (at 0x10 0 3 ∷ []) 1 WrongType ≡ codes "  80000010: 30200073 is MRET: its type is 3\n"
unfolding words_of class16 class32 digits
type_of_mret = refl

type_of_sret : line (at 0x14 0 3 ∷ []) 1 WrongType ≡ codes "  80000014: 10200073 is SRET: its type is 3\n"
unfolding words_of class16 class32 digits
type_of_sret = refl

cause_of_an_exception : line (exception 4 3 64 ∷ []) 1 WrongType
    ≡ codes "  80000004: an exception from privilege 3: its cause is at most 3f\n"
unfolding words_of class16 class32 digits
cause_of_an_exception = refl

value_of_an_interrupt : line (interrupt 4 1 5 ∷ []) 1 WrongType
    ≡ codes "  80000004: an interrupt from privilege 1: its value is 0\n"
unfolding words_of class16 class32 digits
value_of_an_interrupt = refl

behind_a_branch_not_taken : line (at 0 4 3 ∷ at 0xc 0 3 ∷ []) 2 WrongNext
    ≡ codes "  80000000: 00000463 is a branch, not taken: 80000004 follows, not 8000000c\n"
unfolding words_of class16 class32 digits
behind_a_branch_not_taken = refl

behind_a_branch_taken : line (at 0 5 3 ∷ at 4 0 3 ∷ []) 2 WrongNext
    ≡ codes "  80000000: 00000463 is a branch, taken: 80000008 follows, not 80000004\n"
unfolding words_of class16 class32 digits
behind_a_branch_taken = refl

behind_a_short_word : line (at 0x18 6 3 ∷ at 0x1c 0 3 ∷ at 0 4 3 ∷ []) 3 WrongNext
    ≡ codes "  8000001c: 0001 is a plain word: 8000001e follows, not 80000000\n"
unfolding words_of class16 class32 digits
behind_a_short_word = refl

behind_a_jump : line (at 0xc 0 3 ∷ at 0x10 3 3 ∷ []) 2 WrongNext
    ≡ codes "  8000000c: 0080006f is a jump: 80000014 follows, not 80000010\n"
unfolding words_of class16 class32 digits
behind_a_jump = refl

behind_a_short_jump : line (at 0x1e 0 3 ∷ at 0x10 3 3 ∷ []) 2 WrongNext
    ≡ codes "  8000001e: a001 is a jump: 8000001e follows, not 80000010\n"
unfolding words_of class16 class32 digits
behind_a_short_jump = refl

mret_below_machine_level : line (at 0x10 3 1 ∷ []) 1 WrongPrivilege
    ≡ codes "  80000010: 30200073 is MRET: its privilege is 3\n"
unfolding words_of class16 class32 digits
mret_below_machine_level = refl

sret_at_user_level : line (at 0x14 3 0 ∷ []) 1 WrongPrivilege
    ≡ codes "  80000014: 10200073 is SRET: its privilege is 1 or 3\n"
unfolding words_of class16 class32 digits
sret_at_user_level = refl

no_level : line (at 4 0 2 ∷ []) 1 WrongPrivilege
    ≡ codes "  80000004: 00000013 is a plain word: its privilege is 0, 1 or 3\n"
unfolding words_of class16 class32 digits
no_level = refl

no_level_of_a_trap : line (interrupt 4 2 0 ∷ []) 1 WrongPrivilege
    ≡ codes "  80000004: an interrupt from privilege 2: its privilege is 0, 1 or 3\n"
unfolding words_of class16 class32 digits
no_level_of_a_trap = refl

level_behind_a_word : line (at 0x18 6 1 ∷ exception 4 3 2 ∷ []) 2 WrongPrivilege
    ≡ codes "  80000018: 00008067 is an uninferable jump: privilege 1 follows, not 3\n"
unfolding words_of class16 class32 digits
level_behind_a_word = refl

level_behind_sret : line (at 0x14 3 1 ∷ at 4 0 3 ∷ []) 2 WrongPrivilege
    ≡ codes "  80000014: 10200073 is SRET: privilege 0 or 1 follows, not 3\n"
unfolding words_of class16 class32 digits
level_behind_sret = refl

level_behind_a_trap : line (exception 4 1 2 ∷ at 4 0 0 ∷ []) 2 WrongPrivilege
    ≡ codes "  80000004: an exception from privilege 1: privilege 1 or 3 follows, not 0\n"
unfolding words_of class16 class32 digits
level_behind_a_trap = refl

level_behind_a_trap_at_machine_level : line (interrupt 4 3 0 ∷ at 4 0 1 ∷ []) 2 WrongPrivilege
    ≡ codes "  80000004: an interrupt from privilege 3: privilege 3 follows, not 1\n"
unfolding words_of class16 class32 digits
level_behind_a_trap_at_machine_level = refl

odd_address_of_a_trap : line (exception 5 3 2 ∷ []) 1 WrongEpc
    ≡ codes "  80000005: an exception from privilege 3: its address is even\n"
unfolding words_of class16 class32 digits
odd_address_of_a_trap = refl

trap_behind_a_plain_word : line (at 4 0 3 ∷ interrupt 4 3 0 ∷ []) 2 WrongEpc
    ≡ codes "  80000004: 00000013 is a plain word: 80000008 follows, not 80000004\n"
unfolding words_of class16 class32 digits
trap_behind_a_plain_word = refl

-- The lines of the first row of a log, which is off this image.
abbrev off : List ℕ → List ℕ
off bytes = explanation None (image_at base bytes) (at 0x20 0 3 ∷ []) (record { row = 1; why = OffProgram })

elf_file : off (0x7f ∷ 0x45 ∷ 0x4c ∷ 0x46 ∷ 0x02 ∷ [])
    ≡ codes "  80000020: no whole word: the image is 80000000 to 80000004\n"
    ++ codes "  the image looks like an ELF file: give it the raw bytes (tools/image, or objcopy -O binary)\n"
unfolding words_of class16 class32 digits
elf_file = refl

first_bytes_of_an_elf_file : off (0x7f ∷ 0x45 ∷ 0x4c ∷ [])
    ≡ codes "  80000020: no whole word: the image is 80000000 to 80000002\n"
unfolding words_of class16 class32 digits
first_bytes_of_an_elf_file = refl

no_elf_file : off (0x7f ∷ 0x45 ∷ 0x4c ∷ 0x47 ∷ [])
    ≡ codes "  80000020: no whole word: the image is 80000000 to 80000003\n"
unfolding words_of class16 class32 digits
no_elf_file = refl

-- The line of the first row of a log, which is off this image.
abbrev off_pieces : Image → List ℕ
off_pieces pieces = explanation None pieces (at 0x20 0 3 ∷ []) (record { row = 1; why = OffProgram })

-- Two bytes from an address on.
abbrev two_at : ℕ → Piece
two_at addr = piece_at addr (0x01 ∷ 0x00 ∷ [])

ranges_in_order : off_pieces (two_at 0x8000_0000 ∷ two_at 0x1000 ∷ [])
    ≡ codes "  80000020: no whole word: the image is 1000 to 1001, 80000000 to 80000001\n"
unfolding words_of class16 class32 digits
ranges_in_order = refl

pieces_that_touch : off_pieces (two_at 0x8000_0000 ∷ two_at 0x7fff_fffe ∷ two_at 0x8000_0002 ∷ [])
    ≡ codes "  80000020: no whole word: the image is 7ffffffe to 80000003\n"
unfolding words_of class16 class32 digits
pieces_that_touch = refl

a_piece_without_bytes : off_pieces (piece_at 0x10 [] ∷ two_at 0x1000 ∷ [])
    ≡ codes "  80000020: no whole word: the image is 1000 to 1001\n"
unfolding words_of class16 class32 digits
a_piece_without_bytes = refl

four_ranges : off_pieces (two_at 0x20 ∷ two_at 0x10 ∷ two_at 0x30 ∷ two_at 0x40 ∷ [])
    ≡ codes "  80000020: no whole word: the image is 10 to 11, 20 to 21, 30 to 31, 40 to 41\n"
unfolding words_of class16 class32 digits
four_ranges = refl

six_ranges : off_pieces (two_at 0x20 ∷ two_at 0x10 ∷ two_at 0x30 ∷ two_at 0x40 ∷ two_at 0x50 ∷ two_at 0x60 ∷ [])
    ≡ codes "  80000020: no whole word: the image is 10 to 11, 20 to 21, 30 to 31, 40 to 41, and 2 more\n"
unfolding words_of class16 class32 digits
six_ranges = refl

an_elf_file_at_the_lowest_address : off_pieces (two_at 0x1000 ∷ piece_at 0x10 (0x7f ∷ 0x45 ∷ 0x4c ∷ 0x46 ∷ []) ∷ [])
    ≡ codes "  80000020: no whole word: the image is 10 to 13, 1000 to 1001\n"
    ++ codes "  the image looks like an ELF file: give it the raw bytes (tools/image, or objcopy -O binary)\n"
unfolding words_of class16 class32 digits
an_elf_file_at_the_lowest_address = refl

no_such_row : line (at 4 0 3 ∷ []) 2 WrongNext ≡ []
no_such_row = refl
