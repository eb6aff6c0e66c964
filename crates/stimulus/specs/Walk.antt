-- How a hart walks through a program: what it draws where the program leaves it open.
use Rattle.std.specs.Prelude.{ℕ, zero, suc, ◌+◌, ◌*◌, ◌/◌, ◌%◌, ◌^◌, ◌==◌, ◌&&◌, ◌||◌, is_some, max, nat_le, nat_lt, not}
use Rattle.std.specs.Prelude.{if◌then◌else◌, Bool, true, false, List, [], ◌∷◌, ◌++◌, Option, Some, None}
use Rattle.rand_pcg.specs.Pcg.{pcg32}
use Rattle.retire.specs.Itype as types
use Rattle.retire.specs.declared.event.Event.{Event}
use Rattle.retire.specs.declared.event.Event.TheVariants.{Retire, Trap}
use Rattle.rvclass.specs.Image.{Image}
use Rattle.rvclass.specs.Memory.{base_of, byte_count}
use Rattle.rvclass.specs.Words.{Word, Words}
use Rattle.rvclass.specs.declared.class.Class.{Class}
use Rattle.rvclass.specs.declared.class.Class.TheVariants.{Plain, Jump, Branch, Uninferable, TrapReturn, NotRetirable}
use Rattle.legalpath.specs.Allowed.{greatest_after, may_retire_at}
use Rattle.stimulus.specs.ImageBytes.{generator}
use Rattle.stimulus.specs.Mix.{habits_of}
use Rattle.stimulus.specs.declared.mix.Mix.{Mix}
use Rattle.stimulus.specs.declared.walk.Extent.{Extent}
use Rattle.stimulus.specs.declared.walk.Walk.{Walk}

-- Where the slots of a program are: its pieces are taken for one from the lowest base on.
abbrev pub extent_of : Image → Extent
extent_of program = record { base = base_of program; size = byte_count program }

-- A number of 64 bits, shortened by a drawn count of bits, at most so many.
unfoldable pub number : ℕ → Walk → ℕ × Walk
number most walk =
    let low = pcg32 walk.random in
    let high = pcg32 low.1 in
    let by = pcg32 high.1 in
    ((high.0 * 4294967296 + low.0) / 2 ^ (by.0 % (most % 64 + 1)), record walk { random = by.1 })

-- The hart lands at the start of a drawn slot.
unfoldable pub lands : Walk → Walk
lands walk =
    let draw = pcg32 walk.random in
    record walk {
      random = draw.1;
      at = (walk.extent.base + draw.0 % max walk.extent.size 4 / 4 * 4) % 2 ^ 64;
      is_free = true;
    }

-- The instruction at the place retires, and leads to this address alone.
abbrev pub retires_to : ℕ → ℕ → Walk → Event × Walk
retires_to itype to walk = (Retire walk.at itype walk.privilege, record walk { at = to; is_free = false })

-- The instruction at the place retires, and leads anywhere.
abbrev pub retires_free : ℕ → Walk → Event × Walk
retires_free itype walk = (Retire walk.at itype walk.privilege, lands walk)

-- The level that a draw says, at most this one.
unfoldable pub level_of : ℕ → ℕ → ℕ
level_of greatest draw = if nat_lt greatest 3 then draw % 2 else (if draw % 3 == 2 then 3 else draw % 3)

-- The hart goes on at a drawn level, at most this one.
unfoldable pub levels : ℕ → Walk → Walk
levels greatest walk =
    let draw = pcg32 walk.random in record walk { random = draw.1; privilege = level_of greatest draw.0 }

-- The handler runs at machine level, after half of the traps from below at supervisor level.
abbrev pub raised : Bool → Walk → Walk
raised true walk = walk
raised false walk =
    let draw = pcg32 walk.random in
    record walk { random = draw.1; privilege = if draw.0 % 2 == 0 then 3 else 1 }

-- After a trap the hart lands in its handler.
unfoldable pub handles : Walk → Walk
handles walk = let landed = lands walk in raised (landed.privilege == 3) landed

-- The exception program counter of a trap: the place, or any even number.
abbrev pub epc_by : Bool → Walk → ℕ × Walk
epc_by true walk = let any = number 63 walk in (any.0 / 2 * 2, any.1)
epc_by false walk = (walk.at, walk)

-- A trap at this address by a draw: an interrupt, or an exception with a value.
abbrev pub trap_by : Bool → ℕ → ℕ → Walk → Event × Walk
trap_by true draw epc walk = (Trap walk.privilege true (draw / 1024 % 16) epc 0, walk)
trap_by false draw epc walk =
    let value = number walk.habits.shortened walk in
    (Trap value.1.privilege false (draw / 1024 % 64) epc value.0, value.1)

-- A trap that the program does not call for. Where the hart may be anywhere, each second is at any address.
unfoldable pub draws_trap : Walk → Event × Walk
draws_trap walk =
    let draw = pcg32 walk.random in
    let epc = epc_by (walk.is_free && (draw.0 / 256 % 2 == 0)) (record walk { random = draw.1 }) in
    trap_by (nat_lt (draw.0 % 256) epc.1.habits.interrupts) draw.0 epc.0 epc.1

-- An exception at the next instruction.
unfoldable pub excepts : ℕ → ℕ → Walk → Event × Walk
excepts cause value walk = (Trap walk.privilege false cause walk.at value, handles walk)

-- Whether a branch to an address is taken, by a draw: of 256 backward branches 240 are, and half of the others, and all
-- before the end of the program.
abbrev pub is_taken : Words → ℕ → ℕ → ℕ → ℕ → Bool
is_taken words to behind at draw = nat_lt (draw % 256) (if nat_le to at then 240 else 128) || not (is_some (words behind))

-- A branch retires.
abbrev pub branches_by : Bool → ℕ → ℕ → Walk → Event × Walk
branches_by true to behind walk = retires_to types.taken to walk
branches_by false to behind walk = retires_to types.not_taken behind walk

-- A branch retires as it is drawn.
unfoldable pub branches : Words → ℕ → ℕ → Walk → Event × Walk
branches words to behind walk =
    let draw = pcg32 walk.random in
    branches_by (is_taken words to behind walk.at draw.0) to behind (record walk { random = draw.1 })

-- A return from a trap retires, or is an illegal instruction at the hart's level.
abbrev pub returns_by : Bool → Class → Walk → Event × Walk
returns_by true class walk =
    let retired = retires_free types.trap_return walk in
    (retired.0, levels (greatest_after class walk.privilege) retired.1)
returns_by false class walk = excepts 2 0 walk

-- What comes at an instruction of this class, by the address after it: it retires, or is an exception.
abbrev pub comes_at : Words → Class → ℕ → Walk → Event × Walk
comes_at words Plain behind walk = retires_to types.other behind walk
comes_at words (Jump to) behind walk = retires_to types.other to walk
comes_at words (Branch to) behind walk = branches words to behind walk
comes_at words Uninferable behind walk = retires_free types.uninferable walk
comes_at words (TrapReturn ret) behind walk =
    returns_by (may_retire_at (TrapReturn ret) walk.privilege) (TrapReturn ret) walk
comes_at words NotRetirable behind walk = excepts (8 + walk.privilege % 4) 0 walk

-- What comes where this instruction is, if there is one.
abbrev pub comes_where : Words → Option Word → Walk → Event × Walk
comes_where words None walk = excepts 1 walk.at walk
comes_where words (Some word) walk = comes_at words word.0 (walk.at + word.1) walk

-- A trap that is drawn, or what comes at the place.
abbrev pub steps_by : Words → Bool → Walk → Event × Walk
steps_by words true walk = let drawn = draws_trap walk in (drawn.0, handles drawn.1)
steps_by words false walk = comes_where words (words walk.at) walk

-- How many of 65,536 events are traps that the program does not call for.
abbrev pub traps_of : Walk → ℕ
traps_of walk = if walk.is_free then walk.habits.nested else walk.habits.traps

-- The next event of a walk, and the walk after it.
unfoldable pub steps : Words → Walk → Event × Walk
steps words walk =
    let draw = pcg32 walk.random in
    steps_by words (nat_lt (draw.0 % 65536) (traps_of walk)) (record walk { random = draw.1 })

-- The generator's stream of a hart. Lower streams are those of the slots of the program.
abbrev pub stream_of : ℕ → ℕ
stream_of hart = 65536 + hart

-- The walk of a hart before its first event.
abbrev pub first_walk : Extent → Mix → ℕ → ℕ → Walk
first_walk extent mix seed hart = levels 3 (lands (record {
  extent = extent;
  habits = habits_of mix;
  random = generator seed (stream_of hart);
  at = 0;
  privilege = 3;
  is_free = true;
}))

-- The first events of a walk, so many, and the walk after them.
unfoldable pub walked : Words → Walk → ℕ → List Event × Walk
walked words walk zero = ([], walk)
walked words walk (suc count) =
    let before = walked words walk count in
    let next = steps words before.1 in
    (before.0 ++ next.0 ∷ [], next.1)
