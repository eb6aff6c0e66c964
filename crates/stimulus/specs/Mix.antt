-- The names of mixes, and the kinds of instructions of each.
use Rattle.std.specs.Prelude.{◌≡◌, ◌≢◌, ℕ, List, Option, Some, None, codes}
use Rattle.stimulus.specs.declared.mix.Bounds.{Bounds}
use Rattle.stimulus.specs.declared.mix.Habits.{Habits}
use Rattle.stimulus.specs.declared.mix.Mix.{Mix}
use Rattle.stimulus.specs.declared.mix.Mix.TheVariants.{Mixed, Branches, Jumps, Traps, Longest, Straight}

-- The name of a mix.
abbrev pub name_of : Mix → List ℕ
name_of Mixed = codes "mixed"
name_of Branches = codes "branches"
name_of Jumps = codes "jumps"
name_of Traps = codes "traps"
name_of Longest = codes "longest"
name_of Straight = codes "straight"

-- The mix of a name is found, or none where it is the name of none.
abbrev pub IsNamed : List ℕ → Option Mix → Type 0
IsNamed name (Some mix) = name ≡ name_of mix
IsNamed name None = (mix : Mix) → name ≢ name_of mix

-- Branches of 4 bytes.
abbrev pub only_branches : Bounds
only_branches = record {
  short_plain = 0;
  plain = 0;
  branch = 256;
  short_branch = 256;
  jump = 256;
  short_jump = 256;
  computed = 256;
  short_computed = 256;
  mret = 256;
  sret = 256;
}

-- Pairs of a plain instruction and a computed jump.
abbrev pub only_jumps : Bounds
only_jumps = record {
  short_plain = 0;
  plain = 0;
  branch = 0;
  short_branch = 0;
  jump = 0;
  short_jump = 0;
  computed = 0;
  short_computed = 256;
  mret = 256;
  sret = 256;
}

-- Plain instructions of both lengths.
abbrev pub only_plain : Bounds
only_plain = record {
  short_plain = 128;
  plain = 256;
  branch = 256;
  short_branch = 256;
  jump = 256;
  short_jump = 256;
  computed = 256;
  short_computed = 256;
  mret = 256;
  sret = 256;
}

-- All kinds.
abbrev pub all_kinds : Bounds
all_kinds = record {
  short_plain = 56;
  plain = 112;
  branch = 160;
  short_branch = 184;
  jump = 196;
  short_jump = 208;
  computed = 220;
  short_computed = 238;
  mret = 246;
  sret = 252;
}

-- Where each kind of instruction ends among the 256 values that choose the kind of a slot, in a program of this mix.
abbrev pub bounds_of : Mix → Bounds
bounds_of Mixed = all_kinds
bounds_of Branches = only_branches
bounds_of Jumps = only_jumps
bounds_of Traps = all_kinds
bounds_of Longest = all_kinds
bounds_of Straight = only_plain

-- The habits with these numbers.
abbrev pub habits_with : ℕ → ℕ → ℕ → ℕ → Habits
habits_with traps nested interrupts shortened =
    record { traps = traps; nested = nested; interrupts = interrupts; shortened = shortened }

-- How harts behave that run a program of this mix.
abbrev pub habits_of : Mix → Habits
habits_of Mixed = habits_with 512 16384 128 63
habits_of Branches = habits_with 0 0 0 63
habits_of Jumps = habits_with 0 0 0 63
habits_of Traps = habits_with 21845 21845 128 63
habits_of Longest = habits_with 49152 49152 0 7
habits_of Straight = habits_with 16 16 128 63
