-- The position of a source of payloads.
use Rattle.std.specs.Prelude.{ℕ, ◌≡◌, ◌+◌, Option, Some, None}
use Rattle.legalpath.specs.ProgramLog.{ProgramLog}
use Rattle.payload.specs.declared.mode.Mode.{Mode}

-- A log, a period, a mode, and how many of the log's payloads at that period and in that mode come before the next one.
pub record SourceAt : Type 0 where
  pub log : ProgramLog
  pub period : ℕ
  pub mode : Mode
  pub number : ℕ

-- A source has given the payloads with numbers below this one, of a log at a period and in a mode. The first payload
-- has number 0.
abbrev pub IsAt : ℕ → Mode → ProgramLog → ℕ → SourceAt → Type 0
IsAt period mode log number source = source ≡ record { log = log; period = period; mode = mode; number = number }

-- The number after that of this payload, if there is a payload, and else this number.
abbrev pub number_behind : {A : Type 0} → ℕ → Option A → ℕ
number_behind number (Some payload) = number + 1
number_behind number None = number
