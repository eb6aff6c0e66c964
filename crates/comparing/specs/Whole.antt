-- When a comparison is whole.
use Rattle.std.specs.Prelude.{ℕ, ◌≡◌, ◌<◌, ◌^◌, ◌↔◌, true, Bool, List, Option, None, length, map, replicate}
use Rattle.bench.specs.Got.{Got}
use Rattle.captures.specs.Decoded.{IsDecoded, IsDecodedOf}
use Rattle.captures.specs.declared.outcome.CaptureFault.{CaptureFault}
use Rattle.message.specs.Range.{every_hart}
use Rattle.message.specs.declared.range.HartRange.{HartRange}
use Rattle.legalpath.specs.ProgramLog.{ProgramLog}
use Rattle.retire.specs.declared.event.Event.{Event}
use Rattle.rvclass.specs.Words.{Words}
use Rattle.comparing.specs.Compared.{AreGot, AreGotOf, gots_by, is_compared_whole, of_harts}
use Rattle.comparing.specs.declared.hart_count.HartCount.{HartCount}

-- The events of each log.
abbrev pub events_of_logs : List ProgramLog → List (List Event)
events_of_logs logs = map (λ (log : ProgramLog). log.events) logs

-- A capture decodes to these lists and flags, and decoding stops there, or comes to the end. As many logs as lists are
-- compared with them. That is whole if and only if decoding comes to the end, the lists are just those of the logs, and
-- each hart is closed.
abbrev pub WholeIsEqual : Type 0
WholeIsEqual =
    (count : ℕ → HartCount) (lists : List (List Event)) (closed : List Bool) (stop : Option (ℕ × CaptureFault))
    (logs : List ProgramLog) → length closed ≡ length lists → length logs ≡ length lists
    → (is_compared_whole stop (gots_by count 0 lists closed) logs ≡ true)
    ↔ ((stop ≡ None) × (lists ≡ events_of_logs logs) × (closed ≡ replicate (length lists) true))

-- The bytes of a capture decode to something of each hart, and there are as many logs. Where the result is whole, the
-- bytes decode without a fault to just the events of the logs, hart by hart, and each hart is closed.
abbrev pub WholeIsDecoded : Type 0
WholeIsDecoded =
    (words : Words) (harts : ℕ) (bytes : List ℕ) (gots : List Got) (stop : Option (ℕ × CaptureFault))
    (logs : List ProgramLog) → AreGot words harts bytes gots stop → length logs ≡ length gots
    → is_compared_whole stop gots logs ≡ true
    → IsDecoded words harts bytes (events_of_logs logs) (replicate (length gots) true) None

-- The same of some harts. There are as many logs as the lists of these. That is whole if and only if decoding comes to
-- the end, the lists of these harts are just those of the logs, and each of them is closed.
abbrev pub WholeOfHartsIsEqual : Type 0
WholeOfHartsIsEqual =
    (range : HartRange) (count : ℕ → HartCount) (lists : List (List Event)) (closed : List Bool)
    (stop : Option (ℕ × CaptureFault)) (logs : List ProgramLog) → length closed ≡ length lists
    → length logs ≡ length (of_harts range lists)
    → (is_compared_whole stop (of_harts range (gots_by count 0 lists closed)) logs ≡ true)
    ↔ ((stop ≡ None) × (of_harts range lists ≡ events_of_logs logs)
    × (of_harts range closed ≡ replicate (length logs) true))

-- The bytes of a capture decode without a fault to just the events of these logs, one for each of these harts that it
-- has, and each of these is closed. Messages of other harts are passed over.
pub record DecodesToLogs (range : HartRange) (words : Words) (harts : ℕ) (bytes : List ℕ) (logs : List ProgramLog)
    : Type 0 where
  pub lists : List (List Event)
  pub closed : List Bool
  pub decoded : IsDecodedOf range words harts bytes lists closed None
  pub events : of_harts range lists ≡ events_of_logs logs
  pub all_closed : of_harts range closed ≡ replicate (length logs) true

-- The bytes of a capture decode to something of each of these harts that it has, and there are as many logs. Where the
-- result is whole, the bytes decode without a fault to just the events of the logs, hart by hart, and each of these
-- harts is closed.
abbrev pub WholeOfHartsIsDecoded : Type 0
WholeOfHartsIsDecoded =
    (range : HartRange) (words : Words) (harts : ℕ) (bytes : List ℕ) (gots : List Got)
    (stop : Option (ℕ × CaptureFault)) (logs : List ProgramLog) → AreGotOf range words harts bytes gots stop
    → length logs ≡ length gots → is_compared_whole stop gots logs ≡ true → DecodesToLogs range words harts bytes logs

-- Fewer than 65,536 harts are asked for. What a capture decodes to of all harts is what it decodes to.
abbrev pub AllHartsAreGot : Type 0
AllHartsAreGot =
    (words : Words) (harts : ℕ) (bytes : List ℕ) (gots : List Got) (stop : Option (ℕ × CaptureFault))
    → harts < 2 ^ 16 → AreGotOf every_hart words harts bytes gots stop → AreGot words harts bytes gots stop
