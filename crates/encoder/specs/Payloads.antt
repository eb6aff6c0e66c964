-- The payloads of a log.
use Rattle.std.specs.Prelude.{ℕ, List, map}
use Rattle.rvclass.specs.Fetch.{words_of}
use Rattle.legalpath.specs.ProgramLog.{ProgramLog}
use Rattle.payload.specs.Spelling.{payload_of}
use Rattle.payload.specs.declared.mode.Mode.{Mode}
use Rattle.encoder.specs.Packets.{packets}

-- The shortest payload of each packet of a log, at this period and in this mode.
abbrev pub payloads : ℕ → Mode → ProgramLog → List (List ℕ)
payloads period mode log = map payload_of (packets (words_of log.program) period mode log.events)
