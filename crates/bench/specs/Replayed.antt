-- What a schedule delivers of the payloads of logs.
use Rattle.std.specs.Prelude.{ℕ, List, length, map, sum}
use Rattle.retire.specs.declared.event.Event.{Event}
use Rattle.legalpath.specs.ProgramLog.{ProgramLog}
use Rattle.payload.specs.ClosedTrace.{last_is_closing}
use Rattle.payload.specs.declared.mode.Mode.{Mode}
use Rattle.encoder.specs.Payloads.{payloads}
use Rattle.message.specs.OfHart.{packets_in}
use Rattle.message.specs.declared.message.Message.{Message}
use Rattle.funnel.specs.Machine.{Funnel, after_turns, opening}
use Rattle.funnel.specs.Payloads.{payloads_in}
use Rattle.funnel.specs.declared.turn.Turn.{Turn}
use Rattle.bench.specs.Got.{Got}

-- The state of the funnel machine after these turns, where the harts have the payloads of these logs at this period and
-- in this mode.
abbrev pub replayed : ℕ → Mode → ℕ → List ProgramLog → List Turn → Funnel
replayed period mode capacity logs turns =
    after_turns capacity (map (payloads period mode) logs) turns (opening (map (payloads period mode) logs))

-- What a hart's messages give, if their packets decode to these events.
abbrev pub got_from : List Message → List Event → Got
got_from messages decoded = record {
  packets = packets_in messages;
  taken = length messages;
  bytes = sum (map length (payloads_in messages));
  decoded = decoded;
  closed = last_is_closing (packets_in messages);
}
