-- Runs: the packets of a hart's messages that came with consecutive numbers.
use Rattle.std.specs.Prelude.{ℕ, zero, suc, ◌+◌, ◌-◌, List, [], ◌∷◌, ◌++◌}
use Rattle.payload.specs.Reading.{reading}
use Rattle.payload.specs.declared.mode.Mode.{Mode}
use Rattle.payload.specs.declared.packet.Packet.{Packet}
use Rattle.payload.specs.declared.packet.Packet.TheVariants as packet
use Rattle.payload.specs.declared.packet.Support.TheVariants as support
use Rattle.decoder.specs.Order.{open_packet}
use Rattle.message.specs.OfHart.{packet_or_none}
use Rattle.message.specs.declared.message.Message.{Message}

-- A run: how many numbers are missing before it, and its packets, whose numbers follow one another.
pub record Run : Type 0 where
  pub missing : ℕ
  pub packets : List Packet

-- A run of these packets, before which so many numbers are missing.
abbrev pub run_of : ℕ → List Packet → Run
run_of missing packets = record { missing = missing; packets = packets }

-- A run with further packets at its end.
abbrev pub longer : Run → List Packet → Run
longer run packets = run_of run.missing (run.packets ++ packets)

-- The next message goes on with the run under way where no number is missing before it; else it begins a new run. This
-- is how many numbers are missing before its run, by how many are missing before the message and before the run under
-- way.
abbrev pub missing_behind : ℕ → ℕ → ℕ
missing_behind zero before = before
missing_behind (suc missing) before = suc missing

-- The packets that came before the message in its run: those of the run under way, or none where it begins a new run.
abbrev pub packets_behind : ℕ → List Packet → List Packet
packets_behind zero packets = packets
packets_behind (suc missing) packets = []

-- The run of the message, before the message's packet is added.
abbrev pub run_behind : ℕ → Run → Run
run_behind missing run = run_of (missing_behind missing run.missing) (packets_behind missing run.packets)

-- The run that is over when the message comes, as a list: the run under way where the message begins a new one, and
-- else none.
abbrev pub over_before : ℕ → Run → List Run
over_before zero run = []
over_before (suc missing) run = run ∷ []

-- The run under way and those after it, where this number is expected next and these messages are still to come.
abbrev pub runs_on : Run → ℕ → List Message → List Run
runs_on run expected [] = run ∷ []
runs_on run expected (message ∷ messages) =
    over_before (message.number - expected) run
    ++ runs_on (longer (run_behind (message.number - expected) run) (packet_or_none (reading message.payload)))
    (message.number + 1) messages

-- The run from number 0 on, before the first message.
abbrev pub first_run : Run
first_run = run_of 0 []

-- The runs of a hart's messages, whose numbers rise. The first is the one from number 0 on; it has no packet where the
-- message with number 0 did not come. Before each of the others some numbers are missing.
abbrev pub runs : List Message → List Run
runs messages = runs_on first_run 0 messages

-- The mode that a packet announces if it opens a trace, and else this one.
abbrev pub mode_or : Mode → Packet → Mode
mode_or mode (packet.Support (support.Open announced)) = announced
mode_or mode other = mode

-- The mode that the first of these packets announces, where no number is missing before it and it opens a trace; else
-- this one.
abbrev pub mode_of_first : ℕ → Mode → List Packet → Mode
mode_of_first zero mode (packet ∷ packets) = mode_or mode packet
mode_of_first missing mode packets = mode

-- The mode in which runs are read: the one that the packet with number 0 announces, if it came and opens a trace; else
-- this one.
abbrev pub mode_in : Mode → List Run → Mode
mode_in mode [] = mode
mode_in mode (run ∷ runs) = mode_of_first run.missing mode run.packets

-- The packets from the first synchronisation packet on; none where there is none.
abbrev pub from_sync : List Packet → List Packet
from_sync [] = []
from_sync (packet.Sync taken priv address ∷ packets) = packet.Sync taken priv address ∷ packets
from_sync (other ∷ packets) = from_sync packets

-- These packets after one that opens a trace in this mode; none where there are none.
abbrev pub opened : Mode → List Packet → List Packet
opened mode [] = []
opened mode (packet ∷ packets) = open_packet mode ∷ packet ∷ packets

-- The trace that a run's packets make up, before which so many numbers are missing. Where none is, it is the packets
-- themselves. Else it is those from the first synchronisation packet on, after a packet that opens a trace in this
-- mode.
abbrev pub trace_after : ℕ → Mode → List Packet → List Packet
trace_after zero mode packets = packets
trace_after (suc missing) mode packets = opened mode (from_sync packets)

-- The trace that a run makes up.
abbrev pub trace_of_run : Mode → Run → List Packet
trace_of_run mode run = trace_after run.missing mode run.packets

-- The trace that the last of these runs makes up; no packet where there is no run.
abbrev pub trace_of_last : Mode → List Run → List Packet
trace_of_last mode [] = []
trace_of_last mode (run ∷ []) = trace_of_run mode run
trace_of_last mode (run ∷ next ∷ runs) = trace_of_last mode (next ∷ runs)

-- The trace to which the last of a hart's messages belongs, where this mode is handed in.
abbrev pub last_trace : Mode → List Message → List Packet
last_trace mode messages = trace_of_last (mode_in mode (runs messages)) (runs messages)
