-- Which packets and which log the state of a decoder stands for.
use Rattle.std.specs.Prelude.{◌≡◌, Bool, true, false, List, Option, Some, None}
use Rattle.std.specs.List.{last_or}
use Rattle.retire.specs.declared.event.Event.{Event}
use Rattle.rvclass.specs.Words.{Words}
use Rattle.payload.specs.Closing.{is_closing_packet}
use Rattle.payload.specs.declared.packet.Packet.{Packet}
use Rattle.payload.specs.declared.packet.Packet.TheVariants as packet
use Rattle.payload.specs.declared.packet.Report.TheVariants as report
use Rattle.decoder.specs.Describes.{Describes}
use Rattle.decoder.specs.ModeOf.{mode_of}
use Rattle.decoder.specs.Pieces.{reported_end}
use Rattle.decoder.specs.declared.decoding.Decoder.{Decoder}
use Rattle.decoder.specs.declared.state.Phase.{Phase}
use Rattle.decoder.specs.declared.state.Phase.TheVariants.{Unopened, Running, Closed}
use Rattle.decoder.specs.declared.settling.Waiting.{Waiting}

-- A trace is closed where this is true, and else it runs.
abbrev pub running_or_closed : Bool → Phase
running_or_closed true = Closed
running_or_closed false = Running

-- The phase of a trace after its last packet, if it has one.
abbrev pub phase_after : Option Packet → Phase
phase_after None = Unopened
phase_after (Some packet) = running_or_closed (is_closing_packet packet)

-- What waits after the last packet: an address packet with plain bits, and else nothing.
abbrev pub waiting_after : Option Packet → Option Waiting
waiting_after (Some (packet.Address taken delta report.Plain)) = Some (record { outcomes = taken; delta = delta })
waiting_after other = None

-- A decoder stands for packets and a log: its state is that after these packets. The packets describe the log, and what
-- the decoder remembers follows from both, but for the announced mode, which `HasMode` is about.
pub record DecoderStands (words : Words) (packets : List Packet) (log : List Event) (decoder : Decoder) : Type 0 where
  pub described : Describes words packets log
  pub phase : decoder.phase ≡ phase_after (last_or None packets)
  pub waiting : decoder.waiting ≡ waiting_after (last_or None packets)
  pub last : decoder.last ≡ last_or None log
  pub mode : decoder.mode ≡ mode_of packets
  pub reported : decoder.reported ≡ reported_end 0 packets described.pieces
