-- Why a message is not received.
use Rattle.std.specs.Prelude.{ℕ, ◌⊎◌, ◌≡◌, ◌<◌, ◌↔◌, ◌++◌, true, false, List, [], ◌∷◌, Option, Ok, Err, length}
use Rattle.retire.specs.declared.event.Event.{Event}
use Rattle.rvclass.specs.Words.{Words}
use Rattle.payload.specs.ClosedTrace.{last_is_closing}
use Rattle.payload.specs.declared.mode.Mode.{Mode}
use Rattle.payload.specs.declared.packet.Packet.{Packet}
use Rattle.decoder.specs.Describes.{Describes}
use Rattle.decoder.specs.Order.{IsOpen}
use Rattle.decoder.specs.declared.fault.DecodeFault.{DecodeFault}
use Rattle.decoder.specs.declared.fault.DecodeFault.TheVariants.{NotOpened, AfterClose, Memory}
use Rattle.message.specs.Accepted.{expected_after, newcomers}
use Rattle.message.specs.Accepting.{accepting}
use Rattle.message.specs.OfHart.{packets_of}
use Rattle.message.specs.declared.message.Message.{Message}
use Rattle.receiver.specs.Agreeing.{Agrees, opens_another}
use Rattle.receiver.specs.declared.fault.ReceiveFault.{ReceiveFault}
use Rattle.receiver.specs.declared.fault.ReceiveFault.TheVariants as fault

-- Why a packet is not decoded after these packets: an allocation failed, or no log is described by them and it. The
-- reason is NotOpened if and only if the packet comes first and opens no trace. It is AfterClose if and only if the
-- last of the packets closes the trace. If an allocation failed, the packets describe a log, and with this packet a
-- longer one.
pub record IsNotDecoded (words : Words) (packets : List Packet) (packet : Packet) (why : DecodeFault) : Type 0 where
  pub not_opened : (why ≡ NotOpened) ↔ ((packets ≡ []) × ¬ IsOpen packet)
  pub after_close : (why ≡ AfterClose) ↔ (last_is_closing packets ≡ true)
  pub memory : why ≡ Memory → (list log : List Event) × Describes words packets list
      × Describes words (packets ++ packet ∷ []) log × (length list < length log)
  pub reason : (why ≡ Memory) ⊎ ((log : List Event) → ¬ Describes words (packets ++ packet ∷ []) log)

-- The message is accepted after these messages. The last packet of its hart among them does not close the trace, and
-- the message's own is not decoded, for this reason.
pub record IsUndecoded (words : Words) (harts : ℕ) (messages : List Message) (message : Message) (why : DecodeFault)
    : Type 0 where
  pub packet : Packet
  pub accepted : accepting (expected_after (newcomers harts) messages) message ≡ Ok packet
  pub not_closed : last_is_closing (packets_of message.hart messages) ≡ false
  pub not_decoded : IsNotDecoded words (packets_of message.hart messages) packet why

-- The message is accepted after these messages, and its packet opens a trace in another mode than the one that was
-- announced before.
pub record IsOfAnotherMode (harts : ℕ) (announced : Option Mode) (messages : List Message)
    (message : Message) : Type 0 where
  pub packet : Packet
  pub accepted : accepting (expected_after (newcomers harts) messages) message ≡ Ok packet
  pub another : opens_another announced packet ≡ true

-- Why a message is not received after these messages, by the program of its hart, where this mode was announced before,
-- or none: the demultiplexer refuses it, its packet opens a trace in another mode, or its packet is not decoded.
abbrev pub IsNotReceived : Words → ℕ → Option Mode → List Message → Message → ReceiveFault → Type 0
IsNotReceived words harts announced messages message (fault.Demux why) =
    accepting (expected_after (newcomers harts) messages) message ≡ Err why
IsNotReceived words harts announced messages message fault.Mode = IsOfAnotherMode harts announced messages message
IsNotReceived words harts announced messages message (fault.Decode why) =
    IsUndecoded words harts messages message why × Agrees announced message
