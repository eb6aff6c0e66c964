-- What is received of one hart's messages, whatever comes of other harts.
use Rattle.std.specs.Prelude.{◌≡◌, true, All, List, [], ◌∷◌, Option, Ok, Err, IsOk}
use Rattle.retire.specs.declared.event.Event.{Event}
use Rattle.rvclass.specs.Words.{Words}
use Rattle.payload.specs.ClosedTrace.{last_is_closing}
use Rattle.payload.specs.declared.mode.Mode.{Mode}
use Rattle.payload.specs.declared.packet.Packet.{Packet}
use Rattle.decoder.specs.DecoderStands.{DecoderStands}
use Rattle.message.specs.Accepting.{answer, state_after}
use Rattle.message.specs.Harts.{newcomer}
use Rattle.message.specs.OfHart.{packets_in}
use Rattle.message.specs.declared.hart.Hart.{Hart}
use Rattle.message.specs.declared.message.Message.{Message}
use Rattle.receiver.specs.Agreeing.{Agrees, opens_another}
use Rattle.receiver.specs.NotReceived.{IsNotDecoded}
use Rattle.receiver.specs.declared.fault.ReceiveFault.{ReceiveFault}
use Rattle.receiver.specs.declared.fault.ReceiveFault.TheVariants as fault
use Rattle.parallel_decode.specs.declared.own.Own.{Own}

-- What is expected of a hart after messages of its own, taken one after the other.
abbrev pub own_after : Hart → List Message → Hart
own_after h [] = h
own_after h (message ∷ messages) = own_after (state_after h message) messages

-- Each of a hart's messages is accepted, one after the other.
abbrev pub AreOwnAccepted : Hart → List Message → Type 0
AreOwnAccepted h [] = Unit {0}
AreOwnAccepted h (message ∷ messages) = IsOk (answer h message) × AreOwnAccepted (state_after h message) messages

-- Just these messages of a hart were received, one after the other, and they settle the events of this log.
pub record IsOwn (words : Words) (announced : Option Mode) (messages : List Message) (log : List Event) (own : Own)
    : Type 0 where
  pub expected : own.expected ≡ own_after newcomer messages
  pub accepted : AreOwnAccepted newcomer messages
  pub agree : All (Agrees announced) messages
  pub stands : DecoderStands words (packets_in messages) log own.decoder
  pub closed : own.closed ≡ last_is_closing (packets_in messages)

-- Why a message of a hart is not received after these messages of the hart.
abbrev pub IsOwnRefused : Words → Option Mode → List Message → Message → ReceiveFault → Type 0
IsOwnRefused words announced messages message (fault.Demux why) = answer (own_after newcomer messages) message ≡ Err why
IsOwnRefused words announced messages message fault.Mode =
    (packet : Packet) × (answer (own_after newcomer messages) message ≡ Ok packet)
    × (opens_another announced packet ≡ true)
IsOwnRefused words announced messages message (fault.Decode why) =
    (packet : Packet) × (answer (own_after newcomer messages) message ≡ Ok packet)
    × IsNotDecoded words (packets_in messages) packet why × Agrees announced message
