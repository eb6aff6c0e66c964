-- What is known once a packet of a hart is decoded and counted, or not.
use Rattle.std.specs.Prelude.{ℕ, ◌≡◌, ◌≢◌, ◌⊎◌, ◌++◌, Bool, List, [], ◌∷◌, Result, Err, IfErr, OnOk, length}
use Rattle.retire.specs.declared.event.Event.{Event}
use Rattle.rvclass.specs.Fetch.{words_of}
use Rattle.rvclass.specs.Image.{Image}
use Rattle.payload.specs.declared.packet.Packet.{Packet}
use Rattle.decoder.specs.Describes.{Describes}
use Rattle.decoder.specs.declared.fault.DecodeFault.{DecodeFault}
use Rattle.decoder.specs.declared.fault.DecodeFault.TheVariants as decode_fault
use Rattle.message.specs.declared.message.Message.{Message}
use Rattle.receiver.specs.Holds.{HoldsHart}
use Rattle.receiver.specs.Received.{IsReceived, IsSameHart, Received}
use Rattle.receiver.specs.NotReceived.{IsNotDecoded}
use Rattle.bench.specs.Collected.{Taken, one_packet_more}
use Rattle.bench.specs.declared.collecting.CollectFault.{CollectFault}
use Rattle.bench.specs.declared.collecting.CollectFault.TheVariants as fault
use Rattle.bench.specs.steps.Collecting.{IsLeftBy}

-- The packet of a message is decoded by its hart's program after those before it, and counted in the hart's outcome.
-- A fault leaves the receiver and the outcome as they were, but that the outcome notes an allocation that failed.
pub record TakesPacket (image : Image) (keep : Bool) (message : Message) (packet : Packet) (before after : Taken)
    (old new : Received) (result : Result (Unit {0}) CollectFault) : Type 0 where
  pub counts : OnOk result (after ≡ one_packet_more keep packet (length message.payload) before)
  pub leaves : IfErr result (λ why. IsLeftBy why before after)
  pub stays : IfErr result (λ why. new ≡ old)
  pub one_memory : result ≢ Err (fault.Decode decode_fault.Memory)
  pub holds : (packets : List Packet) → HoldsHart (words_of image) message.hart packets old
      → OnOk result (HoldsHart (words_of image) message.hart (packets ++ packet ∷ []) new)
  pub others : (other : ℕ) → other ≢ message.hart → IsSameHart other old new
  pub none : (packets : List Packet) → HoldsHart (words_of image) message.hart packets old
      → IfErr result (λ why. (why ≡ fault.Memory)
      ⊎ ((events : List Event) → ¬ Describes (words_of image) (packets ++ packet ∷ []) events))
  pub reason : (packets : List Packet) (why : DecodeFault)
      → HoldsHart (words_of image) message.hart packets old
      → result ≡ Err (fault.Decode why) → IsNotDecoded (words_of image) packets packet why
  pub expected : new.expected ≡ old.expected
  pub complete : IsReceived old → IsReceived new
