-- How far harts have sent their messages.
use Rattle.std.specs.Prelude.{◌≡◌, ◌≤◌, ◌<◌, ◌⊎◌, ◌+◌, ◌++◌, ℕ, true, false, List, [], Option, Some, length, map}
use Rattle.std.specs.Prelude.{slice_get}
use Rattle.std.specs.Io.KnownBytes.{Appends}
use Rattle.output.specs.Begun.{AppendsBeginning}
use Rattle.retire.specs.Log.{most_long_rows}
use Rattle.retire.specs.declared.event.Event.{Event}
use Rattle.rvclass.specs.Words.{Words}
use Rattle.encoder.specs.EncoderStands.{EncoderStands}
use Rattle.payload.specs.Spelling.{payload_of}
use Rattle.payload.specs.declared.packet.Packet.{Packet}
use Rattle.message.specs.Capture.{capture}
use Rattle.message.specs.Numbered.{messages_from}
use Rattle.message.specs.OfHart.{of_hart}
use Rattle.message.specs.declared.message.Message.{Message}
use Rattle.stimulus.specs.Mixed.{Plan, Sent, Stand, given, known_packets, messages_of, sent_between, unsent}
use Rattle.stimulus.specs.Walked.{HasWalked}
use Rattle.stimulus.specs.declared.sender.Numbers.{Numbers}
use Rattle.stimulus.specs.declared.sender.Phase.{Phase}
use Rattle.stimulus.specs.declared.sender.Phase.TheVariants as phase
use Rattle.stimulus.specs.declared.sender.Sender.{Sender}
use Rattle.stimulus.specs.declared.sender.Tracer.{Tracer}

-- The events are the fewest after which so many packets are known, or 4,294,967,295.
pub record AreFewest (words : Words) (plan : Plan) (hart turns count : ℕ) : Type 0 where
  pub fewer : (other : ℕ) → other < count → length (known_packets words plan hart other) < turns
  pub reached : (turns ≤ length (known_packets words plan hart count)) ⊎ (count ≡ most_long_rows)

-- A hart in this phase that has run so many events is so far.
abbrev pub IsIn : Words → Plan → ℕ → Phase → ℕ → Stand → Type 0
IsIn words plan hart phase.Fresh count stand = (count ≡ 0) × (stand ≡ unsent)
IsIn words plan hart phase.Open count stand =
    (stand.is_closed ≡ false) × (length (known_packets words plan hart count) ≤ stand.turns)
IsIn words plan hart phase.Closed count stand = stand.is_closed ≡ true

-- A hart is so far: it has walked the events of its turns, and the encoder has taken them.
pub record HasGiven (words : Words) (plan : Plan) (hart : ℕ) (stand : Stand) (tracer : Tracer) : Type 0 where
  pub seen : List Event
  pub walked : HasWalked words (plan.start hart) seen tracer.hart
  pub stands : EncoderStands words plan.period plan.mode seen tracer.encoder
  pub fewest : AreFewest words plan hart stand.turns tracer.hart.given
  pub is_in : IsIn words plan hart tracer.phase tracer.hart.given stand

-- A hart goes on to the next stand, and gives these packets.
pub record Gives (words : Words) (plan : Plan) (hart : ℕ) (stand next : Stand) (tracer : Tracer) (packets : List Packet)
    : Type 0 where
  pub has : HasGiven words plan hart next tracer
  pub longer : given words plan hart next ≡ given words plan hart stand ++ packets

-- The messages of these packets were appended, numbered on.
pub record Numbered (packets : List Packet) (before after : Numbers) (old new : Option (List ℕ)) : Type 0 where
  pub hart : after.hart ≡ before.hart
  pub number : after.number ≡ before.number + length packets
  pub text : Appends old new (capture (messages_from before.hart before.number (map payload_of packets)))

-- A hart is so far, and has sent as many messages as it has given packets.
pub record HasSent (words : Words) (plan : Plan) (hart : ℕ) (stand : Stand) (sender : Sender) : Type 0 where
  pub tracer : HasGiven words plan hart stand sender.tracer
  pub hart_is : sender.numbers.hart ≡ hart
  pub number : sender.numbers.number ≡ length (given words plan hart stand)

-- A hart goes on to the next stand, and the messages that it sends were appended.
pub record Sends (words : Words) (plan : Plan) (hart : ℕ) (stand next : Stand) (sender : Sender)
    (old new : Option (List ℕ)) : Type 0 where
  pub has : HasSent words plan hart next sender
  pub packets : List Packet
  pub longer : given words plan hart next ≡ given words plan hart stand ++ packets
  pub text : Appends old new (capture (sent_between words plan hart stand next))

-- Each hart is so far, and its messages among these are those that it has sent. No other hart has one.
pub record AreSent (words : Words) (plan : Plan) (sent : Sent) (senders : List Sender) : Type 0 where
  pub count : length senders ≡ length sent.stands
  pub each : (hart : ℕ) (sender : Sender) (stand : Stand) → slice_get senders hart ≡ Some sender
      → slice_get sent.stands hart ≡ Some stand → HasSent words plan hart stand sender
  pub own : (hart : ℕ) (stand : Stand) → slice_get sent.stands hart ≡ Some stand
      → of_hart hart sent.messages ≡ messages_of hart (given words plan hart stand)
  pub none : (hart : ℕ) → length sent.stands ≤ hart → of_hart hart sent.messages ≡ []

-- The hart of this number, if there is one, has closed its trace.
abbrev pub IsClosed : ℕ → List Sender → Type 0
IsClosed hart senders = (sender : Sender) → slice_get senders hart ≡ Some sender → sender.tracer.phase ≡ phase.Closed

-- These messages are those before and more.
pub record Grows (before after : List Message) : Type 0 where
  pub more : List Message
  pub parted : after ≡ before ++ more

-- The harts are so far, and the messages that came since were appended.
pub record AllSend (words : Words) (plan : Plan) (before after : Sent) (senders : List Sender)
    (old new : Option (List ℕ)) : Type 0 where
  pub sent : AreSent words plan after senders
  pub count : length after.stands ≡ length before.stands
  pub grows : Grows before.messages after.messages
  pub text : Appends old new (capture grows.more)

-- A beginning of the messages that come between was appended.
pub record AllBegun (before after : Sent) (old new : Option (List ℕ)) : Type 0 where
  pub grows : Grows before.messages after.messages
  pub begun : AppendsBeginning (capture grows.more) old new
