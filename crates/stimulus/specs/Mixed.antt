-- Captures in which the messages of harts are mixed.
use Rattle.std.specs.Prelude.{◌≡◌, ◌<◌, ◌≤◌, ◌+◌, ◌*◌, ◌/◌, ◌++◌, ℕ, zero, suc, Bool, true, false, List, [], Option, Some, None}
use Rattle.std.specs.Prelude.{drop, get_or, if◌then◌else◌, length, map, max, min, nat_lt, replicate, set, slice_get, take}
use Rattle.std.specs.Io.KnownBytes.{Appends}
use Rattle.retire.specs.Log.{most_long_rows}
use Rattle.retire.specs.declared.event.Event.{Event}
use Rattle.rvclass.specs.Fetch.{words_of}
use Rattle.rvclass.specs.Image.{Image}
use Rattle.rvclass.specs.Words.{Words}
use Rattle.legalpath.specs.LegalUpTo.{IsLegalUpTo}
use Rattle.legalpath.specs.ProgramLog.{program_log}
use Rattle.encoder.specs.Packets.{packets}
use Rattle.encoder.specs.PacketsSoFar.{packets_so_far}
use Rattle.encoder.specs.Payloads.{payloads}
use Rattle.payload.specs.Spelling.{payload_of}
use Rattle.payload.specs.declared.mode.Mode.{Mode}
use Rattle.payload.specs.declared.packet.Packet.{Packet}
use Rattle.message.specs.Capture.{capture}
use Rattle.message.specs.Numbered.{messages_from}
use Rattle.message.specs.OfHart.{of_hart}
use Rattle.message.specs.declared.header.Header.{Header}
use Rattle.message.specs.declared.message.Message.{Message}
use Rattle.captures.specs.Versions.{start_bytes}
use Rattle.stimulus.specs.Order.{Drawn, first_drawn, next_turn}
use Rattle.stimulus.specs.Walk.{extent_of, first_walk, walked}
use Rattle.stimulus.specs.declared.capturing.Capture.{Capture}
use Rattle.stimulus.specs.declared.walk.Walk.{Walk}

-- How the harts of a capture trace: at this period and in this mode, each on a walk that begins so.
pub record Plan : Type 0 where
  pub period : ℕ
  pub mode : Mode
  pub start : ℕ → Walk

-- The plan of a capture.
abbrev pub plan_of : Image → Capture → Plan
plan_of program asked = record {
  period = asked.period;
  mode = asked.mode;
  start = λ hart. first_walk (extent_of program) asked.mix asked.seed hart;
}

-- The header of a capture.
abbrev pub header_of : Capture → Header
header_of asked = record { mode = asked.mode; period = asked.period; harts = asked.harts }

-- The first events of a hart, so many.
abbrev pub events_of : Words → Plan → ℕ → ℕ → List Event
events_of words plan hart count = (walked words (plan.start hart) count).0

-- The packets of a hart's trace that are known after its first events, so many, while the trace is open.
abbrev pub known_packets : Words → Plan → ℕ → ℕ → List Packet
known_packets words plan hart count = packets_so_far words plan.period plan.mode (events_of words plan hart count)

-- The fewest events after which so many packets of a hart are known, or the most events, where never so many are.
unfoldable pub fewest_up_to : ℕ → Words → Plan → ℕ → ℕ → ℕ
fewest_up_to zero words plan hart count = 0
fewest_up_to (suc most) words plan hart count =
    let fewest = fewest_up_to most words plan hart count in
    if nat_lt (length (known_packets words plan hart fewest)) count then suc most else fewest

-- How many events a hart runs for so many turns: the fewest after which as many packets are known, at most 4,294,967,295.
unfoldable pub events_for : Words → Plan → ℕ → ℕ → ℕ
events_for words plan hart turns = fewest_up_to most_long_rows words plan hart turns

-- How far a hart is: how many turns it had before it closed its trace, and whether it closed it.
pub record Stand : Type 0 where
  pub turns : ℕ
  pub is_closed : Bool

-- A hart that had no turn.
abbrev pub unsent : Stand
unsent = record { turns = 0; is_closed = false }

-- A hart has a turn, which counts while its trace is open.
abbrev pub has_turn : Stand → Stand
has_turn stand = record stand { turns = if stand.is_closed then stand.turns else stand.turns + 1 }

-- A hart closes its trace.
abbrev pub closes : Stand → Stand
closes stand = record stand { is_closed = true }

-- The packets whose messages a hart has sent after so many turns. While its trace is open these are the first that are
-- known after the events that it has run, one for each turn; once it is closed, all packets of the log of these events.
abbrev pub given_by : Bool → Words → Plan → ℕ → ℕ → List Packet
given_by false words plan hart turns =
    take turns (known_packets words plan hart (events_for words plan hart turns))
given_by true words plan hart turns =
    packets words plan.period plan.mode (events_of words plan hart (events_for words plan hart turns))

-- The packets whose messages a hart has sent, by how far it is.
unfoldable pub given : Words → Plan → ℕ → Stand → List Packet
given words plan hart stand = given_by stand.is_closed words plan hart stand.turns

-- The messages of packets of a hart, numbered from 0.
abbrev pub messages_of : ℕ → List Packet → List Message
messages_of hart ps = messages_from hart 0 (map payload_of ps)

-- The messages that a hart sends between one stand and the next: those of the packets that are given then and were not
-- before.
abbrev pub sent_between : Words → Plan → ℕ → Stand → Stand → List Message
sent_between words plan hart stand next =
    drop (length (given words plan hart stand)) (messages_of hart (given words plan hart next))

-- What was sent, and how far each hart is, by its place.
pub record Sent : Type 0 where
  pub messages : List Message
  pub stands : List Stand

module _ (words : Words) (plan : Plan) where
  -- What the hart at a place sends where it goes on so. Where there is none, no message comes.
  abbrev pub sent_by : (Stand → Stand) → ℕ → Option Stand → List Message
  sent_by on hart None = []
  sent_by on hart (Some stand) = sent_between words plan hart stand (on stand)

  -- The hart at a place goes on so.
  abbrev pub goes : (Stand → Stand) → ℕ → Sent → Sent
  goes on hart sent = record {
    messages = sent.messages ++ sent_by on hart (slice_get sent.stands hart);
    stands = set sent.stands hart (on (get_or sent.stands hart unsent));
  }

  -- A hart closes its trace, if one is given.
  abbrev pub closes_one : Option ℕ → Sent → Sent
  closes_one None sent = sent
  closes_one (Some hart) sent = goes closes hart sent

  -- After the first turns of an order, so many, and how far the order is drawn then.
  unfoldable pub after_turns : Sent × Drawn → ℕ → Sent × Drawn
  after_turns first zero = first
  after_turns first (suc count) =
      let before = after_turns first count in
      let next = next_turn before.1 in
      (goes has_turn next.0.hart (closes_one next.0.closing before.0), next.1)

  -- After the first harts, so many, have closed their traces.
  unfoldable pub after_closing : Sent → ℕ → Sent
  after_closing sent zero = sent
  after_closing sent (suc count) = goes closes count (after_closing sent count)

-- Of so many bursts one ends a trace, as long as harts may end theirs. A burst has half of one turn more than the longest
-- on average, so an end comes after about as many turns as each hart has, whatever the longest burst is.
abbrev pub ending_of : Capture → ℕ
ending_of asked =
    max 1 (min (asked.messages / max 1 (asked.harts * (asked.burst + 1) / 2)) 4294967295)

-- The order of a capture before its first turn. Half of the harts, rounded down, may end their traces before the last.
abbrev pub first_order : Capture → Drawn
first_order asked = first_drawn asked.seed asked.harts asked.burst (ending_of asked) (asked.harts / 2)

-- Of so many harts none has sent a message.
abbrev pub none_sent : ℕ → Sent
none_sent harts = record { messages = []; stands = replicate harts unsent }

-- The messages of a capture: those of the turns that are asked for, and then those with which harts close their traces,
-- hart after hart.
unfoldable pub mixed_messages : Image → Capture → List Message
mixed_messages program asked =
    let words = words_of program in
    let plan = plan_of program asked in
    (after_closing words plan (after_turns words plan (none_sent asked.harts, first_order asked) asked.messages).0
    asked.harts).messages

-- The bytes of a capture: a header, in version 2, and the messages.
abbrev pub mixed_capture : Image → Capture → List ℕ
mixed_capture program asked =
    start_bytes asked.version (header_of asked) ++ capture (mixed_messages program asked)

-- A hart's messages among these are those of all packets of its log, each once, in order, numbered from 0. The log has
-- so many events and is legal for the program.
pub record SendsLog (program : Image) (asked : Capture) (hart count : ℕ) (messages : List Message) : Type 0 where
  pub legal : IsLegalUpTo most_long_rows program (events_of (words_of program) (plan_of program asked) hart count)
  pub own : of_hart hart messages
      ≡ messages_from hart 0 (payloads asked.period asked.mode
      (program_log program (events_of (words_of program) (plan_of program asked) hart count)))

-- The bytes are the capture that is asked for. Each of so many harts sends a log in it, and no other hart has a message.
pub record IsMixedCapture (program : Image) (asked : Capture) (bytes : List ℕ) : Type 0 where
  -- How many events each hart has.
  pub counts : ℕ → ℕ
  pub messages : List Message
  pub each : (hart : ℕ) → hart < asked.harts → SendsLog program asked hart (counts hart) messages
  pub none : (hart : ℕ) → asked.harts ≤ hart → of_hart hart messages ≡ []
  pub mixed : messages ≡ mixed_messages program asked
  pub whole : bytes ≡ start_bytes asked.version (header_of asked) ++ capture messages

-- Such a capture was appended.
pub record AppendsMixed (program : Image) (asked : Capture) (old new : Option (List ℕ)) : Type 0 where
  pub bytes : List ℕ
  pub mixed : IsMixedCapture program asked bytes
  pub text : Appends old new bytes
