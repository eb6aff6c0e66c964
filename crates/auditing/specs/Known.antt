-- Messages by what their payloads are compared by.
use Rattle.std.specs.Prelude.{List, map}
use Rattle.payload.specs.Same.{known_by}
use Rattle.payload.specs.declared.by.By.{By}
use Rattle.message.specs.declared.message.Message.{Message}

-- A message whose payload is what its own is known by. By bytes it is the message itself. By packets messages of one
-- packet are one message.
abbrev pub known_one : By → Message → Message
known_one how message = record { hart = message.hart; number = message.number; payload = known_by how message.payload }

-- The same of each message. By packets it is the list of the packets, each with its hart and its number.
abbrev pub known_all : By → List Message → List Message
known_all how messages = map (known_one how) messages
