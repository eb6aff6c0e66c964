-- Passing over the message that bytes begin with.
use Rattle.std.specs.Prelude.{ℕ, ◌+◌, List, length, drop, Option, Some, None, Result, Ok, Err}
use Rattle.message.specs.declared.message.Message.{Message}
use Rattle.message.specs.declared.fault.MessageFault.{MessageFault}

-- What is left of bytes once what they begin with is passed over: a message, or nothing.
abbrev pub left_by : List ℕ → Result (Option Message) MessageFault → List ℕ
left_by bytes (Ok None) = bytes
left_by bytes (Ok (Some message)) = drop (11 + length message.payload) bytes
left_by bytes (Err why) = bytes
