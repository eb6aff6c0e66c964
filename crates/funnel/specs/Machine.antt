-- The funnel machine: harts send messages into a queue of bounded length, from which they are taken in order.
use Rattle.std.specs.Prelude.{ℕ, ◌++◌, nat_lt, if◌then◌else◌, List, [], ◌∷◌, Option, Some, None, length, replicate}
use Rattle.std.specs.Prelude.{slice_get, slice_index_or, slice_set}
use Rattle.message.specs.declared.message.Message.{Message}
use Rattle.funnel.specs.Order.{next_message}
use Rattle.funnel.specs.Payloads.{payloads_of}
use Rattle.funnel.specs.declared.turn.Turn.{Turn}
use Rattle.funnel.specs.declared.turn.Turn.TheVariants as turn

-- What each hart sent, at its place, what waits, and what was taken.
pub record Funnel : Type 0 where
  pub sent : List (List Message)
  pub queue : List Message
  pub taken : List Message

-- What a hart sent.
abbrev pub sent_by : ℕ → Funnel → List Message
sent_by hart state = slice_index_or state.sent hart []

-- The message goes last in what its hart sent and last in the queue.
abbrev pub add : Message → Funnel → Funnel
add message state = record state {
  sent = slice_set state.sent message.hart (sent_by message.hart state ++ message ∷ []);
  queue = state.queue ++ message ∷ [];
}

-- A hart sends a message, if fewer wait than the capacity.
abbrev pub send : ℕ → Message → Funnel → Funnel
send capacity message state = if nat_lt (length state.queue) capacity then add message state else state

-- The front of this queue, where it has one, goes to the end of what was taken, and the rest waits.
abbrev pub take_of : List Message → Funnel → Funnel
take_of [] state = state
take_of (front ∷ rest) state = record state { queue = rest; taken = state.taken ++ front ∷ [] }

-- The front message is taken, where one waits.
abbrev pub take_front : Funnel → Funnel
take_front state = take_of state.queue state

-- A hart sends a payload, where it has one.
abbrev pub send_next : ℕ → ℕ → Option (List ℕ) → Funnel → Funnel
send_next capacity hart None state = state
send_next capacity hart (Some payload) state =
    send capacity (next_message hart (sent_by hart state) payload) state

-- What one turn of a schedule does, where the harts have these payloads. A turn that cannot act changes nothing.
abbrev pub after_turn : ℕ → List (List (List ℕ)) → Turn → Funnel → Funnel
after_turn capacity payloads (turn.Hart hart) state =
    send_next capacity hart (slice_get (payloads_of hart payloads) (length (sent_by hart state))) state
after_turn capacity payloads turn.Collect state = take_front state

-- What turns do, one after the other.
abbrev pub after_turns : ℕ → List (List (List ℕ)) → List Turn → Funnel → Funnel
after_turns capacity payloads [] state = state
after_turns capacity payloads (turn ∷ turns) state =
    after_turns capacity payloads turns (after_turn capacity payloads turn state)

-- The opening: no hart sent anything, nothing waits, and nothing was taken. There are as many harts as lists of
-- payloads.
abbrev pub opening : List (List (List ℕ)) → Funnel
opening payloads = record { sent = replicate (length payloads) []; queue = []; taken = [] }
