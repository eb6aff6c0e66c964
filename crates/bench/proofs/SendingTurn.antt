-- The turn of a hart, by what its sender gives.
use Rattle.std.proofs.Common.{◌≡◌, ◌<◌, ℕ, Bool, true, false, cond, All, List, [], ◌∷◌, ◌++◌, Option, Some, None}
use Rattle.std.proofs.Common.{get_or, length, map, nat_lt, set, slice_get, refl, sym, ap, ◌∙◌, arith}
use Rattle.std.specs.Prelude.{not}
use Rattle.std.proofs.lemmas.Option.{same_Some, slice_get_read}
use Rattle.legalpath.specs.ProgramLog.{IsLegalLog, ProgramLog}
use Rattle.payload.specs.declared.mode.Mode.{Mode}
use Rattle.encoder.specs.Payloads.{payloads}
use Rattle.encoder.specs.SourceAt.{number_behind}
use Rattle.message.proofs.Elements.{All-slice_get}
use Rattle.message.specs.declared.message.Message.{Message}
use Rattle.funnel.specs.Held.{Held}
use Rattle.funnel.specs.Machine.{Funnel, add, send, send_next, sent_by}
use Rattle.funnel.specs.Order.{next_message}
use Rattle.funnel.specs.Payloads.{payloads_of}
use Rattle.bench.specs.declared.sender.Sender.{Sender}
use Rattle.bench.specs.steps.Sending.{AreSending, message_with, sender_at}
use Rattle.bench.proofs.CollectedLemmas.{element}
use Rattle.bench.proofs.SendingOn.{none_sent, one_sent}

-- What a hart's sender promises of its next message.
pub record GivesNext {B : Type 0} (hart : ℕ) (old new : Sender B) (result : Option Message) : Type 0 where
  pub given : (period : ℕ) (mode : Mode) (count : ℕ) (log : ProgramLog) → IsLegalLog log
      → old ≡ sender_at period mode log count
      → result ≡ message_with hart count (slice_get (payloads period mode log) count)
  pub goes_on : (period : ℕ) (mode : Mode) (count : ℕ) (log : ProgramLog) → IsLegalLog log
      → old ≡ sender_at period mode log count
      → new ≡ sender_at period mode log (number_behind count (slice_get (payloads period mode log) count))

-- A message goes with a payload.
record IsWith (hart count : ℕ) (payload : Option (List ℕ)) (message : Message) : Type 0 where
  bytes : List ℕ
  given : payload ≡ Some bytes
  is : ◌≡◌ {A = Message} (record { hart = hart; number = count; payload = bytes }) message

with_payload : (hart count : ℕ) (payload : Option (List ℕ)) (message : Message)
    → message_with hart count payload ≡ Some message → IsWith hart count payload message
with_payload hart count None message is = cc
with_payload hart count (Some bytes) message is = record {
  bytes = bytes;
  given = refl;
  is = same_Some (record { hart = hart; number = count; payload = bytes }) message is;
}

without_payload : (hart count : ℕ) (payload : Option (List ℕ)) → message_with hart count payload ≡ None
    → payload ≡ None
without_payload hart count None is = refl
without_payload hart count (Some bytes) is = cc

-- Not full is room.
pub has_room : (room : Bool) → false ≡ not room → room ≡ true
has_room true is = refl
has_room false is = cc

module _ {B : Type 0} (period : ℕ) (mode : Mode) (capacity : ℕ) (logs : List ProgramLog) (state : Funnel) (core : Held)
    (senders : List (Sender B)) (sending : AreSending period mode capacity logs state core senders)
    (legal : All IsLegalLog logs) (hart : ℕ) (known : hart < length senders) (old new : Sender B)
    (result : Option Message) (read : old ≡ get_or senders hart old) (gives : GivesNext hart old new result) where
  abbrev count : ℕ
  count = length (sent_by hart state)

  its : (log : ProgramLog) × (slice_get logs hart ≡ Some log)
  its = element logs hart (omega (arith, known, sending.count))

  its_legal : IsLegalLog its.0
  its_legal = All-slice_get IsLegalLog logs hart its.0 its.1 legal

  stood : old ≡ sender_at period mode its.0 count
  stood =
      same_Some old (sender_at period mode its.0 count)
      (sym (slice_get_read senders (length senders) hart old refl known read) ∙ sending.each hart its.0 its.1)

  given : result ≡ message_with hart count (slice_get (payloads period mode its.0) count)
  given = gives.given period mode count its.0 its_legal stood

  moved : new ≡ sender_at period mode its.0 (number_behind count (slice_get (payloads period mode its.0) count))
  moved = gives.goes_on period mode count its.0 its_legal stood

  -- A hart with no message left changes nothing.
  pub turn-none : result ≡ None
      → AreSending period mode capacity logs
      (send_next capacity hart (slice_get (payloads_of hart (map (payloads period mode) logs)) count) state) core
      (set senders hart new)
  turn-none none =
      let ended = without_payload hart count (slice_get (payloads period mode its.0) count) (sym given ∙ none) in
      none_sent period mode capacity logs state core senders sending hart its.0 its.1 new ended
      (moved ∙ ap (λ payload. sender_at period mode its.0 (number_behind count payload)) ended)

  -- A hart with a message left sends it, where there is room.
  pub turn-one : (message : Message) (after : Held) → result ≡ Some message
      → nat_lt (length core.queue) capacity ≡ true
      → ((before : Funnel) → before.queue ≡ core.queue
      → after ≡ record core { queue = (send capacity message before).queue })
      → AreSending period mode capacity logs
      (send_next capacity hart (slice_get (payloads_of hart (map (payloads period mode) logs)) count) state) after
      (set senders hart new)
  turn-one message after some room step =
      one_sent period mode capacity logs state core senders sending hart its.0 its.1 found.bytes new
      (moved ∙ ap (λ payload. sender_at period mode its.0 (number_behind count payload)) found.given)
      after found.given here stands
    where
      found : IsWith hart count (slice_get (payloads period mode its.0) count) message
      found = with_payload hart count (slice_get (payloads period mode its.0) count) message (sym given ∙ some)

      queue : core.queue ≡ state.queue
      queue = ap (λ (held : Held). held.queue) sending.funnel

      here : nat_lt (length state.queue) capacity ≡ true
      here = ap (λ waits. nat_lt (length waits) capacity) (sym queue) ∙ room

      all : List Message
      all = state.queue ++ next_message hart (sent_by hart state) found.bytes ∷ []

      sent : (send capacity message state).queue ≡ all
      sent =
          ap (λ b. (cond b (add message state) state).queue) here
          ∙ ap (λ (m : Message). state.queue ++ m ∷ []) (sym found.is)

      stands : after ≡ record { harts = length logs; capacity = capacity; queue = all }
      stands =
          step state (sym queue)
          ∙ ap (λ (held : Held). record held { queue = (send capacity message state).queue }) sending.funnel
          ∙ ap (λ waits. record { harts = length logs; capacity = capacity; queue = waits }) sent
