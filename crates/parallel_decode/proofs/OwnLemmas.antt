-- What was received of a hart's messages, with one message more.
use Rattle.std.proofs.Common.{◌≡◌, false, List, [], ◌∷◌, ◌++◌, Option, Some, Result, Ok, Err}
use Rattle.std.proofs.Common.{refl, sym, ap, subst, ◌∙◌}
use Rattle.std.specs.Prelude.{◌↔◌, IsOk, is_ok}
use Rattle.std.proofs.lemmas.List.Elements.{All-push}
use Rattle.retire.specs.declared.event.Event.{Event}
use Rattle.rvclass.specs.Words.{Words}
use Rattle.payload.specs.ClosedTrace.{last_is_closing}
use Rattle.payload.specs.Reading.{reading}
use Rattle.payload.specs.declared.mode.Mode.{Mode}
use Rattle.payload.specs.declared.packet.Packet.{Packet}
use Rattle.decoder.specs.DecoderStands.{DecoderStands}
use Rattle.message.proofs.Answering.{answer-unpacked}
use Rattle.message.proofs.HartMessages.{packets_in-append, packets_in-cons}
use Rattle.message.specs.Accepting.{answer, state_after}
use Rattle.message.specs.Harts.{newcomer}
use Rattle.message.specs.OfHart.{packets_in}
use Rattle.message.specs.declared.hart.Hart.{Hart}
use Rattle.message.specs.declared.message.Message.{Message}
use Rattle.receiver.proofs.AcceptLemmas.{agrees_by}
use Rattle.receiver.specs.Agreeing.{Agrees, opens_another}
use Rattle.parallel_decode.specs.steps.OwnMessages.{AreOwnAccepted, IsOwn, own_after}
use Rattle.parallel_decode.specs.declared.own.Own.{Own}

-- What is expected after messages and one more.
pub own_after-next : (h : Hart) (messages : List Message) (message : Message)
    → own_after h (messages ++ message ∷ []) ≡ state_after (own_after h messages) message
own_after-next h [] message = refl
own_after-next h (first ∷ messages) message = own_after-next (state_after h first) messages message

-- Messages that were accepted, and one more that is.
pub own_accepted-next : (h : Hart) (messages : List Message) (message : Message) → AreOwnAccepted h messages
    → IsOk (answer (own_after h messages) message) → AreOwnAccepted h (messages ++ message ∷ [])
own_accepted-next h [] message all is = (is, tt)
own_accepted-next h (first ∷ messages) message all is =
    (all.0, own_accepted-next (state_after h first) messages message all.1 is)

-- The packets of messages and of one more.
pub packets-next : (messages : List Message) (message : Message) (packet : Packet)
    → reading message.payload ≡ Ok packet
    → packets_in (messages ++ message ∷ []) ≡ packets_in messages ++ packet ∷ []
packets-next messages message packet read =
    packets_in-append messages (message ∷ [])
    ∙ ap (λ one. packets_in messages ++ one) (packets_in-cons message [] packet read)

module _ (words : Words) (announced : Option Mode) (messages : List Message) (log : List Event) (old : Own)
    (is : IsOwn words announced messages log old) (message : Message) where
  -- What is answered to it.
  pub answer-is : answer old.expected message ≡ answer (own_after newcomer messages) message
  answer-is = ap (λ h. answer h message) is.expected

  -- What is expected then.
  pub expected-is : state_after old.expected message ≡ own_after newcomer (messages ++ message ∷ [])
  expected-is = ap (λ h. state_after h message) is.expected ∙ sym (own_after-next newcomer messages message)

  -- Its packet is the one of its payload.
  pub read-is : (packet : Packet) → answer (own_after newcomer messages) message ≡ Ok packet
      → reading message.payload ≡ Ok packet
  read-is packet answered =
      ((answer-unpacked (Some (own_after newcomer messages)) message (Ok packet)).0 answered).1

  -- With one message more that is accepted, agrees and is decoded.
  pub own-next : (packet : Packet) (new : Own) (added : List Event)
      → answer (own_after newcomer messages) message ≡ Ok packet
      → opens_another announced packet ≡ false
      → new.expected ≡ state_after old.expected message
      → DecoderStands words (packets_in messages ++ packet ∷ []) (log ++ added) new.decoder
      → new.closed ≡ last_is_closing (packets_in messages ++ packet ∷ [])
      → IsOwn words announced (messages ++ message ∷ []) (log ++ added) new
  own-next packet new added answered same moves stands closed =
      let read = read-is packet answered in
      let packets = sym (packets-next messages message packet read) in
      record {
        expected = moves ∙ expected-is;
        accepted = own_accepted-next newcomer messages message is.accepted (ap is_ok answered);
        agree = All-push (Agrees announced) messages message is.agree
            (agrees_by announced message packet read same);
        stands = subst (λ ps. DecoderStands words ps (log ++ added) new.decoder) packets stands;
        closed = closed ∙ ap last_is_closing packets;
      }

-- What is said of one kind of answer is said of another that ends so.
pub same_err : {A B E : Type 0} (got why : E) (P : Type 0) → ◌≡◌ {A = Result A E} (Err got) (Err why) ↔ P
    → ◌≡◌ {A = Result B E} (Err got) (Err why) ↔ P
same_err {A} {B} {E} got why P either = (λ is. either.0 (ap Err (one B is)), λ holds. ap Err (one A (either.1 holds)))
  where
    one : (C : Type 0) → ◌≡◌ {A = Result C E} (Err got) (Err why) → got ≡ why
    one C is = cc
