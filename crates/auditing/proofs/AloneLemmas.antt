-- What is expected of a hart, and so what is answered to its messages, depends on its own messages alone.
use Rattle.std.proofs.Common.{◌≡◌, ◌≢◌, ℕ, zero, suc, List, [], ◌∷◌, Bool, true, false, Option, Some, None, cond, eqb}
use Rattle.std.proofs.Common.{slice_get, set, refl, sym, ap, subst, ◌∙◌}
use Rattle.std.proofs.lemmas.Bool.{eqb-true, eqb-false}
use Rattle.auditing.proofs.Counting.{set_other}
use Rattle.payload.specs.ClosedTrace.{last_is_closing}
use Rattle.payload.specs.declared.mode.Mode.{Mode}
use Rattle.rvclass.specs.Words.{Words}
use Rattle.message.specs.Accepted.{expected_after, newcomers}
use Rattle.message.specs.Accepting.{accepting, answer_of, harts_after, harts_after_found, state_after}
use Rattle.message.specs.Harts.{Harts}
use Rattle.message.specs.OfHart.{of_hart, packets_in, packets_of}
use Rattle.message.specs.declared.hart.Hart.{Hart}
use Rattle.message.specs.declared.message.Message.{Message}
use Rattle.receiver.specs.NotReceived.{IsNotDecoded, IsNotReceived}
use Rattle.receiver.specs.declared.fault.ReceiveFault.{ReceiveFault}
use Rattle.receiver.specs.declared.fault.ReceiveFault.TheVariants as receiving

-- An element that was written.
slice_get-written : {X : Type 0} (xs : List X) (i : ℕ) (x y : X) → slice_get xs i ≡ Some x
    → slice_get (set xs i y) i ≡ Some y
slice_get-written [] i x y is = cc
slice_get-written (a ∷ xs) zero x y is = refl
slice_get-written (a ∷ xs) (suc i) x y is = slice_get-written xs i x y is

-- After a message the same is expected of its hart, where the same was before.
own_message : (a b : Harts) (m : Message) → slice_get a m.hart ≡ slice_get b m.hart
    → slice_get (harts_after a m) m.hart ≡ slice_get (harts_after b m) m.hart
own_message a b m same = go (slice_get a m.hart) refl
  where
    known : (harts : Harts) (h : Hart) → slice_get harts m.hart ≡ Some h
        → slice_get (harts_after harts m) m.hart ≡ Some (state_after h m)
    known harts h is =
        ap (λ o. slice_get (harts_after_found harts m o) m.hart) is
        ∙ slice_get-written harts m.hart h (state_after h m) is

    stranger : (harts : Harts) → slice_get harts m.hart ≡ None → slice_get (harts_after harts m) m.hart ≡ None
    stranger harts is = ap (λ o. slice_get (harts_after_found harts m o) m.hart) is ∙ is

    go : (o : Option Hart) → slice_get a m.hart ≡ o
        → slice_get (harts_after a m) m.hart ≡ slice_get (harts_after b m) m.hart
    go None is = stranger a is ∙ sym (stranger b (sym same ∙ is))
    go (Some h) is = known a h is ∙ sym (known b h (sym same ∙ is))

-- A message of another hart changes nothing of a hart.
other_message : (a : Harts) (m : Message) (hart : ℕ) → m.hart ≢ hart
    → slice_get (harts_after a m) hart ≡ slice_get a hart
other_message a m hart other = go (slice_get a m.hart)
  where
    go : (o : Option Hart) → slice_get (harts_after_found a m o) hart ≡ slice_get a hart
    go None = refl
    go (Some h) = set_other a m.hart hart (state_after h m) other

-- What is expected of a hart after messages is what is expected after its own ones.
expected_alone : (hart : ℕ) (messages : List Message) (a b : Harts) → slice_get a hart ≡ slice_get b hart
    → slice_get (expected_after a messages) hart ≡ slice_get (expected_after b (of_hart hart messages)) hart
expected_alone hart [] a b same = same
expected_alone hart (m ∷ messages) a b same = go (λ a b same. expected_alone hart messages a b same) (eqb m.hart hart) refl
  where
    go : ((a b : Harts) → slice_get a hart ≡ slice_get b hart
        → slice_get (expected_after a messages) hart ≡ slice_get (expected_after b (of_hart hart messages)) hart)
        → (own : Bool) → eqb m.hart hart ≡ own → slice_get (expected_after (harts_after a m) messages) hart
        ≡ slice_get (expected_after b (cond own (m ∷ of_hart hart messages) (of_hart hart messages))) hart
    go later true is =
        later (harts_after a m) (harts_after b m)
        (subst (λ h. slice_get (harts_after a m) h ≡ slice_get (harts_after b m) h) its
        (own_message a b m (subst (λ h. slice_get a h ≡ slice_get b h) (sym its) same)))
      where
        its : m.hart ≡ hart
        its = eqb-true m.hart hart is
    go later false is = later (harts_after a m) b (other_message a m hart (eqb-false m.hart hart is) ∙ same)

-- A hart's own messages are all its own.
of_hart-again : (hart : ℕ) (messages : List Message) → of_hart hart (of_hart hart messages) ≡ of_hart hart messages
of_hart-again hart [] = refl
of_hart-again hart (m ∷ messages) = go (of_hart-again hart messages) (eqb m.hart hart) refl
  where
    go : of_hart hart (of_hart hart messages) ≡ of_hart hart messages → (own : Bool) → eqb m.hart hart ≡ own
        → of_hart hart (cond own (m ∷ of_hart hart messages) (of_hart hart messages))
        ≡ cond own (m ∷ of_hart hart messages) (of_hart hart messages)
    go later true is = ap (λ own. cond own (m ∷ of_hart hart (of_hart hart messages)) (of_hart hart (of_hart hart messages))) is
        ∙ ap (λ l. m ∷ l) later
    go later false is = later

pub packets_alone : (hart : ℕ) (messages : List Message)
    → packets_of hart (of_hart hart messages) ≡ packets_of hart messages
packets_alone hart messages = ap packets_in (of_hart-again hart messages)

-- What is answered to a message behind others is what is answered behind those of its own hart.
pub answered_alone : (harts : ℕ) (messages : List Message) (message : Message)
    → accepting (expected_after (newcomers harts) messages) message
    ≡ accepting (expected_after (newcomers harts) (of_hart message.hart messages)) message
answered_alone harts messages message =
    ap (λ o. answer_of o message) (expected_alone message.hart messages (newcomers harts) (newcomers harts) refl)

-- Messages are not received behind others for the same reasons where the demultiplexer's answer and the packets of the
-- hart are the same.
pub refused_alike : (words : Words) (harts : ℕ) (announced : Option Mode) (xs ys : List Message) (message : Message)
    (why : ReceiveFault) → accepting (expected_after (newcomers harts) xs) message
    ≡ accepting (expected_after (newcomers harts) ys) message → packets_of message.hart xs ≡ packets_of message.hart ys
    → IsNotReceived words harts announced xs message why → IsNotReceived words harts announced ys message why
refused_alike words harts announced xs ys message (receiving.Demux why) answer packets is = sym answer ∙ is
refused_alike words harts announced xs ys message receiving.Mode answer packets is = record {
  packet = is.packet;
  accepted = sym answer ∙ is.accepted;
  another = is.another;
}
refused_alike words harts announced xs ys message (receiving.Decode why) answer packets is = (
  record {
    packet = is.0.packet;
    accepted = sym answer ∙ is.0.accepted;
    not_closed = ap last_is_closing (sym packets) ∙ is.0.not_closed;
    not_decoded = subst (λ ps. IsNotDecoded words ps is.0.packet why) packets is.0.not_decoded;
  },
  is.1,
)
