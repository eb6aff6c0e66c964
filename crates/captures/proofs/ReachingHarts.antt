-- How far what a capture has of some harts was received.
use Rattle.std.proofs.Common.{◌≡◌, ℕ, ◌+◌, All, Bool, true, List, [], ◌∷◌, ◌++◌, Option, Some, length}
use Rattle.std.proofs.Common.{refl, sym, ap, subst, ◌∙◌}
use Rattle.std.proofs.lemmas.List.{length_push}
use Rattle.std.proofs.lemmas.List.Elements.{All-append, All-nil, All-push}
use Rattle.message.proofs.Selecting.{selected-append}
use Rattle.message.specs.Range.{selected, selects}
use Rattle.message.specs.declared.range.HartRange.{HartRange}
use Rattle.retire.specs.declared.event.Event.{Event}
use Rattle.rvclass.specs.Words.{Words}
use Rattle.payload.specs.declared.mode.Mode.{Mode}
use Rattle.message.specs.Capture.{capture, message_bytes}
use Rattle.message.specs.Cut.{IsMessage}
use Rattle.message.specs.declared.message.Message.{Message}
use Rattle.receiver.specs.Agreeing.{Agrees}
use Rattle.receiver.specs.Holds.{AreDecoded, HasReceived, Holds}
use Rattle.receiver.specs.Received.{Received}
use Rattle.receiver.specs.NotReceived.{IsNotReceived}
use Rattle.receiver.specs.declared.fault.ReceiveFault.{ReceiveFault}
use Rattle.receiver.specs.declared.fault.ReceiveFault.TheVariants as receiving
use Rattle.captures.proofs.Reaching.{capture_next}
use Rattle.captures.specs.Decoded.{AreHartsDecoded, BeginsRefusedOf, StopsDecodingOf, StopsOf, as_capture_fault}
use Rattle.captures.specs.steps.Collecting.{HasReceivedUpTo}
use Rattle.captures.specs.declared.outcome.CaptureFault.{CaptureFault}

-- So many messages were gone through, and those of these harts received. None of these opens a trace in another mode
-- than the announced one, and these bytes are left.
pub record ReachesOf (range : HartRange) (words : Words) (harts : ℕ) (announced : Option Mode) (bytes left : List ℕ)
    (number : ℕ) (received : Received) : Type 0 where
  pub messages : List Message
  pub counted : number ≡ length messages
  pub ranges : All IsMessage messages
  pub whole : bytes ≡ capture messages ++ left
  pub agree : All (Agrees announced) (selected range messages)
  pub takes : HasReceived (λ hart. words) harts (selected range messages) received

-- Decoding stops before a message that is refused.
pub refused_stops : (range : HartRange) (words : Words) (harts : ℕ) (announced : Option Mode) (messages : List Message)
    (left : List ℕ) (why : ReceiveFault) → BeginsRefusedOf range words harts announced messages left why
    → StopsDecodingOf range words harts announced messages left (as_capture_fault why)
refused_stops range words harts announced messages left (receiving.Demux why) begins = begins
refused_stops range words harts announced messages left receiving.Mode begins = begins
refused_stops range words harts announced messages left (receiving.Decode why) begins = begins

-- It stops behind these messages, before a message of one of the harts that is not received.
pub stops_before : (range : HartRange) (words : Words) (harts : ℕ) (announced : Option Mode) (messages : List Message)
    (left next : List ℕ) (number : ℕ) (message : Message) (why : ReceiveFault) (fault : CaptureFault)
    → number ≡ length messages → IsMessage message → left ≡ message_bytes message ++ next
    → selects range message.hart ≡ true
    → IsNotReceived words harts announced (selected range messages) message why → fault ≡ as_capture_fault why
    → StopsOf range words harts announced messages left (Some (number, fault))
stops_before range words harts announced messages left next number message why fault counted is here own refused same =
    let begins : BeginsRefusedOf range words harts announced (selected range messages) left why =
    record {
      begins = record { message = message; rest = next; ranges = is; begins = here; refused = refused };
      of_range = own;
    } in (
      counted,
      subst (StopsDecodingOf range words harts announced (selected range messages) left) (sym same)
          (refused_stops range words harts announced (selected range messages) left why begins),
    )

module _ (range : HartRange) (words : Words) (harts : ℕ) (announced : Option Mode) (bytes : List ℕ) where
  -- At first none was.
  pub reaches_none : (received : Received) → HasReceived (λ hart. words) harts [] received
      → ReachesOf range words harts announced bytes bytes 0 received
  reaches_none received has = record {
    messages = [];
    counted = refl;
    ranges = All-nil IsMessage;
    whole = refl;
    agree = All-nil (Agrees announced);
    takes = has;
  }

  -- And then one more.
  pub reaches_more : (left next : List ℕ) (number : ℕ) (old new : Received) (message : Message)
      → (r : ReachesOf range words harts announced bytes left number old)
      → IsMessage message → left ≡ message_bytes message ++ next
      → All (Agrees announced) (selected range (message ∷ []))
      → HasReceived (λ hart. words) harts (selected range r.messages ++ selected range (message ∷ [])) new
      → ReachesOf range words harts announced bytes next (number + 1) new
  reaches_more left next number old new message r is here agrees has =
      let more = sym (selected-append range r.messages (message ∷ [])) in
      record {
        messages = r.messages ++ message ∷ [];
        counted = ap (λ n. n + 1) r.counted ∙ sym (length_push r.messages message);
        ranges = All-push IsMessage r.messages message r.ranges is;
        whole = r.whole ∙ ap (λ rest. capture r.messages ++ rest) here ∙ sym (capture_next r.messages message next);
        agree = subst (All (Agrees announced)) more
            (All-append (Agrees announced) (selected range r.messages) (selected range (message ∷ [])) r.agree agrees);
        takes = subst (λ messages. HasReceived (λ hart. words) harts messages new) more has;
      }

  -- Receiving stops there.
  pub reached : (left : List ℕ) (number : ℕ) (old new : Received) (stop : Option (ℕ × CaptureFault))
      → (r : ReachesOf range words harts announced bytes left number old)
      → Holds (λ hart. words) harts (selected range r.messages) new
      → StopsOf range words harts announced r.messages left stop
      → HasReceivedUpTo range words harts announced bytes new stop
  reached left number old new stop r holds stops = record {
    messages = r.messages;
    rest = left;
    ranges = r.ranges;
    whole = r.whole;
    accepted = r.takes.accepts.accepted;
    agree = r.agree;
    holds = holds;
    stops = stops;
  }

  -- Receiving stops at the message behind them, which is of one of the harts and is not received.
  pub collected_at : (left next : List ℕ) (number : ℕ) (old new : Received) (message : Message) (why : ReceiveFault)
      (fault : CaptureFault) → ReachesOf range words harts announced bytes left number old
      → IsMessage message → left ≡ message_bytes message ++ next → selects range message.hart ≡ true
      → ((messages : List Message) → HasReceived (λ hart. words) harts messages old
      → Holds (λ hart. words) harts messages new)
      → ((messages : List Message) → HasReceived (λ hart. words) harts messages old
      → IsNotReceived words harts announced messages message why)
      → fault ≡ as_capture_fault why → HasReceivedUpTo range words harts announced bytes new (Some (number, fault))
  collected_at left next number old new message why fault r is here own holds refused is_fault =
      reached left number old new (Some (number, fault)) r (holds (selected range r.messages) r.takes)
      (stops_before range words harts announced r.messages left next number message why fault r.counted is here own
      (refused (selected range r.messages) r.takes) is_fault)

  -- What a receiver holds is what is decoded.
  pub collected_decoded : (received : Received) (stop : Option (ℕ × CaptureFault)) (lists : List (List Event))
      (closed : List Bool) → HasReceivedUpTo range words harts announced bytes received stop
      → ((messages : List Message) → Holds (λ hart. words) harts messages received
      → AreDecoded (λ hart. words) harts messages lists closed)
      → AreHartsDecoded range words harts announced bytes lists closed stop
  collected_decoded received stop lists closed c decoded = record {
    messages = c.messages;
    rest = c.rest;
    ranges = c.ranges;
    whole = c.whole;
    accepted = c.accepted;
    agree = c.agree;
    decoded = decoded (selected range c.messages) c.holds;
    stops = c.stops;
  }
