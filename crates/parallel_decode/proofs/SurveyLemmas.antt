-- How far the messages of bytes were received in the first pass.
use Rattle.std.proofs.Common.{◌≡◌, ◌⊎◌, inl, inr, ℕ, ◌+◌, All, List, [], ◌∷◌, ◌++◌, Option, length}
use Rattle.std.proofs.Common.{refl, sym, ap, subst, ◌∙◌}
use Rattle.std.proofs.lemmas.List.{length_push}
use Rattle.std.proofs.lemmas.List.Elements.{All-append, All-nil, All-push}
use Rattle.message.proofs.Selecting.{selected-append}
use Rattle.message.specs.Range.{selected}
use Rattle.message.specs.declared.range.HartRange.{HartRange}
use Rattle.rvclass.specs.Words.{Words}
use Rattle.payload.specs.declared.mode.Mode.{Mode}
use Rattle.decoder.specs.declared.fault.DecodeFault.TheVariants.{Memory}
use Rattle.message.specs.Capture.{capture, message_bytes}
use Rattle.message.specs.Cut.{IsMessage, IsCut, HasBadLength}
use Rattle.message.specs.declared.fault.MessageFault.{MessageFault}
use Rattle.message.specs.declared.fault.MessageFault.TheVariants as message
use Rattle.message.specs.declared.message.Message.{Message}
use Rattle.receiver.specs.Holds.{AreDecoded}
use Rattle.receiver.specs.declared.fault.ReceiveFault.{ReceiveFault}
use Rattle.receiver.specs.declared.fault.ReceiveFault.TheVariants as receiving
use Rattle.captures.proofs.Reaching.{capture_next}
use Rattle.captures.specs.Decoded.{StopsOf, as_capture_fault}
use Rattle.captures.specs.NoMessage.{BeginsNone}
use Rattle.captures.specs.Returned.{IsMemory}
use Rattle.captures.specs.declared.outcome.CaptureFault.{CaptureFault}
use Rattle.parallel_decode.proofs.Owns.{all_accepted, all_agree, all_logs}
use Rattle.parallel_decode.specs.Surveyed.{NeverMemory}
use Rattle.parallel_decode.specs.declared.own.Own.{Own}
use Rattle.parallel_decode.specs.steps.Surveying.{AreOwns, IsSurveyedUpTo, closed_of}
use Rattle.parallel_decode.specs.steps.Walked.{IsOfHarts}

-- A fault of a receiver is none of memory where it is not that of its decoder.
pub never_memory_of : (why : ReceiveFault) → ¬ (why ≡ receiving.Decode Memory) → ¬ IsMemory (as_capture_fault why)
never_memory_of (receiving.Demux why) other is = is
never_memory_of receiving.Mode other is = is
never_memory_of (receiving.Decode why) other is = other (ap receiving.Decode is)

-- So many messages were gone through, and those of these harts received. These bytes are left.
pub record Reaches (range : HartRange) (words : Words) (harts : ℕ) (announced : Option Mode) (bytes left : List ℕ)
    (number : ℕ) (owns : List Own) : Type 0 where
  pub messages : List Message
  pub counted : number ≡ length messages
  pub ranges : All IsMessage messages
  pub whole : bytes ≡ capture messages ++ left
  pub of_harts : All (IsOfHarts harts) (selected range messages)
  pub owns_are : AreOwns words announced (selected range messages) owns

-- There is no message, where the bytes end inside one or its length is bad.
pub begins_none : (left : List ℕ) (why : MessageFault) → (why ≡ message.Short) ⊎ (why ≡ message.BadLength)
    → (why ≡ message.Short → IsCut left) → (why ≡ message.BadLength → HasBadLength left) → BeginsNone left why
begins_none left why (inl short) cut bad = subst (BeginsNone left) (sym short) (cut short)
begins_none left why (inr long) cut bad = subst (BeginsNone left) (sym long) (bad long)

module _ (range : HartRange) (words : Words) (harts : ℕ) (announced : Option Mode) (bytes : List ℕ) where
  -- At first none was.
  pub reaches_none : (owns : List Own) → AreOwns words announced [] owns
      → Reaches range words harts announced bytes bytes 0 owns
  reaches_none owns are = record {
    messages = [];
    counted = refl;
    ranges = All-nil IsMessage;
    whole = refl;
    of_harts = All-nil (IsOfHarts harts);
    owns_are = are;
  }

  -- And then one more.
  pub reaches_more : (left next : List ℕ) (number : ℕ) (old new : List Own) (message : Message)
      → (r : Reaches range words harts announced bytes left number old)
      → IsMessage message → left ≡ message_bytes message ++ next
      → All (IsOfHarts harts) (selected range (message ∷ []))
      → AreOwns words announced (selected range r.messages ++ selected range (message ∷ [])) new
      → Reaches range words harts announced bytes next (number + 1) new
  reaches_more left next number old new message r is here of_harts are =
      let more = sym (selected-append range r.messages (message ∷ [])) in
      record {
        messages = r.messages ++ message ∷ [];
        counted = ap (λ n. n + 1) r.counted ∙ sym (length_push r.messages message);
        ranges = All-push IsMessage r.messages message r.ranges is;
        whole = r.whole ∙ ap (λ rest. capture r.messages ++ rest) here ∙ sym (capture_next r.messages message next);
        of_harts = subst (All (IsOfHarts harts)) more
            (All-append (IsOfHarts harts) (selected range r.messages) (selected range (message ∷ [])) r.of_harts
            of_harts);
        owns_are = subst (λ messages. AreOwns words announced messages new) more are;
      }

  -- Receiving stops there.
  pub surveyed : (left : List ℕ) (number : ℕ) (old new : List Own) (stop : Option (ℕ × CaptureFault))
      → (r : Reaches range words harts announced bytes left number old) → length old ≡ harts
      → closed_of new ≡ closed_of old → StopsOf range words harts announced r.messages left stop → NeverMemory stop
      → IsSurveyedUpTo range words harts announced bytes (closed_of new) number stop
  surveyed left number old new stop r many same stops never =
      let own = selected range r.messages in
      let logs = all_logs words harts announced own r.of_harts old many r.owns_are in
      record {
        lists = logs.0;
        decoded = record {
          messages = r.messages;
          rest = left;
          ranges = r.ranges;
          whole = r.whole;
          accepted = all_accepted words harts announced own r.of_harts old many r.owns_are;
          agree = all_agree words harts announced own r.of_harts old many r.owns_are;
          decoded = subst (AreDecoded (λ hart. words) harts own logs.0) (sym same) logs.1;
          stops = stops;
        };
        counted = r.counted;
        never_memory = never;
      }
