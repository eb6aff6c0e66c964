-- The messages that some bytes begin with, counted one by one.
use Rattle.std.proofs.Common.{◌≡◌, ◌∙◌, ◌≤◌, ◌+◌, ◌++◌, ℕ, Bool, true, false, List, [], ◌∷◌, Option, None, Some, ap, append-nil}
use Rattle.std.proofs.Common.{◌⊎◌, All, arith, inl, inr, length, refl, subst, suc, sym, zero}
use Rattle.std.proofs.lemmas.List.{length-append}
use Rattle.std.proofs.lemmas.List.Elements.{All-nil}
use Rattle.captures.proofs.WholeCaptures.{HasRead, read_next}
use Rattle.captures.specs.NoMessage.{BeginsNone}
use Rattle.captures.specs.Whole.{BeginsWith}
use Rattle.captures.specs.declared.outcome.CaptureFault.{CaptureFault}
use Rattle.message.specs.Capture.{capture, message_bytes}
use Rattle.message.specs.Cut.{HasBadLength, IsCut, IsMessage}
use Rattle.message.specs.Header.{header_bytes}
use Rattle.message.specs.declared.fault.MessageFault.{MessageFault}
use Rattle.message.specs.declared.fault.MessageFault.TheVariants as message
use Rattle.message.specs.declared.header.Header.{Header}
use Rattle.message.specs.declared.message.Message.{Message}
use Rattle.comparing.specs.Counts.{AreCounts, before_stop, payload_bytes}
use Rattle.comparing.specs.declared.hart_count.HartCount.{HartCount}
use Rattle.comparing.specs.steps.Counting.{AreCountedOn, AreCountedUpTo, comes_before, most}
use Rattle.comparing.proofs.CountedMessages.{before_more, before_same, counted_on}
use Rattle.comparing.proofs.MessageBounds.{message_longer, payload_bytes-append}

-- The bytes behind a header are no more than all.
pub rest_shorter : (bytes rest : List ℕ) (header : Option Header) → BeginsWith header bytes rest
    → length rest ≤ length bytes
rest_shorter bytes rest None begins = let same = ap length begins.1 in omega (arith, same)
rest_shorter bytes rest (Some header) begins =
    let all = ap length begins.1 ∙ length-append (header_bytes header) rest in omega (arith, all)

-- So many messages were read, and those before the one at which decoding stops were counted.
pub record HasCounted (bytes left : List ℕ) (harts : ℕ) (stop : Option (ℕ × CaptureFault)) (number : ℕ)
    (counts : List HartCount) : Type 0 where
  pub messages : List Message
  pub read : HasRead bytes left messages
  pub counted : number ≡ length messages
  pub bound : payload_bytes messages + length messages + length left ≤ length bytes
  pub are : AreCounts harts (before_stop stop messages) counts

module _ (bytes : List ℕ) (harts : ℕ) (stop : Option (ℕ × CaptureFault)) where
  pub before_none : before_stop stop [] ≡ []
  before_none = go stop where
    go : (stop : Option (ℕ × CaptureFault)) → before_stop stop [] ≡ []
    go None = refl
    go (Some at) = none at.0 where
      none : (n : ℕ) → before_stop (Some (n, at.1)) [] ≡ []
      none zero = refl
      none (suc n) = refl

  -- At first none was read.
  pub counted_none : (counts : List HartCount) → AreCounts harts [] counts → HasCounted bytes bytes harts stop 0 counts
  counted_none counts are = record {
    messages = [];
    read = record { ranges = All-nil IsMessage; whole = refl };
    counted = refl;
    bound = omega arith;
    are = subst (λ messages. AreCounts harts messages counts) (sym before_none) are;
  }

  module _ (left next : List ℕ) (number : ℕ) (counts : List HartCount) (message : Message)
      (has : HasCounted bytes left harts stop number counts) (is : IsMessage message)
      (begins : left ≡ message_bytes message ++ next) where
    bound_more : payload_bytes (has.messages ++ message ∷ []) + length (has.messages ++ message ∷ []) + length next
        ≤ length bytes
    bound_more =
        let before = has.bound in
        let bytes_are = payload_bytes-append has.messages (message ∷ []) in
        let many = length-append has.messages (message ∷ []) in
        let longer = message_longer message in
        let split = ap length begins ∙ length-append (message_bytes message) next in
        omega (arith, before, bytes_are, many, longer, split)

    -- And then one more, which is counted,
    pub counted_more : length bytes ≤ most → comes_before stop number ≡ true → (new : List HartCount)
        → AreCountedOn message counts new → HasCounted bytes next harts stop (number + 1) new
    counted_more few comes new counted =
        let more = before_more stop has.messages message (subst (λ n. comes_before stop n ≡ true) has.counted comes) in
        let bound = bound_more in
        let number_is = has.counted in
        let many = length-append has.messages (message ∷ []) in record {
          messages = has.messages ++ message ∷ [];
          read = read_next bytes left next has.messages message has.read is begins;
          counted = omega (arith, number_is, many);
          bound = bound;
          are =
              subst (λ messages. AreCounts harts messages new) (sym more.1)
              (counted_on harts has.messages message counts new (omega (arith, bound, few)) (omega (arith, bound, few))
              (subst (λ messages. AreCounts harts messages counts) more.0 has.are) counted);
        }

    -- or which is not.
    pub counted_same : comes_before stop number ≡ false → HasCounted bytes next harts stop (number + 1) counts
    counted_same comes =
        let same = before_same stop has.messages message (subst (λ n. comes_before stop n ≡ false) has.counted comes) in
        let number_is = has.counted in
        let many = length-append has.messages (message ∷ []) in record {
          messages = has.messages ++ message ∷ [];
          read = read_next bytes left next has.messages message has.read is begins;
          counted = omega (arith, number_is, many);
          bound = bound_more;
          are = subst (λ messages. AreCounts harts messages counts) (sym same) has.are;
        }

    -- Either way it was read.
    pub counted_next : length bytes ≤ most → (new : List HartCount)
        → (comes_before stop number ≡ true → AreCountedOn message counts new)
        → (comes_before stop number ≡ false → new ≡ counts) → HasCounted bytes next harts stop (number + 1) new
    counted_next few new counted kept = go (comes_before stop number) refl
      where
        go : (comes : Bool) → comes_before stop number ≡ comes → HasCounted bytes next harts stop (number + 1) new
        go true comes = counted_more few comes new (counted comes)
        go false comes =
            subst (HasCounted bytes next harts stop (number + 1)) (sym (kept comes)) (counted_same comes)

  module _ (left : List ℕ) (number : ℕ) (counts : List HartCount) (has : HasCounted bytes left harts stop number counts) where
    -- The bytes have ended,
    pub counted_whole : left ≡ [] → AreCountedUpTo bytes harts stop counts
    counted_whole ended = record {
      messages = has.messages;
      end = None;
      read = (
        has.read.ranges,
        has.read.whole ∙ ap (λ rest. capture has.messages ++ rest) ended ∙ append-nil (capture has.messages),
      );
      are = has.are;
    }

    -- or there is no complete message.
    pub counted_cut : (why : MessageFault) → (why ≡ message.Short) ⊎ (why ≡ message.BadLength)
        → (why ≡ message.Short → IsCut left) → (why ≡ message.BadLength → HasBadLength left)
        → AreCountedUpTo bytes harts stop counts
    counted_cut why either cut bad = record {
      messages = has.messages;
      end = Some why;
      read = record { rest = left; ranges = has.read.ranges; whole = has.read.whole; stops = none either };
      are = has.are;
    }
      where
        none : (why ≡ message.Short) ⊎ (why ≡ message.BadLength) → BeginsNone left why
        none (inl short) = subst (BeginsNone left) (sym short) (cut short)
        none (inr long) = subst (BeginsNone left) (sym long) (bad long)
