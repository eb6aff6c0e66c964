-- Captures that are read whole, and those that are not.
use Rattle.std.proofs.Common.{◌≡◌, ℕ, All, List, [], ◌∷◌, ◌++◌, Option, Some, None}
use Rattle.std.proofs.Common.{refl, sym, ap, subst, ◌∙◌, inl, inr, append-nil, length}
use Rattle.std.specs.Prelude.{IfSome}
use Rattle.std.proofs.lemmas.List.{append_cancel_left}
use Rattle.std.proofs.lemmas.List.Elements.{All-push}
use Rattle.message.proofs.StartsRead.{header_only}
use Rattle.message.specs.Capture.{capture, message_bytes}
use Rattle.message.specs.Cut.{IsMessage}
use Rattle.message.specs.Header.{IsHeader, IsMarked, header_bytes, setting_bytes}
use Rattle.message.specs.declared.fault.MessageFault.{MessageFault}
use Rattle.message.specs.declared.fault.MessageFault.TheVariants as message
use Rattle.message.specs.declared.header.Header.{Header}
use Rattle.message.specs.declared.message.Message.{Message}
use Rattle.captures.proofs.CapturesSplit.{capture_split, capture_none, capture_not_cut, capture_not_bad}
use Rattle.captures.proofs.Elements.{All-behind}
use Rattle.captures.proofs.HeaderFaults.{has_header, marked_by}
use Rattle.captures.proofs.Reaching.{capture_next}
use Rattle.captures.specs.NoMessage.{BeginsNone, BeginsNoHeader}
use Rattle.captures.specs.Whole.{AtHeader, AtMessage, BeginsWith, IsFront, IsReadFault, IsWhole}
use Rattle.captures.specs.steps.Reading.{AreReadUpTo}
use Rattle.captures.specs.declared.capture_reading.ReadFault.{ReadFault}
use Rattle.captures.specs.declared.capture_reading.ReadFault.TheVariants as fault

-- These messages were read of the bytes, and these are left.
pub record HasRead (bytes left : List ℕ) (messages : List Message) : Type 0 where
  pub ranges : All IsMessage messages
  pub whole : bytes ≡ capture messages ++ left

-- And then one more.
pub read_next : (bytes left next : List ℕ) (messages : List Message) (m : Message) → HasRead bytes left messages
    → IsMessage m → left ≡ message_bytes m ++ next → HasRead bytes next (messages ++ m ∷ [])
read_next bytes left next messages m has is begins = record {
  ranges = All-push IsMessage messages m has.ranges is;
  whole = has.whole ∙ ap (λ rest. capture messages ++ rest) begins ∙ sym (capture_next messages m next);
}

-- What stands in front of the bytes that are left.
pub begins_with : (bytes left : List ℕ) (header : Option Header)
    → IfSome header (λ (h : Header). IsHeader h × (bytes ≡ header_bytes h ++ left)) → (header ≡ None → ¬ IsMarked bytes)
    → (header ≡ None → left ≡ bytes) → BeginsWith header bytes left
begins_with bytes left None found none stays = (none refl, sym (stays refl))
begins_with bytes left (Some header) found none stays = found

-- What stands behind a header, or without one, is the whole.
begins_so : (bytes left behind : List ℕ) (header : Option Header) → BeginsWith header bytes left → left ≡ behind
    → BeginsWith header bytes behind
begins_so bytes left behind header begins is = subst (BeginsWith header bytes) is begins

-- What is read behind a header, or without one, is the front of the capture.
pub front_of : (bytes left : List ℕ) (header : Option Header) (messages : List Message) (stop : Option MessageFault)
    → BeginsWith header bytes left → AreReadUpTo left messages stop → IsFront bytes header messages stop
front_of bytes left header messages None begins read =
    record { ranges = read.0; whole = begins_so bytes left (capture messages) header begins read.1 }
front_of bytes left header messages (Some why) begins read = inl (record {
  rest = read.rest;
  ranges = read.ranges;
  whole = begins_so bytes left (capture messages ++ read.rest) header begins read.whole;
  stops = read.stops;
})

-- A capture with such a front is not read whole.
pub front_stops : (bytes : List ℕ) (header : Option Header) (messages : List Message) (why : MessageFault)
    → IsFront bytes header messages (Some why) → IsReadFault bytes (fault.Message (length messages) why)
front_stops bytes header messages why (inl front) = AtMessage (record {
  header = header;
  messages = messages;
  rest = front.rest;
  ranges = front.ranges;
  whole = front.whole;
  counted = refl;
  stops = front.stops;
})
front_stops bytes header messages why (inr none) =
    AtHeader (record { first = ap length none.no_messages; none = none.none })

-- Bytes begin with one header, or with none.
same_start : (bytes xs ys : List ℕ) (h k : Option Header) → BeginsWith h bytes xs → BeginsWith k bytes ys
    → (h ≡ k) × (xs ≡ ys)
same_start bytes xs ys None None one other = (refl, sym one.1 ∙ other.1)
same_start bytes xs ys None (Some k) one other = absurd (one.0 (setting_bytes k ++ ys, other.1))
same_start bytes xs ys (Some h) None one other = absurd (other.0 (setting_bytes h ++ xs, one.1))
same_start bytes xs ys (Some h) (Some k) one other =
    let both : header_bytes h ++ xs ≡ header_bytes k ++ ys = sym one.1 ∙ other.1 in
    let same = header_only h k xs ys one.0 other.0 both in (
      ap (λ h. Some h) same,
      append_cancel_left (header_bytes h) xs ys (both ∙ ap (λ (k : Header). header_bytes k ++ ys) (sym same)),
    )

-- A capture is of one header, or of none, and of one list of messages.
pub whole_only : (bytes : List ℕ) (h k : Option Header) (some others : List Message)
    → IsWhole bytes h some → IsWhole bytes k others → (h ≡ k) × (some ≡ others)
whole_only bytes h k some others one other =
    let start = same_start bytes (capture some) (capture others) h k one.whole other.whole in
    let split = capture_split some others [] one.ranges other.ranges (start.1 ∙ sym (append-nil (capture others))) in
    let none = capture_none split.later (sym split.bytes) in
    (start.0, split.whole ∙ ap (λ l. others ++ l) none ∙ append-nil others)

-- The capture of messages ends before no bytes that begin none.
ends_well : (messages : List Message) (why : MessageFault) → All IsMessage messages → BeginsNone (capture messages) why
    → ⊥
ends_well messages message.Short good cut = capture_not_cut messages good cut
ends_well messages message.BadLength good bad = capture_not_bad messages good bad
ends_well messages message.Read good none = none
ends_well messages message.Write good none = none
ends_well messages message.BadHeader good none = none

-- Nor does a capture begin with a bad header.
starts_well : (bytes rest : List ℕ) (header : Option Header) (why : MessageFault) → BeginsWith header bytes rest
    → BeginsNoHeader bytes why → ⊥
starts_well bytes rest None why begins none = begins.0 (marked_by bytes why none)
starts_well bytes rest (Some header) why begins none = has_header header rest bytes why begins.0 begins.1 none

-- A capture is whole or it is not.
pub never_both : (bytes : List ℕ) (header : Option Header) (messages : List Message) (why : ReadFault)
    → IsWhole bytes header messages → IsReadFault bytes why → why ≡ fault.Memory
never_both bytes header messages fault.Memory is stops = refl
never_both bytes header messages (fault.Message number why) is (AtHeader at) =
    absurd (starts_well bytes (capture messages) header why is.whole at.none)
never_both bytes header messages (fault.Message number why) is (AtMessage at) =
    let start =
    same_start bytes (capture messages) (capture at.messages ++ at.rest) header at.header is.whole at.whole in
    let split = capture_split messages at.messages at.rest is.ranges at.ranges start.1 in
    let later = All-behind IsMessage at.messages split.later (subst (All IsMessage) split.whole is.ranges) in
    absurd (ends_well split.later why later (subst (λ rest. BeginsNone rest why) split.bytes at.stops))
