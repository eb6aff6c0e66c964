-- SENT is whole, or it is refused.
use Rattle.std.proofs.Common.{◌≡◌, inl, inr, ℕ, All, List, [], ◌∷◌, ◌++◌, Option, Some, None, refl, sym, ap, subst, ◌∙◌}
use Rattle.std.proofs.lemmas.List.{append-nil, append_assoc, append_cancel_left}
use Rattle.message.proofs.StartsRead.{header_only}
use Rattle.message.specs.Capture.{capture}
use Rattle.message.specs.Cut.{IsMessage}
use Rattle.message.specs.Header.{header_bytes, setting_bytes}
use Rattle.message.specs.declared.header.Header.{Header}
use Rattle.message.specs.declared.message.Message.{Message}
use Rattle.captures.proofs.CapturesSplit.{capture_first, capture_split}
use Rattle.captures.proofs.Elements.{All-behind}
use Rattle.captures.proofs.WholeCaptures.{never_both}
use Rattle.captures.specs.Whole.{AtHeader, AtMessage, BeginsWith}
use Rattle.captures.specs.declared.capture_reading.ReadFault.TheVariants as reading
use Rattle.auditing.specs.Sent.{AreInTurn, IsSent, IsSentFault, known_harts, misplaced}
use Rattle.auditing.specs.declared.fault.SentFault.{SentFault}
use Rattle.auditing.specs.declared.fault.SentFault.TheVariants as fault

-- Of messages each of which is the next of its hart, none is misplaced.
in_turn_at : (harts : ℕ) (before front : List Message) (message : Message) (back : List Message)
    → AreInTurn harts before (front ++ message ∷ back) → misplaced harts (before ++ front) message ≡ None
in_turn_at harts before [] message back turn =
    ap (λ first. misplaced harts first message) (append-nil before) ∙ turn.0
in_turn_at harts before (first ∷ front) message back turn =
    ap (λ all. misplaced harts all message) (sym (append_assoc before (first ∷ []) front))
    ∙ in_turn_at harts (before ++ first ∷ []) front message back turn.1

-- Bytes begin with one header, or with none.
same_start : (bytes xs ys : List ℕ) (h k : Option Header) → BeginsWith h bytes xs → BeginsWith k bytes ys
    → (known_harts h ≡ known_harts k) × (xs ≡ ys)
same_start bytes xs ys None None one other = (refl, sym one.1 ∙ other.1)
same_start bytes xs ys None (Some k) one other = absurd (one.0 (setting_bytes k ++ ys, other.1))
same_start bytes xs ys (Some h) None one other = absurd (other.0 (setting_bytes h ++ xs, one.1))
same_start bytes xs ys (Some h) (Some k) one other =
    let both : header_bytes h ++ xs ≡ header_bytes k ++ ys = sym one.1 ∙ other.1 in
    let same = header_only h k xs ys one.0 other.0 both in (
      ap (λ (x : Header). x.harts) same,
      append_cancel_left (header_bytes h) xs ys (both ∙ ap (λ (x : Header). header_bytes x ++ ys) (sym same)),
    )

-- The only fault of SENT that is whole is that an allocation failed.
pub only_memory : (bytes : List ℕ) (header : Option Header) (messages : List Message) (why : SentFault)
    → IsSent bytes header messages → IsSentFault bytes why → why ≡ fault.Memory
only_memory bytes header messages fault.Memory is stops = refl
only_memory bytes header messages (fault.Unread number why) is (inl at) =
    cc (never_both bytes header messages (reading.Message number why) is.whole (AtHeader at))
only_memory bytes header messages (fault.Unread number why) is (inr at) =
    cc (never_both bytes header messages (reading.Message number why) is.whole (AtMessage (record {
      header = at.header;
      messages = at.messages;
      rest = at.rest;
      ranges = at.ranges;
      whole = at.whole;
      counted = at.counted;
      stops = at.refused;
    })))
only_memory bytes header messages (fault.Misplaced number why) is at =
    let start =
    same_start bytes (capture messages) (capture at.messages ++ at.rest) header at.header is.whole.whole at.whole in
    let split = capture_split messages at.messages at.rest is.whole.ranges at.ranges start.1 in
    let behind = All-behind IsMessage at.messages split.later (subst (All IsMessage) split.whole is.whole.ranges) in
    let first =
    capture_first split.later at.refused.message at.refused.more behind at.refused.ranges
    (sym split.bytes ∙ at.refused.begins) in
    let all : messages ≡ at.messages ++ at.refused.message ∷ first.0 =
    split.whole ∙ ap (λ l. at.messages ++ l) first.1 in
    let turn = in_turn_at (known_harts header) [] at.messages at.refused.message first.0
    (subst (AreInTurn (known_harts header) []) all is.in_turn) in
    cc (sym turn ∙ ap (λ harts. misplaced harts at.messages at.refused.message) start.0 ∙ at.refused.misplaced)
