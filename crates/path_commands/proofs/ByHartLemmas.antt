-- Messages that are read by hart.
use Rattle.std.proofs.Common.{◌≡◌, ◌∙◌, ◌+◌, ℕ, List, [], ◌∷◌, ◌++◌, Option, Some, None, false, true, length, map}
use Rattle.std.proofs.Common.{Global, Vec, refl, sym, ap, subst}
use Rattle.std.proofs.lemmas.List.{map-append}
use Rattle.std.proofs.lemmas.List.Sums.{sum_by-cons}
use Rattle.std.specs.Prelude.{◌&&◌, cond, is_some, nat_lt, not}
use Rattle.payload.specs.declared.by.By.{By}
use Rattle.captures.proofs.WholeCaptures.{HasRead, front_stops, never_both, whole_only}
use Rattle.captures.specs.Whole.{IsFront, IsWhole}
use Rattle.captures.specs.declared.capture_reading.ReadFault.TheVariants as read
use Rattle.message.specs.Range.{selected, selects}
use Rattle.message.specs.declared.range.HartRange.{HartRange}
use Rattle.message.specs.declared.fault.MessageFault.{MessageFault}
use Rattle.message.specs.declared.header.Header.{Header}
use Rattle.message.specs.declared.message.Message.{Message}
use Rattle.auditing.specs.Split.{AreSplit}
use Rattle.auditing.specs.Sent.{IsSent, harts_of}
use Rattle.path_commands.specs.Unnumbered.{strangers_among}
use Rattle.path_commands.specs.declared.by_hart.ByHart.{ByHart}
use Rattle.path_commands.specs.steps.Matching.{IsByHart, IsKept, strangers_of}

-- Some messages were read of the bytes, and are kept by hart; these bytes are left.
pub record HasReadByHart (harts : HartRange) (bytes left : List ℕ) (own : ByHart) : Type 0 where
  pub messages : List Message
  pub read : HasRead bytes left messages
  pub kept : IsByHart harts messages own

-- One message more is kept.
pub kept_more : (harts : HartRange) (messages : List Message) (m : Message) (own new : ByHart)
    → IsByHart harts messages own → new.harts.items ≡ own.harts.items ++ m.hart ∷ []
    → new.payloads.by ≡ own.payloads.by
    → AreSplit own.payloads.by (length own.payloads.lists) (selected harts (messages ++ m ∷ [])) new.payloads.lists
    → IsByHart harts (messages ++ m ∷ []) new
kept_more harts messages m own new has pushed by split = record {
  each =
      pushed ∙ ap (λ l. l ++ m.hart ∷ []) has.each
      ∙ sym (map-append (λ (x : Message). x.hart) messages (m ∷ []));
  split =
      subst (λ b. AreSplit b (length new.payloads.lists) (selected harts (messages ++ m ∷ [])) new.payloads.lists)
      (sym by)
      (subst (λ n. AreSplit own.payloads.by n (selected harts (messages ++ m ∷ [])) new.payloads.lists)
      (sym split.count) split);
}

-- The front of a whole capture are its messages.
pub same_front : (bytes : List ℕ) (h k : Option Header) (some others : List Message) (stop : Option MessageFault)
    → IsWhole bytes h some → IsFront bytes k others stop → others ≡ some
same_front bytes h k some others None is front = sym (whole_only bytes h k some others is front).1
same_front bytes h k some others (Some why) is front =
    absurd (never (never_both bytes h some (read.Message (length others) why) is (front_stops bytes k others why front)))
  where
    never : read.Message (length others) why ≡ read.Memory → ⊥
    never e = cc

-- Where reading by lengths stops nowhere, the front is the whole.
pub whole_front : (bytes : List ℕ) (header : Option Header) (messages : List Message) (stop : Option MessageFault)
    → IsFront bytes header messages stop → is_some stop ≡ false → IsWhole bytes header messages
whole_front bytes header messages None front is = front
whole_front bytes header messages (Some why) front is = absurd (never is)
  where
    never : true ≡ false → ⊥
    never e = cc

-- The payloads of SENT are kept.
pub kept_by : (how by : By) (range : HartRange) (bytes : Vec ℕ Global) (header : Option Header) (harts : ℕ)
    (messages front : List Message) (own : ByHart) → by ≡ how → own.payloads.by ≡ by → length own.payloads.lists ≡ harts
    → harts ≡ harts_of header messages → front ≡ messages → IsByHart range front own → IsSent bytes.items header messages
    → IsKept how range messages (record { bytes = bytes; header = header; payloads = own.payloads })
kept_by how by range bytes header harts messages front own by_is own_is count harts_is same has sent = record {
  sent = sent;
  by = own_is ∙ by_is;
  split =
      subst (λ n. AreSplit own.payloads.by n (selected range messages) own.payloads.lists) (count ∙ harts_is)
      (subst (λ m. AreSplit own.payloads.by (length own.payloads.lists) (selected range m) own.payloads.lists) same
      has.split);
}

-- Strangers by their harts.
pub strangers_are : (harts : HartRange) (count : ℕ) (messages : List Message)
    → strangers_of harts count (map (λ (m : Message). m.hart) messages) ≡ strangers_among harts count messages
strangers_are harts count [] = refl
strangers_are harts count (m ∷ messages) =
    sum_by-cons (λ (hart : ℕ). cond (selects harts hart && not (nat_lt hart count)) 1 0) m.hart
    (map (λ (x : Message). x.hart) messages)
    ∙ ap (λ n. cond (selects harts m.hart && not (nat_lt m.hart count)) 1 0 + n) (strangers_are harts count messages)
    ∙ sym (sum_by-cons (λ (x : Message). cond (selects harts x.hart && not (nat_lt x.hart count)) 1 0) m messages)
