-- The messages of a capture that are dumped one after the other.
use Rattle.std.proofs.Common.{◌≡◌, ◌≤◌, ◌<◌, ◌+◌, ◌++◌, ◌||◌, ℕ, Bool, List, [], ◌∷◌, Option, length, sym, ap, ◌∙◌}
use Rattle.std.proofs.Common.{arith, subst}
use Rattle.std.specs.Prelude.{All}
use Rattle.std.specs.Io.KnownBytes.{Appends}
use Rattle.std.specs.List.{list_any}
use Rattle.std.proofs.KnownBytes.{Appends-trans}
use Rattle.std.proofs.lemmas.List.{length-append}
use Rattle.std.proofs.lemmas.List.Concat.{flat_map-append}
use Rattle.std.proofs.lemmas.List.Elements.{All-push}
use Rattle.std.proofs.lemmas.List.Folds.{list_any-append}
use Rattle.payload.specs.declared.mode.Mode.{Mode}
use Rattle.message.specs.Capture.{capture, message_bytes}
use Rattle.message.specs.Cut.{IsMessage}
use Rattle.message.specs.declared.message.Message.{Message}
use Rattle.message.proofs.Selecting.{selected-append}
use Rattle.message.specs.Range.{selected}
use Rattle.message.specs.declared.range.HartRange.{HartRange}
use Rattle.captures.proofs.Reaching.{capture_next}
use Rattle.captures.specs.Dump.{has_bad_payload, dump_line, dump_text}

-- So many messages stand before the bytes that are left, the flag says whether a payload of those of these harts is
-- bad, and the lines of these were appended.
pub record HasDumped (symbols : Option (List ℕ)) (harts : HartRange) (mode : Mode) (bytes left : List ℕ) (count : ℕ)
    (bad : Bool)
    (old new : Option (List ℕ)) : Type 0 where
  pub messages : List Message
  pub ranges : All IsMessage messages
  pub whole : bytes ≡ capture messages ++ left
  pub counted : count ≡ length messages
  pub flag : bad ≡ list_any has_bad_payload (selected harts messages)
  pub text : Appends old new (dump_text symbols mode (selected harts messages))
  pub room : count + length left ≤ length bytes

-- One message more.
pub dumped-next : (symbols : Option (List ℕ)) (harts : HartRange) (mode : Mode) (bytes left next : List ℕ) (count : ℕ)
    (bad : Bool) (m : Message)
    (old before after : Option (List ℕ))
    → HasDumped symbols harts mode bytes left count bad old before
    → IsMessage m → Appends before after (dump_text symbols mode (selected harts (m ∷ [])))
    → left ≡ message_bytes m ++ next → length next < length left
    → HasDumped symbols harts mode bytes next (count + 1) (bad || list_any has_bad_payload (selected harts (m ∷ [])))
    old after
dumped-next symbols harts mode bytes left next count bad m old before after so_far is line begins fewer =
    let messages = so_far.messages in
    let more = length-append messages (m ∷ []) in
    let counted = so_far.counted in
    let room = so_far.room in
    record {
      messages = messages ++ m ∷ [];
      ranges = All-push IsMessage messages m so_far.ranges is;
      whole = so_far.whole ∙ ap (λ (l : List ℕ). capture messages ++ l) begins ∙ sym (capture_next messages m next);
      counted = omega (arith, counted, more);
      flag = ap (λ b. b || list_any has_bad_payload (selected harts (m ∷ []))) so_far.flag ∙ any-snoc messages;
      text =
          subst (Appends old after) (text-snoc messages)
          (Appends-trans old before after (dump_text symbols mode (selected harts messages))
          (dump_text symbols mode (selected harts (m ∷ []))) so_far.text line);
      room = omega (arith, room, fewer);
    }
  where
    text-snoc : (messages : List Message)
        → dump_text symbols mode (selected harts messages) ++ dump_text symbols mode (selected harts (m ∷ []))
        ≡ dump_text symbols mode (selected harts (messages ++ m ∷ []))
    text-snoc messages =
        sym (ap (dump_text symbols mode) (selected-append harts messages (m ∷ []))
        ∙ flat_map-append (dump_line symbols mode) (selected harts messages) (selected harts (m ∷ [])))

    any-snoc : (messages : List Message)
        → (list_any has_bad_payload (selected harts messages) || list_any has_bad_payload (selected harts (m ∷ [])))
        ≡ list_any has_bad_payload (selected harts (messages ++ m ∷ []))
    any-snoc messages =
        sym (ap (list_any has_bad_payload) (selected-append harts messages (m ∷ []))
        ∙ list_any-append has_bad_payload (selected harts messages) (selected harts (m ∷ [])))
