-- The places and the entries of messages of some harts, and one message more.
use Rattle.std.proofs.Common.{◌≡◌, ◌+◌, ◌++◌, ℕ, All, Bool, true, false, List, [], ◌∷◌, Option, filter, length, refl}
use Rattle.std.proofs.Common.{sym, ap, ap₂}
use Rattle.std.proofs.Common.{◌∙◌, arith, append-nil, append_assoc, suc}
use Rattle.std.proofs.lemmas.List.{length-append}
use Rattle.std.proofs.lemmas.List.Elements.{All-head, All-tail, filter-append}
use Rattle.message.proofs.Selecting.{every_hart_selects, none_selected, one_selected, selected-append}
use Rattle.message.specs.Range.{every_hart, selected, selects}
use Rattle.message.specs.declared.range.HartRange.{HartRange}
use Rattle.rvclass.specs.Words.{Words}
use Rattle.payload.specs.declared.mode.Mode.{Mode}
use Rattle.message.specs.Capture.{capture, message_bytes}
use Rattle.message.specs.Cut.{IsMessage}
use Rattle.message.specs.declared.message.Message.{Message}
use Rattle.listing.specs.Effect.{Effect, HaveEffects}
use Rattle.listing.specs.Entries.{effect_entry, placed_entries}
use Rattle.listing.specs.Placed.{PlacedMessage, placed, placed_of}
use Rattle.listing.specs.declared.form.Form.{Form}

-- Messages have as many effects as they are.
pub effects_counted : (words : Words) (before messages : List Message) (effects : List Effect)
    → HaveEffects words before messages effects → length messages ≡ length effects
effects_counted words before [] [] have = refl
effects_counted words before [] (e ∷ effects) have = absurd have
effects_counted words before (m ∷ messages) [] have = absurd have
effects_counted words before (m ∷ messages) (e ∷ effects) have =
    ap suc (effects_counted words (before ++ m ∷ []) messages effects have.1)

-- One message more stands behind the others.
pub placed-next : (place offset : ℕ) (messages : List Message) (m : Message)
    → placed place offset (messages ++ m ∷ [])
    ≡ placed place offset messages ++ placed (place + length messages) (offset + length (capture messages)) (m ∷ [])
placed-next place offset [] m =
    let here : place ≡ place + 0 = omega arith in
    let same : offset ≡ offset + 0 = omega arith in
    ap₂ (λ place offset. placed place offset (m ∷ [])) here same
placed-next place offset (first ∷ messages) m =
    let size = length-append (message_bytes first) (capture messages) in
    let next = offset + length (message_bytes first) in
    let here : (place + 1) + length messages ≡ place + length (first ∷ messages) = omega arith in
    let same : next + length (capture messages) ≡ offset + length (capture (first ∷ messages)) = omega (arith, size) in
    let one : PlacedMessage = record { place = place; offset = offset; message = first } in
    ap (λ l. one ∷ l)
    (placed-next (place + 1) next messages m
    ∙ ap₂ (λ at from. placed (place + 1) next messages ++ placed at from (m ∷ [])) here same)

module _ (only : HartRange) where
  abbrev is_of_these : PlacedMessage → Bool
  is_of_these one = selects only one.message.hart

  placed_of-next : (place offset : ℕ) (messages : List Message) (m : Message)
      → placed_of only place offset (messages ++ m ∷ [])
      ≡ placed_of only place offset messages
      ++ placed_of only (place + length messages) (offset + length (capture messages)) (m ∷ [])
  placed_of-next place offset messages m =
      ap (λ l. filter is_of_these l) (placed-next place offset messages m)
      ∙ filter-append is_of_these (placed place offset messages)
      (placed (place + length messages) (offset + length (capture messages)) (m ∷ []))

  -- A message of these harts stands behind the others of these.
  pub placed-taken : (place offset : ℕ) (messages : List Message) (m : Message) → selects only m.hart ≡ true
      → placed_of only place offset (messages ++ m ∷ [])
      ≡ placed_of only place offset messages
      ++ record {
        place = place + length messages;
        offset = offset + length (capture messages);
        message = m;
      } ∷ []
  placed-taken place offset messages m is = placed_of-next place offset messages m ∙ rw is refl

  -- Any other is not among them.
  pub placed-passed : (place offset : ℕ) (messages : List Message) (m : Message) → selects only m.hart ≡ false
      → placed_of only place offset (messages ++ m ∷ []) ≡ placed_of only place offset messages
  placed-passed place offset messages m is =
      placed_of-next place offset messages m ∙ rw is (append-nil (placed_of only place offset messages))

  pub selected-taken : (messages : List Message) (m : Message) → selects only m.hart ≡ true
      → selected only (messages ++ m ∷ []) ≡ selected only messages ++ m ∷ []
  selected-taken messages m is =
      selected-append only messages (m ∷ []) ∙ ap (λ l. selected only messages ++ l) (one_selected only m is)

  pub selected-passed : (messages : List Message) (m : Message) → selects only m.hart ≡ false
      → selected only (messages ++ m ∷ []) ≡ selected only messages
  selected-passed messages m is =
      selected-append only messages (m ∷ []) ∙ ap (λ l. selected only messages ++ l) (none_selected only m is)
      ∙ append-nil (selected only messages)

  -- There are as many places as messages.
  pub places_counted : (place offset : ℕ) (messages : List Message)
      → length (placed_of only place offset messages) ≡ length (selected only messages)
  places_counted place offset [] = refl
  places_counted place offset (m ∷ messages) =
      by (selects only m.hart) refl (places_counted (place + 1) (offset + length (message_bytes m)) messages)
    where
      by : (b : Bool) → selects only m.hart ≡ b
          → length (placed_of only (place + 1) (offset + length (message_bytes m)) messages)
          ≡ length (selected only messages)
          → length (placed_of only place offset (m ∷ messages)) ≡ length (selected only (m ∷ messages))
      by true is more = rw is (ap suc more)
      by false is more = rw is more

-- All messages are placed, where all harts are selected.
pub all_placed : (place offset : ℕ) (messages : List Message) → All IsMessage messages
    → placed_of every_hart place offset messages ≡ placed place offset messages
all_placed place offset [] are = refl
all_placed place offset (m ∷ messages) are =
    let one : PlacedMessage = record { place = place; offset = offset; message = m } in
    rw (every_hart_selects m.hart (All-head IsMessage m messages are).hart)
    (ap (λ (l : List PlacedMessage). one ∷ l)
    (all_placed (place + 1) (offset + length (message_bytes m)) messages (All-tail IsMessage m messages are)))

module _ (form : Form) (symbols : Option (List ℕ)) (mode : Mode) where
  -- The entry of one message more stands behind those of the messages before.
  placed_entries-next : (shown : List PlacedMessage) (effects : List Effect) (one : PlacedMessage) (effect : Effect)
      → length shown ≡ length effects
      → placed_entries form symbols mode (shown ++ one ∷ []) (effects ++ effect ∷ [])
      ≡ placed_entries form symbols mode shown effects
      ++ effect_entry form symbols mode one.place one.offset one.message effect
  placed_entries-next [] [] one effect counted =
      append-nil (effect_entry form symbols mode one.place one.offset one.message effect)
  placed_entries-next [] (e ∷ effects) one effect counted = absurd (omega (arith, counted))
  placed_entries-next (s ∷ shown) [] one effect counted = absurd (omega (arith, counted))
  placed_entries-next (s ∷ shown) (e ∷ effects) one effect counted =
      let entry = effect_entry form symbols mode s.place s.offset s.message e in
      let same : length shown ≡ length effects = omega (arith, counted) in
      ap (λ l. entry ++ l) (placed_entries-next shown effects one effect same)
      ∙ sym (append_assoc entry (placed_entries form symbols mode shown effects)
      (effect_entry form symbols mode one.place one.offset one.message effect))

  -- So does that of a message of these harts, behind those of the messages of these.
  pub entries-taken : (only : HartRange) (offset : ℕ) (messages : List Message) (effects : List Effect) (m : Message)
      (effect : Effect) → selects only m.hart ≡ true → length (selected only messages) ≡ length effects
      → placed_entries form symbols mode (placed_of only 0 offset (messages ++ m ∷ [])) (effects ++ effect ∷ [])
      ≡ placed_entries form symbols mode (placed_of only 0 offset messages) effects
      ++ effect_entry form symbols mode (0 + length messages) (offset + length (capture messages)) m effect
  entries-taken only offset messages effects m effect is counted =
      ap (λ l. placed_entries form symbols mode l (effects ++ effect ∷ [])) (placed-taken only 0 offset messages m is)
      ∙ placed_entries-next (placed_of only 0 offset messages) effects
      (record { place = 0 + length messages; offset = offset + length (capture messages); message = m }) effect
      (places_counted only 0 offset messages ∙ counted)
