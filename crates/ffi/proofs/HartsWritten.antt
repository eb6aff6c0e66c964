-- The logs of harts are written one after the other.
use Rattle.std.proofs.Common.{◌≡◌, ℕ, ◌+◌, ◌<◌, ◌≤◌, Bool, List, [], ◌∷◌, ◌++◌, Global, Vec, drop, length, map}
use Rattle.std.proofs.Common.{slice_index_or, ap, refl, sym, ◌∙◌}
use Rattle.std.proofs.lemmas.List.{append-nil, append_assoc, drop-map, drop_all, drop_more, length-append}
use Rattle.receiver.specs.Received.{events_in}
use Rattle.retire.specs.LogText.{log_text}
use Rattle.retire.specs.declared.event.Event.{Event}
use Rattle.ffi.specs.Decoded.{closed_at}
use Rattle.ffi.specs.Decoded.{hart_ends, texts_of}
use Rattle.ffi.specs.declared.decoding.HartEnd.{HartEnd}

-- The end of a hart's text.
abbrev pub end_at : ℕ → ℕ → HartEnd
end_at end closed = record { end = end; closed = closed }

-- The logs of the first harts are written, with their ends. Those of the others are still to be.
pub record AreWritten (lists : List (Vec Event Global)) (closed : List Bool) (place : ℕ) (text : List ℕ)
    (ends : List HartEnd) : Type 0 where
  pub texts : texts_of (events_in lists) ≡ text ++ texts_of (drop place (events_in lists))
  pub parted : hart_ends closed 0 0 (events_in lists)
      ≡ ends ++ hart_ends closed place (length text) (drop place (events_in lists))

module _ (lists : List (Vec Event Global)) (closed : List Bool) where
  -- None is.
  pub written_none : AreWritten lists closed 0 [] []
  written_none = record { texts = refl; parted = refl }

  -- What is left begins with the next hart.
  next : (place : ℕ) (own : Vec Event Global) → place < length lists → own ≡ slice_index_or lists place own
      → drop place (events_in lists) ≡ own.items ∷ drop (place + 1) (events_in lists)
  next place own within is =
      drop-map (λ (list : Vec Event Global). list.items) place lists
      ∙ ap (map (λ (list : Vec Event Global). list.items))
      (drop_more lists place own within ∙ ap (λ (one : Vec Event Global). one ∷ drop (place + 1) lists) (sym is))
      ∙ ap (λ others. own.items ∷ others) (sym (drop-map (λ (list : Vec Event Global). list.items) (place + 1) lists))

  -- One more is.
  pub written_more : (place : ℕ) (text : List ℕ) (ends : List HartEnd) (own : Vec Event Global)
      (text_after : List ℕ) (ends_after : List HartEnd) (flag : ℕ) → place < length lists
      → own ≡ slice_index_or lists place own → AreWritten lists closed place text ends
      → text_after ≡ text ++ log_text own.items → flag ≡ closed_at closed place
      → ends_after ≡ ends ++ end_at (length text_after) flag ∷ []
      → AreWritten lists closed (place + 1) text_after ends_after
  written_more place text ends own text_after ends_after flag within is before written flagged added =
      let here = next place own within is in
      let long : length text_after ≡ length text + length (log_text own.items) =
      ap length written ∙ length-append text (log_text own.items) in
      record {
        texts = before.texts ∙ ap (λ left. text ++ texts_of left) here
            ∙ sym (append_assoc text (log_text own.items) (texts_of (drop (place + 1) (events_in lists))))
            ∙ ap (λ done. done ++ texts_of (drop (place + 1) (events_in lists))) (sym written);
        parted = before.parted ∙ ap (λ left. ends ++ hart_ends closed place (length text) left) here
            ∙ ap (λ n. ends ++ end_at n (closed_at closed place)
            ∷ hart_ends closed (place + 1) n (drop (place + 1) (events_in lists))) (sym long)
            ∙ ap (λ n. ends ++ end_at (length text_after) n
            ∷ hart_ends closed (place + 1) (length text_after) (drop (place + 1) (events_in lists))) (sym flagged)
            ∙ sym (append_assoc ends (end_at (length text_after) flag ∷ [])
            (hart_ends closed (place + 1) (length text_after) (drop (place + 1) (events_in lists))))
            ∙ ap (λ done. done ++ hart_ends closed (place + 1) (length text_after) (drop (place + 1) (events_in lists)))
            (sym added);
      }

  -- None is left.
  none_left : (place : ℕ) → length lists ≤ place → drop place (events_in lists) ≡ []
  none_left place past =
      drop-map (λ (list : Vec Event Global). list.items) place lists
      ∙ ap (map (λ (list : Vec Event Global). list.items)) (drop_all place lists past)

  -- All texts are.
  pub all_texts : (place : ℕ) (text : List ℕ) (ends : List HartEnd) → length lists ≤ place
      → AreWritten lists closed place text ends → text ≡ texts_of (events_in lists)
  all_texts place text ends past done =
      sym (done.texts ∙ ap (λ left. text ++ texts_of left) (none_left place past) ∙ append-nil text)

  -- All ends are.
  pub all_ends : (place : ℕ) (text : List ℕ) (ends : List HartEnd) → length lists ≤ place
      → AreWritten lists closed place text ends → ends ≡ hart_ends closed 0 0 (events_in lists)
  all_ends place text ends past done =
      sym (done.parted ∙ ap (λ left. ends ++ hart_ends closed place (length text) left) (none_left place past)
      ∙ append-nil ends)
