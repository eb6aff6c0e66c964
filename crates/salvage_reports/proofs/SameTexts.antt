-- The text of what was found is that of what is salvaged, by the offsets of the capture's frames.
use Rattle.std.proofs.Common.{◌≡◌, refl, ℕ, zero, suc, ◌+◌, ◌<◌, ◌≤◌, ◌++◌, List, [], ◌∷◌, Option, Some, ap, arith, length}
use Rattle.std.proofs.Common.{slice_get, ◌∙◌}
use Rattle.frames.specs.declared.span.Span.{Span}
use Rattle.message.specs.declared.range.HartRange.{HartRange}
use Rattle.rvclass.specs.Image.{Image}
use Rattle.frames.specs.Search.{chosen}
use Rattle.frames.specs.Start.{spans_of}
use Rattle.parallel_decode.specs.EachHart.{joined_harts}
use Rattle.salvage_reports.specs.Found.{IsFound}
use Rattle.salvage_reports.specs.Frames.{messages_in}
use Rattle.salvage_reports.specs.HartItems.{items_of}
use Rattle.salvage_reports.specs.Layouts.{found_as, front_text, hart_text, report_on, rest_text, salvaged_as}
use Rattle.salvage_reports.specs.Offsets.{offsets_in, offsets_or, own_offsets}
use Rattle.salvage_reports.specs.Totals.{totals_text}
use Rattle.salvage_reports.specs.declared.found.Found.{Found}
use Rattle.salvage_reports.specs.declared.found_writing.Layout.{Layout}
use Rattle.salvage_reports.proofs.HartLists.{one_of}
use Rattle.salvage_reports.proofs.OwnSpans.{offsets_chosen}

-- The texts of harts are the same where those of each are.
same_harts : {X : Type 0} (text other : ℕ → X → List ℕ) (hart : ℕ) (harts : List X)
    → ((k : ℕ) (own : X) → hart ≤ k → k < hart + length harts → text k own ≡ other k own)
    → joined_harts text hart harts ≡ joined_harts other hart harts
same_harts text other hart [] same = refl
same_harts text other hart (own ∷ harts) same =
    ap (λ t. t ++ joined_harts text (hart + 1) harts) (same hart own (omega arith) (omega arith))
    ∙ ap (λ l. other hart own ++ l)
    (same_harts text other (hart + 1) harts
    (λ k one from within. same k one (omega (arith, from)) (omega (arith, within))))

-- An item within a list.
some_within : {X : Type 0} (xs : List X) (i : ℕ) → i < length xs → (x : X) × (slice_get xs i ≡ Some x)
some_within [] i within = let none : ⊥ = omega (arith, within) in absurd none
some_within (x ∷ xs) zero within = (x, refl)
some_within (x ∷ xs) (suc i) within = some_within xs i (omega (arith, within))

module _ (only : HartRange) (asked : Option ℕ) (program : Image) (bytes : List ℕ) (found : Found)
    (is : IsFound only asked program bytes found) where
  abbrev spans : List Span
  spans = spans_of found.header bytes

  -- The offsets of the lists are those of the frames.
  same_offsets : (hart : ℕ) → only.first ≤ hart
      → hart < only.first + length (items_of only found.salvaged.harts.items)
      → own_offsets found.frames.offsets.items hart ≡ offsets_in hart spans
  same_offsets hart from within =
      let here = one_of only found.salvaged.harts.items hart from within in
      let known = here.within in
      let many = is.frames.count in
      let count = is.salvaged.left.left.count in
      let own = some_within found.frames.offsets.items hart (omega (arith, known, many, count)) in
      ap offsets_or own.1 ∙ is.frames.offsets hart own.0 own.1 ∙ offsets_chosen only hart spans here.selected

  -- In each layout.
  pub text_same : (layout : Layout) (symbols : Option (List ℕ))
      → found_as layout symbols found bytes ≡ salvaged_as layout symbols only found.header spans found.salvaged
  text_same layout symbols =
      ap (λ (r : HartRange). report_on layout symbols r found.header spans (length found.frames.messages.items)
      (own_offsets found.frames.offsets.items) found.salvaged) is.only_is
      ∙ ap (λ messages. report_on layout symbols only found.header spans (length messages)
      (own_offsets found.frames.offsets.items) found.salvaged) is.frames.messages
      ∙ ap (λ l. front_text layout ++ (l ++ (rest_text layout spans found.salvaged.strangers
      ++ totals_text layout (items_of only found.salvaged.harts.items) spans found.salvaged.strangers
      (length (messages_in (chosen only spans))))))
      (same_harts (λ hart own. hart_text layout symbols found.header hart (own_offsets found.frames.offsets.items hart) own)
      (λ hart own. hart_text layout symbols found.header hart (offsets_in hart spans) own) only.first
      (items_of only found.salvaged.harts.items)
      (λ k own from within. ap (λ l. hart_text layout symbols found.header k l own) (same_offsets k from within)))
