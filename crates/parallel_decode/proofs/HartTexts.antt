-- The texts of harts, one hart more at a time.
use Rattle.std.proofs.Common.{◌≡◌, ℕ, ◌+◌, sym, ap, ◌∙◌, arith, append_assoc, append-nil, List, [], refl}
use Rattle.std.proofs.Common.{◌∷◌, ◌++◌, true, false, length}
use Rattle.message.specs.Range.{selects}
use Rattle.message.specs.declared.range.HartRange.{HartRange}
use Rattle.parallel_decode.specs.EachHart.{joined_harts, numbered_hart, numbered_hart_of}

module _ {X : Type 0} (text : ℕ → X → List ℕ) where
  -- The texts of harts, and of more harts.
  pub joined-append : (hart : ℕ) (harts more : List X)
      → joined_harts text hart (harts ++ more)
      ≡ joined_harts text hart harts ++ joined_harts text (hart + length harts) more
  joined-append hart [] more = ap (λ h. joined_harts text h more) (omega arith)
  joined-append hart (own ∷ harts) more =
      ap (λ l. text hart own ++ l) (joined-append (hart + 1) harts more)
      ∙ sym (append_assoc (text hart own) (joined_harts text (hart + 1) harts)
      (joined_harts text (hart + 1 + length harts) more))
      ∙ ap (λ h. (text hart own ++ joined_harts text (hart + 1) harts) ++ joined_harts text h more) (omega arith)

  -- The text of one hart more.
  pub joined-snoc : (hart : ℕ) (harts : List X) (own : X) → joined_harts text hart (harts ++ own ∷ [])
      ≡ joined_harts text hart harts ++ text (hart + length harts) own
  joined-snoc hart harts own =
      joined-append hart harts (own ∷ [])
      ∙ ap (λ l. joined_harts text hart harts ++ l) (append-nil (text (hart + length harts) own))

-- A hart that is one of the harts in a range has its text, and one that is not has none.
pub hart_selected : {X : Type 0} (range : HartRange) (text : ℕ → X → List ℕ) (hart : ℕ) (own : X)
    → selects range hart ≡ true → numbered_hart_of range text hart own ≡ numbered_hart text hart own
hart_selected range text hart own is = rw is refl

pub hart_passed : {X : Type 0} (range : HartRange) (text : ℕ → X → List ℕ) (hart : ℕ) (own : X)
    → selects range hart ≡ false → numbered_hart_of range text hart own ≡ []
hart_passed range text hart own is = rw is refl
