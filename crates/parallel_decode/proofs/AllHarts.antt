-- Where the harts that are looked at are all, what is written is what it is without a range.
use Rattle.std.proofs.Common.{◌≡◌, ◌+◌, ◌≤◌, ◌^◌, ◌++◌, ℕ, List, [], ◌∷◌, arith, length, refl, ap}
use Rattle.message.proofs.Selecting.{every_hart_selects}
use Rattle.message.specs.Range.{every_hart}
use Rattle.parallel_decode.specs.EachHart.{numbered_hart, numbered_harts, numbered_harts_of}

-- All harts that a message may be of have their text.
pub all_texts : {X : Type 0} (text : ℕ → X → List ℕ) (hart : ℕ) (harts : List X) → hart + length harts ≤ 2 ^ 16
    → numbered_harts_of every_hart text hart harts ≡ numbered_harts text hart harts
all_texts text hart [] few = refl
all_texts text hart (own ∷ harts) few =
    rw (every_hart_selects hart (omega (arith, few)))
    (ap (λ l. numbered_hart text hart own ++ l) (all_texts text (hart + 1) harts (omega (arith, few))))
