-- What is drawn of an order, step by step.
use Rattle.std.proofs.Common.{◌≡◌, ◌∙◌, ◌+◌, ◌%◌, ◌++◌, ap, arith, refl, sym, ℕ, suc, List, [], replicate}
use Rattle.rand_pcg.specs.Lcg.{Lcg}
use Rattle.rand_pcg.specs.Pcg.{pcg32}
use Rattle.stimulus.specs.ImageBytes.{generator}
use Rattle.stimulus.specs.Order.{Drawn, first_drawn, weighed}

module _ (random : Lcg) where
  -- No hart is listed at first.
  pub weighed_none : ([], random) ≡ weighed random 0
  unfolding weighed
  weighed_none = refl

  abbrev weigh : ℕ → List ℕ × Lcg → List ℕ × Lcg
  weigh harts before = let draw = pcg32 before.1 in (before.0 ++ replicate (draw.0 % 4 + 1) harts, draw.1)

  weigh_is : (harts : ℕ) → weigh harts (weighed random harts) ≡ weighed random (suc harts)
  unfolding weighed
  weigh_is harts = refl

  -- One hart more.
  pub weighed_more : (harts draw : ℕ) (listed more : List ℕ) (mid after : Lcg) → (listed, mid) ≡ weighed random harts
      → (draw, after) ≡ pcg32 mid → more ≡ listed ++ replicate (draw % 4 + 1) harts
      → (more, after) ≡ weighed random (harts + 1)
  weighed_more harts draw listed more mid after is drawn more_is =
      let next : harts + 1 ≡ suc harts = omega arith in
      ap (λ l. (l, after)) more_is
      ∙ ap (λ (d : ℕ × Lcg). (listed ++ replicate (d.0 % 4 + 1) harts, d.1)) drawn
      ∙ ap (weigh harts) is ∙ weigh_is harts ∙ ap (weighed random) (sym next)

-- The order before its first turn.
pub first_is : (seed harts burst ending ends : ℕ) (listed : List ℕ) (random : Lcg)
    → (listed, random) ≡ weighed (generator seed 32768) harts
    → ◌≡◌ {A = Drawn} (record {
      random = random;
      listed = listed;
      burst = burst;
      ending = ending;
      ends = ends;
      hart = 0;
      left = 0;
    }) (first_drawn seed harts burst ending ends)
unfolding first_drawn
first_is seed harts burst ending ends listed random is =
    ap (λ (l : List ℕ × Lcg). record {
      random = l.1;
      listed = l.0;
      burst = burst;
      ending = ending;
      ends = ends;
      hart = 0;
      left = 0;
    }) is
