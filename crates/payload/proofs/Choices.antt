-- Which test of a chain held.
use Rattle.std.proofs.Common.{◌≡◌, ◌⊎◌, inl, inr, Bool, true, false, cond, refl}

pub chosen : {X : Type 0} (a : Bool) (x y z : X) → cond a x y ≡ z → ((a ≡ true) × (x ≡ z)) ⊎ ((a ≡ false) × (y ≡ z))
chosen true x y z e = inl (refl, e)
chosen false x y z e = inr (refl, e)

pub chosen_of_3 : {X : Type 0} (a b c : Bool) (x y z w q : X) → cond a x (cond b y (cond c z w)) ≡ q
    → ((a ≡ true) × (x ≡ q)) ⊎ (((b ≡ true) × (y ≡ q)) ⊎ (((c ≡ true) × (z ≡ q)) ⊎ (w ≡ q)))
chosen_of_3 true b c x y z w q e = inl (refl, e)
chosen_of_3 false true c x y z w q e = inr (inl (refl, e))
chosen_of_3 false false true x y z w q e = inr (inr (inl (refl, e)))
chosen_of_3 false false false x y z w q e = inr (inr (inr e))

pub chosen_of_4 : {X : Type 0} (a b c d : Bool) (x y z w v q : X) → cond a x (cond b y (cond c z (cond d w v))) ≡ q
    → ((a ≡ true) × (x ≡ q)) ⊎ (((b ≡ true) × (y ≡ q)) ⊎ (((c ≡ true) × (z ≡ q)) ⊎ (((d ≡ true) × (w ≡ q)) ⊎ (v ≡ q))))
chosen_of_4 true b c d x y z w v q e = inl (refl, e)
chosen_of_4 false b c d x y z w v q e = inr (chosen_of_3 b c d y z w v q e)

pub chosen_of_5 : {X : Type 0} (a b c d f : Bool) (x y z w v u q : X)
    → cond a x (cond b y (cond c z (cond d w (cond f v u)))) ≡ q
    → ((a ≡ true) × (x ≡ q)) ⊎ (((b ≡ true) × (y ≡ q)) ⊎ (((c ≡ true) × (z ≡ q))
    ⊎ (((d ≡ true) × (w ≡ q)) ⊎ (((f ≡ true) × (v ≡ q)) ⊎ (u ≡ q)))))
chosen_of_5 true b c d f x y z w v u q e = inl (refl, e)
chosen_of_5 false b c d f x y z w v u q e = inr (chosen_of_4 b c d f y z w v u q e)
