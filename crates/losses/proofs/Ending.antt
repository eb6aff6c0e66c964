-- The stretches of harts are ended one after the other.
use Rattle.std.proofs.Common.{◌≡◌, ◌≢◌, ◌⊎◌, inl, inr, ℕ, ◌+◌, ◌<◌, ◌≤◌, List, Some, set, slice_get, sym, subst, ◌∙◌}
use Rattle.std.proofs.Common.{arith}
use Rattle.std.proofs.lemmas.Option.{same_Some}
use Rattle.message.proofs.AcceptedLemmas.{slice_get-set}
use Rattle.losses.specs.steps.Collecting.{IsEnded}
use Rattle.losses.specs.declared.hart_trace.HartTrace.{HartTrace}
use Rattle.losses.specs.declared.part.HartPieces.{HartPieces}

-- What is behind a place that was written stands as it did.
pub left_behind : {X : Type 0} (before xs : List X) (i : ℕ) (y : X)
    → ((k : ℕ) (x : X) → i ≤ k → slice_get xs k ≡ Some x → slice_get before k ≡ Some x)
    → (k : ℕ) (x : X) → i + 1 ≤ k → slice_get (set xs i y) k ≡ Some x → slice_get before k ≡ Some x
left_behind before xs i y left k x behind is = by_place (slice_get-set xs i y k x is)
  where
    by_place : ((i ≡ k) × (x ≡ y)) ⊎ ((i ≢ k) × (slice_get xs k ≡ Some x)) → slice_get before k ≡ Some x
    by_place (inl (same, written)) = let never : ⊥ = omega (arith, behind, same) in absurd never
    by_place (inr (apart, stood)) = left k x (omega (arith, behind)) stood

module _ {A : Type 0} (traces_before : List (HartTrace A)) (pieces_before pieces : List (HartPieces A)) (i : ℕ)
    (trace : HartTrace A) (old new : HartPieces A) where
  -- One more is ended.
  pub ended_more : slice_get traces_before i ≡ Some trace → slice_get pieces_before i ≡ Some old
      → IsEnded trace old new
      → ((k : ℕ) (t : HartTrace A) (o n : HartPieces A) → k < i → slice_get traces_before k ≡ Some t
      → slice_get pieces_before k ≡ Some o → slice_get pieces k ≡ Some n → IsEnded t o n)
      → (k : ℕ) (t : HartTrace A) (o n : HartPieces A) → k < i + 1 → slice_get traces_before k ≡ Some t
      → slice_get pieces_before k ≡ Some o → slice_get (set pieces i new) k ≡ Some n → IsEnded t o n
  ended_more at_trace at_old ended before k t o n within of_trace of_old of_new =
      by_place (slice_get-set pieces i new k n of_new)
    where
      by_place : ((i ≡ k) × (n ≡ new)) ⊎ ((i ≢ k) × (slice_get pieces k ≡ Some n)) → IsEnded t o n
      by_place (inl (same, is)) =
          let is_trace : trace ≡ t =
          same_Some trace t (sym at_trace ∙ subst (λ h. slice_get traces_before h ≡ Some t) (sym same) of_trace) in
          let is_old : old ≡ o =
          same_Some old o (sym at_old ∙ subst (λ h. slice_get pieces_before h ≡ Some o) (sym same) of_old) in
          subst (λ x. IsEnded t o x) (sym is) (subst (λ x. IsEnded t x new) is_old
          (subst (λ x. IsEnded x old new) is_trace ended))
      by_place (inr (apart, stood)) = before k t o n (omega (arith, within, apart)) of_trace of_old stood
