-- `Count::refuses` at a call: what it is handed, and what a caller has of it. Assumes `Logic`.
use Rattle.std.proofs.Common.{◌≡◌, ℕ, List, [], ◌∷◌, refl, ap}
use Rattle.std.specs.Prelude.{Bool}
use seplogic.Ra.Ura.{Ura}
use mir.Val.{Val, vbool, vptr}
use base.Logic.{SProp, ent, sep, ex, guard, id⊢}
use base.Fml.{Lft, Share, ftrue, fsep, flft}
use prog.Memory.{Memory}
use prog.Routine.{Routine}
use types.Logic.{Logic, sem}
use contract.Monad.{Fun}
use types.Kit.{‵, ◌⊛◌, some, later, ◌$◌, ◌∵◌, !, qed, move, keep, use1, split, join, pick, fjoin, feq_i, feq_l, check}
use types.Kit.{show, await, updating, now as at_once, done}
use denote.RattleType.{RattleType}
use denote.Memory.{hidden_shr}
use denote.Builtin.{bool}
use denote.Steps.{nothing, only}
use denote.Triple.Statement.{Contract}
use denote.Triple.Spec.{triple_of}
use Rattle.cases.specs.contracts.count.Count as C
use Rattle.cases.specs.contracts.count.Count.refuses as R

abbrev Counts : RattleType
Counts = C.the_row

module _ {M : Type 1} {𝓤 : Ura M} (𝓛 : Logic 𝓤) (at_mem : Memory → SProp 𝓤) (run : Routine → Fun 𝓤) where
  abbrev pub Refuses : Contract 𝓤
  Refuses = triple_of 𝓛 R.signature (R.spec 𝓛 at_mem run)

  abbrev pub at_count : Lft → Share → Counts.Denot → ℕ × ℕ → Refuses.Ghost
  at_count κ q n c = (((κ, tt), (q, tt), tt, (record { ref_ptr = c; now = n }, tt), (vptr c.0 c.1 ∷ [], tt)), tt)

module _ {M : Type 1} {𝓤 : Ura M} (𝓛 : Logic 𝓤) (at_mem : Memory → SProp 𝓤) (run : Routine → Fun 𝓤)
    (κ : Lft) (q : Share) (n : Counts.Denot) (c : ℕ × ℕ) where
  open 𝓛 use {H, A}

  pub Refuses-goes : ent 𝓤 (sep 𝓤 (sem 𝓛 (hidden_shr Counts κ n c.0 c.1)) (A.lft κ q))
      ((Refuses 𝓛 at_mem run).pre (at_count 𝓛 at_mem run κ q n c))
  Refuses-goes =
      qed 𝓛 (‵ (hidden_shr Counts κ n c.0 c.1) ∷ ‵ (flft κ q) ∷ []) ∵
      feq_i ! (List Val) (vptr c.0 c.1 ∷ []) (vptr c.0 c.1 ∷ []) refl $ fjoin ! $
      nothing ! $ move ! (1 ∷ []) $ fjoin ! $ nothing ! $ move ! (2 ∷ []) $ join ! $ join ! $
      nothing ! $ move ! (1 ∷ []) $ join ! $ done !

  abbrev pub Gave : Val → Bool → SProp 𝓤
  Gave v b = guard 𝓤 (v ≡ vbool b) (A.lft κ q)

  pub Refuses-gives : (v : Val)
      → ent 𝓤 ((Refuses 𝓛 at_mem run).post (at_count 𝓛 at_mem run κ q n c) v) (H.⇛ (ex 𝓤 (Gave v)))
  Refuses-gives v =
      qed 𝓛 (types.Kit.raw ((Refuses 𝓛 at_mem run).post (at_count 𝓛 at_mem run κ q n c) v) ∷ []) ∵ updating ! $
      use1 𝓛 (later (some (λ (b : Bool). ((‵ (flft κ q) ⊛ ‵ ftrue) ⊛ ‵ (bool.own_val b (v ∷ [])))
      ⊛ some (λ (ws : Unit {0} × Unit {0}). ‵ (fsep ftrue ftrue) ⊛ ‵ ftrue)))) (id⊢ 𝓤 _) $ await ! tt $ pick ! (λ b.
      split ! $ split ! $ move ! (1 ∷ []) $ feq_l ! (λ e. split ! $ at_once ! $ show ! (Gave v) b $
      check ! (ap only e) $ keep ! (0 ∷ []) $ done !))
