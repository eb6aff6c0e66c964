-- Two walks from one event, with the same outcomes and the same end, are one walk.
use Rattle.std.proofs.Common.{◌≡◌, ℕ, ◌<◌, Bool, true, false, ◌||◌, ◌==◌, List, [], ◌∷◌, ◌++◌, Option, Some, None, refl}
use Rattle.std.proofs.Common.{sym, ap, subst, ◌∙◌, arith}
use Rattle.std.specs.List.{AllByRecursion}
use Rattle.retire.proofs.OutcomesLemmas.{outcomes-branch, outcomes-other, no_outcomes, no_last_outcome}
use Rattle.retire.specs.Events.{place, privilege, is_retirement, is_branch, is_taken, outcomes}
use Rattle.retire.specs.declared.event.Event.{Event}
use Rattle.retire.specs.declared.event.Event.TheVariants.{Retire, Trap}
use Rattle.rvclass.specs.Words.{Words, IsProgram}
use Rattle.legalpath.proofs.EventLemmas.{stand_together, stand_above}
use Rattle.legalpath.proofs.FollowOnLemmas.{follow_on_split}
use Rattle.legalpath.proofs.StepLemmas.{branch_type, same_type}
use Rattle.legalpath.specs.Backward.{is_backward}
use Rattle.legalpath.specs.Discontinuity.{is_discontinuity}
use Rattle.legalpath.specs.Legal.{FollowOn}
use Rattle.legalpath.specs.NoneOf.{NoneOf}
use Rattle.legalpath.specs.Right.{RetiresOn, Right}
use Rattle.legalpath.specs.Step.{Step}
use Rattle.decoder.specs.Walk.{End, AtBranch, AtAddress, AtTarget, EndsAt, RetiresAt, IsWalk, IsWalkFrom}

-- What is true of every event of a stretch is true of its last.
pub all_last : (P : Event → Type 0) (front : List Event) (last : Event) → AllByRecursion P (front ++ last ∷ []) → P last
all_last P [] last all = all.0
all_last P (event ∷ front) last all = all_last P front last all.1

module _ (words : Words) (good : IsProgram words) where
  -- A walk from this event, taken apart: its retirements but the last, and the last.
  pub record Side (priv : ℕ) (end : End) (from : Event) (front : List Event) (last : Event) : Type 0 where
    pub before : RetiresAt priv from
    pub follows : FollowOn words (Some from) (front ++ last ∷ [])
    pub retirements : AllByRecursion (RetiresAt priv) (front ++ last ∷ [])
    pub forward : NoneOf (is_backward words) front
    pub ends : EndsAt words end from front last

  -- A walk of more than one retirement starts at no discontinuity.
  pub straight : (end : End) (before event : Event) (front : List Event) (last : Event) →
      EndsAt words end before (event ∷ front) last → is_discontinuity words before ≡ false
  straight AtBranch before event front last h = h.0.0
  straight (AtAddress addr) before event front last h = h.0.0
  straight (AtTarget addr) before event front last h = h.0.0

  -- And what follows its first retirement ends as it does.
  pub onward : (end : End) (before event : Event) (front : List Event) (last : Event) →
      EndsAt words end before (event ∷ front) last → EndsAt words end event front last
  onward AtBranch before event front last h = (h.0.1, h.1)
  onward (AtAddress addr) before event front last h = (h.0.1, h.1)
  onward (AtTarget addr) before event front last h = (h.0.1, h.1)

  pub further : {priv : ℕ} {end : End} {before event : Event} {front : List Event} {last : Event} →
      Side priv end before (event ∷ front) last → Side priv end event front last
  further {priv} {end} {before} {event} {front} {last} s = record {
    before = s.retirements.0;
    follows = s.follows.2;
    retirements = s.retirements.1;
    forward = s.forward.1;
    ends = onward end before event front last s.ends;
  }

  -- Two retirements at one place, of one privilege, with the same outcomes from them on are one.
  pub next_same : (priv : ℕ) (e f : Event) (w v : List Event) → RetiresAt priv e → RetiresAt priv f → Right words e →
      Right words f → place e ≡ place f → outcomes (e ∷ w) ≡ outcomes (f ∷ v) → (e ≡ f) × (outcomes w ≡ outcomes v)
  next_same priv (Trap q i c x t) f w v he hf re rf at o = let no : false ≡ true = he.0 in cc
  next_same priv (Retire a t p) (Trap q i c x u) w v he hf re rf at o = let no : false ≡ true = hf.0 in cc
  next_same priv (Retire a t p) (Retire b u q) w v he hf re rf at o =
      let there : RetiresOn (words a) u q = rw at rf.0 in
      by_branch (is_branch (Retire a t p)) refl (branch_type (words a) t u p q re.0 there) there
    where
      by_branch : (branch : Bool) → is_branch (Retire a t p) ≡ branch →
          ((t == 4) || (t == 5)) ≡ ((u == 4) || (u == 5)) → RetiresOn (words a) u q →
          (Retire a t p ≡ Retire b u q) × (outcomes w ≡ outcomes v)
      by_branch true is kind there =
          let too : is_branch (Retire b u q) ≡ true = sym kind ∙ is in
          let all : is_taken (Retire a t p) ∷ outcomes w ≡ is_taken (Retire b u q) ∷ outcomes v =
          sym (outcomes-branch (Retire a t p) w is) ∙ o ∙ outcomes-branch (Retire b u q) v too in
          let taken : (t == 5) ≡ (u == 5) = cc in
          let itype : t ≡ u = same_type (words a) t u p q re.0 there taken in
          let level : p ≡ q = he.1 ∙ sym hf.1 in
          (cc, cc)
      by_branch false is kind there =
          let too : is_branch (Retire b u q) ≡ false = sym kind ∙ is in
          let rest : outcomes w ≡ outcomes v = sym (outcomes-other (Retire a t p) w is) ∙ o
          ∙ outcomes-other (Retire b u q) v too in
          let taken : (t == 5) ≡ (u == 5) = grind (arith) in
          let itype : t ≡ u = same_type (words a) t u p q re.0 there taken in
          let level : p ≡ q = he.1 ∙ sym hf.1 in
          (cc, rest)

  -- What follows a retirement that is no branch, backward jump or discontinuity stands above it.
  pub rise_one : (e f : Event) → Right words e → is_retirement e ≡ true → is_branch e ≡ false →
      is_backward words e ≡ false → is_discontinuity words e ≡ false → Step words e f → place e < place f
  rise_one e f right retired branch back stays step = stand_above words e f good retired branch back stays right step

  -- So a stretch of such retirements never comes back to its first place.
  pub no_return : (priv : ℕ) (e : Event) (front : List Event) (last : Event) → Right words e → RetiresAt priv e →
      is_branch e ≡ false → FollowOn words (Some e) (front ++ last ∷ []) →
      AllByRecursion (RetiresAt priv) (front ++ last ∷ []) → outcomes (front ++ last ∷ []) ≡ [] →
      NoneOf (is_backward words) (e ∷ front) → NoneOf (is_discontinuity words) (e ∷ front) → place e < place last
  no_return priv e [] last right at branch follows all none back stays =
      rise_one e last right at.0 branch back.0 stays.0 follows.1
  no_return priv e (f ∷ front) last right at branch follows all none back stays =
      let here : place e < place f = rise_one e f right at.0 branch back.0 stays.0 follows.1 in
      let rest = no_outcomes f (front ++ last ∷ []) none in
      let there : place f < place last =
      no_return priv f front last follows.0 all.0 rest.0 follows.2 all.1 rest.1 back.1
      stays.1 in
      omega arith

  -- Two retirements at one place are both branches or neither is.
  pub same_branch : (priv : ℕ) (e f : Event) → RetiresAt priv e → RetiresAt priv f → Right words e → Right words f →
      place e ≡ place f → is_branch e ≡ is_branch f
  same_branch priv (Trap q i c x t) f he hf re rf at = let no : false ≡ true = he.0 in cc
  same_branch priv (Retire a t p) (Trap q i c x u) he hf re rf at = let no : false ≡ true = hf.0 in cc
  same_branch priv (Retire a t p) (Retire b u q) he hf re rf at = branch_type (words a) t u p q re.0 (rw at rf.0)

  -- After a retirement with one successor the first event of a walk is known.
  pub first_same : (priv : ℕ) (before e f : Event) (w v : List Event) → RetiresAt priv before →
      is_discontinuity words before ≡ false → FollowOn words (Some before) (e ∷ w)
      → FollowOn words (Some before) (f ∷ v) →
      RetiresAt priv e → RetiresAt priv f → outcomes (e ∷ w) ≡ outcomes (f ∷ v) → (e ≡ f) × (outcomes w ≡ outcomes v)
  first_same priv before e f w v at stays follows other he hf o =
      next_same priv e f w v he hf follows.0 other.0 (stand_together words before e f at.0 stays follows.1 other.1) o

  -- A walk that may end at its first retirement does not go on.
  pub no_longer : (priv : ℕ) (end : End) (before last e : Event) (front : List Event) (other : Event) →
      Side priv end before [] last → Side priv end before (e ∷ front) other →
      outcomes (last ∷ []) ≡ outcomes (e ∷ front ++ other ∷ []) → ⊥
  no_longer priv AtBranch before last e front other s t o =
      let one =
      first_same priv before last e [] (front ++ other ∷ []) s.before s.ends.0.0 s.follows t.follows s.retirements.0
      t.retirements.0 o in
      let none : is_branch other ≡ false = no_last_outcome front other (sym one.1) in
      let branch : is_branch other ≡ true = t.ends.1 in
      cc
  no_longer priv (AtAddress addr) before last e front other s t o =
      let one =
      first_same priv before last e [] (front ++ other ∷ []) s.before s.ends.0.0 s.follows t.follows s.retirements.0
      t.retirements.0 o in
      let none : is_branch other ≡ false = no_last_outcome front other (sym one.1) in
      let at : place e ≡ place other = ap place (sym one.0) ∙ s.ends.1 ∙ sym t.ends.1 in
      let right = (follow_on_split words (Some before) (e ∷ front) (other ∷ []) t.follows).1.0 in
      let plain = same_branch priv e other t.retirements.0 (all_last (RetiresAt priv) (e ∷ front) other t.retirements)
      t.follows.0 right at ∙ none in
      let up : place e < place other = no_return priv e front other t.follows.0 t.retirements.0 plain t.follows.2
      t.retirements.1 (sym one.1) t.forward t.ends.0.1 in
      omega arith
  no_longer priv (AtTarget addr) before last e front other s t o =
      let leaves : is_discontinuity words before ≡ true = s.ends.0 in
      let stays : is_discontinuity words before ≡ false = t.ends.0.0 in
      cc

  -- Two walks of one retirement end at one place.
  pub same_end : (priv : ℕ) (end : End) (before last other : Event) → Side priv end before [] last →
      Side priv end before [] other → place last ≡ place other
  same_end priv AtBranch before last other s t =
      stand_together words before last other s.before.0 s.ends.0.0 s.follows.1
      t.follows.1
  same_end priv (AtAddress addr) before last other s t = s.ends.1 ∙ sym t.ends.1
  same_end priv (AtTarget addr) before last other s t = s.ends.1 ∙ sym t.ends.1

  pub walks_same : (priv : ℕ) (end : End) (before : Event) (front : List Event) (last : Event) (beginning : List Event)
      (other : Event) → Side priv end before front last → Side priv end before beginning other →
      outcomes (front ++ last ∷ []) ≡ outcomes (beginning ++ other ∷ []) → front ++ last ∷ [] ≡ beginning ++ other ∷ []
  walks_same priv end before [] last [] other s t o =
      let one = next_same priv last other [] [] s.retirements.0 t.retirements.0 s.follows.0 t.follows.0
      (same_end priv end before last other s t) o in
      ap (λ e. e ∷ []) one.0
  walks_same priv end before [] last (f ∷ beginning) other s t o = absurd
      (no_longer priv end before last f beginning other s t o)
  walks_same priv end before (e ∷ front) last [] other s t o =
      absurd (no_longer priv end before other e front last t s (sym o))
  walks_same priv end before (e ∷ front) last (f ∷ beginning) other s t o =
      let stays = straight end before e front last s.ends in
      let one =
      first_same priv before e f (front ++ last ∷ []) (beginning ++ other ∷ []) s.before stays s.follows t.follows
      s.retirements.0 t.retirements.0 o in
      let later : Side priv end e beginning other = subst (λ x. Side priv end x beginning other) (sym one.0)
      (further t) in
      let rest = walks_same priv end e front last beginning other (further s) later one.1 in
      cc

  -- A walk that follows on, taken apart.
  pub side : (before : Event) (taken : List Bool) (end : End) (w : List Event) →
      (walk : IsWalk words before taken end w) → FollowOn words (Some before) w →
      Side (privilege before) end before walk.front walk.last
  side before taken end w walk follows = record {
    before = walk.retirements.0;
    follows = subst (FollowOn words (Some before)) walk.whole follows;
    retirements = subst (AllByRecursion (RetiresAt (privilege before))) walk.whole walk.retirements.1;
    forward = walk.forward;
    ends = walk.ends;
  }

  -- Two walks from one event, if there is one, are one walk.
  pub walk_same : (before : Option Event) (taken : List Bool) (end : End) (w v : List Event) →
      IsWalkFrom words before taken end w → IsWalkFrom words before taken end v → FollowOn words before w →
      FollowOn words before v → w ≡ v
  walk_same None taken end w v h k follows other = absurd h
  walk_same (Some before) taken end w v h k follows other =
      let o = ap outcomes (sym h.whole) ∙ h.branches ∙ sym k.branches ∙ ap outcomes k.whole in
      h.whole
      ∙ walks_same (privilege before) end before h.front h.last k.front k.last (side before taken end w h follows)
      (side before taken end v k other) o ∙ sym k.whole
