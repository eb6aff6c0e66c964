-- How long a walk can be.
use Rattle.std.proofs.Common.{◌≡◌, ◌≢◌, ℕ, zero, suc, ◌+◌, ◌-◌, ◌*◌, ◌<◌, ◌≤◌, Bool, true, false, ◌||◌, ◌==◌}
use Rattle.std.proofs.Common.{List, [], ◌∷◌, ◌++◌, length, Option, Some, None, refl, sym, ap, subst, ◌∙◌, arith}
use Rattle.std.proofs.Common.{length-append, nat_lt}
use Rattle.std.specs.List.{AllByRecursion}
use Rattle.std.proofs.lemmas.Bool.Decides.{nat_tests}
use Rattle.retire.proofs.OutcomesLemmas.{outcomes-branch, outcomes-other, outcomes-append}
use Rattle.retire.specs.Events.{place, privilege, is_retirement, is_branch, outcomes}
use Rattle.retire.specs.declared.event.Event.{Event}
use Rattle.retire.specs.declared.event.Event.TheVariants.{Retire, Trap}
use Rattle.rvclass.specs.Words.{Word, Words, IsProgram, LiesIn}
use Rattle.rvclass.specs.declared.class.Class.TheVariants.{Plain, Jump, Branch, Uninferable, TrapReturn, NotRetirable}
use Rattle.legalpath.proofs.FollowOnLemmas.{follow_on_split}
use Rattle.legalpath.specs.Backward.{is_backward}
use Rattle.legalpath.specs.Discontinuity.{hides_its_target, is_discontinuity}
use Rattle.legalpath.specs.Legal.{FollowOn}
use Rattle.legalpath.specs.NoneOf.{NoneOf}
use Rattle.legalpath.specs.OnlyLast.{OnlyLast}
use Rattle.legalpath.specs.Right.{RetiresOn, Right}
use Rattle.legalpath.specs.Step.{StepFrom}
use Rattle.decoder.proofs.OneWalk.{rise_one, all_last}
use Rattle.decoder.specs.Walk.{End, AtBranch, AtAddress, AtTarget, EndsAt, RetiresAt, IsWalk}

module _ (words : Words) (good : IsProgram words) (spot : ℕ → ℕ) (half : ℕ) (lies : LiesIn words spot half) where
  -- The place of a retirement.
  abbrev At : Event → ℕ → Type 0
  At e i = (i ≡ spot (place e)) × (i < half)

  -- There is an instruction where an event retires.
  on_word : (e : Event) → Right words e → is_retirement e ≡ true → (w : Word) × (words (place e) ≡ Some w)
  on_word (Retire a t p) r h = go (words a) refl r.0
    where
      go : (word : Option Word) → words a ≡ word → RetiresOn word t p → (w : Word) × (words a ≡ Some w)
      go None e k = absurd k
      go (Some w) e k = (w, e)
  on_word (Trap p i c x v) r h = cc

  stands : (e : Event) → Right words e → is_retirement e ≡ true → (i : ℕ) × At e i
  stands e r h = let w = on_word e r h in (spot (place e), (refl, lies.below (place e) w.0 w.1))

  -- Retirements at two addresses have two places.
  two_places : (e l : Event) → Right words e → is_retirement e ≡ true → Right words l → is_retirement l ≡ true
      → place e ≢ place l → spot (place e) ≢ spot (place l)
  two_places e l r h q k ne same =
      let w = on_word e r h in
      let v = on_word l q k in
      go (nat_lt (place e) (place l)) refl (nat_lt (place l) (place e)) refl
      (lies.rising (place e) (place l) w.0 v.0 w.1 v.1) (lies.rising (place l) (place e) v.0 w.0 v.1 w.1)
    where
      go : (x : Bool) → nat_lt (place e) (place l) ≡ x → (y : Bool) → nat_lt (place l) (place e) ≡ y
          → (place e < place l → spot (place e) < spot (place l)) → (place l < place e → spot (place l) < spot
          (place e))
          → ⊥
      go true is y also up down = let less = up (grind (arith, nat_tests)) in omega (arith, less, same)
      go false is true also up down = let less = down (grind (arith, nat_tests)) in omega (arith, less, same)
      go false is false also up down = ne (grind (arith, nat_tests))

  pay : (L B H i j : ℕ) → L + 1 + j ≤ B * H + H → i < H → suc L + 1 + i ≤ suc B * H + H
  pay L B H i j h k = omega arith

  pay_two : (L B H i j : ℕ) → L + 2 + j ≤ B * H + H → i < H → suc L + 2 + i ≤ suc B * H + H
  pay_two L B H i j h k = omega arith

  -- A stretch that neither jumps back nor leaves before its end.
  record Stretch (before : Option Event) (front : List Event) (l : Event) : Type 0 where
    follows : FollowOn words before (front ++ l ∷ [])
    all : AllByRecursion (λ e. is_retirement e ≡ true) (front ++ l ∷ [])
    forward : NoneOf (is_backward words) front
    stays : NoneOf (is_discontinuity words) front

  later : {b : Option Event} {e : Event} {front : List Event} {l : Event} → Stretch b (e ∷ front) l →
      Stretch (Some e) front l
  later s = record { follows = s.follows.2; all = s.all.1; forward = s.forward.1; stays = s.stays.1 }

  abbrev head_of : List Event → Event → Event
  head_of [] l = l
  head_of (e ∷ es) l = e

  head_right : (b : Option Event) (front : List Event) (l : Event) → Stretch b front l →
      Right words (head_of front l) × (is_retirement (head_of front l) ≡ true) × StepFrom words b (head_of front l)
  head_right b [] l s = (s.follows.0, s.all.0, s.follows.1)
  head_right b (e ∷ front) l s = (s.follows.0, s.all.0, s.follows.1)

  abbrev branches : List Event → ℕ
  branches w = length (outcomes w)

  one_more : (e : Event) (w : List Event) → is_branch e ≡ true → branches (e ∷ w) ≡ suc (branches w)
  one_more e w h = ap length (outcomes-branch e w h)

  same_count : (e : Event) (w : List Event) → is_branch e ≡ false → branches (e ∷ w) ≡ branches w
  same_count e w h = ap length (outcomes-other e w h)

  up : (b : Option Event) (e : Event) (front : List Event) (l : Event) (i j : ℕ) → Stretch b (e ∷ front) l →
      is_branch e ≡ false → At e i → At (head_of front l) j → i < j
  up b e front l i j s br hi hj =
      let h = head_right (Some e) front l (later s) in
      let r : place e < place (head_of front l) = rise_one words good e (head_of front l) s.follows.0 s.all.0 br
      s.forward.0 s.stays.0 h.2 in
      let w = on_word e s.follows.0 s.all.0 in
      let v = on_word (head_of front l) h.0 h.1 in
      let higher = lies.rising (place e) (place (head_of front l)) w.0 v.0 w.1 v.1 r in
      let x = hi.0 in
      let y = hj.0 in
      omega arith

  -- Each branch pays for one way through the program.
  long : (b : Option Event) (front : List Event) (l : Event) (i : ℕ) → Stretch b front l → At (head_of front l) i →
      length front + 1 + i ≤ branches front * half + half
  long b [] l i s h = let k = h.1 in omega arith
  long b (e ∷ front) l i s h =
      let r = head_right (Some e) front l (later s) in
      let n = stands (head_of front l) r.0 r.1 in
      go (is_branch e) refl n.0 n.1 (long (Some e) front l n.0 (later s) n.1)
    where
      go : (x : Bool) → is_branch e ≡ x → (j : ℕ) → At (head_of front l) j →
          length front + 1 + j ≤ branches front * half + half → length (e ∷ front) + 1 + i ≤ branches (e ∷ front) * half
          + half
      go true br j at ih =
          let c : branches (e ∷ front) ≡ suc (branches front) = one_more e front br in
          let k : suc (length front) + 1 + i ≤ suc (branches front) * half + half =
          pay (length front) (branches front) half i j ih h.1 in
          subst (λ n. suc (length front) + 1 + i ≤ n * half + half) (sym c) k
      go false br j at ih =
          let c : branches (e ∷ front) ≡ branches front = same_count e front br in
          let lt = up b e front l i j s br h at in
          let k : suc (length front) + 1 + i ≤ branches front * half + half = omega arith in
          subst (λ n. suc (length front) + 1 + i ≤ n * half + half) (sym c) k

  -- With no branch before its end it rises with each step.
  rise_all : (b : Option Event) (front : List Event) (l : Event) (i k : ℕ) → Stretch b front l →
      At (head_of front l) i → At l k → branches front ≡ 0 → length front + i ≤ k
  rise_all b [] l i k s h at z = let x = h.0 in let y = at.0 in omega arith
  rise_all b (e ∷ front) l i k s h at z =
      let r = head_right (Some e) front l (later s) in
      let n = stands (head_of front l) r.0 r.1 in
      go (is_branch e) refl n.0 n.1 (λ m. rise_all (Some e) front l n.0 k (later s) n.1 at m)
    where
      go : (x : Bool) → is_branch e ≡ x → (j : ℕ) → At (head_of front l) j →
          (branches front ≡ 0 → length front + j ≤ k) → length (e ∷ front) + i ≤ k
      go true br j here ih = let c = one_more e front br in absurd (omega arith)
      go false br j here ih =
          let c = same_count e front br in
          let lt = up b e front l i j s br h here in
          let rest = ih (sym c ∙ z) in
          omega arith

  -- A branch and a discontinuity do not stand at one place.
  apart : (e l : Event) → is_branch e ≡ true → is_discontinuity words l ≡ true → Right words e → place e ≢ place l
  apart (Trap p i c x v) l br d r same = cc
  apart (Retire a t p) (Trap q i c y v) br d r same = cc
  apart (Retire a t p) (Retire y u q) br d r same = go (words a) (rw same d) r.0 br
    where
      go : (word : Option Word) → hides_its_target word ≡ true → RetiresOn word t p → ((t == 4) || (t == 5)) ≡ true → ⊥
      go None m k br = absurd k
      go (Some (Plain, n)) m k br = cc
      go (Some (Jump to, n)) m k br = cc
      go (Some (Branch to, n)) m k br = cc
      go (Some (Uninferable, n)) m k br = let z : ((6 == 4) || (6 == 5)) ≡ true = rw k.0 at br in cc
      go (Some (TrapReturn x, n)) m k br = let z : ((3 == 4) || (3 == 5)) ≡ true = rw k.0 at br in cc
      go (Some (NotRetirable, n)) m k br = cc

  -- One less where it ends at a discontinuity and has a branch.
  shorter : (b : Option Event) (front : List Event) (l : Event) (i : ℕ) → Stretch b front l → At (head_of front l) i
      →
      is_discontinuity words l ≡ true → 1 ≤ branches front → length front + 2 + i ≤ branches front * half + half
  shorter b [] l i s h d one = absurd (omega arith)
  shorter b (e ∷ front) l i s h d one =
      let r = head_right (Some e) front l (later s) in
      let n = stands (head_of front l) r.0 r.1 in
      go (is_branch e) refl n.0 n.1 (branches front) refl (λ m. shorter (Some e) front l n.0 (later s) n.1 d m)
    where
      go : (x : Bool) → is_branch e ≡ x → (j : ℕ) → At (head_of front l) j → (m : ℕ) → branches front ≡ m →
          (1 ≤ branches front → length front + 2 + j ≤ branches front * half + half) →
          length (e ∷ front) + 2 + i ≤ branches (e ∷ front) * half + half
      go false br j at m eq ih =
          let c : branches (e ∷ front) ≡ branches front = same_count e front br in
          let lt = up b e front l i j s br h at in
          let k = ih (omega arith) in
          let z : suc (length front) + 2 + i ≤ branches front * half + half = omega arith in
          subst (λ n. suc (length front) + 2 + i ≤ n * half + half) (sym c) z
      go true br j at (suc m) eq ih =
          let c : branches (e ∷ front) ≡ suc (branches front) = one_more e front br in
          let k = ih (omega arith) in
          let z : suc (length front) + 2 + i ≤ suc (branches front) * half + half =
          pay_two (length front) (branches front) half i j k h.1 in
          subst (λ n. suc (length front) + 2 + i ≤ n * half + half) (sym c) z
      go true br j at zero eq ih =
          let c : branches (e ∷ front) ≡ 1 = one_more e front br ∙ ap suc eq in
          let last = follow_on_split words (Some e) front (l ∷ []) s.follows.2 in
          let lk = stands l last.1.0 (all_last (λ e. is_retirement e ≡ true) front l s.all.1) in
          let rise = rise_all (Some e) front l j lk.0 (later s) at lk.1 eq in
          let ne = apart e l br d s.follows.0 in
          let other : i ≢ lk.0 = (λ same. two_places e l s.follows.0 s.all.0 last.1.0
          (all_last (λ e. is_retirement e ≡ true) front l s.all.1) ne (sym h.0 ∙ same ∙ lk.1.0)) in
          let hi = h.1 in
          let hk = lk.1.1 in
          let z : suc (length front) + 2 + i ≤ 1 * half + half = omega arith in
          subst (λ n. suc (length front) + 2 + i ≤ n * half + half) (sym c) z

  only_last : (test : Event → Bool) (e : Event) (es : List Event) → OnlyLast test (e ∷ es) →
      (g : List Event) × (d : Event) × (e ∷ es ≡ g ++ d ∷ []) × NoneOf test g × (test d ≡ true)
  only_last test e [] h = ([], e, refl, tt, h)
  only_last test e (f ∷ es) h =
      let r = only_last test f es h.1 in
      (e ∷ r.0, r.1, ap (λ l. e ∷ l) r.2, (h.0, r.3), r.4)

  retire_front : (p : ℕ) (w : List Event) → AllByRecursion (RetiresAt p) w →
      AllByRecursion (λ e. is_retirement e ≡ true) w
  retire_front p [] h = tt
  retire_front p (e ∷ w) h = (h.0.0, retire_front p w h.1)

  all_front : (P : Event → Type 0) (f g : List Event) → AllByRecursion P (f ++ g) → AllByRecursion P f
  all_front P [] g h = tt
  all_front P (e ∷ f) g h = (h.0, all_front P f g h.1)

  times : (B H : ℕ) → B ≤ 31 → B * H ≤ 31 * H
  times B H h = grind arith

  fewer : (front : List Event) (l : Event) (taken : List Bool) → outcomes (front ++ l ∷ []) ≡ taken →
      length taken ≤ 31 → branches front ≤ 31
  fewer front l taken e h =
      let k = ap length (sym (outcomes-append front (l ∷ [])) ∙ e) in
      omega (arith, length-append (outcomes front) (outcomes (l ∷ [])), k)

  straight_bound : (b : Option Event) (front : List Event) (l : Event) → Stretch b front l → branches front ≤ 31 →
      length (front ++ l ∷ []) ≤ 32 * half
  straight_bound b front l s h =
      let r = head_right b front l s in
      let n = stands (head_of front l) r.0 r.1 in
      let k = long b front l n.0 s n.1 in
      let t = times (branches front) half h in
      omega (arith, length-append front (l ∷ []))

  target_bound : (b : Option Event) (g : List Event) (d l : Event) → Stretch b g d → is_discontinuity words d ≡ true
      →
      branches g ≤ 31 → length ((g ++ d ∷ []) ++ l ∷ []) ≤ 32 * half
  target_bound b g d l s disc h =
      let r = head_right b g d s in
      let n = stands (head_of g d) r.0 r.1 in
      go (branches g) refl n.0 n.1
    where
      lengths : length ((g ++ d ∷ []) ++ l ∷ []) ≡ length g + 2
      lengths = omega (arith, length-append (g ++ d ∷ []) (l ∷ []), length-append g (d ∷ []))

      go : (m : ℕ) → branches g ≡ m → (i : ℕ) → At (head_of g d) i → length ((g ++ d ∷ []) ++ l ∷ []) ≤ 32 * half
      go zero e i at =
          let k = subst (λ m. length g + 1 + i ≤ m * half + half) e (long b g d i s at) in
          let z = at.1 in
          let q = lengths in
          omega arith
      go (suc m) e i at =
          let k = shorter b g d i s at disc (omega arith) in
          let t = times (branches g) half h in
          let q = lengths in
          omega arith

  walk_bound_by : (e : Event) (taken : List Bool) (end : End) (w : List Event) → IsWalk words e taken end w →
      FollowOn words (Some e) w → length taken ≤ 31 → length w ≤ 32 * half
  walk_bound_by e taken end w walk follows h =
      let follows2 = subst (FollowOn words (Some e)) walk.whole follows in
      let all2 = retire_front (privilege e) (walk.front ++ walk.last ∷ [])
      (subst (AllByRecursion (RetiresAt (privilege e))) walk.whole walk.retirements.1) in
      let taken2 = ap outcomes (sym walk.whole) ∙ walk.branches in
      let few = fewer walk.front walk.last taken taken2 h in
      subst (λ x. length x ≤ 32 * half) (sym walk.whole)
      (by_end end walk.front walk.last follows2 all2 walk.forward few walk.ends)
    where
      by_end : (end : End) (front : List Event) (l : Event) → FollowOn words (Some e) (front ++ l ∷ []) →
          AllByRecursion (λ e. is_retirement e ≡ true) (front ++ l ∷ []) → NoneOf (is_backward words) front →
          branches front ≤ 31 → EndsAt words end e front l → length (front ++ l ∷ []) ≤ 32 * half
      by_end AtBranch front l r a f few ends = straight_bound (Some e) front l
          (record { follows = r; all = a; forward = f; stays = ends.0.1 }) few
      by_end (AtAddress x) front l r a f few ends = straight_bound (Some e) front l
          (record { follows = r; all = a; forward = f; stays = ends.0.1 }) few
      by_end (AtTarget x) [] l r a f few ends = straight_bound (Some e) [] l
          (record { follows = r; all = a; forward = f; stays = tt }) few
      by_end (AtTarget x) (g ∷ front) l r a f few ends = on_target (g ∷ front)
          (only_last (is_discontinuity words) g front ends.0.1) r a f few
        where
          on_target : (front : List Event) → (g : List Event) × (d : Event) × (front ≡ g ++ d ∷ []) ×
              NoneOf (is_discontinuity words) g × (is_discontinuity words d ≡ true) →
              FollowOn words (Some e) (front ++ l ∷ []) → AllByRecursion (λ e. is_retirement e ≡ true) (front ++ l ∷ [])
              →
              NoneOf (is_backward words) front → branches front ≤ 31 → length (front ++ l ∷ []) ≤ 32 * half
          on_target front (g, d, is, none, leaving) r a f few =
              let r2 = (follow_on_split words (Some e) (g ++ d ∷ []) (l ∷ [])
              (subst (λ x. FollowOn words (Some e) (x ++ l ∷ [])) is r)).0 in
              let a2 = all_front (λ e. is_retirement e ≡ true) (g ++ d ∷ []) (l ∷ [])
              (subst (λ x. AllByRecursion (λ e. is_retirement e ≡ true) (x ++ l ∷ [])) is a) in
              let f2 = all_front (λ e. is_backward words e ≡ false) g (d ∷ [])
              (subst (NoneOf (is_backward words)) is f) in
              let few2 = fewer g d (outcomes front) (sym (ap outcomes is)) few in
              subst (λ x. length (x ++ l ∷ []) ≤ 32 * half) (sym is)
              (target_bound (Some e) g d l (record { follows = r2; all = a2; forward = f2; stays = none }) leaving
              few2)

-- A walk has at most 32 retirements for each place of the program.
pub walk_bound : (words : Words) (spot : ℕ → ℕ) (half : ℕ) → IsProgram words → LiesIn words spot half →
    (e : Event) (taken : List Bool) (end : End) (w : List Event) → length taken ≤ 31 → IsWalk words e taken end w →
    FollowOn words (Some e) w → length w ≤ 32 * half
walk_bound words spot half good lies e taken end w few walk follows =
    walk_bound_by words good spot half lies e taken end w walk follows few
