-- Each walk that follows on is found step by step, and what is found is a walk that follows on.
use Rattle.std.proofs.Common.{◌≡◌, ℕ, zero, suc, ◌≤◌, Bool, true, false, ◌==◌, cond, List, [], ◌∷◌, ◌++◌}
use Rattle.std.proofs.Common.{length, Option, Some, None, refl, sym, ap, subst, ◌∙◌, arith, length-append}
use Rattle.std.specs.List.{AllByRecursion}
use Rattle.std.proofs.lemmas.Bool.Decides.{nat_tests}
use Rattle.std.proofs.lemmas.Bool.{and_parts}
use Rattle.isa.specs.Privilege.{IsPrivilege}
use Rattle.retire.specs.Events.{place, privilege, is_retirement, is_branch, outcomes}
use Rattle.retire.specs.declared.event.Event.{Event}
use Rattle.retire.specs.declared.event.Event.TheVariants.{Retire, Trap}
use Rattle.rvclass.specs.Words.{Words, IsProgram}
use Rattle.legalpath.specs.Backward.{is_backward}
use Rattle.legalpath.specs.Discontinuity.{is_discontinuity}
use Rattle.legalpath.specs.Right.{Right}
use Rattle.legalpath.specs.Step.{MayStandAt, MayHavePrivilegeBehind, Step}
use Rattle.legalpath.specs.Successor.{leads_from, successor}
use Rattle.legalpath.specs.WordOf.{word_of}
use Rattle.legalpath.specs.declared.next.Next.{Next}
use Rattle.legalpath.specs.declared.next.Next.TheVariants.{One, Any, NoneInside}
use Rattle.decoder.proofs.OneWalk.{Side, no_longer, side, straight, further}
use Rattle.decoder.specs.steps.Leads.{may_stay_on}
use Rattle.decoder.specs.Walk.{End, AtBranch, AtAddress, AtTarget, EndsAt, RetiresAt}
use Rattle.decoder.specs.steps.WalkSteps.{retire_on, is_empty, stops, Move, Stop, Last, On, next_move, last_move}
use Rattle.decoder.specs.steps.WalkSteps.{target_move, move_to, advance, event_then, follow, walk_within}
use Rattle.decoder.specs.steps.Walks.{WalksOn}
use Rattle.decoder.proofs.OnOneWord.{retire_on-finds, retire_on-found, empty_is, same_front, leads_one}
use Rattle.decoder.proofs.OnOneWord.{leads_any, one_stays, any_leaves, stays, kept, kept_stays}

module _ (words : Words) (good : IsProgram words) where
  -- A step from a retirement with one successor, and from a discontinuity.
  advance_one : (e : Event) (taken : List Bool) (end : End) (x : ℕ) → successor words e ≡ One x →
      advance words e taken end ≡ next_move words end (retire_on x (privilege e) (words x) taken)
  unfolding advance
  advance_one e taken end x at = ap (move_to words e taken end) at

  advance_any : (e : Event) (taken : List Bool) (end : End) → successor words e ≡ Any →
      advance words e taken end ≡ target_move words (word_of words e) (privilege e) taken end
  unfolding advance
  advance_any e taken end at = ap (move_to words e taken end) at

  one_step : (e f : Event) → is_retirement e ≡ true → is_discontinuity words e ≡ false → Step words e f →
      successor words e ≡ One (place f)
  one_step (Retire a t p) f r d s = leads_one (words a) a t (place f) d s.0
  one_step (Trap p i c x v) f r d s = cc

  any_step : (e : Event) → is_retirement e ≡ true → is_discontinuity words e ≡ true → successor words e ≡ Any
  any_step (Retire a t p) r d = leads_any (words a) a t d
  any_step (Trap p i c x v) r d = cc

  -- The first retirement of a walk is found.
  next_finds : (p : ℕ) (e f : Event) (w : List Event) (end : End) → RetiresAt p e → RetiresAt p f →
      is_discontinuity words e ≡ false → Right words f → Step words e f →
      advance words e (outcomes (f ∷ w)) end ≡ next_move words end (Some (f, outcomes w))
  next_finds p e (Trap q i c x v) w end h k d r s = let z : false ≡ true = k.0 in cc
  next_finds p e (Retire x t q) w end h k d r s =
      let level : privilege e ≡ q = h.1 ∙ sym k.1 in
      advance_one e (outcomes (Retire x t q ∷ w)) end x (one_step e (Retire x t q) h.0 d s)
      ∙ ap (λ l. next_move words end (retire_on x l (words x) (outcomes (Retire x t q ∷ w)))) level
      ∙ ap (next_move words end) (retire_on-finds x q (words x) t w r.0)

  target_finds : (p a : ℕ) (e l : Event) → RetiresAt p e → RetiresAt p l → is_discontinuity words e ≡ true →
      Right words l → Step words e l → place l ≡ a → advance words e (outcomes (l ∷ [])) (AtTarget a) ≡ Last l
  target_finds p a (Trap q i c x v) l h k d r s at = let z : false ≡ true = h.0 in cc
  target_finds p a (Retire y u z) (Trap q i c x v) h k d r s at = let z : false ≡ true = k.0 in cc
  target_finds p a (Retire y u z) (Retire x t q) h k d r s at =
      let level : q ≡ z = k.1 ∙ sym h.1 in
      let stay = stays (words y) z q (subst IsPrivilege level r.1) s.1 level in
      let there : retire_on a z (words a) (outcomes (Retire x t q ∷ [])) ≡ Some (Retire x t q, []) =
      ap (λ m. retire_on m z (words m) (outcomes (Retire x t q ∷ []))) (sym at)
      ∙ ap (λ m. retire_on x m (words x) (outcomes (Retire x t q ∷ []))) (sym level)
      ∙ retire_on-finds x q (words x) t [] r.0 in
      advance_any (Retire y u z) (outcomes (Retire x t q ∷ [])) (AtTarget a) (any_step (Retire y u z) h.0 d)
      ∙ ap (λ b. cond b (last_move (retire_on a z (words a) (outcomes (Retire x t q ∷ [])))) Stop) stay
      ∙ ap last_move there

  -- A walk that goes on does not stop.
  not_yet : (p : ℕ) (end : End) (e f : Event) (front : List Event) (l : Event) → Side words good p end e (f ∷ front) l →
      stops end f (outcomes (front ++ l ∷ [])) ≡ false
  not_yet p end e f front l s = go (stops end f (outcomes (front ++ l ∷ []))) refl
    where
      stopped : (end : End) → Side words good p end e (f ∷ front) l → stops end f (outcomes (front ++ l ∷ [])) ≡ true →
          ⊥
      stopped AtBranch s h =
          let k = and_parts (is_branch f) (is_empty (outcomes (front ++ l ∷ []))) h in
          let o = empty_is (outcomes (front ++ l ∷ [])) k.1 in
          let now : Side words good p AtBranch e [] f =
          record {
            before = s.before;
            follows = (s.follows.0, s.follows.1, tt);
            retirements =
                (s.retirements.0, tt);
            forward = tt;
            ends = ((s.ends.0.0, tt), k.0);
          } in
          no_longer words good p AtBranch e f f front l now s (same_front f [] (front ++ l ∷ []) o)
      stopped (AtAddress a) s h =
          let k = and_parts (place f == a) (is_empty (outcomes (front ++ l ∷ []))) h in
          let o = empty_is (outcomes (front ++ l ∷ [])) k.1 in
          let at : place f ≡ a = grind (arith, nat_tests, k.0) in
          let now : Side words good p (AtAddress a) e [] f =
          record {
            before = s.before;
            follows = (s.follows.0, s.follows.1, tt);
            retirements =
                (s.retirements.0, tt);
            forward = tt;
            ends = ((s.ends.0.0, tt), at);
          } in
          no_longer words good p (AtAddress a) e f f front l now s (same_front f [] (front ++ l ∷ []) o)
      stopped (AtTarget a) s h = cc

      go : (b : Bool) → stops end f (outcomes (front ++ l ∷ [])) ≡ b → stops end f (outcomes (front ++ l ∷ [])) ≡ false
      go true h = absurd (stopped end s h)
      go false h = h

  -- One step more of a walk.
  within_more : (n : ℕ) (e : Event) (taken : List Bool) (end : End) (mv : Move) → advance words e taken end ≡ mv →
      walk_within words (suc n) e taken end ≡ follow mv (λ f left. walk_within words n f left end)
  unfolding walk_within
  within_more n e taken end mv h = ap (λ m. follow m (λ f left. walk_within words n f left end)) h

  last_finds : (p : ℕ) (end : End) (e l : Event) → Side words good p end e [] l →
      advance words e (outcomes (l ∷ [])) end ≡ Last l
  last_finds p AtBranch e l s =
      next_finds p e l [] AtBranch s.before s.retirements.0 s.ends.0.0 s.follows.0 s.follows.1 ∙ rw s.ends.1 refl
  last_finds p (AtAddress a) e l s =
      let at : (place l == a) ≡ true = grind (arith, nat_tests, s.ends.1) in
      next_finds p e l [] (AtAddress a) s.before s.retirements.0 s.ends.0.0 s.follows.0 s.follows.1 ∙ rw at refl
  last_finds p (AtTarget a) e l s =
      target_finds p a e l s.before s.retirements.0 s.ends.0 s.follows.0 s.follows.1 s.ends.1

  side_finds : (p : ℕ) (end : End) (front : List Event) (e l : Event) (n : ℕ) → Side words good p end e front l →
      length front ≤ n → walk_within words (suc n) e (outcomes (front ++ l ∷ [])) end ≡ Some (front ++ l ∷ [])
  side_finds p end [] e l n s le = within_more n e _ end (Last l) (last_finds p end e l s)
  side_finds p end (f ∷ front) e l zero s le = absurd (omega arith)
  side_finds p end (f ∷ front) e l (suc n) s le =
      let d = straight words good end e f front l s.ends in
      let moves : advance words e (outcomes (f ∷ front ++ l ∷ [])) end ≡ On f (outcomes (front ++ l ∷ [])) =
      next_finds p e f (front ++ l ∷ []) end s.before s.retirements.0 d s.follows.0 s.follows.1
      ∙ rw (not_yet p end e f front l s, s.forward.0) refl in
      within_more (suc n) e (outcomes (f ∷ front ++ l ∷ [])) end (On f (outcomes (front ++ l ∷ []))) moves
      ∙ ap (event_then f) (side_finds p end front f l n (further words good s) (omega arith))

  -- Each walk that follows on is found, in as many steps as it is long or more.
  pub walk_complete : (e : Event) (taken : List Bool) (end : End) (w : List Event) (n : ℕ) →
      WalksOn words e taken end w → length w ≤ n → walk_within words n e taken end ≡ Some w
  walk_complete e taken end w zero h le =
      absurd (omega (arith, length-append h.fits.front (h.fits.last ∷ []), ap length h.fits.whole))
  walk_complete e taken end w (suc n) h le =
      let s = side words good e taken end w h.fits h.follows in
      let k = ap length h.fits.whole in
      let o : outcomes (h.fits.front ++ h.fits.last ∷ []) ≡ taken = sym (ap outcomes h.fits.whole) ∙ h.fits.branches in
      let short : length h.fits.front ≤ n = omega (arith, length-append h.fits.front (h.fits.last ∷ []), k) in
      ap (λ l. walk_within words (suc n) e l end) (sym o) ∙ side_finds (privilege e) end h.fits.front e h.fits.last n s
      short ∙ ap Some (sym h.fits.whole)

  -- One retirement that was found after e.
  record Stepped (e : Event) (taken : List Bool) (f : Event) (left : List Bool) : Type 0 where
    right : Right words f
    step : Step words e f
    here : RetiresAt (privilege e) f
    spent : (w : List Event) → outcomes w ≡ left → outcomes (f ∷ w) ≡ taken

  stepped : (e : Event) (x : ℕ) (taken : List Bool) (f : Event) (left : List Bool) → is_retirement e ≡ true →
      IsPrivilege (privilege e) → MayStandAt (successor words e) x → MayHavePrivilegeBehind words e (privilege e) →
      retire_on x (privilege e) (words x) taken ≡ Some (f, left) → Stepped e taken f left
  stepped e x taken f left r p at level h =
      let found = retire_on-found x (privilege e) (words x) taken (f, left) h in
      let is : Retire x found.itype (privilege e) ≡ f = sym found.is in
      record {
        right = subst (Right words) is (found.stands, p);
        step = subst (Step words e) is (at, level);
        here = subst (RetiresAt (privilege e)) is (refl, refl);
        spent = found.spent;
      }

  -- A walk of one retirement.
  walk_one : (e f : Event) (taken : List Bool) (end : End) → is_retirement e ≡ true → Stepped e taken f [] →
      EndsAt words end e [] f → WalksOn words e taken end (f ∷ [])
  walk_one e f taken end r s ends = record {
    fits = record {
      front = [];
      last = f;
      whole = refl;
      retirements = ((r, refl), (s.here, tt));
      branches =
          s.spent [] refl;
      forward = tt;
      ends = ends;
    };
    follows = (s.right, s.step, tt);
  }

  on_front : (end : End) (e f : Event) (front : List Event) (l : Event) → is_discontinuity words e ≡ false →
      EndsAt words end f front l → EndsAt words end e (f ∷ front) l
  on_front AtBranch e f front l d h = ((d, h.0), h.1)
  on_front (AtAddress a) e f front l d h = ((d, h.0), h.1)
  on_front (AtTarget a) e f front l d h = ((d, h.0), h.1)

  -- A walk of one retirement more.
  walk_more : (e f : Event) (taken left : List Bool) (end : End) (w : List Event) → is_retirement e ≡ true →
      is_discontinuity words e ≡ false → is_backward words f ≡ false → Stepped e taken f left →
      WalksOn words f left end w → WalksOn words e taken end (f ∷ w)
  walk_more e f taken left end w r d b s h = record {
    fits = record {
      front = f ∷ h.fits.front;
      last = h.fits.last;
      whole = ap (λ l. f ∷ l) h.fits.whole;
      retirements = ((r, refl), (s.here, subst (λ x. AllByRecursion (RetiresAt x) w) s.here.1 h.fits.retirements.1));
      branches = s.spent w h.fits.branches;
      forward = (b, h.fits.forward);
      ends = on_front end e f h.fits.front h.fits.last d h.fits.ends;
    };
    follows = (s.right, s.step, h.follows);
  }

  stop_sound : (end : End) (e f : Event) (left : List Bool) → is_discontinuity words e ≡ false →
      stops end f left ≡ true → EndsAt words end e [] f × ([] ≡ left)
  stop_sound AtBranch e f left d h = let k = and_parts (is_branch f) (is_empty left) h in
      (((d, tt), k.0), empty_is left k.1)
  stop_sound (AtAddress a) e f left d h = let k = and_parts (place f == a) (is_empty left) h in
      (((d, tt), grind (arith, nat_tests, k.0)), empty_is left k.1)
  stop_sound (AtTarget a) e f left d h = cc

  -- What a step shows of the walks from e.
  abbrev Shows : Event → List Bool → End → Move → Type 0
  Shows e taken end Stop = Unit {0}
  Shows e taken end (Last f) = WalksOn words e taken end (f ∷ [])
  Shows e taken end (On f left) = (is_discontinuity words e ≡ false) × (is_backward words f ≡ false) ×
      Stepped e taken f left

  next_sound : (e : Event) (taken : List Bool) (end : End) (x : ℕ) → is_retirement e ≡ true →
      IsPrivilege (privilege e) → is_discontinuity words e ≡ false → successor words e ≡ One x →
      Shows e taken end (next_move words end (retire_on x (privilege e) (words x) taken))
  next_sound e taken end x r p d at = go (retire_on x (privilege e) (words x) taken) refl
    where
      there : MayStandAt (successor words e) x
      there = subst (λ n. MayStandAt n x) (sym at) refl

      level : (e : Event) → is_retirement e ≡ true → is_discontinuity words e ≡ false →
          MayHavePrivilegeBehind words e (privilege e)
      level (Retire a t q) r d = kept (words a) q d
      level (Trap q i c y v) r d = cc

      on_tests : (f : Event) (left : List Bool) → Stepped e taken f left → (stop back : Bool) →
          stops end f left ≡ stop → is_backward words f ≡ back → Shows e taken end
          (cond stop (Last f) (cond back Stop (On f left)))
      on_tests f left s true back h b =
          let stop = stop_sound end e f left d h in
          walk_one e f taken end r (subst (Stepped e taken f) (sym stop.1) s) stop.0
      on_tests f left s false true h b = tt
      on_tests f left s false false h b = (d, b, s)

      go : (o : Option (Event × List Bool)) → retire_on x (privilege e) (words x) taken ≡ o →
          Shows e taken end (next_move words end o)
      go None h = tt
      go (Some (f, left)) h = on_tests f left (stepped e x taken f left r p there (level e r d) h) (stops end f left)
          (is_backward words f) refl refl

  target_sound : (e : Event) (taken : List Bool) (end : End) → is_retirement e ≡ true → IsPrivilege (privilege e) →
      is_discontinuity words e ≡ true → Shows e taken end (target_move words (word_of words e) (privilege e) taken end)
  target_sound e taken AtBranch r p d = tt
  target_sound e taken (AtAddress a) r p d = tt
  target_sound (Trap q i c y v) taken (AtTarget a) r p d = cc
  target_sound (Retire y t q) taken (AtTarget a) r p d = go (may_stay_on (words y) q) refl
    where
      e : Event
      e = Retire y t q

      there : MayStandAt (successor words e) a
      there = subst (λ n. MayStandAt n a) (sym (leads_any (words y) y t d)) tt

      only : (o : Option (Event × List Bool)) → retire_on a q (words a) taken ≡ o → may_stay_on (words y) q ≡ true →
          Shows e taken (AtTarget a) (last_move o)
      only None h m = tt
      only (Some (f, o ∷ left)) h m = tt
      only (Some (f, [])) h m =
          let s = stepped e a taken f [] r p there (kept_stays (words y) q m) h in
          let at : place f ≡ a = ap place (retire_on-found a q (words a) taken (f, []) h).is in
          walk_one e f taken (AtTarget a) r s (d, at)

      go : (b : Bool) → may_stay_on (words y) q ≡ b → Shows e taken (AtTarget a)
          (cond b (last_move (retire_on a q (words a) taken)) Stop)
      go false m = tt
      go true m = only (retire_on a q (words a) taken) refl m

  advance_sound : (e : Event) (taken : List Bool) (end : End) → is_retirement e ≡ true → IsPrivilege (privilege e) →
      Shows e taken end (advance words e taken end)
  unfolding advance
  advance_sound (Trap q i c y v) taken end r p = cc
  advance_sound (Retire a t q) taken end r p = go (leads_from a t (words a)) refl
    where
      go : (n : Next) → leads_from a t (words a) ≡ n → Shows (Retire a t q) taken end
          (move_to words (Retire a t q) taken end n)
      go (One x) h = next_sound (Retire a t q) taken end x r p (one_stays (words a) a t x h) h
      go Any h = target_sound (Retire a t q) taken end r p (any_leaves (words a) a t h)
      go NoneInside h = tt

  -- What is found is a walk that follows on.
  pub walk_sound : (n : ℕ) (e : Event) (taken : List Bool) (end : End) (w : List Event) → is_retirement e ≡ true →
      IsPrivilege (privilege e) → walk_within words n e taken end ≡ Some w → WalksOn words e taken end w
  unfolding walk_within
  walk_sound zero e taken end w r p h = cc
  walk_sound (suc n) e taken end w r p h = go (advance words e taken end) (advance_sound e taken end r p) h
      (λ f v left k q. walk_sound n f left end v k.0 q)
    where
      Later : Type 0
      Later = (f : Event) (v : List Event) (left : List Bool) → RetiresAt (privilege e) f → IsPrivilege (privilege f) →
          walk_within words n f left end ≡ Some v → WalksOn words f left end v

      on_rest : (f : Event) (left : List Bool) → (is_discontinuity words e ≡ false) × (is_backward words f ≡ false) ×
          Stepped e taken f left → (o : Option (List Event)) → walk_within words n f left end ≡ o →
          event_then f o ≡ Some w → Later → WalksOn words e taken end w
      on_rest f left s None k h later = cc
      on_rest f left s (Some v) k h later =
          let q : IsPrivilege (privilege f) = subst IsPrivilege (sym s.2.here.1) p in
          let rest = later f v left s.2.here q k in
          let is : f ∷ v ≡ w = cc in
          subst (WalksOn words e taken end) is (walk_more e f taken left end v r s.0 s.1 s.2 rest)

      go : (mv : Move) → Shows e taken end mv → follow mv (λ f left. walk_within words n f left end) ≡ Some w → Later →
          WalksOn words e taken end w
      go Stop s h later = cc
      go (Last f) s h later = let is : f ∷ [] ≡ w = cc in subst (WalksOn words e taken end) is s
      go (On f left) s h later = on_rest f left s (walk_within words n f left end) refl h later
