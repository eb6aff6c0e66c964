-- The two passes over a walk, one step at a time.
use Rattle.std.proofs.Common.{◌≡◌, ℕ, zero, suc, ◌+◌, ◌-◌, ◌<◌, ◌≤◌, Bool, true, false, List, [], ◌∷◌, ◌++◌, drop}
use Rattle.std.proofs.Common.{length, Option, Some, None, refl, sym, ap, subst, ◌∙◌, arith, append_assoc, append-nil}
use Rattle.std.specs.List.{last_or}
use Rattle.retire.specs.declared.event.Event.{Event}
use Rattle.rvclass.specs.Words.{Words}
use Rattle.decoder.specs.Walk.{End}
use Rattle.decoder.specs.steps.Retracing.{Retraces, HasRoomWithin, AddsWithin, IsAhead, Adding}
use Rattle.decoder.specs.steps.WalkSteps.{Move, Stop, Last, On, advance, follow, event_then, walk_within, summary, plus}
use Rattle.decoder.specs.steps.Walks.{event_of, Carries}
use Rattle.decoder.specs.declared.stepping.Here.{Here}

pub one_move : (words : Words) (n : ℕ) (e : Event) (taken : List Bool) (end : End) (mv : Move) →
    mv ≡ advance words e taken end → walk_within words (suc n) e taken end ≡ follow mv
    (λ f left. walk_within words n f left end)
unfolding walk_within
one_move words n e taken end mv h = ap (λ m. follow m (λ f left. walk_within words n f left end)) (sym h)

none_within : (words : Words) (n : ℕ) (e : Event) (taken : List Bool) (end : End) → n ≡ 0 →
    walk_within words n e taken end ≡ None
unfolding walk_within
none_within words zero e taken end h = refl
none_within words (suc n) e taken end h = absurd (omega (arith, h))

plus_one : (i : ℕ) (e f : Event) (o : Option (List Event)) → plus i (summary e (event_then f o)) ≡ plus (i + 1)
    (summary f o)
plus_one i e f None = refl
plus_one i e f (Some w) = let more : i + suc (length w) ≡ i + 1 + length w = omega arith in
    ap (λ n. Some (n, last_or (Some f) w)) more

-- How many steps are ahead after `done` of `limit`.
pub one_less : (done limit : ℕ) → done < limit → limit - done ≡ suc (limit - (done + 1))
one_less done limit h = omega arith

module _ (words : Words) (end : End) (from : Event) (taken : List Bool) (limit done : ℕ) (here : Event)
    (left : List Bool) (inv : summary from (walk_within words limit from taken end) ≡ plus done
    (summary here (walk_within words (limit - done) here left end))) where
  opened : (mv : Move) → done < limit → mv ≡ advance words here left end →
      summary from (walk_within words limit from taken end) ≡ plus done
      (summary here (follow mv (λ f rest. walk_within words (limit - (done + 1)) f rest end)))
  opened mv lt h =
      inv
      ∙ ap (λ n. plus done (summary here (walk_within words n here left end))) (one_less done limit lt)
      ∙ ap (λ o. plus done (summary here o)) (one_move words (limit - (done + 1)) here left end mv h)

  pub measure_stops : done < limit → Stop ≡ advance words here left end →
      None ≡ summary from (walk_within words limit from taken end)
  measure_stops lt h = sym (opened Stop lt h)

  pub measure_ends : (f e : Event) → done < limit → Last f ≡ advance words here left end → e ≡ f →
      Some (done + 1, Some e) ≡ summary from (walk_within words limit from taken end)
  measure_ends f e lt h is = ap (λ l. Some (done + 1, Some l)) is ∙ sym (opened (Last f) lt h)

  pub measure_goes : (f : Event) (rest : List Bool) → done < limit → On f rest ≡ advance words here left end →
      summary from (walk_within words limit from taken end) ≡ plus (done + 1)
      (summary f (walk_within words (limit - (done + 1)) f rest end))
  measure_goes f rest lt h = opened (On f rest) lt h ∙ plus_one done here f _

  pub measure_over : limit ≤ done → None ≡ summary from (walk_within words limit from taken end)
  measure_over le = let over : limit - done ≡ 0 = omega arith in
      sym (inv ∙ ap (λ o. plus done (summary here o)) (none_within words (limit - done) here left end over))

-- What is left of a walk after its first retirement.
pub record Cut (rest : Option (List Event)) (f : Event) (back : List Event) : Type 0 where
  pub tail : List Event
  pub is : back ≡ f ∷ tail
  pub later : rest ≡ Some tail

pub cut_of : (rest : Option (List Event)) (f : Event) (back : List Event) → event_then f rest ≡ Some back → Cut rest f back
cut_of None f back h = cc
cut_of (Some w) f back h = record { tail = w; is = cc; later = refl }

module _ (words : Words) (end : End) where
  -- The first retirement of what is left of a walk was reached, and this is left behind it.
  record Reached (here : Here) (left : List Bool) (back : List Event) : Type 0 where
    tail : List Event
    is : back ≡ event_of here ∷ tail
    later : IsAhead words here left end tail

  module _ (taken : List Bool) (here : Here) (used : ℕ) where
    ahead_of : (n : ℕ) (f : Event) (left : List Bool) → (event_of here ≡ f) × (drop used taken ≡ left) ×
        Carries words here → (tail : List Event) → walk_within words n f left end ≡ Some tail →
        IsAhead words here (drop used taken) end tail
    ahead_of n f left there [] h = tt
    ahead_of n f left there (g ∷ tail) h = (
      there.2,
      n,
      ap (λ e. walk_within words n e (drop used taken) end) there.0
          ∙ ap (λ l. walk_within words n f l end) there.1 ∙ h,
    )

    reached_by : (n : ℕ) (mv : Move) (f : Event) (tail : List Event) →
        follow mv (λ g l. walk_within words n g l end) ≡ Some (f ∷ tail) → Retraces words taken here used true mv →
        Reached here (drop used taken) (f ∷ tail)
    reached_by n Stop f tail h there = cc
    reached_by n (Last g) f tail h there =
        let last : g ∷ [] ≡ f ∷ tail = cc in
        record { tail = []; is = sym last ∙ ap (λ e. e ∷ []) (sym there); later = tt }
    reached_by n (On g left) f tail h there =
        let cut = cut_of (walk_within words n g left end) g (f ∷ tail) h in
        record {
          tail = cut.tail;
          is = cut.is ∙ ap (λ e. e ∷ cut.tail) (sym there.0);
          later =
              ahead_of n g left there cut.tail cut.later;
        }

    reached : (from : Here) (left : List Bool) (back : List Event) → IsAhead words from left end back →
        0 < length back → Retraces words taken here used true (advance words (event_of from) left end) →
        Reached here (drop used taken) back
    unfolding walk_within
    reached from left [] ahead some there = absurd (omega (arith, some))
    reached from left (f ∷ tail) (carries, zero, h) some there = cc
    reached from left (f ∷ tail) (carries, suc n, h) some there = reached_by n (advance words (event_of from) left end)
        f tail h there

    -- A step that reaches nothing is none of a walk.
    not_stopped : (n : ℕ) (mv : Move) (f : Event) (tail : List Event) →
        follow mv (λ g l. walk_within words n g l end) ≡ Some (f ∷ tail) → Retraces words taken here used false mv → ⊥
    not_stopped n Stop f tail h there = cc
    not_stopped n (Last g) f tail h there = there
    not_stopped n (On g left) f tail h there = there

    not_lost : (from : Here) (left : List Bool) (back : List Event) → IsAhead words from left end back →
        0 < length back → Retraces words taken here used false (advance words (event_of from) left end) → ⊥
    unfolding walk_within
    not_lost from left [] ahead some there = omega (arith, some)
    not_lost from left (f ∷ tail) (carries, zero, h) some there = cc
    not_lost from left (f ∷ tail) (carries, suc n, h) some there = not_stopped n
        (advance words (event_of from) left end) f tail h there

  on_ahead : (here : Here) (left : List Bool) (back : List Event) → IsAhead words here left end back → 0 < length back →
      Carries words here
  on_ahead here left [] ahead some = absurd (omega (arith, some))
  on_ahead here left (f ∷ tail) ahead some = ahead.0

  -- Nothing is added yet.
  pub write_starts : (from : Here) (taken : List Bool) (limit count : ℕ) (old : List Event) (len capacity : ℕ) →
      Carries words from → HasRoomWithin words limit (event_of from) taken end count len capacity →
      Adding words limit (event_of from) taken end old (count - 0) from taken old len capacity
  write_starts from taken limit count old len capacity carries room =
      record {
        whole = room.0;
        back = room.0;
        found = room.1;
        later = all room.0 room.1;
        counted =
            omega (arith, room.2);
        joined = refl;
        room = room.3;
      }
    where
      all : (walk : List Event) → walk_within words limit (event_of from) taken end ≡ Some walk →
          IsAhead words from taken end walk
      all [] h = tt
      all (f ∷ walk) h = (carries, limit, h)

  module _ (from : Event) (taken : List Bool) (limit : ℕ) (old : List Event) (count done : ℕ) (here : Here)
      (left : List Bool) (new : List Event) (len capacity : ℕ)
      (inv : Adding words limit from taken end old (count - done) here left new len capacity) where
    some_left : done < count → 0 < length inv.back
    some_left lt = omega (arith, lt, inv.counted)

    pub write_carries : done < count → Carries words here
    write_carries lt = on_ahead here left inv.back inv.later (some_left lt)

    pub write_has_room : done < count → len < capacity
    write_has_room lt = let more = some_left lt in omega (arith, more, inv.room)

    pub write_lost : (outcomes : List Bool) (there : Here) (used : ℕ) (goes : Bool) → done < count →
        Retraces words outcomes there used goes (advance words (event_of here) left end) → goes ≡ false →
        AddsWithin words limit from taken end old new
    write_lost outcomes there used goes lt retraces lost =
        absurd (not_lost outcomes there used here left inv.back inv.later (some_left lt)
        (subst (λ t. Retraces words outcomes there used t (advance words (event_of here) left end)) lost retraces))

    pub write_over : count ≤ done → AddsWithin words limit from taken end old new
    write_over le = (inv.whole, inv.found, sym (inv.joined ∙ rest inv.back (omega (arith, le, inv.counted))))
      where
        rest : (back : List Event) → length back ≡ 0 → new ++ back ≡ new
        rest [] h = append-nil new
        rest (f ∷ back) h = absurd (omega (arith, h))

    pub write_goes : (outcomes : List Bool) (there : Here) (used : ℕ) (goes : Bool) (e : Event) (after : List Event)
        (len_after capacity_after : ℕ) → done < count → Retraces words outcomes there used goes
        (advance words (event_of here) left end) → goes ≡ true → e ≡ event_of there → after ≡ new ++ e ∷ [] →
        len_after ≡ len + 1 → capacity_after ≡ capacity → Adding words limit from taken end old (count - (done + 1))
        there (drop used outcomes) after len_after capacity_after
    write_goes outcomes there used goes e after len_after capacity_after lt retraces found is added m q =
        let next = reached outcomes there used here left inv.back inv.later (some_left lt)
        (subst (λ t. Retraces words outcomes there used t (advance words (event_of here) left end)) found
        retraces) in
        let one = ap length next.is in
        record {
          whole = inv.whole;
          back = next.tail;
          found = inv.found;
          later = next.later;
          counted = omega (arith, one, lt, inv.counted);
          joined = inv.joined ∙ ap (λ x. new ++ x) next.is ∙ sym (append_assoc new (event_of there ∷ []) next.tail)
              ∙ ap (λ x. (new ++ x ∷ []) ++ next.tail) (sym is) ∙ ap (λ x. x ++ next.tail) (sym added);
          room = omega (arith, one, inv.room, m, q);
        }
