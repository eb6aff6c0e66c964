-- The events of a stretch, handed out a piece at a time.
use Rattle.std.proofs.Common.{◌≡◌, ℕ, zero, suc, ◌+◌, ◌-◌, ◌^◌, ◌<◌, ◌≤◌, Bool, true, false, List, [], ◌∷◌, ◌++◌, drop}
use Rattle.std.proofs.Common.{length, take, min, Some, refl, sym, ap, subst, ◌∙◌, arith, append_assoc}
use Rattle.std.proofs.Common.{append-nil, length-append}
use Rattle.std.proofs.Math.Seq.{take-append-add, drop-append-add}
use Rattle.retire.specs.declared.event.Event.{Event}
use Rattle.rvclass.specs.Words.{Words, IsProgram}
use Rattle.decoder.proofs.PassesByStep.{cut_of, one_less}
use Rattle.decoder.proofs.StretchEnds.{stretch_count-gives}
use Rattle.decoder.proofs.WalkFinding.{walk_complete}
use Rattle.decoder.specs.Walk.{End}
use Rattle.decoder.specs.steps.Rests.{first_steps, step_then, rest_events, rest_of, GoesOnFor, HasCourse}
use Rattle.decoder.specs.steps.Rests.{AreRests, IsRest, Handing}
use Rattle.decoder.specs.steps.Retracing.{Retraces}
use Rattle.decoder.specs.steps.Stretches.{Gives, stretch_count}
use Rattle.decoder.specs.steps.WalkSteps.{Move, Stop, Last, On, advance, follow, walk_within}
use Rattle.decoder.specs.steps.Walks.{event_of, goal_end, Carries}
use Rattle.decoder.specs.declared.rest.Rest.{Rest}
use Rattle.decoder.specs.declared.stepping.Here.{Here}
use Rattle.decoder.specs.declared.added_events.AddedEvents.{AddedEvents}
use Rattle.decoder.specs.declared.added_events.AddedEvents.TheVariants.{Nothing, One, Two, Walk}

-- Where nothing is left behind, nothing is taken of it, and all of it is left.
none_taken : (k : ℕ) (l : List Event) → (0 < k → length l ≡ 0) → take k l ≡ []
none_taken zero l none = refl
none_taken (suc k) [] none = refl
none_taken (suc k) (e ∷ l) none = let no = none (omega arith) in absurd (omega (arith, no))

all_left : (k : ℕ) (l : List Event) → (0 < k → length l ≡ 0) → drop k l ≡ l
all_left zero l none = refl
all_left (suc k) [] none = refl
all_left (suc k) (e ∷ l) none = let no = none (omega arith) in absurd (omega (arith, no))

-- A list in two parts is cut at `room`, where the first part is as long as that or nothing is behind it.
pub cut_at : (room count n : ℕ) (made rest whole : List Event) → whole ≡ made ++ rest → n ≡ min count room →
    length made ≡ n → length rest ≡ count - n → (take room whole ≡ made) × (drop room whole ≡ rest)
cut_at room count n made rest whole is least counted left =
    let over : room ≡ length made + (room - n) = omega arith in
    let one = ap (take room) is ∙ ap (λ k. take k (made ++ rest)) over ∙ take-append-add made rest (room - n) in
    let two = ap (drop room) is ∙ ap (λ k. drop k (made ++ rest)) over ∙ drop-append-add made rest (room - n) in
    let none = λ (some : 0 < room - n). none_left some in
    (one ∙ ap (λ l. made ++ l) (none_taken (room - n) rest none) ∙ append-nil made, two ∙ all_left (room - n) rest none)
  where
    none_left : 0 < room - n → length rest ≡ 0
    none_left some = omega (arith, some, least, left)

module _ (words : Words) (end : End) where
  -- The first retirements of a walk begin with its first step.
  one_step : (n : ℕ) (e : Event) (taken : List Bool) (mv : Move) → advance words e taken end ≡ mv →
      first_steps words (suc n) e taken end ≡ step_then mv (λ f left. first_steps words n f left end)
  unfolding first_steps
  one_step n e taken mv h = ap (λ m. step_then m (λ f left. first_steps words n f left end)) h

  none_first : (n : ℕ) (e : Event) (taken : List Bool) → n ≡ 0 → first_steps words n e taken end ≡ []
  unfolding first_steps
  none_first zero e taken h = refl
  none_first (suc n) e taken h = absurd (omega (arith, h))

  first_of_step : (n : ℕ) (e : Event) (taken : List Bool) (w : List Event) →
      ((f : Event) (left : List Bool) (tail : List Event) → walk_within words n f left end ≡ Some tail →
      first_steps words (length tail) f left end ≡ tail) → (mv : Move) → advance words e taken end ≡ mv →
      follow mv (λ f left. walk_within words n f left end) ≡ Some w → first_steps words (length w) e taken end ≡ w
  first_of_step n e taken w later Stop is h = cc
  first_of_step n e taken w later (Last f) is h =
      let one : w ≡ f ∷ [] = cc in
      ap (λ l. first_steps words (length l) e taken end) one ∙ one_step 0 e taken (Last f) is
      ∙ sym one
  first_of_step n e taken w later (On f left) is h =
      let cut = cut_of (walk_within words n f left end) f w h in
      let one = cut.is in
      ap (λ l. first_steps words (length l) e taken end) one
      ∙ one_step (length cut.tail) e taken (On f left) is
      ∙ ap (λ l. f ∷ l) (later f left cut.tail cut.later) ∙ sym one

  -- A walk is its first retirements, as many as it has.
  all_first : (n : ℕ) (e : Event) (taken : List Bool) (w : List Event) → walk_within words n e taken end ≡ Some w →
      first_steps words (length w) e taken end ≡ w
  unfolding walk_within
  all_first zero e taken w h = cc
  all_first (suc n) e taken w h =
      first_of_step n e taken w (all_first n) (advance words e taken end) refl h

  module _ (outcomes : List Bool) (there : Here) (used : ℕ) where
    -- The retirement that a step reached is the first of those that were left.
    record Reached (here : Here) (left : List Bool) (more : ℕ) : Type 0 where
      is : first_steps words (suc more) (event_of here) left end
          ≡ event_of there ∷ first_steps words more (event_of there) (drop used outcomes) end
      goes : GoesOnFor words more there (drop used outcomes) end

    reached : (here : Here) (left : List Bool) (more : ℕ) → GoesOnFor words (suc more) here left end →
        Retraces words outcomes there used true (advance words (event_of here) left end) → Reached here left more
    reached here left more goes there_is = by_move (advance words (event_of here) left end) refl there_is
      where
        by_move : (mv : Move) → advance words (event_of here) left end ≡ mv → Retraces words outcomes there used true mv
            → Reached here left more
        by_move Stop is there_is =
            let none = sym (ap length (one_step more (event_of here) left Stop is)) ∙ goes.counted in
            absurd (omega (arith, none))
        by_move (Last f) is there_is =
            let one = one_step more (event_of here) left (Last f) is in
            let counted = sym (ap length one) ∙ goes.counted in
            let over : more ≡ 0 = omega (arith, counted) in
            let none = none_first more (event_of there) (drop used outcomes) over in
            record {
              is = one ∙ ap (λ e. e ∷ []) (sym there_is) ∙ ap (λ l. event_of there ∷ l) (sym none);
              goes = record {
                counted = ap length none ∙ sym over;
                carries = λ some. absurd (omega (arith, over, some));
              };
            }
        by_move (On f rest) is there_is =
            let one = one_step more (event_of here) left (On f rest) is in
            let same : first_steps words more f rest end
            ≡ first_steps words more (event_of there) (drop used outcomes) end =
            ap (λ e. first_steps words more e rest end) (sym there_is.0)
            ∙ ap (λ l. first_steps words more (event_of there) l end) (sym there_is.1) in
            let counted = sym (ap length one) ∙ goes.counted in
            let counted' : length (first_steps words more f rest end) ≡ more = omega (arith, counted) in
            record {
              is = one ∙ ap (λ e. e ∷ first_steps words more f rest end) (sym there_is.0)
                  ∙ ap (λ l. event_of there ∷ l) same;
              goes = record { counted = sym (ap length same) ∙ counted'; carries = λ some. there_is.2 };
            }

    not_lost : (here : Here) (left : List Bool) (more : ℕ) → GoesOnFor words (suc more) here left end →
        Retraces words outcomes there used false (advance words (event_of here) left end) → ⊥
    not_lost here left more goes lost = by_move (advance words (event_of here) left end) refl lost
      where
        by_move : (mv : Move) → advance words (event_of here) left end ≡ mv
            → Retraces words outcomes there used false mv
            → ⊥
        by_move Stop is lost =
            let none = sym (ap length (one_step more (event_of here) left Stop is)) ∙ goes.counted in
            omega (arith, none)
        by_move (Last f) is lost = lost
        by_move (On f rest) is lost = lost

  -- Nothing is handed out yet.
  pub hand_starts : (here : Here) (left : List Bool) (count : ℕ) (old : List Event)
      → GoesOnFor words count here left end
      → Handing words end old (first_steps words count (event_of here) left end) count 0 here left old
  hand_starts here left count old goes =
      let all : count ≡ count - 0 = omega arith in
      record {
        made = [];
        joined = sym (append-nil old);
        counted = refl;
        later = ap (λ n. first_steps words n (event_of here) left end) all;
        goes = subst (λ n. GoesOnFor words n here left end) all goes;
      }

  module _ (old whole : List Event) (count done : ℕ) (here : Here) (left : List Bool) (new : List Event)
      (inv : Handing words end old whole count done here left new) where
    pub hand_carries : done < count → Carries words here
    hand_carries lt = inv.goes.carries (omega (arith, lt))

    ahead : done < count → GoesOnFor words (suc (count - (done + 1))) here left end
    ahead lt = subst (λ n. GoesOnFor words n here left end) (one_less done count lt) inv.goes

    pub hand_lost : (outcomes : List Bool) (there : Here) (used : ℕ) (goes : Bool) → done < count →
        Retraces words outcomes there used goes (advance words (event_of here) left end) → goes ≡ false → ⊥
    hand_lost outcomes there used goes lt retraces lost =
        not_lost outcomes there used here left (count - (done + 1)) (ahead lt)
        (subst (λ t. Retraces words outcomes there used t (advance words (event_of here) left end)) lost retraces)

    pub hand_goes : (outcomes : List Bool) (there : Here) (used : ℕ) (goes : Bool) (e : Event) (after : List Event) →
        done < count → Retraces words outcomes there used goes (advance words (event_of here) left end) → goes ≡ true →
        e ≡ event_of there → after ≡ new ++ e ∷ [] →
        Handing words end old whole count (done + 1) there (drop used outcomes) after
    hand_goes outcomes there used goes e after lt retraces found is added =
        let next = reached outcomes there used here left (count - (done + 1)) (ahead lt)
        (subst (λ t. Retraces words outcomes there used t (advance words (event_of here) left end)) found
        retraces) in
        let rest = first_steps words (count - (done + 1)) (event_of there) (drop used outcomes) end in
        record {
          made = inv.made ++ event_of there ∷ [];
          joined = added ∙ ap (λ l. l ++ e ∷ []) inv.joined ∙ append_assoc old inv.made (e ∷ [])
              ∙ ap (λ x. old ++ (inv.made ++ x ∷ [])) is;
          counted = length-append inv.made (event_of there ∷ []) ∙ ap (λ n. n + 1) inv.counted;
          later = inv.later
              ∙ ap (λ n. inv.made ++ first_steps words n (event_of here) left end) (one_less done count lt)
              ∙ ap (λ l. inv.made ++ l) next.is ∙ sym (append_assoc inv.made (event_of there ∷ []) rest);
          goes = next.goes;
        }

    -- As many were appended as there was room for, or all.
    pub record Over (n room : ℕ) : Type 0 where
      pub goes : GoesOnFor words (count - n) here left end
      pub appended : new ≡ old ++ take room whole
      pub later : first_steps words (count - n) (event_of here) left end ≡ drop room whole

    pub hand_over : (n room : ℕ) → done ≡ n → n ≡ min count room → Over n room
    hand_over n room all least =
        let goes = subst (λ k. GoesOnFor words (count - k) here left end) all inv.goes in
        let cut = cut_at room count n inv.made (first_steps words (count - n) (event_of here) left end) whole
        (inv.later ∙ ap (λ k. inv.made ++ first_steps words (count - k) (event_of here) left end) all) least
        (inv.counted ∙ all) goes.counted in
        record {
          goes = goes;
          appended = inv.joined ∙ ap (λ l. old ++ l) (sym cut.0);
          later = sym cut.1;
        }

-- All events of a stretch are left of it.
pub rest_gives : (words : Words) → IsProgram words → (stretch : AddedEvents) (events : List Event) →
    Gives words stretch events → HasCourse (rest_of stretch) →
    (rest_events words (rest_of stretch) ≡ events) × IsRest words (rest_of stretch)
rest_gives words good Nothing events gives course = (sym gives, tt)
rest_gives words good (One event) events gives course = (sym gives, tt)
rest_gives words good (Two trap event) events gives course = (sym gives, tt)
rest_gives words good (Walk walk) events gives course =
    let end = goal_end walk.goal in
    let found = walk_complete words good (event_of walk.from) walk.outcomes end events (length events) gives.1
    (omega arith) in
    let all = all_first words end (length events) (event_of walk.from) walk.outcomes events found in
    let same : first_steps words walk.walked.count (event_of walk.from) walk.outcomes end ≡ events =
    ap (λ n. first_steps words n (event_of walk.from) walk.outcomes end) gives.2 ∙ all in
    (same, (course, record { counted = ap length same ∙ sym gives.2; carries = λ some. gives.0.0 }))

module _ (words : Words) (good : IsProgram words) where
  of_stretch : (stretch : AddedEvents) (events : List Event) (rest : Rest) → Gives words stretch events →
      rest ≡ rest_of stretch → HasCourse rest → (rest_events words rest ≡ events) × IsRest words rest
  of_stretch stretch events rest gives is course =
      subst (λ r. (rest_events words r ≡ events) × IsRest words r) (sym is)
      (rest_gives words good stretch events gives (subst HasCourse is course))

  module _ (first second : AddedEvents) (settled of_packet : List Event) (one two : Rest)
      (gives : Gives words first settled)
      (gives' : Gives words second of_packet) (is : one ≡ rest_of first) (is' : two ≡ rest_of second)
      (course : HasCourse one) (course' : HasCourse two) where
    -- All events of both stretches are left of them.
    pub rests_give : rest_events words one ++ rest_events words two ≡ settled ++ of_packet
    rests_give =
        ap (λ l. l ++ rest_events words two) (of_stretch first settled one gives is course).0
        ∙ ap (λ l. settled ++ l) (of_stretch second of_packet two gives' is' course').0

    pub are_rests : stretch_count first + stretch_count second ≤ 2 ^ 32 → AreRests words one two
    are_rests few =
        let a = of_stretch first settled one gives is course in
        let b = of_stretch second of_packet two gives' is' course' in
        let counted = stretch_count-gives words first settled gives ∙ ap length (sym a.0) in
        let counted' = stretch_count-gives words second of_packet gives' ∙ ap length (sym b.0) in
        record { of_first = a.1; of_second = b.1; few = omega (arith, few, counted, counted') }

-- What is taken and what is left of two lists, one after the other.
take_both : (room : ℕ) (a b : List Event) →
    take room (a ++ b) ≡ take room a ++ take (room - length (take room a)) b
take_both zero a b = refl
take_both (suc room) [] b = let same : suc room ≡ suc room - 0 = omega arith in ap (λ n. take n b) same
take_both (suc room) (e ∷ a) b =
    let same : room - length (take room a) ≡ suc room - suc (length (take room a)) = omega arith in
    ap (λ l. e ∷ l) (take_both room a b ∙ ap (λ n. take room a ++ take n b) same)

drop_both : (room : ℕ) (a b : List Event) →
    drop room (a ++ b) ≡ drop room a ++ drop (room - length (take room a)) b
drop_both zero a b = refl
drop_both (suc room) [] b = let same : suc room ≡ suc room - 0 = omega arith in ap (λ n. drop n b) same
drop_both (suc room) (e ∷ a) b =
    let same : room - length (take room a) ≡ suc room - suc (length (take room a)) = omega arith in
    drop_both room a b ∙ ap (λ n. drop room a ++ drop n b) same

module _ (room more len one_len capacity one_capacity : ℕ) (a b all old one : List Event) (is : a ++ b ≡ all)
    (fits : room ≡ capacity - len) (fits' : more ≡ one_capacity - one_len) (counted : len ≡ length old)
    (counted' : one_len ≡ length one) (same : one_capacity ≡ capacity) (added : one ≡ old ++ take room a) where
  -- The room that is left behind what was taken of the first.
  room_left : more ≡ room - length (take room a)
  room_left =
      let grown = ap length added ∙ length-append old (take room a) in
      omega (arith, fits, fits', counted, counted', same, grown)

  pub taken_both : (two : List Event) → two ≡ one ++ take more b → two ≡ old ++ take room all
  taken_both two added' =
      added' ∙ ap (λ l. l ++ take more b) added ∙ append_assoc old (take room a) (take more b)
      ∙ ap (λ n. old ++ (take room a ++ take n b)) room_left ∙ ap (λ l. old ++ l) (sym (take_both room a b))
      ∙ ap (λ l. old ++ take room l) is

  pub left_both : (first second : List Event) → first ≡ drop room a → second ≡ drop more b →
      first ++ second ≡ drop room all
  left_both first second left left' =
      ap (λ l. l ++ second) left ∙ ap (λ l. drop room a ++ l) left'
      ∙ ap (λ n. drop room a ++ drop n b) room_left ∙ sym (drop_both room a b) ∙ ap (λ l. drop room l) is
