-- Each message of SENT is given up once, in SENT's order, and it came if a true message with its number did.
use Rattle.std.proofs.Common.{◌≡◌, ℕ, zero, suc, ◌+◌, ◌-◌, ◌<◌, ◌≤◌, Bool, true, false, cond, eqb}
use Rattle.std.proofs.Common.{List, [], ◌∷◌, ◌++◌, Option, Some, None, drop, length, map, slice_get, take}
use Rattle.std.proofs.Common.{refl, sym, ap, ◌∙◌, arith}
use Rattle.std.specs.List.{flat_map, range_with_len}
use Rattle.std.specs.Prelude.{option_map}
use Rattle.std.proofs.lemmas.Option.{slice_get_within}
use Rattle.message.proofs.Elements.{slice_get-some}
use Rattle.std.proofs.Math.Path.{fun_ext}
use Rattle.std.proofs.lemmas.Bool.{eqb-true, false_from_ne_true, ltb-false}
use Rattle.std.proofs.lemmas.List.{append_assoc, append-nil}
use Rattle.payload.specs.declared.by.By.{By}
use Rattle.message.specs.OfHart.{of_hart}
use Rattle.message.specs.declared.message.Message.{Message}
use Rattle.auditing.proofs.Appending.{any-other}
use Rattle.auditing.proofs.KnownLemmas.{known-more}
use Rattle.auditing.specs.Fates.{has_number, is_numbered, true_ones}
use Rattle.auditing.specs.Known.{known_all, known_one}
use Rattle.auditing.specs.Sent.{AreInTurn}
use Rattle.live.specs.AsAudited.{AreClear, given_in, held_all, placed_from}
use Rattle.live.specs.Compared.{known_finding, known_trues}
use Rattle.live.specs.Lines.{Line, GivenUp, Missing}
use Rattle.live.specs.Live.{State, Step, finds, gives, gives_all, gives_all_up, gives_last, held, last_held, last_lines, live, met}
use Rattle.live.specs.Live.{passes, settles, standing_now, start, stays, strange_lines, taken_all}
use Rattle.live.specs.Runs.{is_written, run_lines, run_with}
use Rattle.live.specs.View.{given_up, in_view, is_below, standing_from}
use Rattle.live.specs.declared.arrived.Arrived.{Arrived}
use Rattle.live.specs.declared.held.SentMessage.{SentMessage}
use Rattle.live.specs.declared.run.Run.{Run}
use Rattle.live.specs.declared.standing.Standing.TheVariants as standing
use Rattle.live.proofs.Chains.{OwnWait, Runs, Small, all_same, runs}
use Rattle.live.proofs.HartLines.{own_number, trues_alike}
use Rattle.live.proofs.Passing.{drop_from, numbered_at}
use Rattle.live.proofs.Standings.{numbered_is}
use Rattle.live.proofs.Widening.{read_number, taken_fewer}

given_joined : (lines more : List Line) → given_in (lines ++ more) ≡ given_in lines ++ given_in more
given_joined [] more = refl
given_joined (GivenUp slot ∷ lines) more = ap (λ l. slot ∷ l) (given_joined lines more)
given_joined (line ∷ lines) more = given_joined lines more

-- The line of a run gives none up.
run_gives : (hart : ℕ) (run : Run) → given_in (run_lines hart run) ≡ []
run_gives hart run = go (eqb run.unlined run.next)
  where
    go : (same : Bool)
        → given_in (cond same [] (Missing hart (record { first = run.unlined; last = run.next - 1 }) ∷ [])) ≡ []
    go true = refl
    go false = refl

one_given : (state : State) (slot : SentMessage) → given_in (gives state slot).lines ≡ slot ∷ []
one_given state slot =
    ap (λ l. slot ∷ l) (go (is_written (run_with (state.runs slot.message.hart) slot.message.number slot.came) slot.came))
  where
    go : (its : Bool) → given_in (cond its (run_lines slot.message.hart
        (run_with (state.runs slot.message.hart) slot.message.number slot.came)) []) ≡ []
    go true = run_gives slot.message.hart (run_with (state.runs slot.message.hart) slot.message.number slot.came)
    go false = refl

all_given : (state : State) (slots : List SentMessage) → given_in (gives_all state slots).lines ≡ slots
all_given state [] = refl
all_given state (slot ∷ slots) =
    given_joined (gives state slot).lines (gives_all (gives state slot).state slots).lines
    ∙ ap (λ l. l ++ given_in (gives_all (gives state slot).state slots).lines) (one_given state slot)
    ∙ ap (λ l. slot ∷ l) (all_given (gives state slot).state slots)

last_given : (harts : ℕ) (state : State) → given_in (last_lines harts state) ≡ []
last_given harts state =
    given_joined (flat_map (λ h. strange_lines (state.waiting h)) (range_with_len 0 harts))
    (flat_map (λ h. run_lines h (state.runs h)) (range_with_len 0 harts))
    ∙ ap (λ l. l ++ given_in (flat_map (λ h. run_lines h (state.runs h)) (range_with_len 0 harts)))
    (none_of (λ h. strange_lines (state.waiting h)) (λ h. strange_none (state.waiting h)) (range_with_len 0 harts))
    ∙ none_of (λ h. run_lines h (state.runs h)) (λ h. run_gives h (state.runs h)) (range_with_len 0 harts)
  where
    strange_none : (o : Option Arrived) → given_in (strange_lines o) ≡ []
    strange_none None = refl
    strange_none (Some one) = refl

    none_of : (f : ℕ → List Line) → ((h : ℕ) → given_in (f h) ≡ []) → (harts : List ℕ) → given_in (flat_map f harts) ≡ []
    none_of f none [] = refl
    none_of f none (h ∷ harts) =
        given_joined (f h) (flat_map f harts) ∙ ap (λ l. l ++ given_in (flat_map f harts)) (none h) ∙ none_of f none harts

module _ (harts window : ℕ) (sent : List Message) (turn : AreInTurn harts [] sent) (came_in : Message → Bool) where
  -- Of the messages that are given up it is known whether they came.
  abbrev Agrees : State → Type 0
  Agrees state = (p : ℕ) (x : Message) → p < given_up window state.front → slice_get sent p ≡ Some x
      → has_number (known_trues state.by sent state.came) x.hart x.number ≡ came_in x

  abbrev held_as : Message → SentMessage
  held_as message = record { message = message; came = came_in message }

  abbrev to_give : State → List SentMessage
  to_give state = map held_as (drop (given_up window state.front) sent)

  -- A step gives up the next messages of SENT.
  abbrev Gives : State → List Arrived → List Line → State → List Arrived → Type 0
  Gives state queue lines next rest =
      Agrees next → Agrees state × (given_in lines ++ to_give next ≡ to_give state)

  -- A message that is not below changes none that is given up.
  stable : (state : State) (message : Message)
      → length (of_hart message.hart (take (given_up window state.front) sent)) ≤ message.number
      → (p : ℕ) (x : Message) → p < given_up window state.front → slice_get sent p ≡ Some x
      → has_number (known_trues state.by sent (state.came ++ message ∷ [])) x.hart x.number
      ≡ has_number (known_trues state.by sent state.came) x.hart x.number
  stable state message high p x less is =
      ap (λ l. has_number (true_ones (known_all state.by sent) l) x.hart x.number) (known-more state.by state.came message)
      ∙ any-other (is_numbered x.hart x.number) (known_all state.by sent) (known_all state.by state.came)
      (known_one state.by message)
      (false_from_ne_true (is_numbered x.hart x.number message)
      (λ same.
      let its = numbered_is x.hart x.number message same in
      let hart = ap (λ h. length (of_hart h (take (given_up window state.front) sent))) its.0 in
      let number = its.1 in
      let low = read_number harts sent turn (given_up window state.front) p less x is in
      omega (arith, hart, number, low, high)))

  -- What is in view is not below.
  in_view_high : (state : State) (message : Message) (place : ℕ)
      → standing_now window sent state message ≡ standing.At place
      → length (of_hart message.hart (take (given_up window state.front) sent)) ≤ message.number
  in_view_high state message place at =
      ltb-false message.number (length (of_hart message.hart (take (given_up window state.front) sent)))
      (go (is_below window sent state.front message.hart message.number) at)
    where
      go : (low : Bool)
          → cond low standing.Below (standing_from 0 (in_view window sent state.front) message.hart message.number)
          ≡ standing.At place
          → low ≡ false
      go true never = cc
      go false at = refl

  -- The front goes on by one.
  module _ (state : State) (message : Message) (own : OwnWait harts sent state)
      (here : slice_get sent state.front ≡ Some message) where
    abbrev on : State
    on = record state { front = state.front + 1 }

    met_high : (one : Arrived) → state.waiting message.hart ≡ Some one → eqb one.message.number message.number ≡ true
        → length (of_hart one.message.hart (take (given_up window state.front) sent)) ≤ one.message.number
    met_high one is same =
        let hart = ap (λ h. length (of_hart h (take (given_up window state.front) sent))) (own message.hart one is).0 in
        let number = eqb-true one.message.number message.number same in
        let its = numbered_at harts [] sent turn state.front message here in
        let fewer = taken_fewer message.hart sent (given_up window state.front) state.front (omega arith) in
        omega (arith, hart, number, its, fewer)

    abbrev Met : Step → Type 0
    Met first =
        (given_in first.lines ≡ []) × (first.state.front ≡ state.front + 1)
        × ((p : ℕ) (x : Message) → p < given_up window state.front → slice_get sent p ≡ Some x
        → has_number (known_trues first.state.by sent first.state.came) x.hart x.number
        ≡ has_number (known_trues state.by sent state.came) x.hart x.number)

    -- What is met gives none up.
    met_gives : (o : Option Arrived) → state.waiting message.hart ≡ o → Met (met sent on message o)
    met_gives None is = (refl, refl, λ p x less has. refl)
    met_gives (Some one) is = go (eqb one.message.number message.number) refl
      where
        go : (same : Bool) → eqb one.message.number message.number ≡ same
            → Met (cond same (finds sent (settles on message.hart) one (known_finding on.by sent on.came one.message)) (stays on))
        go false test = (refl, refl, λ p x less has. refl)
        go true test = (refl, refl, stable state one.message (met_high one is test))

    -- Then one is given up, if there is one.
    given_next : (queue : List Arrived) (first : Step) → Met first → (count : ℕ) → count ≡ given_up window first.state.front
        → let step = gives_last first.state (last_held first.state.by first.state.came sent count) in
        Gives state queue (first.lines ++ step.lines) step.state queue
    given_next queue first its zero is agrees =
        let front = its.1 in
        let none : given_up window state.front ≡ 0 = omega (arith, front, is) in (
          λ p x less at. absurd (omega (arith, less, none)),
          ap (λ l. l ++ to_give first.state) (given_joined first.lines [] ∙ ap (λ l. l ++ []) its.0)
              ∙ ap (λ n. map held_as (drop n sent)) (sym is ∙ sym none),
        )
    given_next queue first its (suc k) is agrees = go (slice_get sent k) refl agrees
      where
        same : k ≡ given_up window state.front
        same = let front = its.1 in omega (arith, front, is)

        go : (o : Option Message) → slice_get sent k ≡ o
            → let step = gives_last first.state (option_map (held (known_trues first.state.by sent first.state.came)) o) in
            Gives state queue (first.lines ++ step.lines) step.state queue
        go None at agrees =
            let some = slice_get-some sent k
            (let within = slice_get_within sent state.front message here in omega (arith, within, same)) in
            let never : None ≡ Some some.0 = sym at ∙ some.1 in cc
        go (Some x) at agrees = (
          λ p y less there. sym (its.2 p y less there) ∙ agrees p y (let front = its.1 in omega (arith, front, less)) there,
          ap (λ l. l ++ to_give first.state)
              (given_joined first.lines (gives first.state slot).lines
              ∙ ap (λ l. l ++ given_in (gives first.state slot).lines) its.0 ∙ one_given first.state slot)
              ∙ (λ i. record { message = x; came = agrees k x (omega (arith, is)) at i } ∷ to_give first.state)
              ∙ ap (λ n. held_as x ∷ map held_as (drop n sent)) (sym is)
              ∙ ap (map held_as) (sym (drop_from sent k x at))
              ∙ ap (λ n. map held_as (drop n sent)) same,
        )
          where
            slot : SentMessage
            slot = held (known_trues first.state.by sent first.state.came) x

    passes_gives : (queue : List Arrived)
        → let step = passes window sent state message in Gives state queue step.lines step.state queue
    passes_gives queue =
        let first = met sent on message (state.waiting message.hart) in
        given_next queue first (met_gives (state.waiting message.hart) refl) (given_up window first.state.front) refl

  small : Small harts window sent Gives
  small = record {
    none = λ s q agrees. (agrees, refl);
    then = λ a p l b q k c r one two agrees.
        let second = two agrees in
        let first = one second.0 in (
          first.0,
          ap (λ x. x ++ to_give c) (given_joined l k) ∙ append_assoc (given_in l) (given_in k) (to_give c)
              ∙ ap (λ x. given_in l ++ x) second.1 ∙ first.1,
        );
    passes = λ s q m own at. passes_gives s m own at q;
    settles = λ s q h one own some agrees. (agrees, refl);
    finds = λ s q one place none at agrees. (
      λ p x less is. sym (stable s one.message (in_view_high s one.message place at) p x less is) ∙ agrees p x less is,
      refl,
    );
    late = λ s q one none known is agrees. (agrees, refl);
    strange = λ s q one none why agrees. (agrees, refl);
    waits = λ s q one none is agrees. (agrees, refl);
  }

module _ (harts window : ℕ) (how : By) (sent received : List Message) (turn : AreInTurn harts [] sent) where
  abbrev final : State
  final = (taken_all harts window sent (start how) 0 received).state

  abbrev has_come : Message → Bool
  has_come x = has_number (known_trues final.by sent final.came) x.hart x.number

  abbrev small_gives : Small harts window sent (Gives harts window sent turn has_come)
  small_gives = small harts window sent turn has_come

  its : Runs harts window sent turn (Gives harts window sent turn has_come) small_gives (start how) (placed_from 0 received)
      (taken_all harts window sent (start how) 0 received)
  its =
      runs harts window sent turn (Gives harts window sent turn has_come) small_gives received 0 (start how)
      (λ h one some. cc)

  -- Each message of SENT is given up.
  pub given_once : given_in (live harts window how sent received) ≡ held_all how sent final.came
  given_once =
      ap given_in its.parts
      ∙ given_joined (its.lines ++ gave.lines) (last_lines harts gave.state)
      ∙ ap (λ l. given_in (its.lines ++ gave.lines) ++ l) (last_given harts gave.state)
      ∙ append-nil (given_in (its.lines ++ gave.lines))
      ∙ given_joined its.lines gave.lines
      ∙ ap (λ l. given_in its.lines ++ l)
      (all_given its.before
      (map (held (known_trues its.before.by sent its.before.came)) (drop (given_up window its.before.front) sent))
      ∙ (λ i. map (held (known_trues (same_by i) sent (same_came i))) (drop (given_up window its.before.front) sent)))
      ∙ (its.run (λ p x less is i. has_number (known_trues (same_by i) sent (same_came i)) x.hart x.number)).1
      ∙ ap (λ n. map (held (known_trues final.by sent final.came)) (drop n sent)) (let none : given_up window 0 ≡ 0 = omega arith in none)
      ∙ ap (λ h. held_all h sent final.came) (sym same_by ∙ its.by)
    where
      gave : Step
      gave = gives_all_up window sent its.before

      same_by : its.before.by ≡ final.by
      same_by =
          sym (all_same (map (held (known_trues its.before.by sent its.before.came)) (drop (given_up window its.before.front) sent))
          its.before).2 ∙ ap (λ (s : State). s.by) (sym its.last)

      same_came : its.before.came ≡ final.came
      same_came =
          sym (all_same (map (held (known_trues its.before.by sent its.before.came)) (drop (given_up window its.before.front) sent))
          its.before).3 ∙ ap (λ (s : State). s.came) (sym its.last)

  -- It came if a true one with its number is among those of RECEIVED.
  pub given_alike : AreClear harts sent (live harts window how sent received)
      → given_in (live harts window how sent received) ≡ held_all how sent received
  given_alike clear = given_once ∙ ap (λ f. map f sent) (fun_ext same)
    where
      same : (x : Message) → held (known_trues how sent final.came) x ≡ held (known_trues how sent received) x
      same x =
          ap (λ b. let slot : SentMessage = record { message = x; came = b } in slot)
          (own_number x.hart x.number (known_trues how sent final.came)
          ∙ ap (λ l. has_number l x.hart x.number) (trues_alike harts window how sent received turn clear x.hart)
          ∙ sym (own_number x.hart x.number (known_trues how sent received)))
