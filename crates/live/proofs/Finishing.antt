-- SENT was read to its end, and what is left is told.
use Rattle.std.proofs.Common.{◌≡◌, ℕ, ◌+◌, ◌-◌, ◌^◌, ◌<◌, ◌≤◌, List, [], ◌∷◌, ◌++◌}
use Rattle.std.proofs.Common.{drop, length, map, take, refl, sym, ap, subst, ◌∙◌, arith}
use Rattle.std.specs.List.{flat_map, range_with_len}
use Rattle.std.proofs.lemmas.List.{append_assoc, take-append-drop, take_all}
use Rattle.message.specs.OfHart.{of_hart}
use Rattle.message.specs.declared.message.Message.{Message}
use Rattle.auditing.proofs.SentLemmas.{next_of_hart}
use Rattle.auditing.specs.Sent.{AreInTurn}
use Rattle.live.specs.Compared.{known_trues}
use Rattle.live.specs.Auditing.{LiveHolding, Stands, runs_in}
use Rattle.live.specs.Following.{Audited, IsAudited, Left}
use Rattle.live.specs.Lines.{Line}
use Rattle.live.specs.Live.{State, gives, gives_all, gives_all_up, held, last_lines, moves_to, passes_all}
use Rattle.live.specs.Live.{strange_lines}
use Rattle.live.specs.Runs.{run_lines}
use Rattle.live.specs.View.{given_up}
use Rattle.live.specs.declared.held.SentMessage.{SentMessage}
use Rattle.live.specs.declared.run.Run.{Run}
use Rattle.live.specs.steps.Giving.{AreCounted, open_lines, waiting_lines}
use Rattle.live.proofs.Reading.{counts_more, held_count}
use Rattle.live.proofs.Standings.{no_fewer, turns_split}
use Rattle.live.proofs.Steps.{moves_by}
use Rattle.live.proofs.Widening.{by_is}

-- Messages of SENT are of harts that are known, and none has the last number.
counted_all : (harts : ℕ) (before messages trues : List Message) → AreInTurn harts before messages
    → ((hart : ℕ) → length (of_hart hart (before ++ messages)) < 2 ^ 64) → AreCounted harts (map (held trues) messages)
counted_all harts before [] trues turn few = tt
counted_all harts before (message ∷ messages) trues turn few = (
  (
    (next_of_hart harts before message turn.0).0,
    let next = (next_of_hart harts before message turn.0).1 in
        let more = counts_more before message in
        let fewer = no_fewer message.hart (before ++ message ∷ []) messages in
        let whole = ap (λ l. length (of_hart message.hart l)) (append_assoc before (message ∷ []) messages) in
        let below = few message.hart in
        omega (arith, next, more, fewer, whole, below),
  ),
  counted_all harts (before ++ message ∷ []) messages trues turn.1
      (λ hart. subst (λ l. length (of_hart hart l) < 2 ^ 64) (sym (append_assoc before (message ∷ []) messages)) (few hart)),
)

-- What is given up leaves what waits.
given_waiting : (state : State) (slots : List SentMessage) → (gives_all state slots).state.waiting ≡ state.waiting
given_waiting state [] = refl
given_waiting state (slot ∷ slots) = given_waiting (gives state slot).state slots

module _ (all : Audited) (right : IsAudited all) (state : State) (own : LiveHolding) (left : Left)
    (stands : Stands all (length all.sent) state own left) where
  whole : take (length all.sent) all.sent ≡ all.sent
  whole = take_all (length all.sent) all.sent (omega arith)

  -- As many are held after the front as SENT has.
  ahead_is : length own.window.slots - own.window.near ≡ length all.sent - state.front
  ahead_is =
      let held =
      held_count (take (length all.sent) all.sent) state.came state.front own.window stands.reads.holds in
      let count = ap length whole in
      let near = stands.reads.holds.near in
      let front = stands.reads.holds.read in
      omega (arith, held, count, near, front)

  pub ahead_within : state.front + (length own.window.slots - own.window.near) ≤ length all.sent
  ahead_within =
      let ahead = ahead_is in
      let front = stands.reads.holds.read in
      let count = ap length whole in
      omega (arith, ahead, front, count)

  pub to_end : passes_all all.window all.sent state
      (take (length own.window.slots - own.window.near) (drop state.front all.sent))
      ≡ moves_to all.window all.sent (length all.sent) state
  to_end =
      ap (λ n. passes_all all.window all.sent state (take n (drop state.front all.sent))) ahead_is
      ∙ sym (moves_by all.window all.sent (length all.sent) state)

  -- What is held is what is not given up.
  pub slots_left : own.window.slots
      ≡ map (held (known_trues state.by all.sent state.came)) (drop (given_up all.window state.front) all.sent)
  slots_left =
      stands.reads.holds.slots
      ∙ (λ i. map (held (known_trues (by_is all (length all.sent) state own left stands i) (whole i) state.came)) (drop (given_up (stands.reads.window i) state.front) (whole i)))

  pub all_counted : AreCounted (length own.runs) own.window.slots
  all_counted =
      subst (λ n. AreCounted n own.window.slots) (sym stands.counts)
      (subst (AreCounted all.harts) (sym slots_left)
      (counted_all all.harts gone (drop (given_up all.window state.front) all.sent) (known_trues state.by all.sent state.came)
      (turns_split all.harts [] gone (drop (given_up all.window state.front) all.sent)
      (subst (λ l. AreInTurn all.harts [] l) (sym parts) right.in_turn)).1
      (λ hart. subst (λ l. length (of_hart hart l) < 2 ^ 64) (whole ∙ sym parts) (stands.reads.holds.few hart))))
    where
      gone : List Message
      gone = take (given_up all.window state.front) all.sent

      parts : gone ++ drop (given_up all.window state.front) all.sent ≡ all.sent
      parts = take-append-drop (given_up all.window state.front) all.sent

  -- What is told last.
  pub last_told : (Told : List Line → Type 0) (runs : List Run) → length runs ≡ length own.runs
      → runs_in runs ≡ (gives_all state own.window.slots).state.runs
      → Told ((gives_all state own.window.slots).lines ++ (waiting_lines own.waiting ++ open_lines runs))
      → Told ((gives_all_up all.window all.sent state).lines
      ++ last_lines all.harts (gives_all_up all.window all.sent state).state)
  last_told Told runs count same told =
      subst (λ slots. Told ((gives_all state slots).lines ++ last_lines all.harts (gives_all state slots).state)) slots_left
      (subst (λ l. Told ((gives_all state own.window.slots).lines ++ l)) lines told)
    where
      after : State
      after = (gives_all state own.window.slots).state

      lines : waiting_lines own.waiting ++ open_lines runs ≡ last_lines all.harts after
      lines = (λ i.
          flat_map (λ hart. strange_lines ((stands.waiting ∙ sym (given_waiting state own.window.slots)) i hart))
          (range_with_len 0 (stands.waits i))
          ++ flat_map (λ hart. run_lines hart (same i hart)) (range_with_len 0 ((count ∙ stands.counts) i)))
