-- What is told where messages of SENT are given up, and at the end.
use Rattle.std.proofs.Common.{◌≡◌, ◌≢◌, ◌⊎◌, inl, inr, ℕ, zero, suc, ◌+◌, ◌<◌, cond, List, [], ◌∷◌, ◌++◌}
use Rattle.std.proofs.Common.{Some, length, set, slice_get, take, sym, ap, subst, ◌∙◌, arith}
use Rattle.std.proofs.Math.Path.{fun_ext}
use Rattle.std.specs.List.{flat_map, range_with_len}
use Rattle.std.proofs.lemmas.Grind.{flat_map-append}
use Rattle.std.proofs.lemmas.Bool.{cases_eq, eq-eqb, ne_eqb}
use Rattle.std.proofs.lemmas.List.{append-nil}
use Rattle.auditing.proofs.Counting.{set_other, set_same}
use Rattle.live.specs.Auditing.{run_at, runs_in}
use Rattle.live.specs.Lines.{Line, GivenUp}
use Rattle.live.specs.Live.{State, and_then, after_lines, gives, gives_all, with_own}
use Rattle.live.specs.Runs.{run_left, run_with}
use Rattle.live.specs.declared.held.SentMessage.{SentMessage}
use Rattle.live.specs.declared.run.Run.{Run}
use Rattle.live.specs.steps.Giving.{AreCounted, IsCounted, IsGiven, written_lines}
use Rattle.live.proofs.Steps.{then_stays, then_then}

-- The runs of the harts, where one has another run.
run_set : (runs : List Run) (hart : ℕ) (run : Run) → hart < length runs → (other : ℕ)
    → runs_in (set runs hart run) other ≡ with_own (runs_in runs) hart run other
run_set runs hart run within other = go (cases_eq other hart)
  where
    go : (other ≡ hart) ⊎ (other ≢ hart)
        → runs_in (set runs hart run) other ≡ with_own (runs_in runs) hart run other
    go (inl same) =
        ap (runs_in (set runs hart run)) same
        ∙ ap run_at (set_same runs hart run within)
        ∙ sym (ap (λ b. cond b run (runs_in runs other)) (eq-eqb other hart same))
    go (inr apart) =
        ap run_at (set_other runs hart other run (λ is. apart (sym is)))
        ∙ sym (ap (λ b. cond b run (runs_in runs other)) (ne_eqb other hart apart))

-- A message of SENT is given up, where its hart is known.
pub given_one : (state : State) (runs new : List Run) (slot : SentMessage) → runs_in runs ≡ state.runs
    → slot.message.hart < length runs → (run : Run)
    → run ≡ run_with (runs_in runs slot.message.hart) slot.message.number slot.came
    → new ≡ set runs slot.message.hart (run_left run slot.came) → (Told : List Line → Type 0)
    → Told (GivenUp slot ∷ written_lines slot.message.hart run slot.came) → IsGiven Told (gives state slot) new
given_one state runs new slot same within run with is Told told = (
  subst (λ (r : Run). Told (GivenUp slot ∷ written_lines slot.message.hart r slot.came)) own told,
  ap runs_in is
      ∙ fun_ext (run_set runs slot.message.hart (run_left run slot.came) within)
      ∙ ap (λ (all : ℕ → Run). with_own all slot.message.hart (run_left run slot.came)) same
      ∙ ap (λ (r : Run). with_own state.runs slot.message.hart (run_left r slot.came)) own,
)
  where
    own : run ≡ run_with (state.runs slot.message.hart) slot.message.number slot.came
    own = with ∙ ap (λ (all : ℕ → Run). run_with (all slot.message.hart) slot.message.number slot.came) same

-- Messages of SENT are given up, and one more.
gives_more : (state : State) (slots : List SentMessage) (k : ℕ) (slot : SentMessage)
    → slice_get slots k ≡ Some slot
    → gives_all state (take (suc k) slots) ≡ and_then (gives_all state (take k slots)) (λ next. gives next slot)
gives_more state [] k slot is = cc
gives_more state (first ∷ slots) zero slot is =
    let same : first ≡ slot = cc in then_stays (gives state first) ∙ ap (gives state) same
gives_more state (first ∷ slots) (suc k) slot is =
    ap (after_lines (gives state first).lines) (gives_more (gives state first).state slots k slot is)
    ∙ sym (then_then (gives state first) (λ next. gives_all next (take k slots)) (λ next. gives next slot))

-- What holds of each message holds of the one at a place.
counted_at : (harts : ℕ) (slots : List SentMessage) → AreCounted harts slots → (k : ℕ) (slot : SentMessage)
    → slice_get slots k ≡ Some slot → IsCounted harts slot
counted_at harts [] all k slot is = cc
counted_at harts (first ∷ slots) all zero slot is =
    let same : first ≡ slot = cc in subst (IsCounted harts) same all.0
counted_at harts (first ∷ slots) all (suc k) slot is = counted_at harts slots all.1 k slot is

-- So many numbers, and one more.
range_more : (from count : ℕ) → range_with_len from (suc count) ≡ range_with_len from count ++ (from + count) ∷ []
range_more from zero = ap (λ n. n ∷ []) (let same : from ≡ from + 0 = omega arith in same)
range_more from (suc count) =
    ap (λ l. from ∷ l)
    (range_more (from + 1) count
    ∙ ap (λ n. range_with_len (from + 1) count ++ n ∷ [])
    (let same : from + 1 + count ≡ from + suc count = omega arith in same))

-- The lines of so many harts, and of one more.
lines_more : (own : ℕ → List Line) (count : ℕ)
    → flat_map own (range_with_len 0 (suc count)) ≡ flat_map own (range_with_len 0 count) ++ own count
lines_more own count =
    ap (flat_map own)
    (range_more 0 count
    ∙ ap (λ n. range_with_len 0 count ++ n ∷ []) (let same : 0 + count ≡ count = omega arith in same))
    ∙ flat_map-append own (range_with_len 0 count) (count ∷ [])
    ∙ ap (λ l. flat_map own (range_with_len 0 count) ++ l) (append-nil (own count))

-- So many of these messages are given up, from these runs on.
abbrev pub AreGiven : (List Line → Type 0) → List Run → List SentMessage → ℕ → List Run → Type 0
AreGiven Told runs slots count new =
    (length new ≡ length runs)
    × ((state : State) → runs_in runs ≡ state.runs → AreCounted (length runs) slots
    → IsGiven Told (gives_all state (take count slots)) new)

module _ (Lines : Type 0) (Told : Lines → List Line → Lines → Type 0)
    (joined : (first between last : Lines) (before after : List Line) → Told first before between
    → Told between after last → Told first (before ++ after) last) (first between last : Lines) where
  -- One message more is given up.
  pub given_next : (runs now new : List Run) (slots : List SentMessage) (k : ℕ) (slot : SentMessage)
      → slice_get slots k ≡ Some slot → AreGiven (λ told. Told first told between) runs slots k now
      → ((state : State) → runs_in now ≡ state.runs → IsCounted (length now) slot
      → IsGiven (λ told. Told between told last) (gives state slot) new)
      → length new ≡ length now → AreGiven (λ told. Told first told last) runs slots (k + 1) new
  given_next runs now new slots k slot is before step count = (
    count ∙ before.0,
    λ state same counted.
        let old = before.1 state same counted in
        let next = gives_all state (take k slots) in
        let own = step next.state old.1 (subst (λ n. IsCounted n slot) (sym before.0)
        (counted_at (length runs) slots counted k slot is)) in
        let more : k + 1 ≡ suc k = omega arith in
        subst (λ s. IsGiven (λ told. Told first told last) s new)
        (sym (ap (λ n. gives_all state (take n slots)) more ∙ gives_more state slots k slot is))
        (joined first between last next.lines (gives next.state slot).lines old.0 own.0, own.1),
  )

  -- The lines of one hart more are told.
  pub told_next : (own : ℕ → List Line) (count : ℕ) → Told first (flat_map own (range_with_len 0 count)) between
      → Told between (own count) last → Told first (flat_map own (range_with_len 0 (count + 1))) last
  told_next own count before next =
      let more : count + 1 ≡ suc count = omega arith in
      subst (λ l. Told first l last) (sym (ap (λ n. flat_map own (range_with_len 0 n)) more ∙ lines_more own count))
      (joined first between last (flat_map own (range_with_len 0 count)) (own count) before next)
