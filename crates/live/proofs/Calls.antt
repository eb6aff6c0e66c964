-- Calls that go well hand over what a live audit says, and read what RECEIVED's bytes are read as.
use Rattle.std.proofs.Common.{◌≡◌, ◌∙◌, ℕ, zero, suc, ◌+◌, ◌-◌, Bool, true, false, if◌then◌else◌, List, [], ◌∷◌, ◌++◌, Option, Some, Ok, drop}
use Rattle.std.proofs.Common.{refl, sym, ap, subst, arith}
use Rattle.frames.specs.Frame.{frame_in}
use Rattle.frames.specs.declared.span.Span.{Span}
use Rattle.frames.specs.declared.span.Span.TheVariants as span
use Rattle.message.specs.declared.message.Message.{Message}
use Rattle.live.specs.Calls.{EndsBy, TakesAll, place_after, spans_after, spans_from, spans_next, state_after}
use Rattle.live.specs.Course.{moves_near}
use Rattle.live.specs.Following.{Audited}
use Rattle.live.specs.Lines.{Line}
use Rattle.live.specs.Live.{State, Step, finished, taken_all, taken_of}
use Rattle.live.specs.Received.{Rule, bytes_to_next, first_span, is_taken, span_at}
use Rattle.live.specs.ReceivedLeft.{IsNextSpan, ReceivedHeld, Receives, rule_of, size_of}
use Rattle.live.specs.declared.arrived.Arrived.{Arrived}
use Rattle.live.proofs.Ending.{ends_on}

module _ (X : Type 0) (Told : X → List Line → X → Type 0)
    (joined : (first between last : X) (before after : List Line) → Told first before between → Told between after last
    → Told first (before ++ after) last) (all : Audited) where
  -- The calls that end the audit.
  ends_told : (calls : List Bool) (read : ℕ) (state : State) (first last : X) → EndsBy X Told all calls read state first last
      → Told first (finished all.harts all.window all.sent state).lines last
  ends_told [] read state first last ends = ends.1.0
  ends_told (true ∷ calls) read state first last ends =
      joined first ends.0 last [] (finished all.harts all.window all.sent state).lines ends.3.1.told
      (ends_told calls read state ends.0 last ends.4)
  ends_told (false ∷ calls) read state first last ends =
      let near = moves_near all (read + 1) state in
      subst (λ (step : Step). Told first step.lines last)
      (sym (ends_on all state (read + 1) (let less = ends.3.0 in omega (arith, less))))
      (joined first ends.0 last near.lines (finished all.harts all.window all.sent near.state).lines ends.3.1.told
      (ends_told calls (read + 1) near.state ends.0 last ends.4))

  -- Those that take messages before.
  pub takes_told : (calls : List Bool) (read : ℕ) (state : State) (place : ℕ) (messages : List Message) (first last : X)
      → TakesAll X Told all calls read state place messages first last
      → Told first (taken_all all.harts all.window all.sent state place messages).lines last
  takes_told calls read state place [] first last takes = ends_told calls read state first last takes
  takes_told calls read state place (message ∷ messages) first last takes =
      let one : Arrived = record { place = place; message = message } in
      let step = taken_of all.harts all.window all.sent state one in
      joined first takes.0 last step.lines
      (taken_all all.harts all.window all.sent step.state (place + 1) messages).lines takes.3.1.told
      (takes_told calls takes.3.0 step.state (place + 1) messages takes.0 last takes.4)

-- What belongs to what comes first is passed over at once.
spans_rest : (n : ℕ) (all : Audited) (state : State) (place offset : ℕ) (xs : List ℕ)
    → spans_after n all state place offset xs ≡ spans_from all state place (offset + n) (drop n xs)
spans_rest zero all state place offset xs =
    ap (λ o. spans_from all state place o xs) (let none : offset ≡ offset + 0 = omega arith in none)
spans_rest (suc n) all state place offset [] = refl
spans_rest (suc n) all state place offset (b ∷ bytes) =
    spans_rest n all state place (offset + 1) bytes
    ∙ ap (λ o. spans_from all state place o (drop n bytes)) (let one : offset + 1 + n ≡ offset + suc n = omega arith in one)

-- No run is empty, and no message.
span_size : (rule : Rule) (offset : ℕ) (bytes : List ℕ) (is : Bool)
    → (let own : Span = if is then span.Frame offset (frame_in bytes) else
    span.Bytes offset (bytes_to_next rule (drop 1 bytes) + 1) in suc (size_of (Some own) - 1) ≡ size_of (Some own))
span_size rule offset bytes true = omega arith
span_size rule offset bytes false = omega arith

-- What comes first is read, and then what comes of the other bytes.
spans_one : (all : Audited) (state : State) (place offset : ℕ) (bytes : List ℕ)
    → spans_from all state place offset bytes
    ≡ spans_next all state place offset bytes (first_span (rule_of all.harts all state.front) offset bytes)
spans_one all state place offset [] = refl
spans_one all state place offset (b ∷ bytes) =
    let own = span_at (rule_of all.harts all state.front) offset (b ∷ bytes) in
    let next = state_after all state place own in
    let later = place_after place own in
    let n = size_of (Some own) - 1 in
    let size : suc n ≡ size_of (Some own) =
    span_size (rule_of all.harts all state.front) offset (b ∷ bytes)
    (is_taken (rule_of all.harts all state.front) false (b ∷ bytes)) in
    ap (λ l. own ∷ l)
    (spans_rest n all next later (offset + 1) bytes
    ∙ ap (λ o. spans_from all next later o (drop n bytes)) (let at : offset + 1 + n ≡ offset + suc n = omega arith in at)
    ∙ ap (λ m. spans_from all next later (offset + m) (drop m (b ∷ bytes))) size)

-- The same by what a call returns.
pub spans_read : (all : Audited) (state : State) (place : ℕ) (own new : ReceivedHeld) (rest : List ℕ) (found : Option Span)
    (file : Option (List ℕ)) → Receives all.harts own → IsNextSpan all state.front own rest (Ok found) new file
    → spans_from all state place own.offset rest ≡ spans_next all state place own.offset rest found
spans_read all state place own new rest found file receives next =
    spans_one all state place own.offset rest
    ∙ ap (spans_next all state place own.offset rest)
    (ap (λ h. first_span (rule_of h all state.front) own.offset rest) (sym receives.known) ∙ sym next.0)
