-- An encoder that stands for a log goes on to stand for it with each event.
use Rattle.std.proofs.Common.{◌≡◌, ℕ, ◌+◌, false, List, [], ◌∷◌, ◌++◌, None, refl, sym, ap, subst, ◌∙◌, inl, inr}
use Rattle.std.proofs.lemmas.List.Elements.{All-append, All-cons, All-nil}
use Rattle.retire.specs.Is64Bit.{Is64Bit}
use Rattle.retire.specs.declared.event.Event.{Event}
use Rattle.retire.specs.declared.event.Event.TheVariants.{Retire, Trap}
use Rattle.rvclass.specs.Words.{Words}
use Rattle.legalpath.proofs.FollowOnLemmas.{follow_on_split}
use Rattle.legalpath.specs.Legal.{Legal}
use Rattle.legalpath.specs.Step.{Step, StepFrom}
use Rattle.payload.specs.declared.mode.Mode.{Mode}
use Rattle.encoder.specs.Due.{due_at, due_of_last}
use Rattle.encoder.specs.PacketsSoFar.{is_known}
use Rattle.encoder.specs.Spot.{count_with}
use Rattle.encoder.specs.EncoderStands.{count_all, AreLeft, EncoderStands}
use Rattle.encoder.specs.steps.Stepping.{next_due, is_handler_due, pending_with, encoder_after}
use Rattle.encoder.specs.declared.due.Due.{Due}
use Rattle.encoder.specs.declared.encoder.Encoder.{Encoder}
use Rattle.encoder.proofs.SpotLemmas.{count_all-append, last_or-snoc}
use Rattle.encoder.proofs.PacketsReached.{spot_after, Reaches}
use Rattle.encoder.proofs.RulesByDue.{is_known-due}
use Rattle.encoder.proofs.CountLemmas.{left-next}
use Rattle.encoder.proofs.LogsByLastEvent.{by_last, Views, view_open}
use Rattle.encoder.proofs.EventsTaken.{pending_with-outcomes, Does}
use Rattle.encoder.proofs.OneEventMore.{Pushes, joined, pushes}

-- The first event gives nothing.
does_first : (words : Words) (e : Encoder) (next : Event) (d' : Due) → e.held ≡ None
    → next_due None e.due e.left next ≡ d' → Does words e next [] (pending_with d' next []) e.reported d'
does_first words e next d' h n = record {
  gives = rw h refl;
  between = rw h refl;
  in_mode = rw h refl;
  left = rw h refl;
  held = rw h refl;
  asked = rw (h, n) refl;
  pending_is = rw (h, n) refl;
  reported_is = rw h refl;
}

-- What is due of a log's first event.
first_due : (words : Words) (period : ℕ) (was : Due) (left : ℕ) (event : Event)
    → next_due None was left event ≡ due_at words period (spot_after [] event None)
first_due words period was left (Retire addr itype priv) = refl
first_due words period was left (Trap priv interrupt cause epc tval) = refl

first_unknown : (words : Words) (event : Event) → is_known words (spot_after [] event None) ≡ false
first_unknown words (Retire addr itype priv) = refl
first_unknown words (Trap priv interrupt cause epc tval) = refl

module _ (words : Words) (period : ℕ) (mode : Mode) where
  first_pushes : (e : Encoder) (event : Event) → EncoderStands words period mode [] e
      → Pushes words period mode [] e event
  first_pushes e event stands =
      let base : Reaches words period mode [] [] 0 [] = record { given = refl; reported_is = refl; open_ = refl } in
      let d' = due_at words period (spot_after [] event None) in
      let k = first_unknown words event in
      let old : Views words period mode [] [] 0 [] (due_of_last words period []) =
      record { so_far = refl; reported_is = refl; rest = refl; asked = refl } in
      let new : Views words period mode (event ∷ []) [] 0 (event ∷ []) d' =
      view_open words period mode [] event [] 0 [] k base in
      let not_handler : is_handler_due d' ≡ false = sym (is_known-due words period (spot_after [] event None)) ∙ k in
      let does = does_first words e event d' stands.held (first_due words period e.due e.left event) in
      let does' : Does words e event [] (pending_with d' event []) 0 d' =
      subst (λ r. Does words e event [] (pending_with d' event []) r d') stands.reported does in
      joined words period mode [] e event [] 0 [] (due_of_last words period []) [] 0 (event ∷ []) d' []
      (pending_with d' event []) old new does' refl (pending_with-outcomes d' [] event not_handler)

  -- An event that may follow the log is pushed as its packets ask for.
  pub pushes_any : (log : List Event) (e : Encoder) (event : Event) → EncoderStands words period mode log e
      → Legal words (log ++ event ∷ []) → Pushes words period mode log e event
  pushes_any log e event stands legal = elim (by_last log) [
    | inl is ↦
        subst (λ l. Pushes words period mode l e event) (sym is)
        (first_pushes e event (subst (λ l. EncoderStands words period mode l e) is stands))
    | inr r ↦
        subst (λ l. Pushes words period mode l e event) (sym r.2)
        (behind r.0 r.1 (subst (λ l. EncoderStands words period mode l e) r.2 stands)
        (subst (λ l. Legal words (l ++ event ∷ [])) r.2 legal))
  ]
    where
      behind : (front : List Event) (held : Event) → EncoderStands words period mode (front ++ held ∷ []) e
          → Legal words ((front ++ held ∷ []) ++ event ∷ []) → Pushes words period mode (front ++ held ∷ []) e event
      behind front held stands legal =
          let parts = follow_on_split words None (front ++ held ∷ []) (event ∷ []) legal in
          let mine = follow_on_split words None front (held ∷ []) parts.0 in
          let step : Step words held event =
          subst (λ b. StepFrom words b event) (last_or-snoc None front held) parts.1.1 in
          pushes words period mode front held event e stands mine.1.0 step

  -- The encoder then stands for the log with it.
  pub stands_after : (log : List Event) (e : Encoder) (event : Event) → Is64Bit event
      → EncoderStands words period mode log e
      → Pushes words period mode log e event
      → EncoderStands words period mode (log ++ event ∷ []) (encoder_after words e event)
  stands_after log e event fits stands p = record {
    numbers = All-append Is64Bit log (event ∷ []) stands.numbers (All-cons Is64Bit event [] fits (All-nil Is64Bit));
    between = ap (λ n. n + 1) p.between ∙ stands.between;
    in_mode = p.in_mode ∙ stands.in_mode;
    left = subst (λ n. AreLeft period n (encoder_after words e event).left) (sym (count_all-append 0 log (event ∷ [])))
        (subst (AreLeft period (count_with (count_all 0 log) event)) (sym p.left)
        (left-next period e.between (count_all 0 log) e.left event stands.between stands.left));
    held = p.held ∙ sym (last_or-snoc None log event);
    due = p.asked;
    pending = p.pending;
    reported = p.reported_is;
  }
