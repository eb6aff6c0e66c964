-- The counts of a hart, where one more message came.
use Rattle.std.proofs.Common.{◌≡◌, ◌≢◌, ℕ, ◌+◌, true, false, cond, eqb, List, [], ◌∷◌, ◌++◌, length, refl, sym, ap, ◌∙◌}
use Rattle.std.proofs.Common.{arith, add-zero, Bool}
use Rattle.std.specs.Prelude.{◌&&◌}
use Rattle.std.proofs.lemmas.Bool.{eq-eqb, ne_eqb}
use Rattle.std.proofs.lemmas.List.{length_push}
use Rattle.message.proofs.OfHartLemmas.{of_hart-next, of_hart-other}
use Rattle.message.specs.OfHart.{of_hart}
use Rattle.message.specs.declared.message.Message.{Message}
use Rattle.auditing.proofs.Appending.{counted-next}
use Rattle.auditing.specs.Audits.{capped, counts_of}
use Rattle.auditing.specs.Fates.{fate_of}
use Rattle.auditing.specs.Judged.{Judged, fates_counted, is_fate, strangers_in}
use Rattle.auditing.specs.declared.fate.Fate.{Fate}
use Rattle.auditing.specs.declared.fate.Fate.TheVariants as fate
use Rattle.auditing.specs.declared.tally.Counts.{Counts}
use Rattle.auditing.specs.steps.Taking.{counted, one_more, strangers_after}

-- One more, where the greatest count stays.
pub capped_more : (count more : ℕ) → more ≡ count + 1 → one_more (capped count) ≡ capped more
capped_more count more is = omega (arith, is)

-- A count that stays.
capped_same : (count more : ℕ) → more ≡ count + 0 → capped count ≡ capped more
capped_same count more is = ap capped (sym (is ∙ add-zero count))

module _ (sent received : List Message) (message : Message) (its : Fate) (is : fate_of sent received message ≡ its) where
  abbrev more : List Message
  more = received ++ message ∷ []

  -- How many messages of the message's hart have a fate.
  own : (fate : Fate) → fates_counted sent more message.hart fate
      ≡ fates_counted sent received message.hart fate + cond (is_fate fate its) 1 0
  own fate =
      counted-next (λ (one : Judged). eqb one.message.hart message.hart && is_fate fate one.fate) sent received message
      ∙ ap (λ b. fates_counted sent received message.hart fate + cond (b && is_fate fate (fate_of sent received message))
      1 0) (eq-eqb message.hart message.hart refl)
      ∙ ap (λ f. fates_counted sent received message.hart fate + cond (is_fate fate f) 1 0) is

  next : (fate : Fate) → cond (is_fate fate its) (one_more (capped (fates_counted sent received message.hart fate)))
      (capped (fates_counted sent received message.hart fate)) ≡ capped (fates_counted sent more message.hart fate)
  next fate = go (is_fate fate its) (own fate)
    where
      go : (b : Bool)
          → fates_counted sent more message.hart fate ≡ fates_counted sent received message.hart fate + cond b 1 0
          → cond b (one_more (capped (fates_counted sent received message.hart fate)))
          (capped (fates_counted sent received message.hart fate)) ≡ capped (fates_counted sent more message.hart fate)
      go true e = capped_more _ _ e
      go false e = capped_same _ _ e

  came : one_more (capped (length (of_hart message.hart received))) ≡ capped (length (of_hart message.hart more))
  came = capped_more _ _ (ap length (of_hart-next received message) ∙ length_push (of_hart message.hart received) message)

  -- How many strangers came.
  pub strangers-next : strangers_after (capped (strangers_in sent received)) its ≡ capped (strangers_in sent more)
  strangers-next = go its refl
    where
      now : strangers_in sent more ≡ strangers_in sent received + cond (is_fate fate.Stranger its) 1 0
      now =
          counted-next (λ (one : Judged). is_fate fate.Stranger one.fate) sent received message
          ∙ ap (λ f. strangers_in sent received + cond (is_fate fate.Stranger f) 1 0) is

      go : (f : Fate) → its ≡ f → strangers_after (capped (strangers_in sent received)) f
          ≡ capped (strangers_in sent more)
      go f same = at f (now ∙ ap (λ f. strangers_in sent received + cond (is_fate fate.Stranger f) 1 0) same)
        where
          at : (f : Fate) → strangers_in sent more ≡ strangers_in sent received + cond (is_fate fate.Stranger f) 1 0
              → strangers_after (capped (strangers_in sent received)) f ≡ capped (strangers_in sent more)
          at fate.Stranger e = capped_more _ _ e
          at fate.Changed e = capped_same _ _ e
          at fate.Repeat e = capped_same _ _ e
          at fate.Late e = capped_same _ _ e
          at fate.InOrder e = capped_same _ _ e

-- The counts after one more message of a fate, field by field.
counted_by : (counts : Counts) (its : Fate) → counted counts its ≡ record {
  came = one_more counts.came;
  strange = cond (is_fate fate.Stranger its) (one_more counts.strange) counts.strange;
  changed = cond (is_fate fate.Changed its) (one_more counts.changed) counts.changed;
  repeated = cond (is_fate fate.Repeat its) (one_more counts.repeated) counts.repeated;
  late = cond (is_fate fate.Late its) (one_more counts.late) counts.late;
}
counted_by counts fate.Stranger = refl
counted_by counts fate.Changed = refl
counted_by counts fate.Repeat = refl
counted_by counts fate.Late = refl
counted_by counts fate.InOrder = refl

-- The counts of the message's hart.
pub counts-next : (sent received : List Message) (message : Message) (its : Fate)
    → fate_of sent received message ≡ its
    → counted (counts_of sent received message.hart) its ≡ counts_of sent (received ++ message ∷ []) message.hart
counts-next sent received message its is =
    counted_by (counts_of sent received message.hart) its ∙ (λ i. record {
      came = came sent received message its is i;
      strange = next sent received message its is fate.Stranger i;
      changed = next sent received message its is fate.Changed i;
      repeated = next sent received message its is fate.Repeat i;
      late = next sent received message its is fate.Late i;
    })

-- The counts of another hart.
pub counts-other : (sent received : List Message) (message : Message) (hart : ℕ) → message.hart ≢ hart
    → counts_of sent received hart ≡ counts_of sent (received ++ message ∷ []) hart
counts-other sent received message hart other = λ i. record {
  came = capped (length (sym (of_hart-other hart received message other) i));
  strange = capped (same fate.Stranger i);
  changed = capped (same fate.Changed i);
  repeated = capped (same fate.Repeat i);
  late = capped (same fate.Late i);
}
  where
    same : (fate : Fate)
        → fates_counted sent received hart fate ≡ fates_counted sent (received ++ message ∷ []) hart fate
    same fate =
        let now : fates_counted sent (received ++ message ∷ []) hart fate ≡ fates_counted sent received hart fate =
        counted-next (λ (one : Judged). eqb one.message.hart hart && is_fate fate one.fate) sent received message
        ∙ ap (λ b. fates_counted sent received hart fate
        + cond (b && is_fate fate (fate_of sent received message)) 1 0) (ne_eqb message.hart hart other)
        ∙ add-zero (fates_counted sent received hart fate) in
        sym now
