-- Where all harts are whole and no stranger came, each hart has the messages that were sent.
use Rattle.std.proofs.Common.{◌≡◌, ◌⊎◌, inl, inr, ℕ, ◌+◌, ◌<◌, ◌≤◌, Bool, true, false, cond, eqb, List, []}
use Rattle.std.proofs.Common.{◌∷◌, ◌++◌, Option, refl, sym, ap, ◌∙◌, arith}
use Rattle.std.specs.Prelude.{◌↔◌}
use Rattle.std.specs.List.{count_by, list_any}
use Rattle.std.proofs.lemmas.Bool.{cases_lt, eqb-true, true≢false}
use Rattle.std.proofs.lemmas.List.Sums.{sum_by-cons}
use Rattle.message.specs.OfHart.{of_hart}
use Rattle.message.specs.declared.header.Header.{Header}
use Rattle.message.specs.declared.message.Message.{Message}
use Rattle.auditing.proofs.OwnMessages.{any_of_hart}
use Rattle.auditing.proofs.SentLemmas.{numbered}
use Rattle.auditing.proofs.TakingLemmas.{chosen, of_its_hart}
use Rattle.auditing.proofs.TallyLemmas.{others_none}
use Rattle.auditing.proofs.WholeLemmas.{same_again, untouched}
use Rattle.auditing.proofs.WholeTallies.{whole-Decides}
use Rattle.auditing.specs.DecodedAgain.{AreAllWhole}
use Rattle.auditing.specs.Fates.{fate_of, has_greater, has_number, is_numbered, is_true, true_ones}
use Rattle.auditing.specs.Judged.{Judged, is_fate, judged_behind, judged_one}
use Rattle.auditing.specs.Sent.{AreInTurn, harts_of, known_harts}
use Rattle.auditing.specs.Tallies.{is_whole}
use Rattle.auditing.specs.Untouched.{IsUntouched}
use Rattle.auditing.specs.declared.fate.Fate.TheVariants as fate
use Rattle.auditing.specs.steps.Indexing.{payloads_of}

-- A hart is whole exactly where nothing befell its messages.
pub whole_untouched : (harts hart : ℕ) (sent received : List Message) → AreInTurn harts [] sent
    → (is_whole sent received hart ≡ true) ↔ IsUntouched sent received hart
whole_untouched harts hart sent received turn = (
  λ whole. untouched sent hart (payloads_of (of_hart hart sent)) (numbered harts hart [] sent turn) received
      ((whole-Decides sent received hart).0 whole),
  λ is. (whole-Decides sent received hart).1
      (same_again sent hart (payloads_of (of_hart hart sent)) (numbered harts hart [] sent turn) received is),
)

-- And that is so exactly where what came of it is the list that was sent.
pub untouched_same : (harts hart : ℕ) (sent received : List Message) → AreInTurn harts [] sent
    → IsUntouched sent received hart ↔ (of_hart hart received ≡ of_hart hart sent)
untouched_same harts hart sent received turn = (
  λ is. same_again sent hart (payloads_of (of_hart hart sent)) (numbered harts hart [] sent turn) received is,
  λ same. untouched sent hart (payloads_of (of_hart hart sent)) (numbered harts hart [] sent turn) received same,
)

-- A message of a hart of which SENT has none is a stranger.
is_stranger : (sent before : List Message) (message : Message) → of_hart message.hart sent ≡ []
    → is_fate fate.Stranger (fate_of sent before message) ≡ true
is_stranger sent before message none =
    ap (λ known. is_fate fate.Stranger (chosen known (is_true sent message)
    (has_number (true_ones sent before) message.hart message.number)
    (has_greater (true_ones sent before) message.hart message.number)))
    (any_of_hart message.hart (is_numbered message.hart message.number) (of_its_hart message.hart message.number) sent
    ∙ ap (list_any (is_numbered message.hart message.number)) none)

-- What is counted is not none.
never_zero : (b : Bool) (rest : ℕ) → b ≡ true → cond b 1 0 + rest ≡ 0 → ⊥
never_zero true rest is none = omega (arith, none)
never_zero false rest is none = true≢false (sym is)

-- Where no stranger came, none of a hart came of which SENT has none.
none_came : (sent : List Message) (hart : ℕ) → of_hart hart sent ≡ [] → (before messages : List Message)
    → count_by (λ (one : Judged). is_fate fate.Stranger one.fate) (judged_behind sent before messages) ≡ 0
    → of_hart hart messages ≡ []
none_came sent hart none before [] zero_count = refl
none_came sent hart none before (message ∷ messages) zero_count =
    go (eqb message.hart hart) refl
    (none_came sent hart none (before ++ message ∷ []) messages (let rest = split in omega (arith, rest)))
  where
    split : cond (is_fate fate.Stranger (fate_of sent before message)) 1 0
        + count_by (λ (one : Judged). is_fate fate.Stranger one.fate)
        (judged_behind sent (before ++ message ∷ []) messages) ≡ 0
    split =
        sym (sum_by-cons (λ (one : Judged). cond (is_fate fate.Stranger one.fate) 1 0) (judged_one sent before message)
        (judged_behind sent (before ++ message ∷ []) messages)) ∙ zero_count

    go : (own : Bool) → eqb message.hart hart ≡ own → of_hart hart messages ≡ []
        → cond own (message ∷ of_hart hart messages) (of_hart hart messages) ≡ []
    go false is rest = rest
    go true is rest =
        let its = eqb-true message.hart hart is in
        let stranger =
        is_stranger sent before message (ap (λ h. of_hart h sent) its ∙ none) in
        absurd (never_zero (is_fate fate.Stranger (fate_of sent before message))
        (count_by (λ (one : Judged). is_fate fate.Stranger one.fate)
        (judged_behind sent (before ++ message ∷ []) messages)) stranger split)

-- Each hart has the messages that were sent.
pub all_same : (header : Option Header) (sent received : List Message) → AreInTurn (known_harts header) [] sent
    → AreAllWhole header sent received → (hart : ℕ) → of_hart hart received ≡ of_hart hart sent
all_same header sent received turn whole hart = go (cases_lt hart (harts_of header sent))
  where
    go : (hart < harts_of header sent) ⊎ (harts_of header sent ≤ hart) → of_hart hart received ≡ of_hart hart sent
    go (inl within) = (whole-Decides sent received hart).0 (whole.harts hart within)
    go (inr beyond) =
        let none = others_none header sent turn hart beyond in
        none_came sent hart none [] received whole.strangers ∙ sym none
