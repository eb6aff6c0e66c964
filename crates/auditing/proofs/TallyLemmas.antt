-- What an audit has before the first message of RECEIVED, and what it counts.
use Rattle.std.proofs.Common.{◌≡◌, ℕ, suc, ◌+◌, ◌^◌, ◌<◌, ◌≤◌, Bool, true, false, cond, eqb, List, []}
use Rattle.std.proofs.Common.{◌∷◌, ◌++◌, Option, Some, None, length, map, refl, sym, ap, subst, ◌∙◌, arith}
use Rattle.std.specs.Prelude.{◌&&◌, not}
use Rattle.std.specs.List.{count_by, filter}
use Rattle.std.proofs.lemmas.Bool.{le-ltb}
use Rattle.std.proofs.lemmas.List.Sums.{count_by-le-length, length-filter, sum_by-cons}
use Rattle.message.specs.Numbered.{messages_from}
use Rattle.message.specs.OfHart.{of_hart}
use Rattle.message.specs.declared.header.Header.{Header}
use Rattle.message.specs.declared.message.Message.{Message}
use Rattle.payload.specs.declared.by.By.{By}
use Rattle.auditing.proofs.Moves.{moves_start}
use Rattle.auditing.proofs.OwnMessages.{flags}
use Rattle.auditing.proofs.SentLemmas.{none_above, none_beyond, numbered}
use Rattle.auditing.specs.Audits.{AuditsBytes, AuditsHart, capped}
use Rattle.auditing.specs.Fates.{has_number, true_ones}
use Rattle.auditing.specs.Judged.{Judged, fates_counted, is_fate, judged, judged_behind, strangers_in}
use Rattle.auditing.specs.Ledger.{HartLedger, Ledger}
use Rattle.auditing.specs.Losing.{lost_numbers, lost_runs, runs_of}
use Rattle.auditing.specs.Sent.{AreInTurn, harts_of, known_harts}
use Rattle.auditing.specs.declared.fate.Fate.{Fate}
use Rattle.auditing.specs.declared.fate.Fate.TheVariants as fate
use Rattle.auditing.specs.steps.Indexing.{AreIndexed, fresh, payloads_of}
use Rattle.auditing.specs.steps.Moving.{none_moved}
use Rattle.auditing.specs.Unset.{lost_in}

-- No flag is set.
no_flags : (messages : List Message)
    → map (λ (payload : List ℕ). false) (payloads_of messages) ≡ flags (λ _. false) messages
no_flags [] = refl
no_flags (message ∷ messages) = ap (λ rest. false ∷ rest) (no_flags messages)

-- What is kept of a hart before the first message of RECEIVED.
pub starts_hart : (harts hart : ℕ) (sent : List Message) → AreInTurn harts [] sent
    → AuditsHart sent [] hart (fresh (payloads_of (of_hart hart sent)))
starts_hart harts hart sent turn = record {
  payloads = numbered harts hart [] sent turn;
  came = no_flags (of_hart hart sent);
  past = λ number. sym (le-ltb (number + 1) 0 (omega arith));
  past_is = refl;
  latest = refl;
  counts = refl;
}

-- No message of SENT is of another hart.
pub others_none : (header : Option Header) (sent : List Message) → AreInTurn (known_harts header) [] sent → (hart : ℕ)
    → harts_of header sent ≤ hart → of_hart hart sent ≡ []
others_none None sent turn hart beyond = none_above hart sent beyond
others_none (Some header) sent turn hart beyond = none_beyond header.harts hart [] sent turn beyond

-- What is kept of these harts before the first message of RECEIVED, where so many of their messages are of each.
abbrev pub unheard : By → Option Header → List HartLedger → List (List ℕ) → Ledger
unheard how header harts moves = record {
  by = how;
  header = header;
  harts = harts;
  strangers = 0;
  taken = 0;
  first = None;
  moves = moves;
}

-- What is kept of all harts then.
pub starts : (how : By) (header : Option Header) (sent : List Message) (index : List HartLedger)
    → AreInTurn (known_harts header) [] sent → AreIndexed (harts_of header sent) sent index
    → AuditsBytes sent [] (unheard how header index (none_moved (length index)))
starts how header sent index turn indexed = record {
  count = indexed.count;
  each = λ hart own is. subst (AuditsHart sent [] hart) (sym (indexed.each hart own is))
      (starts_hart (known_harts header) hart sent turn);
  others = λ hart beyond. others_none header sent turn hart (omega (arith, indexed.count, beyond));
  strangers = refl;
  taken = refl;
  first = refl;
  moves = moves_start sent (length index);
}

-- The numbers that are lost are those whose flags are not set.
lost_from : (marked : ℕ → Bool) (hart start : ℕ) (payloads : List (List ℕ))
    → filter (λ number. not (marked number))
    (map (λ (message : Message). message.number) (messages_from hart start payloads))
    ≡ lost_in start (flags marked (messages_from hart start payloads))
lost_from marked hart start [] = refl
lost_from marked hart start (payload ∷ payloads) =
    go (marked start)
    (filter (λ number. not (marked number))
    (map (λ (message : Message). message.number) (messages_from hart (start + 1) payloads)))
    (flags marked (messages_from hart (start + 1) payloads)) (lost_from marked hart (start + 1) payloads)
  where
    go : (is : Bool) (numbers : List ℕ) (rest : List Bool) → numbers ≡ lost_in (start + 1) rest
        → cond (not is) (start ∷ numbers) numbers ≡ lost_in start (is ∷ rest)
    go true numbers rest same = same
    go false numbers rest same = ap (λ l. start ∷ l) same

pub lost_are : (sent received : List Message) (hart : ℕ) (own : HartLedger) → AuditsHart sent received hart own
    → lost_in 0 own.came ≡ lost_numbers sent received hart
lost_are sent received hart own stands =
    let marked = has_number (true_ones sent received) hart in
    ap (lost_in 0) (stands.came ∙ ap (flags marked) stands.payloads)
    ∙ sym (lost_from marked hart 0 own.payloads)
    ∙ ap (λ (messages : List Message).
    filter (λ number. not (marked number)) (map (λ (message : Message). message.number) messages))
    (sym stands.payloads)

-- The longest runs of them.
pub runs_are : (sent received : List Message) (hart : ℕ) (own : HartLedger) → AuditsHart sent received hart own
    → runs_of (lost_in 0 own.came) ≡ lost_runs sent received hart
runs_are sent received hart own stands = ap runs_of (lost_are sent received hart own stands)

-- How many are lost.
unset_counted : (marked : ℕ → Bool) (messages : List Message)
    → count_by not (flags marked messages)
    ≡ length (filter (λ number. not (marked number)) (map (λ (message : Message). message.number) messages))
unset_counted marked [] = refl
unset_counted marked (message ∷ messages) =
    sum_by-cons (λ flag. cond (not flag) 1 0) (marked message.number) (flags marked messages)
    ∙ ap (λ rest. cond (not (marked message.number)) 1 0 + rest) (unset_counted marked messages)
    ∙ go (marked message.number)
    (filter (λ number. not (marked number)) (map (λ (message : Message). message.number) messages))
  where
    go : (is : Bool) (numbers : List ℕ) → cond (not is) 1 0 + length numbers
        ≡ length (cond (not is) (message.number ∷ numbers) numbers)
    go true numbers = omega arith
    go false numbers = omega arith

pub lost_counted : (sent received : List Message) (hart : ℕ) (own : HartLedger) → AuditsHart sent received hart own
    → count_by not own.came ≡ length (lost_numbers sent received hart)
lost_counted sent received hart own stands =
    ap (count_by not) stands.came
    ∙ unset_counted (has_number (true_ones sent received) hart) (of_hart hart sent)

-- There are as many fates as messages.
length-judged_behind : (sent before messages : List Message) → length (judged_behind sent before messages)
    ≡ length messages
length-judged_behind sent before [] = refl
length-judged_behind sent before (message ∷ messages) =
    ap suc (length-judged_behind sent (before ++ message ∷ []) messages)

-- A count that is not too great is as it is.
exact : (count : ℕ) → count < 2 ^ 64 → capped count ≡ count
exact count few = omega (arith, few)

pub fates_exact : (sent received : List Message) (hart : ℕ) (its : Fate) → length received < 2 ^ 64
    → capped (fates_counted sent received hart its) ≡ fates_counted sent received hart its
fates_exact sent received hart its few =
    let within =
    count_by-le-length (λ (one : Judged). eqb one.message.hart hart && is_fate its one.fate) (judged sent received) in
    exact (fates_counted sent received hart its)
    (omega (arith, few, within, length-judged_behind sent [] received))

pub strangers_exact : (sent received : List Message) → length received < 2 ^ 64
    → capped (strangers_in sent received) ≡ strangers_in sent received
strangers_exact sent received few =
    let within = count_by-le-length (λ (one : Judged). is_fate fate.Stranger one.fate) (judged sent received) in
    exact (strangers_in sent received) (omega (arith, few, within, length-judged_behind sent [] received))

pub came_exact : (received : List Message) (hart : ℕ) → length received < 2 ^ 64
    → capped (length (of_hart hart received)) ≡ length (of_hart hart received)
came_exact received hart few =
    let counted = length-filter (λ (message : Message). eqb message.hart hart) received in
    let within = count_by-le-length (λ (message : Message). eqb message.hart hart) received in
    exact (length (of_hart hart received)) (omega (arith, few, counted, within))
