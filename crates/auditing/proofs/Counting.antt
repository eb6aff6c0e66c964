-- Counting the messages of SENT.
use Rattle.std.proofs.Common.{◌≡◌, ◌≢◌, ◌⊎◌, inl, inr, ℕ, zero, suc, ◌+◌, ◌-◌, ◌^◌, ◌<◌, ◌≤◌, cond}
use Rattle.std.proofs.Common.{eqb, ltb, List, [], ◌∷◌, ◌++◌, Option, Some, None, Ok, length, replicate, set, slice_get, get_or, refl}
use Rattle.std.proofs.Common.{sym, ap, subst, ◌∙◌, arith}
use Rattle.std.specs.Prelude.{max, min}
use Rattle.std.proofs.lemmas.Bool.{cases_eq, cases_lt, le-ltb, lt-ltb}
use Rattle.std.proofs.lemmas.List.{length_push, length-replicate, get_or-replicate}
use Rattle.std.proofs.lemmas.List.Elements.{All-nil, All-push}
use Rattle.std.proofs.lemmas.List.Sums.{count_by-le-length, length-filter}
use Rattle.std.proofs.lemmas.Option.{slice_get-get_or, slice_get_past, slice_get_within, get_or_from_slice_get}
use Rattle.captures.proofs.Reaching.{capture_next}
use Rattle.captures.specs.NoMessage.{BeginsNone}
use Rattle.message.proofs.OfHartLemmas.{of_hart-next, of_hart-other}
use Rattle.message.specs.Capture.{capture, message_bytes}
use Rattle.message.specs.Cut.{IsMessage, IsCut, HasBadLength}
use Rattle.message.specs.OfHart.{of_hart}
use Rattle.message.specs.declared.fault.DemuxFault.{DemuxFault}
use Rattle.message.specs.declared.fault.MessageFault.{MessageFault}
use Rattle.message.specs.declared.fault.MessageFault.TheVariants as message
use Rattle.message.specs.declared.message.Message.{Message}
use Rattle.auditing.proofs.SentLemmas.{harts_in-next, in_turn-next, next_is, next_of_hart}
use Rattle.auditing.specs.Sent.{harts_in, misplaced, misplaced_at, next_number}
use Rattle.auditing.specs.steps.Indexing.{HasCounted, placed}

-- An element that was written, and another.
pub set_same : {X : Type 0} (xs : List X) (i : ℕ) (y : X) → i < length xs → slice_get (set xs i y) i ≡ Some y
set_same [] i y within = absurd (omega (arith, within))
set_same (x ∷ xs) zero y within = refl
set_same (x ∷ xs) (suc i) y within = set_same xs i y (omega (arith, within))

pub set_other : {X : Type 0} (xs : List X) (i j : ℕ) (y : X) → i ≢ j → slice_get (set xs i y) j ≡ slice_get xs j
set_other [] i j y other = refl
set_other (x ∷ xs) zero zero y other = absurd (other refl)
set_other (x ∷ xs) zero (suc j) y other = refl
set_other (x ∷ xs) (suc i) zero y other = refl
set_other (x ∷ xs) (suc i) (suc j) y other = set_other xs i j y (λ same. other (ap suc same))

-- Before the first message nothing is counted.
pub counted_none : (harts : ℕ) (bytes : List ℕ) → HasCounted harts bytes bytes (replicate harts 0) 0 0
counted_none harts bytes = record {
  messages = [];
  ranges = All-nil IsMessage;
  whole = refl;
  in_turn = tt;
  number_is = refl;
  each = each;
  highest_is = refl;
}
  where
    each : (hart : ℕ) → slice_get (replicate harts 0) hart ≡ next_number harts [] hart
    each hart = go (cases_lt hart harts)
      where
        go : (hart < harts) ⊎ (harts ≤ hart) → slice_get (replicate harts 0) hart ≡ next_number harts [] hart
        go (inl within) =
            slice_get-get_or (replicate harts 0) hart 0 (omega (arith, within, length-replicate {A = ℕ} harts 0))
            ∙ ap Some (get_or-replicate harts hart 0 0 within)
            ∙ ap (λ known. cond known (Some 0) None) (sym (lt-ltb hart harts within))
        go (inr past) =
            slice_get_past (replicate harts 0) hart (omega (arith, past, length-replicate {A = ℕ} harts 0))
            ∙ ap (λ known. cond known (Some 0) None) (sym (le-ltb hart harts past))

-- A hart has no more messages than there are.
few_of_hart : (hart : ℕ) (messages : List Message) → length (of_hart hart messages) ≤ length messages
few_of_hart hart messages =
    let counted = length-filter (λ (m : Message). eqb m.hart hart) messages in
    let within = count_by-le-length (λ (m : Message). eqb m.hart hart) messages in
    omega (arith, counted, within)

-- One more message, the next of its hart, is counted.
pub counted_more : (harts : ℕ) (bytes left next counts more : List ℕ) (highest higher number : ℕ) (m : Message)
    → HasCounted harts bytes left counts highest number → harts < 2 ^ 16 → number < 2 ^ 64 - 1
    → IsMessage m → left ≡ message_bytes m ++ next → misplaced_at (slice_get counts m.hart) m.number ≡ None
    → more ≡ set counts m.hart (min (get_or counts m.hart 0 + 1) (2 ^ 64 - 1))
    → higher ≡ max highest (min (m.hart + 1) (2 ^ 16 - 1))
    → HasCounted harts bytes next more higher (number + 1)
counted_more harts bytes left next counts more highest higher number m has few short is begins placed counts_are
    highest_is = record {
      messages = has.messages ++ m ∷ [];
      ranges = All-push IsMessage has.messages m has.ranges is;
      whole = has.whole ∙ ap (λ rest. capture has.messages ++ rest) begins ∙ sym (capture_next has.messages m next);
      in_turn = in_turn-next harts [] has.messages m has.in_turn its;
      number_is = ap (λ n. n + 1) has.number_is ∙ sym (length_push has.messages m);
      each = each;
      highest_is =
          highest_is ∙ ap (λ h. max h (min (m.hart + 1) (2 ^ 16 - 1))) has.highest_is
          ∙ ap (λ h. max (harts_in has.messages) h) (omega (arith, few, within))
          ∙ sym (harts_in-next has.messages m);
    }
  where
    its : misplaced harts has.messages m ≡ None
    its = ap (λ o. misplaced_at o m.number) (sym (has.each m.hart)) ∙ placed

    within : m.hart < harts
    within = (next_of_hart harts has.messages m its).0

    number_is : m.number ≡ length (of_hart m.hart has.messages)
    number_is = (next_of_hart harts has.messages m its).1

    one_more : min (m.number + 1) (2 ^ 64 - 1) ≡ length (of_hart m.hart (has.messages ++ m ∷ []))
    one_more =
        let counted = has.number_is in
        let fewer = few_of_hart m.hart has.messages in
        let small : m.number + 1 ≤ 2 ^ 64 - 1 = omega (arith, short, counted, fewer, number_is) in
        let exact : min (m.number + 1) (2 ^ 64 - 1) ≡ m.number + 1 = omega (arith, small) in
        exact ∙ ap (λ n. n + 1) number_is
        ∙ sym (ap length (of_hart-next has.messages m) ∙ length_push (of_hart m.hart has.messages) m)

    stands : slice_get counts m.hart ≡ Some m.number
    stands = next_is (slice_get counts m.hart) m.number placed

    counts_now : more ≡ set counts m.hart (min (m.number + 1) (2 ^ 64 - 1))
    counts_now = counts_are ∙ ap (λ n. set counts m.hart (min (n + 1) (2 ^ 64 - 1))) (get_or_from_slice_get counts m.hart m.number 0 stands)

    known : m.hart < length counts
    known = slice_get_within counts m.hart m.number stands

    each : (hart : ℕ) → slice_get more hart ≡ next_number harts (has.messages ++ m ∷ []) hart
    each hart = ap (λ l. slice_get l hart) counts_now ∙ go (cases_eq m.hart hart)
      where
        go : (m.hart ≡ hart) ⊎ (m.hart ≡ hart → ⊥)
            → slice_get (set counts m.hart (min (m.number + 1) (2 ^ 64 - 1))) hart
            ≡ next_number harts (has.messages ++ m ∷ []) hart
        go (inl same) =
            subst
            (λ h. slice_get (set counts m.hart (min (m.number + 1) (2 ^ 64 - 1))) h
            ≡ next_number harts (has.messages ++ m ∷ []) h) same
            (set_same counts m.hart (min (m.number + 1) (2 ^ 64 - 1)) known ∙ ap Some one_more
            ∙ ap (λ b. cond b (Some (length (of_hart m.hart (has.messages ++ m ∷ [])))) None)
            (sym (lt-ltb m.hart harts within)))
        go (inr other) =
            set_other counts m.hart hart (min (m.number + 1) (2 ^ 64 - 1)) other
            ∙ has.each hart
            ∙ ap (λ (l : List Message). cond (ltb hart harts) (Some (length l)) None)
            (sym (of_hart-other hart has.messages m other))

-- Why no whole message stands there.
pub begins_none : (bytes : List ℕ) (why : MessageFault) → (why ≡ message.Short) ⊎ (why ≡ message.BadLength)
    → (why ≡ message.Short → IsCut bytes) → (why ≡ message.BadLength → HasBadLength bytes) → BeginsNone bytes why
begins_none bytes message.Short either short bad = short refl
begins_none bytes message.BadLength either short bad = bad refl
begins_none bytes message.Read (inl is) short bad = cc
begins_none bytes message.Read (inr is) short bad = cc
begins_none bytes message.Write (inl is) short bad = cc
begins_none bytes message.Write (inr is) short bad = cc
begins_none bytes message.BadHeader (inl is) short bad = cc
begins_none bytes message.BadHeader (inr is) short bad = cc

-- What is placed is not misplaced.
pub placed_none : (o : Option DemuxFault) (done : Unit {0}) → placed o ≡ Ok done → o ≡ None
placed_none None done is = refl
placed_none (Some why) done is = cc
