-- What is noted of messages, with one more of them.
use Rattle.std.proofs.Common.{◌≡◌, ℕ, ◌+◌, ◌^◌, ◌<◌, ◌≤◌, Bool, true, false, List, []}
use Rattle.std.proofs.Common.{◌∷◌, ◌++◌, Option, Some, None, length}
use Rattle.std.proofs.Common.{refl, sym, ap, subst, ◌∙◌, add-zero, append-nil, arith, zero-add}
use Rattle.std.proofs.lemmas.List.{append_assoc, length_push}
use Rattle.std.specs.Prelude.{◌&&◌, cond, not}
use Rattle.payload.specs.declared.by.By.{By}
use Rattle.frames.specs.declared.span.Span.{Span}
use Rattle.frames.specs.declared.span.Span.TheVariants.{Frame, Bytes}
use Rattle.message.specs.Range.{selects}
use Rattle.message.specs.declared.range.HartRange.{HartRange}
use Rattle.message.specs.declared.message.Message.{Message}
use Rattle.frames.specs.Counted.{messages_in}
use Rattle.auditing.proofs.Appending.{counted-next}
use Rattle.auditing.proofs.KnownLemmas.{known-count, known-more}
use Rattle.auditing.specs.Fates.{fate_of, true_ones}
use Rattle.auditing.specs.Findings.{finding_by, finding_of, found_after, greatest_number, is_plain}
use Rattle.auditing.specs.Judged.{Judged, is_fate}
use Rattle.auditing.specs.Known.{known_all, known_one}
use Rattle.auditing.specs.declared.fate.Fate.{Fate}
use Rattle.auditing.specs.declared.fate.Fate.TheVariants as fate
use Rattle.auditing.specs.declared.finding.Finding.{Finding}
use Rattle.auditing.specs.declared.finding.Finding.TheVariants as finding
use Rattle.auditing.specs.steps.Taking.{first_after}
use Rattle.path_commands.specs.OnlyHarts.{first_from, first_of, strangers_of}
use Rattle.path_commands.specs.declared.noting.Noted.{Noted}
use Rattle.path_commands.specs.steps.Noting.{none_noted, noted_if, noted_more, noted_of, strangers_after}

-- This is noted of the messages of RECEIVED, and no more strangers than there are messages.
pub record IsNoted (harts : HartRange) (sent received : List Message) (noted : Noted) : Type 0 where
  pub is : noted ≡ noted_of harts sent received
  pub few : noted.strangers ≤ length received

-- The strangers, by the fate of one message more.
strangers_by : (count : ℕ) (its : Fate) (greatest : Option ℕ) (number : ℕ) → count + 1 < 2 ^ 64
    → strangers_after count (finding_by its greatest number) ≡ count + cond (is_fate fate.Stranger its) 1 0
strangers_by count fate.Stranger greatest number low = omega (arith, low)
strangers_by count fate.Changed greatest number low = sym (add-zero count)
strangers_by count fate.Repeat greatest number low = sym (add-zero count)
strangers_by count fate.Late greatest number low = sym (add-zero count)
strangers_by count fate.InOrder greatest number low = sym (add-zero count)

-- The first that is not plain, with one message more.
first_next : (harts : HartRange) (place : ℕ) (sent before messages : List Message) (m : Message)
    → first_from harts place (found_after sent before (messages ++ m ∷ []))
    ≡ cond (selects harts m.hart)
    (first_after (first_from harts place (found_after sent before messages)) (place + length messages)
    (finding_of sent (before ++ messages) m))
    (first_from harts place (found_after sent before messages))
first_next harts place sent before [] m =
    go (selects harts m.hart) (is_plain (finding_of sent before m))
    ∙ (λ i. cond (selects harts m.hart)
    (first_after None (sym (add-zero place) i) (finding_of sent (sym (append-nil before) i) m)) None)
  where
    go : (s plain : Bool) → cond (s && not plain) (Some place) None ≡ cond s (cond plain None (Some place)) None
    go true true = refl
    go true false = refl
    go false plain = refl
first_next harts place sent before (x ∷ messages) m =
    go (selects harts x.hart && not (is_plain (finding_of sent before x))) (selects harts m.hart)
    (first_next harts (place + 1) sent (before ++ x ∷ []) messages m
    ∙ (λ i. cond (selects harts m.hart)
    (first_after rest (one i) (finding_of sent (append_assoc before (x ∷ []) messages i) m)) rest))
  where
    rest : Option ℕ
    rest = first_from harts (place + 1) (found_after sent (before ++ x ∷ []) messages)

    one : place + 1 + length messages ≡ place + length (x ∷ messages)
    one = omega arith

    go : (c s : Bool)
        → first_from harts (place + 1) (found_after sent (before ++ x ∷ []) (messages ++ m ∷ []))
        ≡ cond s (first_after rest (place + length (x ∷ messages)) (finding_of sent (before ++ x ∷ messages) m)) rest
        → cond c (Some place) (first_from harts (place + 1) (found_after sent (before ++ x ∷ []) (messages ++ m ∷ [])))
        ≡ cond s
        (first_after (cond c (Some place) rest) (place + length (x ∷ messages)) (finding_of sent
        (before ++ x ∷ messages) m))
        (cond c (Some place) rest)
    go true true more = refl
    go true false more = refl
    go false s more = more

-- What is noted of messages and one more.
noted_next : (harts : HartRange) (sent received : List Message) (m : Message)
    → strangers_of harts sent received + 1 < 2 ^ 64
    → noted_if (selects harts m.hart) (noted_of harts sent received) (length received) (finding_of sent received m)
    ≡ noted_of harts sent (received ++ m ∷ [])
noted_next harts sent received m low =
    go (selects harts m.hart)
    ∙ (λ i. record {
      strangers = sym (counted-next (λ (one : Judged). selects harts one.message.hart && is_fate fate.Stranger
          one.fate) sent received m) i;
      first = sym (first_next harts 0 sent [] received m) i;
    })
  where
    its : Finding
    its = finding_of sent received m

    go : (b : Bool) → noted_if b (noted_of harts sent received) (length received) its ≡ record {
      strangers = strangers_of harts sent received + cond (b && is_fate fate.Stranger (fate_of sent received m)) 1 0;
      first = cond b (first_after (first_of harts sent received) (0 + length received) its)
          (first_of harts sent received);
    }
    go true = λ i. record {
      strangers = strangers_by (strangers_of harts sent received) (fate_of sent received m)
          (greatest_number (true_ones sent received) m.hart) m.number low i;
      first = first_after (first_of harts sent received) (sym (zero-add (length received)) i) its;
    }
    go false = λ i. record {
      strangers = sym (add-zero (strangers_of harts sent received)) i;
      first = first_of harts sent received;
    }

-- At first nothing is.
pub noted_none : (harts : HartRange) (sent : List Message) (noted : Noted) → noted ≡ none_noted
    → IsNoted harts sent [] noted
noted_none harts sent noted none = record { is = none; few = subst (λ n. n.strangers ≤ 0) (sym none) (omega arith) }

-- One message more makes one stranger more at most.
at_most : (b : Bool) (noted : Noted) (place : ℕ) (its : Finding)
    → (noted_if b noted place its).strangers ≤ noted.strangers + 1
at_most false noted place its = omega arith
at_most true noted place finding.Stranger = omega arith
at_most true noted place finding.Changed = omega arith
at_most true noted place finding.Repeat = omega arith
at_most true noted place (finding.Late by) = omega arith
at_most true noted place (finding.InOrder skips) = omega arith

module _ (how : By) (harts : HartRange) (sent received : List Message) (noted : Noted) (place : ℕ)
    (has : IsNoted harts (known_all how sent) (known_all how received) noted) (placed : place ≡ length received)
    (low : length received + 1 < 2 ^ 64) where
  abbrev own : List Message
  own = known_all how sent

  abbrev came : List Message
  came = known_all how received

  few : strangers_of harts own came + 1 < 2 ^ 64
  few =
      let most = has.few in
      let is = ap (λ (n : Noted). n.strangers) has.is in
      let count = known-count how received in
      omega (arith, most, is, count, low)

  next : (m : Message) → noted_more how harts sent received noted place (Frame 0 m)
      ≡ noted_of harts own (known_all how (received ++ m ∷ []))
  next m =
      (λ i. noted_if (selects harts m.hart) (has.is i) ((placed ∙ sym (known-count how received)) i)
      (finding_of own came (known_one how m)))
      ∙ noted_next harts own came (known_one how m) few
      ∙ ap (noted_of harts own) (sym (known-more how received m))

  most_next : (m : Message) → (noted_more how harts sent received noted place (Frame 0 m)).strangers
      ≤ length (known_all how (received ++ m ∷ []))
  most_next m =
      let more = at_most (selects harts m.hart) noted place (finding_of own came (known_one how m)) in
      let most = has.few in
      let count = known-count how received in
      let longer = known-count how (received ++ m ∷ []) in
      let one = length_push received m in
      omega (arith, more, most, count, longer, one)

  -- What is noted after one span more.
  pub noted_span : (span : Span) (new : Noted) → new ≡ noted_more how harts sent received noted place span
      → IsNoted harts own (known_all how (received ++ messages_in (span ∷ []))) new
  noted_span (Frame offset m) new is =
      record {
        is = is ∙ next m;
        few = subst (λ n. n.strangers ≤ length (known_all how (received ++ m ∷ [])))
            (sym is) (most_next m);
      }
  noted_span (Bytes offset count) new is =
      subst (λ l. IsNoted harts own (known_all how l) new) (sym (append-nil received))
      (subst (IsNoted harts own came) (sym is) has)
