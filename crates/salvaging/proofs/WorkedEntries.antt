-- Entries, copies and strangers that were worked by hand, as the definitions give them.
use Rattle.std.proofs.Common.{◌≡◌, ◌≢◌, ◌<◌, inl, inr, ℕ, zero, suc, ◌-◌, ◌^◌, All, List, [], ◌∷◌, Some}
use Rattle.std.proofs.Common.{Contains, map, slice_get, refl, sym, ap, ◌∙◌, arith}
use Rattle.std.specs.List.{AllByRecursion}
use Rattle.std.specs.Prelude.{count_by}
use Rattle.std.proofs.lemmas.List.Elements.{All-cons, All-nil}
use Rattle.std.proofs.lemmas.Option.{same_Some}
use Rattle.message.specs.declared.message.Message.{Message}
use Rattle.salvaging.specs.Copies.{AreCopies, HasLike}
use Rattle.salvaging.specs.Entries.{Entry, Used, Doubtful, AreEntries, IsEntryOf, entry_number}
use Rattle.salvaging.specs.Strangers.{is_stranger, own_messages}
use Rattle.salvaging.proofs.Members.{IsIn, contains_of_came, contains_of_in, in_of_contains}

-- What holds of each holds of all.
of_each : {X : Type 0} (P : X → Type 0) (xs : List X) → AllByRecursion P xs → All P xs
of_each P [] each = All-nil P
of_each P (x ∷ xs) (here, each) = All-cons P x xs here (of_each P xs each)

abbrev message : ℕ → ℕ → List ℕ → Message
message hart number payload = record { hart = hart; number = number; payload = payload }

module _ (p q : List ℕ) (differ : p ≢ q) where
  -- The messages of one hart: number 2 came twice, and number 1 with two payloads, the first of them twice.
  abbrev came : List Message
  came =
      message 1 0 p ∷ message 1 2 q ∷ message 1 2 q ∷ message 1 1 p ∷ message 1 1 q ∷ message 1 1 p ∷ []

  -- The first message of number 2 stands behind one of another number.
  second : (before : ℕ) (other : Message) → before < 1 → slice_get came before ≡ Some other → other.number ≢ 2
  second zero other less at is =
      let zero_is : 0 ≡ 2 = ap (λ (m : Message). m.number) (same_Some (message 1 0 p) other at) ∙ is in
      omega (arith, zero_is)
  second (suc before) other less at is = omega (arith, less)

  -- The first message of number 1 is the fourth of all, and the fifth is the first one with another payload.
  first_of_one : (before : ℕ) (other : Message) → before < 3 → slice_get came before ≡ Some other → other.number ≢ 1
  first_of_one zero other less at is =
      let zero_is : 0 ≡ 1 = ap (λ (m : Message). m.number) (same_Some (message 1 0 p) other at) ∙ is in
      omega (arith, zero_is)
  first_of_one (suc zero) other less at is =
      let two_is : 2 ≡ 1 = ap (λ (m : Message). m.number) (same_Some (message 1 2 q) other at) ∙ is in
      omega (arith, two_is)
  first_of_one (suc (suc zero)) other less at is =
      let two_is : 2 ≡ 1 = ap (λ (m : Message). m.number) (same_Some (message 1 2 q) other at) ∙ is in
      omega (arith, two_is)
  first_of_one (suc (suc (suc before))) other less at is = omega (arith, less)

  same_before : (before : ℕ) (other : Message) → before < 4 → slice_get came before ≡ Some other → other.number ≡ 1
      → other.payload ≡ p
  same_before zero other less at is =
      absurd (first_of_one zero other (omega arith) at is)
  same_before (suc zero) other less at is =
      absurd (first_of_one (suc zero) other (omega arith) at is)
  same_before (suc (suc zero)) other less at is =
      absurd (first_of_one (suc (suc zero)) other (omega arith) at is)
  same_before (suc (suc (suc zero))) other less at is =
      sym (ap (λ (m : Message). m.payload) (same_Some (message 1 1 p) other at))
  same_before (suc (suc (suc (suc before)))) other less at is = absurd (omega (arith, less))

  abbrev found : List Entry
  found = Used 0 0 p ∷ Doubtful 1 3 4 ∷ Used 2 1 q ∷ []

  abbrev numbers : List ℕ
  numbers = map entry_number found

  -- The message has this payload, if it has this number.
  abbrev HasPayload : ℕ → List ℕ → Message → Type 0
  HasPayload number payload message = message.number ≡ number → message.payload ≡ payload

  entries : AreEntries came found
  entries = record {
    rising = (omega arith, (omega arith, (omega arith, tt)));
    each = of_each (IsEntryOf came) found (
      record {
        message = message 1 0 p;
        here = refl;
        number_here = refl;
        payload_here = refl;
        first = λ before other less at is. omega (arith, less);
        alone = of_each (HasPayload 0 p) came (λ is. refl, (λ is. cc, (λ is. cc, (λ is. cc, (λ is. cc, (λ is. cc, tt))))));
      },
      (
        record {
          one = message 1 1 p;
          other = message 1 1 q;
          one_here = refl;
          other_here = refl;
          one_number = refl;
          other_number = refl;
          differ = differ;
          one_first = first_of_one;
          other_first = same_before;
        },
        (
          record {
            message = message 1 2 q;
            here = refl;
            number_here = refl;
            payload_here = refl;
            first = second;
            alone = of_each (HasPayload 2 q) came (λ is. cc, (λ is. refl, (λ is. refl, (λ is. cc, (λ is. cc, (λ is. cc, tt))))));
          },
          tt,
        ),
      ),
    );
    none_left_out = of_each (λ (one : Message). Contains numbers one.number) came (
      contains_of_came numbers 0 (inl refl),
      (
        contains_of_came numbers 2 (inr (inr (inl refl))),
        (
          contains_of_came numbers 2 (inr (inr (inl refl))),
          (
            contains_of_came numbers 1 (inr (inl refl)),
            (
              contains_of_came numbers 1 (inr (inl refl)),
              (contains_of_came numbers 1 (inr (inl refl)), tt),
            ),
          ),
        ),
      ),
    );
  }

  -- Of another message neither the number nor the payload is the same, or only one of them.
  abbrev Differ : Message → Message → Type 0
  Differ one other = one.number ≡ other.number → one.payload ≢ other.payload

  not_like : (one : Message) (others : List Message) → AllByRecursion (Differ one) others → ¬ HasLike others one
  not_like one others each (like, contains, alike) = among others each (in_of_contains others like contains)
    where
      among : (messages : List Message) → AllByRecursion (Differ one) messages → ¬ IsIn like messages
      among [] each there = there
      among (other ∷ messages) (here, each) (inl is) =
          here (alike.0 ∙ ap (λ (m : Message). m.number) is) (alike.1 ∙ ap (λ (m : Message). m.payload) is)
      among (other ∷ messages) (here, each) (inr there) = among messages each there

  -- Two messages are copies: the second with number 2, and the second with number 1 and its payload.
  abbrev distinct : List Message
  distinct = message 1 0 p ∷ message 1 2 q ∷ message 1 1 p ∷ message 1 1 q ∷ []

  copies : AreCopies came 2
  copies = record {
    distinct = distinct;
    are_distinct = record {
      some = of_each (Contains came) distinct (
        contains_of_in came _ (inl refl),
        (
          contains_of_in came _ (inr (inl refl)),
          (
            contains_of_in came _ (inr (inr (inr (inl refl)))),
            (contains_of_in came _ (inr (inr (inr (inr (inl refl))))), tt),
          ),
        ),
      );
      all = of_each (HasLike distinct) came (
        (message 1 0 p, contains_of_in distinct _ (inl refl), (refl, refl)),
        (
          (message 1 2 q, contains_of_in distinct _ (inr (inl refl)), (refl, refl)),
          (
            (message 1 2 q, contains_of_in distinct _ (inr (inl refl)), (refl, refl)),
            (
              (message 1 1 p, contains_of_in distinct _ (inr (inr (inl refl))), (refl, refl)),
              (
                (message 1 1 q, contains_of_in distinct _ (inr (inr (inr (inl refl)))), (refl, refl)),
                ((message 1 1 p, contains_of_in distinct _ (inr (inr (inl refl))), (refl, refl)), tt),
              ),
            ),
          ),
        ),
      );
      differ = (
        not_like (message 1 0 p) (message 1 2 q ∷ message 1 1 p ∷ message 1 1 q ∷ []) (
          λ is. cc,
          (
            λ is. cc,
            (
              λ is. cc,
              tt,
            ),
          ),
        ),
        (
          not_like (message 1 2 q) (message 1 1 p ∷ message 1 1 q ∷ []) (λ is. cc, (λ is. cc, tt)),
          (not_like (message 1 1 p) (message 1 1 q ∷ []) (λ is. differ, tt), (not_like (message 1 1 q) [] tt, tt)),
        ),
      );
    };
    others = refl;
  }

  -- Of these messages of two harts those of hart 2 and those with a number from 2^63 on are strangers.
  abbrev some_strange : List Message
  some_strange =
      message 0 3 p ∷ message 2 0 p ∷ message 1 (2 ^ 63) p ∷ message 1 (2 ^ 63 - 1) q ∷ message 2 (2 ^ 63) q ∷ []

  strangers : count_by (is_stranger 2) some_strange ≡ 3
  strangers = refl

  own : own_messages 1 some_strange ≡ message 1 (2 ^ 63 - 1) q ∷ []
  own = refl
