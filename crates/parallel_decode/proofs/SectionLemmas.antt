-- Sections of places and of messages.
use Rattle.std.proofs.Common.{◌≡◌, ◌+◌, ◌-◌, ◌<◌, ◌≤◌, ◌^◌, ◌++◌, ℕ, zero, suc, All, List, [], ◌∷◌, Option, Result, Some, Ok, Err}
use Rattle.std.proofs.Common.{drop, get_or, length, min, slice_get, take, refl, sym, ap, subst, ◌∙◌, arith}
use Rattle.std.specs.Prelude.{OnOk}
use Rattle.std.specs.declared.alloc.AllocError.{AllocError}
use Rattle.std.specs.declared.vec.Vec.{Vec}
use Rattle.std.proofs.lemmas.List.{append_assoc, append-nil, get_or-drop, length-append, length-drop, length-take-le}
use Rattle.std.proofs.lemmas.List.{take_more}
use Rattle.std.proofs.lemmas.List.Elements.{All-push}
use Rattle.retire.specs.declared.event.Event.{Event}
use Rattle.rvclass.specs.Words.{Words}
use Rattle.payload.specs.declared.mode.Mode.{Mode}
use Rattle.message.specs.declared.message.Message.{Message}
use Rattle.parallel_decode.proofs.PlaceLemmas.{any_message, places-length}
use Rattle.parallel_decode.specs.declared.own.Own.{Own}
use Rattle.parallel_decode.specs.declared.section_ends.SectionEnd.{SectionEnd}
use Rattle.parallel_decode.specs.declared.sections.Section.{Section}
use Rattle.parallel_decode.specs.steps.OwnMessages.{IsOwn}
use Rattle.parallel_decode.specs.steps.Sections.{AreAdded, IsOfHart, IsOfHarts, IsPassed, IsSectionEnd, IsSectionOf}
use Rattle.parallel_decode.specs.steps.Sections.{within}
use Rattle.parallel_decode.specs.steps.Starts.{StartAt, StartsAt}

-- Nothing has no first elements.
take-none : {X : Type 0} (n : ℕ) → take {A = X} n [] ≡ []
take-none zero = refl
take-none (suc n) = refl

-- Some elements and more behind them are the first ones.
take-both : {X : Type 0} (n more : ℕ) (xs : List X) → take n xs ++ take more (drop n xs) ≡ take (n + more) xs
take-both zero more xs = ap (λ k. take k xs) (let e : more ≡ zero + more = omega arith in e)
take-both (suc n) more [] = take-none more ∙ sym (take-none (suc n + more))
take-both (suc n) more (x ∷ xs) =
    ap (λ l. x ∷ l) (take-both n more xs)
    ∙ sym (ap (λ k. take k (x ∷ xs)) (let e : suc n + more ≡ suc (n + more) = omega arith in e))

-- What comes before a section, and what is in it, is all up to its end.
pub up_to-end : {X : Type 0} (section : Section) (xs : List X) → section.first ≤ section.end
    → take section.first xs ++ within section xs ≡ take section.end xs
up_to-end section xs forward =
    take-both section.first (section.end - section.first) xs
    ∙ ap (λ n. take n xs)
    (let e : section.first + (section.end - section.first) ≡ section.end = omega (arith, forward) in e)

-- A section has one element more where its end is one further.
pub within-next : {X : Type 0} (hart first end : ℕ) (xs : List X) (any : X) → first ≤ end → end < length xs
    → within (record { hart = hart; first = first; end = end + 1 }) xs
    ≡ within (record { hart = hart; first = first; end = end }) xs ++ get_or xs end any ∷ []
within-next hart first end xs any forward inside =
    let some = length-drop first xs in
    let further : end + 1 - first ≡ end - first + 1 = omega (arith, forward) in
    let place : first + (end - first) ≡ end = omega (arith, forward) in
    ap (λ n. take n (drop first xs)) further
    ∙ take_more (drop first xs) (end - first) any (omega (arith, some, forward, inside))
    ∙ ap (λ x. take (end - first) (drop first xs) ++ x ∷ [])
    (get_or-drop first xs (end - first) any ∙ ap (λ n. get_or xs n any) place)

-- One message more leads further.
pub passed-next : (words : Words) (announced : Option Mode) (messages : List Message) (message : Message)
    (from to next : Own) (events more whole : ℕ) → IsPassed words announced messages from to events
    → ((before : List Message) (log : List Event) → IsOwn words announced before log to
    → (added : List Event) × (more ≡ min (2 ^ 64 - 1) (length added))
    × IsOwn words announced (before ++ message ∷ []) (log ++ added) next)
    → whole ≡ min (events + more) (2 ^ 64 - 1)
    → IsPassed words announced (messages ++ message ∷ []) from next whole
passed-next words announced messages message from to next events more whole passed step counted = λ before log is.
    let first = passed before log is in
    let second = step (before ++ messages) (log ++ first.0) first.2 in
    let added = first.0 ++ second.0 in
    let many = length-append first.0 second.0 in (
      added,
      omega (arith, counted, first.1, second.1, many),
      subst (λ ms. IsOwn words announced ms (log ++ added) next) (append_assoc before messages (message ∷ []))
          (subst (λ l. IsOwn words announced ((before ++ messages) ++ message ∷ []) l next)
          (append_assoc log first.0 second.0) second.2),
    )

-- A section of no message leads to where one is.
pub passed-none : (words : Words) (announced : Option Mode) (bytes places : List ℕ) (hart first : ℕ) (from : Own)
    → first ≤ length places
    → IsSectionEnd words announced bytes places
    (record { section = record { hart = hart; first = first; end = first }; from = from; to = from; events = 0 })
passed-none words announced bytes places hart first from inside = record {
  forward = omega arith;
  inside = inside;
  passed = λ messages are. λ before log is.
      let nothing : within (record { hart = hart; first = first; end = first }) messages ≡ [] =
      ap (λ n. take n (drop first messages)) (let e : first - first ≡ 0 = omega arith in e) in (
        [],
        omega arith,
        subst (λ ms. IsOwn words announced ms (log ++ []) from)
            (sym (ap (λ ms. before ++ ms) nothing ∙ append-nil before))
            (subst (λ log. IsOwn words announced before log from) (sym (append-nil log)) is),
      );
}

-- A section has one message more.
pub section-next : (words : Words) (announced : Option Mode) (bytes places : List ℕ) (hart first number : ℕ)
    (from to next : Own) (events more whole : ℕ) (message : Message)
    → IsSectionEnd words announced bytes places (record {
      section = record { hart = hart; first = first; end = number };
      from = from;
      to = to;
      events = events;
    })
    → number < length places
    → ((messages : List Message) → StartAt bytes places messages → message ≡ get_or messages number any_message)
    → ((before : List Message) (log : List Event) → IsOwn words announced before log to
    → (added : List Event) × (more ≡ min (2 ^ 64 - 1) (length added))
    × IsOwn words announced (before ++ message ∷ []) (log ++ added) next)
    → whole ≡ min (events + more) (2 ^ 64 - 1)
    → IsSectionEnd words announced bytes places (record {
      section = record { hart = hart; first = first; end = number + 1 };
      from = from;
      to = next;
      events = whole;
    })
section-next words announced bytes places hart first number from to next events more whole message is within_places found
    step counted =
    let forward = is.forward in
    record {
      forward = omega (arith, forward);
      inside = omega (arith, within_places);
      passed = λ messages are.
          let count = places-length (StartsAt bytes) places messages are in
          let now = within (record { hart = hart; first = first; end = number }) messages in
          let further = within-next hart first number messages any_message forward (omega (arith, within_places, count)) in
          subst (λ ms. IsPassed words announced ms from next whole)
          (ap (λ m. now ++ m ∷ []) (found messages are) ∙ sym further)
          (passed-next words announced now message from to next events more whole (is.passed messages are) step counted);
    }

-- One section more was added.
pub added-next : (words : Words) (announced : Option Mode) (bytes places : List ℕ) (hart : ℕ)
    (old before new : List SectionEnd) (end : SectionEnd) → AreAdded words announced bytes places hart old before
    → IsSectionOf words announced bytes places hart end → new ≡ before ++ end ∷ []
    → AreAdded words announced bytes places hart old new
added-next words announced bytes places hart old before new end are is pushed = record {
  added = are.added ++ end ∷ [];
  behind = pushed ∙ ap (λ ends. ends ++ end ∷ []) are.behind ∙ append_assoc old are.added (end ∷ []);
  are = All-push (IsSectionOf words announced bytes places hart) are.added end are.are is;
}

-- So was a section that is made of its parts.
pub added-section : (words : Words) (announced : Option Mode) (bytes places : List ℕ) (hart first number : ℕ)
    (old before new : List SectionEnd) (section : Section) (from to : Own) (events : ℕ)
    → AreAdded words announced bytes places hart old before
    → section ≡ record { hart = hart; first = first; end = number }
    → IsSectionEnd words announced bytes places (record {
      section = record { hart = hart; first = first; end = number };
      from = from;
      to = to;
      events = events;
    })
    → new ≡ before ++ (record {
      section = section;
      from = from;
      to = to;
      events = events;
    }) ∷ []
    → AreAdded words announced bytes places hart old new
added-section words announced bytes places hart first number old before new section from to events are same is pushed =
    added-next words announced bytes places hart old before new (record {
      section = section;
      from = from;
      to = to;
      events = events;
    }) are (
      ap (λ (s : Section). s.hart) same,
      subst (λ (s : Section). IsSectionEnd words announced bytes places (record {
        section = s;
        from = from;
        to = to;
        events = events;
      })) (sym same) is,
    ) pushed

-- What a success says may be said in other words.
pub on_ok-as : {P Q : Type 0} (result : Result (Unit {0}) AllocError) → (P → Q) → OnOk result P → OnOk result Q
on_ok-as (Ok done) f is = f is
on_ok-as (Err why) f is = tt

-- What is said of four values is said of their equals.
pub said-of : {A B C D : Type 0} (R : A → B → C → D → Type 0) (a a' : A) (b b' : B) (c c' : C) (d d' : D) → a ≡ a'
    → b ≡ b' → c ≡ c' → d ≡ d' → R a' b' c' d' → R a b c d
said-of R a a' b b' c c' d d' a-is b-is c-is d-is r =
    subst (λ x. R x b c d) (sym a-is)
    (subst (λ y. R a' y c d) (sym b-is) (subst (λ z. R a' b' z d) (sym c-is) (subst (λ u. R a' b' c' u) (sym d-is) r)))

-- What holds of the sections of all harts holds of those of one hart.
pub all-of-hart : {A : Type 0} (words : Words) (announced : Option Mode) (bytes : List ℕ) (places : List (Vec ℕ A))
    (hart : ℕ) (own : Vec ℕ A) (ends : List SectionEnd) → slice_get places hart ≡ Some own
    → All (IsOfHarts words announced bytes places) ends → All (IsOfHart words announced bytes own.items hart) ends
all-of-hart words announced bytes places hart own ends its all = λ k any within. all k any within hart own its

module _ (words : Words) (announced : Option Mode) (bytes places : List ℕ) (messages : List Message)
    (are : StartAt bytes places messages) (end : SectionEnd) (is : IsSectionEnd words announced bytes places end)
    (some : end.section.first < end.section.end) where
  -- The messages before the section, and those in it.
  abbrev before : List Message
  before = take end.section.first messages

  abbrev inside : List Message
  inside = within end.section messages

  -- What a section leads to, after all that comes before it.
  pub record IsPassedBehind (log : List Event) : Type 0 where
    pub added : List Event
    pub counted : end.events ≡ min (2 ^ 64 - 1) (length added)
    pub own : IsOwn words announced (before ++ inside) (log ++ added) end.to
    pub whole : before ++ inside ≡ take end.section.end messages
    pub many : end.section.end ≡ length (before ++ inside)
    pub further : length before < end.section.end

  pub passed-behind : (log : List Event) → IsOwn words announced before log end.from → IsPassedBehind log
  passed-behind log own =
      let forward = is.forward in
      let reaches = is.inside in
      let count = places-length (StartsAt bytes) places messages are in
      let passed = is.passed messages are before log own in
      let whole = up_to-end end.section messages forward in
      let many = length-take-le end.section.end messages (omega (arith, reaches, count)) in
      let few = length-take-le end.section.first messages (omega (arith, forward, reaches, count)) in
      record {
        added = passed.0;
        counted = passed.1;
        own = passed.2;
        whole = whole;
        many = sym (ap length whole ∙ many);
        further = omega (arith, some, few);
      }
