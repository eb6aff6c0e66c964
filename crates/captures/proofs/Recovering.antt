-- All of a hart's numbers are recovered exactly when each of them is near those before it.
use Rattle.std.proofs.Common.{◌≡◌, ◌≢◌, ◌⊎◌, ◌≤◌, ◌<◌, ◌+◌, ◌-◌, ◌*◌, ◌/◌, ◌%◌, ◌^◌, ◌++◌, ◌∙◌, ℕ}
use Rattle.std.proofs.Common.{All, List, [], ◌∷◌, Some, None, Ok, arith, ap, refl, subst, sym, inl, inr}
use Rattle.std.proofs.Common.{map}
use Rattle.std.specs.Prelude.{◌↔◌, max, min}
use Rattle.std.proofs.lemmas.Bool.{cases_eq, cases_lt}
use Rattle.std.proofs.lemmas.List.Elements.{All-head, All-tail}
use Rattle.std.proofs.lemmas.List.Sums.{fold_push}
use Rattle.std.proofs.lemmas.Nat.{div-add-mod', mod_below, pow-add, pow_pos}
use Rattle.captures.specs.HexLines.{hex_text}
use Rattle.message.proofs.OfHartLemmas.{of_hart-next, of_hart-other, of_hart-others, of_hart-own}
use Rattle.message.specs.Cut.{IsMessage}
use Rattle.message.specs.OfHart.{of_hart}
use Rattle.message.specs.Version.{most_harts}
use Rattle.message.specs.declared.message.Message.{Message}
use Rattle.captures.specs.Lines.{lines_of, message_after, messages_after, messages_of}
use Rattle.captures.specs.Number.{first_from, next_of}
use Rattle.captures.specs.Recovered.{AreNear, IsNear, low_message}
use Rattle.captures.specs.declared.capture_line.Line.{Line}
use Rattle.captures.specs.declared.line_settings.Settings.{Settings}
use Rattle.captures.proofs.HexLineRead.{said_of}
use Rattle.captures.proofs.HexTextRead.{low_text}
use Rattle.captures.proofs.Lowest.{IsFirst, apart, first_is}

-- ---- numbers

-- A number among so many from the lowest on.
abbrev IsWithin : ℕ → ℕ → ℕ → Type 0
IsWithin half next number = (next - half ≤ number) × (number < next - half + 2 * half)

-- The number is near in these words, by half the count of numbers.
abbrev IsNearBy : ℕ → ℕ → ℕ → Type 0
IsNearBy half next number =
    ((number < next) × (next - 1 - number < half))
    ⊎ (((next ≤ number) × (number - next < half)) ⊎ ((number < 2 * half) × (next ≤ half)))

within_near : (half next number : ℕ) → 1 ≤ half → IsWithin half next number → IsNearBy half next number
within_near half next number some is = elim (cases_lt number next) [
  | inl late ↦ inl (late, omega (arith, late, some, is.0))
  | inr later ↦ elim (cases_lt next half) [
    | inl early ↦ inr (inr (omega (arith, early, is.1), omega (arith, early)))
    | inr far ↦ inr (inl (later, omega (arith, far, later, some, is.1)))
  ]
]

near_within : (half next number : ℕ) → 1 ≤ half → IsNearBy half next number → IsWithin half next number
near_within half next number some (inl late) = (omega (arith, late.0, late.1), omega (arith, late.0, late.1, some))
near_within half next number some (inr (inl skips)) =
    (omega (arith, skips.0), omega (arith, skips.0, skips.1, some))
near_within half next number some (inr (inr early)) = (omega (arith, early.1), omega (arith, early.0, early.1))

module _ (half next number : ℕ) (some : 1 ≤ half) (few : number < 2 ^ 64) (range : next ≤ 2 ^ 64) where
  abbrev found : ℕ
  found = first_from (2 * half) (next - half) (number % (2 * half))

  found_first : IsFirst (2 * half) (next - half) (number % (2 * half)) found
  found_first =
      first_is (2 * half) (next - half) (number % (2 * half)) (mod_below number (2 * half) (omega (arith, some)))

  number_parts : number ≡ number / (2 * half) * (2 * half) + number % (2 * half)
  number_parts = sym (div-add-mod' number (2 * half))

  -- Two numbers that leave the same are so many apart, or equal.
  below_found : number < found → number + 2 * half ≤ found
  below_found less =
      let step = apart (2 * half) (number % (2 * half)) (number / (2 * half)) found_first.count
      (omega (arith, less, number_parts, found_first.leaves)) in
      omega (arith, step, number_parts, found_first.leaves)

  above_found : found < number → found + 2 * half ≤ number
  above_found more =
      let step = apart (2 * half) (number % (2 * half)) found_first.count (number / (2 * half))
      (omega (arith, more, number_parts, found_first.leaves)) in
      omega (arith, step, number_parts, found_first.leaves)

  within_found : IsWithin half next number → found ≡ number
  within_found is = elim (cases_lt number found) [
    | inl less ↦ absurd (omega (arith, below_found less, found_first.most, is.0))
    | inr least ↦ elim (cases_lt found number) [
      | inl more ↦ absurd (omega (arith, above_found more, found_first.least, is.1))
      | inr most ↦ omega (arith, least, most)
    ]
  ]

  found_within : min found (2 ^ 64 - 1) ≡ number → IsWithin half next number
  found_within same = elim (cases_lt number found) [
    | inl less ↦
        let far = below_found less in
        absurd (omega (arith, same, less, far, found_first.most, range, some))
    | inr most ↦
        let is : found ≡ number = omega (arith, same, most) in
        (omega (arith, is, found_first.least), omega (arith, is, found_first.most))
  ]

  near_by : (min found (2 ^ 64 - 1) ≡ number) ↔ IsNearBy half next number
  near_by = (
    (λ same. within_near half next number some (found_within same)),
    (λ near.
        let is = within_found (near_within half next number some near) in
        omega (arith, is, few)),
  )

halves : (bits : ℕ) → 1 ≤ bits → 2 ^ bits ≡ 2 * 2 ^ (bits - 1)
halves bits some =
    let more : bits ≡ 1 + (bits - 1) = omega (arith, some) in ap (λ n. 2 ^ n) more ∙ pow-add 2 1 (bits - 1)

-- The number that is found of the low bits is the number exactly when it is near.
abbrev Finds : ℕ → ℕ → ℕ → ℕ → Type 0
Finds count half next number =
    (min (first_from count (next - count / 2) (number % count)) (2 ^ 64 - 1) ≡ number)
    ↔ (((number < next) × (next - 1 - number < half))
    ⊎ (((next ≤ number) × (number - next < half)) ⊎ ((number < count) × (next ≤ half))))

finds : (count half next number : ℕ) → count ≡ 2 * half → 1 ≤ half → number < 2 ^ 64 → next ≤ 2 ^ 64
    → Finds count half next number
finds count half next number twice some few range =
    let half_is : 2 * half / 2 ≡ half = omega arith in
    subst (λ n. Finds n half next number) (sym twice)
    (subst (λ h. (min (first_from (2 * half) (next - h) (number % (2 * half))) (2 ^ 64 - 1) ≡ number)
    ↔ IsNearBy half next number) (sym half_is) (near_by half next number some few range))

-- ---- messages

same_head : {A : Type 0} (x y : A) (xs ys : List A) → x ∷ xs ≡ y ∷ ys → x ≡ y
same_head x y xs ys is = cc

same_tail : {A : Type 0} (x y : A) (xs ys : List A) → x ∷ xs ≡ y ∷ ys → xs ≡ ys
same_tail x y xs ys is = cc

same_list : {A : Type 0} (x y : A) (xs ys : List A) → x ≡ y → xs ≡ ys → x ∷ xs ≡ y ∷ ys
same_list x y xs ys first rest = cc

next_more : (before : List Message) (message : Message)
    → next_of (before ++ (message ∷ [])) ≡ max (next_of before) (message.number + 1)
next_more before message = fold_push (λ next (m : Message). max next (m.number + 1)) 0 before message

module _ (bits : ℕ) (some : 1 ≤ bits) (hart : ℕ) where
  -- The line of a message, with the low bits of its number.
  abbrev line_of_low : Message → Line
  line_of_low m = said_of (low_message bits m)

  -- The messages that are read of these lines.
  abbrev read : List Message → List Message → List Message
  read earlier ms = messages_after (Some (2 ^ bits)) earlier (map line_of_low ms)

  abbrev one_read : List Message → Message → Message
  one_read earlier m = message_after (Some (2 ^ bits)) earlier (line_of_low m)

  -- A message is read as it is exactly when its number is near.
  reads_one : (earlier before : List Message) (m : Message) → m.hart ≡ hart → of_hart hart earlier ≡ before
      → m.number < 2 ^ 64 → next_of before ≤ 2 ^ 64
      → (one_read earlier m ≡ m) ↔ IsNear bits (next_of before) m.number
  reads_one earlier before m own known few range =
      let mine : of_hart m.hart earlier ≡ before = ap (λ h. of_hart h earlier) own ∙ known in
      let found = finds (2 ^ bits) (2 ^ (bits - 1)) (next_of before) m.number (halves bits some)
      (omega (arith, pow_pos (bits - 1))) few range in
      let number : (one_read earlier m).number
      ≡ min (first_from (2 ^ bits) (next_of before - 2 ^ bits / 2) (m.number % 2 ^ bits)) (2 ^ 64 - 1) =
      ap (λ l. min (first_from (2 ^ bits) (next_of l - 2 ^ bits / 2) (m.number % 2 ^ bits)) (2 ^ 64 - 1)) mine in (
        (λ same. found.0 (sym number ∙ ap (λ (m : Message). m.number) same)),
        (λ near.
            let numbered : ℕ → Message = λ n. record { hart = m.hart; number = n; payload = m.payload } in
            ap numbered (number ∙ found.1 near)),
      )

  abbrev Recovers : List Message → List Message → List Message → Type 0
  Recovers earlier before ms =
      (of_hart hart (read earlier ms) ≡ of_hart hart ms) ↔ AreNear bits before (of_hart hart ms)

  -- The messages of this hart.
  module _ (earlier before : List Message) (m : Message) (ms : List Message) (own : m.hart ≡ hart)
      (known : of_hart hart earlier ≡ before) (few : m.number < 2 ^ 64) (range : next_of before ≤ 2 ^ 64)
      (later : (e : List Message) → of_hart hart e ≡ before ++ (m ∷ []) → Recovers e (before ++ (m ∷ [])) ms) where
    abbrev a : Message
    a = one_read earlier m

    first : (one_read earlier m ≡ m) ↔ IsNear bits (next_of before) m.number
    first = reads_one earlier before m own known few range

    read_own : of_hart hart (read earlier (m ∷ ms)) ≡ a ∷ of_hart hart (read (earlier ++ (a ∷ [])) ms)
    read_own = subst (λ h. of_hart h (read earlier (m ∷ ms)) ≡ a ∷ of_hart h (read (earlier ++ (a ∷ [])) ms)) own
        (of_hart-own a (read (earlier ++ (a ∷ [])) ms))

    sent_own : of_hart hart (m ∷ ms) ≡ m ∷ of_hart hart ms
    sent_own = subst (λ h. of_hart h (m ∷ ms) ≡ m ∷ of_hart h ms) own (of_hart-own m ms)

    rest : a ≡ m → Recovers (earlier ++ (a ∷ [])) (before ++ (m ∷ [])) ms
    rest is =
        later (earlier ++ (a ∷ []))
        (subst (λ h. of_hart h (earlier ++ (a ∷ [])) ≡ of_hart h earlier ++ (a ∷ [])) own (of_hart-next earlier a)
        ∙ ap (λ l. l ++ (a ∷ [])) known ∙ ap (λ m. before ++ (m ∷ [])) is)

    own_recovers : Recovers earlier before (m ∷ ms)
    own_recovers = (
      (λ same.
          let lists = sym read_own ∙ same ∙ sent_own in
          let is = same_head a m (of_hart hart (read (earlier ++ (a ∷ [])) ms)) (of_hart hart ms) lists in
          let more = same_tail a m (of_hart hart (read (earlier ++ (a ∷ [])) ms)) (of_hart hart ms) lists in
          subst (AreNear bits before) (sym sent_own) (first.0 is, (rest is).0 more)),
      (λ near.
          let each = subst (AreNear bits before) sent_own near in
          let is = first.1 each.0 in
          read_own
          ∙ same_list a m (of_hart hart (read (earlier ++ (a ∷ [])) ms)) (of_hart hart ms) is ((rest is).1 each.1)
          ∙ sym sent_own),
    )

  -- Those of another are passed.
  other_recovers : (earlier before : List Message) (m : Message) (ms : List Message) → m.hart ≢ hart
      → of_hart hart earlier ≡ before
      → ((e : List Message) → of_hart hart e ≡ before → Recovers e before ms) → Recovers earlier before (m ∷ ms)
  other_recovers earlier before m ms other known later =
      let a = one_read earlier m in
      let read_other = of_hart-others hart a (read (earlier ++ (a ∷ [])) ms) other in
      let sent_other = of_hart-others hart m ms other in
      let rest = later (earlier ++ (a ∷ [])) (of_hart-other hart earlier a other ∙ known) in (
        (λ same.
            subst (AreNear bits before) (sym sent_other) (rest.0 (sym read_other ∙ same ∙ sent_other))),
        (λ near. read_other ∙ rest.1 (subst (AreNear bits before) sent_other near) ∙ sym sent_other),
      )

  abbrev IsLow : Message → Type 0
  IsLow m = m.number < 2 ^ 64

  recovers : (earlier before ms : List Message) → All IsLow ms → of_hart hart earlier ≡ before
      → next_of before ≤ 2 ^ 64 → Recovers earlier before ms
  recovers earlier before [] low known range = ((λ same. tt), (λ near. refl))
  recovers earlier before (m ∷ ms) low known range =
      let few = All-head IsLow m ms low in
      let rest = All-tail IsLow m ms low in
      elim (cases_eq m.hart hart) [
        | inl own ↦
            own_recovers earlier before m ms own known few range (λ e is.
            let next = next_more before m in
            recovers e (before ++ (m ∷ [])) ms rest is (omega (arith, next, range, few)))
        | inr other ↦ other_recovers earlier before m ms other known (λ e is. recovers e before ms rest is range)
      ]

low_each : (harts : ℕ) (ms : List Message) → All (λ (m : Message). IsMessage m × (m.hart < harts)) ms
    → All (λ (m : Message). m.number < 2 ^ 64) ms
low_each harts ms right k d inside = (right k d inside).0.number

-- All of a hart's numbers are recovered exactly when each of them is near those before it.
pub low_numbers : (settings : Settings) (bits : ℕ) (messages : List Message) → 1 ≤ bits → settings.harts ≡ None
    → settings.numbers ≡ Some (2 ^ bits)
    → All (λ (message : Message). IsMessage message × (message.hart < most_harts settings.version)) messages
    → (lines : List Line) × (lines_of settings (hex_text (map (low_message bits) messages)) ≡ Ok lines)
    × ((hart : ℕ) → (of_hart hart (messages_of settings.numbers lines) ≡ of_hart hart messages)
    ↔ AreNear bits [] (of_hart hart messages))
low_numbers settings bits messages some any counts right =
    let low = low_each (most_harts settings.version) messages right in (
      map said_of (map (low_message bits) messages),
      low_text settings bits messages any counts right,
      (λ hart.
          subst (λ n. (of_hart hart (messages_of n (map said_of (map (low_message bits) messages)))
          ≡ of_hart hart messages) ↔ AreNear bits [] (of_hart hart messages)) (sym counts)
          (subst (λ ls. (of_hart hart (messages_of (Some (2 ^ bits)) ls) ≡ of_hart hart messages)
          ↔ AreNear bits [] (of_hart hart messages)) (map-map_is bits messages)
          (recovers bits some hart [] [] messages low refl (omega arith)))),
    )
  where
    map-map_is : (bits : ℕ) (ms : List Message)
        → map (λ m. said_of (low_message bits m)) ms ≡ map said_of (map (low_message bits) ms)
    map-map_is bits [] = refl
    map-map_is bits (m ∷ ms) = ap (λ l. said_of (low_message bits m) ∷ l) (map-map_is bits ms)
