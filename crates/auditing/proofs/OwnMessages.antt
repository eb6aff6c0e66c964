-- The messages of a hart in SENT, numbered from 0.
use Rattle.std.proofs.Common.{◌≡◌, ◌≢◌, ℕ, zero, suc, ◌+◌, ◌<◌, ◌≤◌, Bool, true, false, eqb, List, [], ◌∷◌, Option, Some}
use Rattle.std.proofs.Common.{None, get_or, map, set, slice_get, refl, sym, ap, ◌∙◌, arith}
use Rattle.std.specs.Prelude.{◌&&◌, ◌||◌, is_some}
use Rattle.std.specs.List.{list_any}
use Rattle.std.specs.Str.{bytes_eq}
use Rattle.std.proofs.lemmas.Bool.{and_from, and_left, and_right, eq-eqb, ne_eqb, or_left}
use Rattle.std.proofs.lemmas.Map.Views.{any-filter_same}
use Rattle.message.specs.Numbered.{messages_from}
use Rattle.message.specs.OfHart.{of_hart}
use Rattle.message.specs.declared.message.Message.{Message}
use Rattle.auditing.proofs.Appending.{or_false}
use Rattle.auditing.specs.Fates.{is_numbered, is_same}

-- A test that only messages of a hart pass is one of the hart's messages alone.
pub any_of_hart : (hart : ℕ) (test : Message → Bool)
    → ((message : Message) → test message ≡ true → eqb message.hart hart ≡ true)
    → (messages : List Message) → list_any test messages ≡ list_any test (of_hart hart messages)
any_of_hart hart test own messages =
    sym (any-filter_same test (λ (message : Message). eqb message.hart hart) true own messages)

-- Numbered messages have a number exactly where there is a payload for it.
pub numbered_in : (hart start : ℕ) (payloads : List (List ℕ)) (place number : ℕ) → start + place ≡ number
    → list_any (is_numbered hart number) (messages_from hart start payloads) ≡ is_some (slice_get payloads place)
numbered_in hart start [] zero number at = refl
numbered_in hart start [] (suc place) number at = refl
numbered_in hart start (payload ∷ payloads) zero number at =
    or_left _ _ (and_from _ _ (eq-eqb hart hart refl) (eq-eqb start number (omega (arith, at))))
numbered_in hart start (payload ∷ payloads) (suc place) number at =
    let others = list_any (is_numbered hart number) (messages_from hart (start + 1) payloads) in
    let below : start ≡ number → ⊥ = λ same. omega (arith, same, at) in
    let not_first : (eqb hart hart && eqb start number) ≡ false =
    and_right (eqb hart hart) (eqb start number) (ne_eqb start number below) in
    ap (λ b. b || others) not_first ∙ numbered_in hart (start + 1) payloads place number (omega (arith, at))

-- Whether this payload is the one that is found, if one is.
abbrev pub fits : List ℕ → Option (List ℕ) → Bool
fits payload None = false
fits payload (Some own) = bytes_eq payload own

-- No numbered message is as one with a lower number.
none_below : (hart start : ℕ) (payloads : List (List ℕ)) (message : Message) → message.number < start
    → list_any (is_same message) (messages_from hart start payloads) ≡ false
none_below hart start [] message low = refl
none_below hart start (payload ∷ payloads) message low =
    let others = list_any (is_same message) (messages_from hart (start + 1) payloads) in
    let other : start ≡ message.number → ⊥ = λ same. omega (arith, same, low) in
    let not_first : ((eqb hart message.hart && eqb start message.number) && bytes_eq message.payload payload) ≡ false =
    and_left _ _ (and_right (eqb hart message.hart) (eqb start message.number) (ne_eqb start message.number other)) in
    ap (λ b. b || others) not_first ∙ none_below hart (start + 1) payloads message (omega (arith, low))

-- One of the numbered messages of a message's hart is as the message exactly where its payload is the one for its
-- number.
pub same_in : (start : ℕ) (payloads : List (List ℕ)) (place : ℕ) (message : Message) → start + place ≡ message.number
    → list_any (is_same message) (messages_from message.hart start payloads)
    ≡ fits message.payload (slice_get payloads place)
same_in start [] zero message at = refl
same_in start [] (suc place) message at = refl
same_in start (payload ∷ payloads) zero message at =
    let others = list_any (is_same message) (messages_from message.hart (start + 1) payloads) in
    let first : (eqb message.hart message.hart && eqb start message.number) ≡ true =
    and_from _ _ (eq-eqb message.hart message.hart refl) (eq-eqb start message.number (omega (arith, at))) in
    ap (λ b. (b && bytes_eq message.payload payload) || others) first
    ∙ ap (λ b. bytes_eq message.payload payload || b)
    (none_below message.hart (start + 1) payloads message (omega (arith, at)))
    ∙ or_false (bytes_eq message.payload payload)
same_in start (payload ∷ payloads) (suc place) message at =
    let others = list_any (is_same message) (messages_from message.hart (start + 1) payloads) in
    let other : start ≡ message.number → ⊥ = λ same. omega (arith, same, at) in
    let not_first
    : ((eqb message.hart message.hart && eqb start message.number) && bytes_eq message.payload payload) ≡ false =
    and_left _ _
    (and_right (eqb message.hart message.hart) (eqb start message.number) (ne_eqb start message.number other)) in
    ap (λ b. b || others) not_first ∙ same_in (start + 1) payloads place message (omega (arith, at))

-- The flags of numbered messages, by their numbers.
abbrev pub flags : (ℕ → Bool) → List Message → List Bool
flags marked messages = map (λ (message : Message). marked message.number) messages

-- The flag at a place.
pub flag_at : (marked : ℕ → Bool) (hart start : ℕ) (payloads : List (List ℕ)) (place number : ℕ) (payload : List ℕ)
    → start + place ≡ number → slice_get payloads place ≡ Some payload
    → get_or (flags marked (messages_from hart start payloads)) place false ≡ marked number
flag_at marked hart start [] zero number payload at is = cc
flag_at marked hart start [] (suc place) number payload at is = cc
flag_at marked hart start (own ∷ payloads) zero number payload at is =
    ap marked (omega (arith, at))
flag_at marked hart start (own ∷ payloads) (suc place) number payload at is =
    flag_at marked hart (start + 1) payloads place number payload (omega (arith, at)) is

-- Flags stay where no number from here on is marked otherwise.
same_flags : (marked more : ℕ → Bool) (hart start : ℕ) (payloads : List (List ℕ))
    → ((number : ℕ) → start ≤ number → more number ≡ marked number)
    → flags more (messages_from hart start payloads) ≡ flags marked (messages_from hart start payloads)
same_flags marked more hart start [] same = refl
same_flags marked more hart start (payload ∷ payloads) same = λ i.
    same start (omega arith) i
    ∷ same_flags marked more hart (start + 1) payloads (λ number from. same number (omega (arith, from))) i

-- Where one number more is marked, one flag is set.
pub set_flag : (marked more : ℕ → Bool) (hart start : ℕ) (payloads : List (List ℕ)) (place number : ℕ)
    → start + place ≡ number → more number ≡ true → ((other : ℕ) → other ≢ number → more other ≡ marked other)
    → flags more (messages_from hart start payloads)
    ≡ set (flags marked (messages_from hart start payloads)) place true
set_flag marked more hart start [] zero number at is others = refl
set_flag marked more hart start [] (suc place) number at is others = refl
set_flag marked more hart start (payload ∷ payloads) zero number at is others =
    let first : more start ≡ true = ap more (omega (arith, at)) ∙ is in
    let rest : flags more (messages_from hart (start + 1) payloads)
    ≡ flags marked (messages_from hart (start + 1) payloads) =
    same_flags marked more hart (start + 1) payloads
    (λ other from. others other (λ same. omega (arith, same, from, at))) in
    λ i. first i ∷ rest i
set_flag marked more hart start (payload ∷ payloads) (suc place) number at is others =
    let first : more start ≡ marked start = others start (λ same. omega (arith, same, at)) in
    let rest : flags more (messages_from hart (start + 1) payloads)
    ≡ set (flags marked (messages_from hart (start + 1) payloads)) place true =
    set_flag marked more hart (start + 1) payloads place number (omega (arith, at)) is others in
    λ i. first i ∷ rest i
