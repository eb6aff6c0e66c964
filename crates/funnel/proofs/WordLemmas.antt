-- The bytes of a word, read one by one, give the turn of the word.
use Rattle.std.proofs.Common.{◌≡◌, ◌≤◌, ◌+◌, ◌*◌, ◌==◌, ◌∙◌, ℕ, Bool, true, false, List, [], ◌∷◌, Option, Some, None}
use Rattle.std.proofs.Common.{Result, Ok, Err, refl, sym, ap, arith, inl, inr, nat_lt}
use Rattle.std.specs.Prelude.{if◌then◌else◌}
use Rattle.std.specs.Char.{digit_value, is_digit}
use Rattle.std.specs.List.{fold, list_all}
use Rattle.std.specs.Str.Parse.{digits_value_after}
use Rattle.std.proofs.lemmas.Bool.{cases_Bool, eqb-true}
use Rattle.funnel.specs.declared.turn.Turn.{Turn}
use Rattle.funnel.specs.declared.turn.Turn.TheVariants as turn
use Rattle.funnel.specs.Schedule.{hart_turn, most_turns, turn_of, with_turn}
use Rattle.funnel.specs.declared.schedule_fault.ScheduleFault.{ScheduleFault}
use Rattle.funnel.specs.declared.schedule_fault.ScheduleFault.TheVariants as fault
use Rattle.funnel.specs.declared.word.Word.{Word}
use Rattle.funnel.specs.declared.word.Word.TheVariants as word
use Rattle.funnel.specs.steps.Words.{at_number, number_past, past, turn_at, turn_by, with_byte, with_digit}

-- A word that begins so, once these bytes are read behind it.
abbrev read_from : ℕ → Word → List ℕ → Word
read_from harts so bytes = fold (λ so byte. with_byte harts byte so) so bytes

-- The word that these bytes make.
abbrev pub read : ℕ → List ℕ → Word
read harts bytes = read_from harts word.Empty bytes

stays_wrong : (harts : ℕ) (bytes : List ℕ) → read_from harts word.Wrong bytes ≡ word.Wrong
stays_wrong harts [] = refl
stays_wrong harts (byte ∷ bytes) = stays_wrong harts bytes

-- More digits make no number smaller.
grows : (n : ℕ) (bytes : List ℕ) → n ≤ digits_value_after 10 n bytes
grows n [] = omega arith
grows n (byte ∷ bytes) = let more = grows (n * 10 + digit_value byte) bytes in omega (arith, more)

no_hart : (harts n : ℕ) → harts ≤ n → hart_turn harts n ≡ None
no_hart harts n over =
    let past_all : nat_lt n harts ≡ false = search (arith) in
    rw past_all refl

either_none : (b : Bool) (o : Option Turn) → o ≡ None → (if b then o else None) ≡ None
either_none true o none = none
either_none false o none = refl

turn_by-at : (harts n : ℕ) (b : Bool)
    → turn_by (if b then word.Hart n else word.Wrong) ≡ (if b then Some (turn.Hart n) else None)
turn_by-at harts n true = refl
turn_by-at harts n false = refl

-- A number with more digits behind it.
numbers : (harts n : ℕ) (bytes : List ℕ)
    → turn_by (read_from harts (at_number harts n) bytes)
    ≡ (if list_all (λ byte. is_digit byte 10) bytes then hart_turn harts (digits_value_after 10 n bytes) else None)
numbers harts n [] = turn_by-at harts n (nat_lt n harts)
numbers harts n (byte ∷ bytes) = elim (cases_Bool (nat_lt n harts)) [
  | inl below ↦ elim (cases_Bool (is_digit byte 10)) [
    | inl digit ↦ rw (below, digit) (numbers harts (n * 10 + digit_value byte) bytes)
    | inr other ↦ rw (below, other) (ap turn_by (stays_wrong harts bytes))
  ]
  | inr over ↦
      let most = grows n (byte ∷ bytes) in
      let above : harts ≤ n = search (arith, over) in
      rw over (ap turn_by (stays_wrong harts bytes)
      ∙ sym (either_none (list_all (λ byte. is_digit byte 10) (byte ∷ bytes))
      (hart_turn harts (digits_value_after 10 n (byte ∷ bytes)))
      (no_hart harts (digits_value_after 10 n (byte ∷ bytes)) (omega (arith, most, above)))))
]

letter : (harts : ℕ) (bytes : List ℕ) → turn_by (read_from harts word.Collect bytes) ≡ turn_of harts (99 ∷ bytes)
letter harts [] = refl
letter harts (byte ∷ bytes) = ap turn_by (stays_wrong harts bytes)

-- The bytes of a word make its turn.
pub turn_by-read : (harts byte : ℕ) (bytes : List ℕ)
    → turn_by (read harts (byte ∷ bytes)) ≡ turn_of harts (byte ∷ bytes)
turn_by-read harts byte bytes = elim (cases_Bool (byte == 99)) [
  | inl c ↦ rw (eqb-true byte 99 c) (letter harts bytes)
  | inr other ↦ elim (cases_Bool (is_digit byte 10)) [
    | inl digit ↦ rw (other, digit) (numbers harts (0 * 10 + digit_value byte) bytes)
    | inr none ↦ rw (other, none) (ap turn_by (stays_wrong harts bytes))
  ]
]

-- There is a byte.
abbrev IsBegun : Word → Type 0
IsBegun word.Empty = ⊥
IsBegun _ = Unit {0}

begun-at : (harts n : ℕ) (b : Bool) → IsBegun (if b then word.Hart n else word.Wrong)
begun-at harts n true = tt
begun-at harts n false = tt

begun-digit : (harts byte n : ℕ) (b : Bool)
    → IsBegun (if b then at_number harts (n * 10 + digit_value byte) else word.Wrong)
begun-digit harts byte n true = begun-at harts (n * 10 + digit_value byte) (nat_lt (n * 10 + digit_value byte) harts)
begun-digit harts byte n false = tt

begun-first : (harts byte : ℕ) (b : Bool) → IsBegun (if b then word.Collect else with_digit harts byte 0)
begun-first harts byte true = tt
begun-first harts byte false = begun-digit harts byte 0 (is_digit byte 10)

begun-byte : (harts byte : ℕ) (so : Word) → IsBegun (with_byte harts byte so)
begun-byte harts byte word.Empty = begun-first harts byte (byte == 99)
begun-byte harts byte (word.Hart number) = begun-digit harts byte number (is_digit byte 10)
begun-byte harts byte word.Collect = tt
begun-byte harts byte word.Wrong = tt

begun-bytes : (harts : ℕ) (so : Word) (bytes : List ℕ) → IsBegun so → IsBegun (read_from harts so bytes)
begun-bytes harts so [] begun = begun
begun-bytes harts so (byte ∷ bytes) begun = begun-bytes harts (with_byte harts byte so) bytes (begun-byte harts byte so)

abbrev Behind : Type 0
Behind = ℕ → Result (List Turn) ScheduleFault

too_many : (b : Bool) (found : Result (Option Turn) ScheduleFault) (number : ℕ) (rest : Behind)
    → past (if b then Err fault.TooLong else found) (rest (number_past (if b then Err fault.TooLong else found) number))
    ≡ (if b then Err fault.TooLong else past found (rest (number_past found number)))
too_many true found number rest = refl
too_many false found number rest = refl

-- The turn of a word that is begun, or its fault, comes before those of the words behind it.
past-begun : (number : ℕ) (so : Word) (rest : Behind) → IsBegun so
    → past (turn_at number so) (rest (number_past (turn_at number so) number))
    ≡ (if nat_lt most_turns number then Err fault.TooLong else with_turn number (turn_by so) (rest (number + 1)))
past-begun number word.Empty rest begun = absurd begun
past-begun number word.Collect rest begun = too_many (nat_lt most_turns number) (Ok (Some turn.Collect)) number rest
past-begun number (word.Hart hart) rest begun =
    too_many (nat_lt most_turns number) (Ok (Some (turn.Hart hart))) number rest
past-begun number word.Wrong rest begun = too_many (nat_lt most_turns number) (Err (fault.Word number)) number rest

-- So is each word.
pub past-read : (harts number byte : ℕ) (bytes : List ℕ) (rest : Behind)
    → past (turn_at number (read harts (byte ∷ bytes)))
    (rest (number_past (turn_at number (read harts (byte ∷ bytes))) number))
    ≡ (if nat_lt most_turns number then Err fault.TooLong
    else with_turn number (turn_of harts (byte ∷ bytes)) (rest (number + 1)))
past-read harts number byte bytes rest =
    past-begun number (read harts (byte ∷ bytes)) rest
    (begun-bytes harts (with_byte harts byte word.Empty) bytes (begun-byte harts byte word.Empty))
    ∙ ap (λ t. if nat_lt most_turns number then Err fault.TooLong else with_turn number t (rest (number + 1)))
    (turn_by-read harts byte bytes)
