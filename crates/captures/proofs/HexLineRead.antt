-- The line of hexadecimal of a message says that message.
use Rattle.std.proofs.Common.{◌≡◌, ◌≢◌, ◌≤◌, ◌<◌, ◌^◌, ◌-◌, ◌*◌, ◌==◌, ◌++◌, ◌∙◌, ℕ, Bool, true, false, All, List, []}
use Rattle.std.proofs.Common.{◌∷◌}
use Rattle.std.proofs.Common.{Some, None, Ok, Err, arith, ap, refl, sym, length, get_or, slice_index, inl, inr, zero}
use Rattle.std.proofs.Common.{suc}
use Rattle.std.proofs.Common.{◌&&◌, append_assoc, drop, length-append, nat_lt, subst, true≢false}
use Rattle.std.specs.Prelude.{if◌then◌else◌, cond, nat_le, not, option_map, take, unwrap_or}
use Rattle.std.specs.Char.{digit_value, is_digit}
use Rattle.std.specs.Fmt.{decimal}
use Rattle.std.specs.List.{list_all, slice_split}
use Rattle.std.specs.Str.Lines.{lines, lines_of_parts, strip_carriage_return}
use Rattle.std.specs.Str.Parse.{AllDigits, digits_value}
use Rattle.std.proofs.lemmas.Bool.{cases_lt, le-leb, lt-ltb, ne_eqb}
use Rattle.std.proofs.lemmas.Fmt.{decimal_is_IsNumeral, decimal_nonempty}
use Rattle.std.proofs.lemmas.List.Elements.{All-append, All-cons, All-nil}
use Rattle.std.proofs.lemmas.List.Splits.{length-slice_split, slice_split_at}
use Rattle.std.proofs.lemmas.Str.Parse.{digit_from_value}
use Rattle.hex.specs.Hex.{IsBytes as HexBytes, encode_lower, is_hex_digit, lower_digits}
use Rattle.hex.proofs.HexLemmas.{decode_of-encode_lower, decode_of-ok, length-encode_with}
use Rattle.payload.specs.Bytes.{IsBytes}
use Rattle.message.specs.Cut.{IsMessage}
use Rattle.message.specs.Version.{most_harts}
use Rattle.message.specs.declared.message.Message.{Message}
use Rattle.captures.specs.HexLines.{hex_line}
use Rattle.captures.specs.Line.{are_filled, fields_of, form_by, form_of_line, is_passed_over, line_by, line_of}
use Rattle.captures.specs.Line.{is_time, is_within, number_below, payload_of, said, some_line, with_hart, with_number}
use Rattle.captures.specs.Line.{with_payload, without_prefix}
use Rattle.captures.specs.declared.line_fault.LineFault.TheVariants.{Above, Fields}
use Rattle.captures.specs.declared.line_form.Form.TheVariants.{Counted, Numbered}
use Rattle.captures.specs.declared.capture_line.Line.{Line}
use Rattle.captures.specs.declared.line_settings.Settings.{Settings}
use Rattle.captures.proofs.Fields.{IsWord, begins_with, begins_word, not_passed, word_last, word_then}
use Rattle.captures.proofs.Numbers.{by_tests}
use Rattle.captures.proofs.Parts.{before_more}

-- A byte of a field: a digit or a letter.
abbrev IsFieldByte : ℕ → Type 0
IsFieldByte byte = 48 ≤ byte

digit_bytes : (digits : List ℕ) → AllDigits 10 digits → All IsFieldByte digits
digit_bytes [] each = All-nil IsFieldByte
digit_bytes (digit ∷ digits) each =
    All-cons IsFieldByte digit digits (digit_from_value digit each.0).0 (digit_bytes digits each.1)

decimal_bytes : (n : ℕ) → n < 2 ^ 64 → All IsFieldByte (decimal n)
decimal_bytes n few = digit_bytes (decimal n) (decimal_is_IsNumeral n few).0.1

high_digit : (byte : ℕ) → is_hex_digit byte ≡ true → 48 ≤ byte
high_digit byte digit = elim (cases_lt byte 48) [
  | inl low ↦
      let a : nat_le 65 byte ≡ false = search (arith, low) in
      let b : nat_le 97 byte ≡ false = search (arith, low) in
      let e : nat_le 48 byte ≡ false = search (arith, low) in
      let none : is_hex_digit byte ≡ false = rw (a, b, e) refl in
      cc
  | inr high ↦ omega (arith, high)
]

hex_bytes : (bytes : List ℕ) → IsBytes bytes → HexBytes bytes
hex_bytes [] each i = omega arith
hex_bytes (b ∷ bytes) each zero = each.0
hex_bytes (b ∷ bytes) each (suc i) = hex_bytes bytes each.1 i

hex_digits : (bytes : List ℕ) → IsBytes bytes → All (λ digit. is_hex_digit digit ≡ true) (encode_lower bytes)
hex_digits bytes each = (decode_of-ok (encode_lower bytes) bytes (decode_of-encode_lower bytes
    (hex_bytes bytes each))).1

encoded_bytes : (bytes : List ℕ) → IsBytes bytes → All IsFieldByte (encode_lower bytes)
encoded_bytes bytes each k d inside =
    high_digit (get_or (encode_lower bytes) k d) (hex_digits bytes each k d inside)

other_digit : (other byte : ℕ) → is_hex_digit other ≡ false → is_hex_digit byte ≡ true → (byte == other) ≡ false
other_digit other byte none digit =
    ne_eqb byte other (λ same.
    let bad : is_hex_digit other ≡ true = subst (λ b. is_hex_digit b ≡ true) same digit in
    absurd (true≢false (sym bad ∙ none)))

both_fail : (a b : Bool) → b ≡ false → (a && b) ≡ false
both_fail true b non = non
both_fail false b non = refl

not_this : (other : ℕ) (text : List ℕ) → other < 48 → All IsFieldByte text → All (λ byte. (byte == other) ≡ false) text
not_this other text low each k d inside =
    ne_eqb (get_or text k d) other (λ same. omega (arith, low, same, each k d inside))

is_word : (text : List ℕ) → All IsFieldByte text → IsWord text
is_word text each k d inside =
    let byte = get_or text k d in
    let high : 48 ≤ byte = each k d inside in
    let blank : (byte == 32) ≡ false = ne_eqb byte 32 (λ same. omega (arith, high, same)) in
    let tab : (byte == 9) ≡ false = ne_eqb byte 9 (λ same. omega (arith, high, same)) in
    let comma : (byte == 44) ≡ false = ne_eqb byte 44 (λ same. omega (arith, high, same)) in
    rw (blank, tab, comma) refl

all_decimal : (digits : List ℕ) → AllDigits 10 digits → list_all (λ byte. is_digit byte 10) digits ≡ true
all_decimal [] each = refl
all_decimal (digit ∷ digits) each =
    let here : nat_lt (digit_value digit) 10 ≡ true = lt-ltb (digit_value digit) 10 each.0 in
    rw (here, all_decimal digits each.1) refl

-- The decimal of a number is read.
number_read : (limit n : ℕ) → n < 2 ^ 64 → n < limit → number_below limit (decimal n) ≡ Some n
number_read limit n few below =
    let is = decimal_is_IsNumeral n few in
    let tests : nat_lt (digits_value 10 (decimal n)) limit ≡ true = lt-ltb (digits_value 10 (decimal n)) limit
    (omega (arith, is.1, below)) in
    by_tests limit (decimal n) (decimal_nonempty n few)
    ∙ rw (all_decimal (decimal n) is.0.1, tests) (ap Some is.1)

-- The line of hexadecimal of a message, without its line feed.
abbrev pub text_of : Message → List ℕ
text_of m = decimal m.hart ++ (32 ∷ (decimal m.number ++ (32 ∷ encode_lower m.payload)))

-- What it says.
abbrev pub said_of : Message → Line
said_of m = record { hart = m.hart; number = Some m.number; payload = m.payload }

module _ (m : Message) (right : IsMessage m) where
  abbrev hart : List ℕ
  hart = decimal m.hart

  abbrev number : List ℕ
  number = decimal m.number

  abbrev bytes : List ℕ
  bytes = encode_lower m.payload

  abbrev text : List ℕ
  text = text_of m

  low_hart : m.hart < 2 ^ 64
  low_hart = omega (arith, right.hart)

  hart_bytes : All IsFieldByte hart
  hart_bytes = decimal_bytes m.hart low_hart

  number_bytes : All IsFieldByte number
  number_bytes = decimal_bytes m.number right.number

  payload_bytes : All IsFieldByte bytes
  payload_bytes = encoded_bytes m.payload right.bytes

  some_hart : 0 < length hart
  some_hart = decimal_nonempty m.hart low_hart

  some_number : 0 < length number
  some_number = decimal_nonempty m.number right.number

  twice : length bytes ≡ 2 * length m.payload
  twice = length-encode_with lower_digits m.payload

  some_bytes : 0 < length bytes
  some_bytes = omega (arith, twice, right.some)

  parted : fields_of text ≡ hart ∷ number ∷ bytes ∷ []
  parted =
      word_then hart (number ++ (32 ∷ bytes)) some_hart (is_word hart hart_bytes)
      (begins_with number (32 ∷ bytes) some_number (is_word number number_bytes))
      ∙ ap (λ l. hart ∷ l)
      (word_then number bytes some_number (is_word number number_bytes)
      (begins_word bytes some_bytes (is_word bytes payload_bytes))
      ∙ ap (λ l. number ∷ l) (word_last bytes some_bytes (is_word bytes payload_bytes)))

  -- No byte of it ends a line.
  text_bytes : (other : ℕ) → other < 48 → other ≢ 32 → All (λ byte. (byte == other) ≡ false) text
  text_bytes other low blank =
      let P : ℕ → Type 0 = λ byte. (byte == other) ≡ false in
      let no_blank : P 32 = ne_eqb 32 other (λ same. blank (sym same)) in
      All-append P hart (32 ∷ (number ++ (32 ∷ bytes))) (not_this other hart low hart_bytes)
      (All-cons P 32 (number ++ (32 ∷ bytes)) no_blank
      (All-append P number (32 ∷ bytes) (not_this other number low number_bytes)
      (All-cons P 32 bytes no_blank (not_this other bytes low payload_bytes))))

  pub told : is_passed_over text ≡ false
  told =
      let later = 32 ∷ (number ++ (32 ∷ bytes)) in
      let long = length-append hart later in
      not_passed text (begins_with hart later some_hart (is_word hart hart_bytes))
      (text_bytes 35 (omega arith) (λ same. omega (arith, same)) 0 0 (omega (arith, long, some_hart)))

  no_return : strip_carriage_return text ≡ text
  no_return =
      let long = length-append hart (32 ∷ (number ++ (32 ∷ bytes))) in
      let last : (slice_index text (length text - 1) == 13) ≡ false =
      text_bytes 13 (omega arith) (λ same. omega (arith, same)) (length text - 1) 0 (omega (arith, long, some_hart)) in
      ap (λ b. cond b (take (length text - 1) text) text) last

  -- It is a line, whatever follows.
  pub line_in : (rest : List ℕ) → lines (hex_line m ++ rest) ≡ text_of m ∷ lines rest
  line_in rest =
      let is_feed : ℕ → Bool = λ byte. byte == 10 in
      let ends : hex_line m ++ rest ≡ text ++ (10 ∷ rest) =
      append_assoc hart (32 ∷ (number ++ (32 ∷ (bytes ++ 10 ∷ [])))) rest
      ∙ ap (λ l. hart ++ (32 ∷ l))
      (append_assoc number (32 ∷ (bytes ++ 10 ∷ [])) rest
      ∙ ap (λ l. number ++ (32 ∷ l)) (append_assoc bytes (10 ∷ []) rest))
      ∙ sym (append_assoc hart (32 ∷ (number ++ (32 ∷ bytes))) (10 ∷ rest)
      ∙ ap (λ l. hart ++ (32 ∷ l)) (append_assoc number (32 ∷ bytes) (10 ∷ rest))) in
      ap lines ends
      ∙ ap lines_of_parts
      (slice_split_at is_feed text 10 rest (text_bytes 10 (omega arith) (λ same. omega (arith, same))) refl)
      ∙ before_more text (slice_split is_feed rest) (omega (arith, length-slice_split is_feed rest))
      ∙ ap (λ l. l ∷ lines rest) no_return

  -- Its bytes are no time.
  no_time : is_time bytes ≡ false
  no_time = other_digit 64 (slice_index bytes 0) refl (hex_digits m.payload right.bytes 0 0 some_bytes)

  -- Its form has numbers.
  pub form_is : form_of_line (text_of m) ≡ Numbered
  form_is = ap form_by parted ∙ ap (λ b. if b then Counted else Numbered) no_time

  bare : without_prefix bytes ≡ bytes
  bare =
      let two : 1 < length bytes = omega (arith, twice, right.some) in
      let digit = hex_digits m.payload right.bytes 1 0 two in
      ap (λ b. cond b (drop 2 bytes) bytes)
      (both_fail (slice_index bytes 0 == 48) (slice_index bytes 1 == 120)
      (other_digit 120 (slice_index bytes 1) refl digit))

  payload_read : payload_of (without_prefix bytes) ≡ Some m.payload
  payload_read =
      let least : nat_le 2 (length bytes) ≡ true = le-leb 2 (length bytes) (omega (arith, twice, right.some)) in
      let most : nat_le (length bytes) 36 ≡ true = le-leb (length bytes) 36 (omega (arith, twice, right.few)) in
      ap payload_of bare ∙ rw (least, most, decode_of-encode_lower m.payload (hex_bytes m.payload right.bytes)) refl

  filled : are_filled (hart ∷ number ∷ bytes ∷ []) ≡ true
  filled =
      let a : (length hart == 0) ≡ false = ne_eqb (length hart) 0 (λ e. omega (arith, e, some_hart)) in
      let b : (length number == 0) ≡ false = ne_eqb (length number) 0 (λ e. omega (arith, e, some_number)) in
      let c : (length bytes == 0) ≡ false = ne_eqb (length bytes) 0 (λ e. omega (arith, e, some_bytes)) in
      rw (a, b, c) refl

  pub line_is : (settings : Settings) → settings.harts ≡ None → m.hart < most_harts settings.version
      → m.number < unwrap_or settings.numbers (2 ^ 64)
      → line_of settings Numbered (text_of m) ≡ Ok (Some (said_of m))
  line_is settings any below few =
      let hart_read = number_read (most_harts settings.version) m.hart low_hart below in
      let number_is = number_read (unwrap_or settings.numbers (2 ^ 64)) m.number right.number few in
      ap (λ b. if b then Ok None else some_line (line_by settings Numbered (fields_of text))) told
      ∙ ap some_line (ap (line_by settings Numbered) parted
      ∙ ap (λ time. if are_filled (hart ∷ number ∷ bytes ∷ []) && (not time && true)
      then said settings hart (Some number) bytes else Err Fields) no_time
      ∙ ap (λ b. if b && true then said settings hart (Some number) bytes else Err Fields) filled
      ∙ ap (λ h. with_hart settings h (Some number) bytes) hart_read
      ∙ ap (λ n. with_number settings m.hart (option_map Some n) bytes) number_is
      ∙ ap (λ p. with_payload settings m.hart (Some m.number) p) payload_read
      ∙ ap (λ harts. if is_within harts m.hart then Ok (said_of m) else Err Above) any)
