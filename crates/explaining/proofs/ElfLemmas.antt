-- An image begins as an ELF file does if and only if it has two instructions of 2 bytes with these bits at its base.
use Rattle.std.proofs.Common.{◌≡◌, ◌∙◌, ℕ, ◌+◌, ◌%◌, ◌^◌, ◌<◌, [], ◌∷◌, Bool, true, false, Option, Some, None, arith, refl}
use Rattle.std.proofs.Common.{sym, ap, is_some, ⊎_elim}
use Rattle.std.proofs.lemmas.Bool.{and_right, cases_eq, eq-eqb, ne_eqb}
use Rattle.std.specs.List.{AllByRecursion}
use Rattle.std.specs.Prelude.{◌&&◌, ◌==◌, not, if◌then◌else◌, option_map}
use Rattle.rvclass.specs.FetchedBytes.{byte_at, half_at, has_bytes, word_at}
use Rattle.rvclass.specs.Memory.{Memory, base_of, lowest_of}
use Rattle.rvclass.specs.Piece.{IsPiece}
use Rattle.rvclass.proofs.WordsLemmas.{words_of-IsProgram}
use Rattle.rvclass.specs.Fetch.{is_compressed, is_longer, words_of}
use Rattle.rvclass.specs.Image.{Image, IsImage}
use Rattle.rvclass.specs.Instruction.{instruction_of, with_code}
use Rattle.rvclass.specs.Word16.{class16}
use Rattle.rvclass.specs.Word32.{class32}
use Rattle.rvclass.specs.Words.{Word}
use Rattle.rvclass.specs.declared.class.Class.{Class}
use Rattle.rvclass.specs.declared.class.Class.TheVariants.{NotRetirable}
use Rattle.explaining.specs.ElfImage.{begins_as_elf}
use Rattle.explaining.specs.steps.ShortWord.{is_short_word}

by_length : (short : Bool) (half word code : ℕ)
    → (short && ((if short then half else word) == code)) ≡ (short && (half == code))
by_length true half word code = refl
by_length false half word code = refl

-- The instruction at an address, by whether the address is even, whether a halfword is there, and the halfword.
abbrev word_by : Image → ℕ → Bool → Bool → ℕ → Option Word
word_by image addr even there half =
    if not even then None else
    if not there then None else
    if is_compressed half then Some (class16 addr half, 2) else
    if is_longer half then Some (NotRetirable, 2) else
    if not (has_bytes image addr 4) then None else
    Some (class32 addr (word_at image addr), 4)

word_is : (image : Image) (addr : ℕ)
    → words_of image addr ≡ word_by image addr (addr % 2 == 0) (has_bytes image addr 2) (half_at image addr)
unfolding words_of
word_is image addr = refl

word_of_half : (image : Image) (addr code : ℕ) → addr % 2 ≡ 0 → has_bytes image addr 2 ≡ true
    → half_at image addr ≡ code → words_of image addr ≡ word_by image addr true true code
word_of_half image addr code even there half =
    word_is image addr
    ∙ ap (λ e. word_by image addr e (has_bytes image addr 2) (half_at image addr)) (eq-eqb (addr % 2) 0 even)
    ∙ ap (λ t. word_by image addr true t (half_at image addr)) there
    ∙ ap (word_by image addr true true) half

-- If the halfword has other bits, so has an instruction of 2 bytes there.
other_word : (image : Image) (addr : ℕ) (word : Option Word) (code : ℕ) → (half_at image addr == code) ≡ false
    → is_short_word (option_map (with_code image addr) word) code ≡ false
other_word image addr None code other = refl
other_word image addr (Some word) code other =
    by_length (word.1 == 2) (half_at image addr) (word_at image addr) code
    ∙ and_right (word.1 == 2) (half_at image addr == code) other

-- If a halfword with these bits is an instruction of 2 bytes, the halfword says whether that instruction is there.
short_is : (image : Image) (addr code : ℕ) (class : Class)
    → (half_at image addr ≡ code → words_of image addr ≡ Some (class, 2))
    → is_short_word (instruction_of image addr) code ≡ (half_at image addr == code)
short_is image addr code class at =
    ⊎_elim
    (λ is. ap (λ word. is_short_word (option_map (with_code image addr) word) code) (at is))
    (λ other. other_word image addr (words_of image addr) code (ne_eqb (half_at image addr) code other)
    ∙ sym (ne_eqb (half_at image addr) code other))
    (cases_eq (half_at image addr) code)

-- So it does if there is a halfword at an even address, or none.
short_there : (image : Image) (addr code : ℕ) (class : Class) → addr % 2 ≡ 0
    → word_by image addr true true code ≡ Some (class, 2)
    → is_short_word (instruction_of image addr) code ≡ (has_bytes image addr 2 && (half_at image addr == code))
short_there image addr code class even is = go (has_bytes image addr 2) refl
  where
    go : (there : Bool) → has_bytes image addr 2 ≡ there
        → is_short_word (instruction_of image addr) code ≡ (there && (half_at image addr == code))
    go true there = short_is image addr code class (λ half. word_of_half image addr code even there half ∙ is)
    go false there =
        let none : words_of image addr ≡ None =
        word_is image addr
        ∙ ap (λ e. word_by image addr e (has_bytes image addr 2) (half_at image addr)) (eq-eqb (addr % 2) 0 even)
        ∙ ap (λ t. word_by image addr true t (half_at image addr)) there in
        ap (λ word. is_short_word (option_map (with_code image addr) word) code) none

-- Four bytes are two and two.
two_and_two : (image : Image) (addr : ℕ)
    → has_bytes image addr 4 ≡ (has_bytes image addr 2 && has_bytes image (addr + 2) 2)
two_and_two image addr =
    let third : addr + 1 + 1 ≡ addr + 2 = omega arith in
    let fourth : addr + 1 + 1 + 1 ≡ addr + 2 + 1 = omega arith in
    let there = λ (a : ℕ). is_some (byte_at image a) in
    (λ i. there addr && (there (addr + 1) && (there (third i) && (there (fourth i) && true))))
    ∙ go (there addr) (there (addr + 1)) (there (addr + 2)) (there (addr + 2 + 1))
  where
    go : (a b c d : Bool) → (a && (b && (c && (d && true)))) ≡ ((a && (b && true)) && (c && (d && true)))
    go true true c d = refl
    go true false c d = refl
    go false b c d = refl

in_pairs : (front back first second : Bool)
    → ((front && back) && (first && second)) ≡ ((front && first) && (back && second))
in_pairs true true first second = refl
in_pairs true false true second = refl
in_pairs true false false second = refl
in_pairs false back first second = refl

-- The first four bytes, as two instructions.
pub elf_is : (image : Image) → base_of image % 2 ≡ 0
    → begins_as_elf image ≡ (is_short_word (instruction_of image (base_of image)) 0x457f
    && is_short_word (instruction_of image (base_of image + 2)) 0x464c)
elf_is image even =
    let base = base_of image in
    let first = half_at image base == 0x457f in
    let second = half_at image (base + 2) == 0x464c in
    let first_is : is_short_word (instruction_of image base) 0x457f ≡ (has_bytes image base 2 && first) =
    short_there image base 0x457f NotRetirable even refl in
    let second_is : is_short_word (instruction_of image (base + 2)) 0x464c ≡ (has_bytes image (base + 2) 2 && second) =
    short_there image (base + 2) 0x464c (class16 (base + 2) 0x464c) (omega (arith, even)) refl in
    ap (λ b. b && (first && second)) (two_and_two image base)
    ∙ in_pairs (has_bytes image base 2) (has_bytes image (base + 2) 2) first second
    ∙ ap (λ b. b && (has_bytes image (base + 2) 2 && second)) (sym first_is)
    ∙ ap (λ b. is_short_word (instruction_of image base) 0x457f && b) (sym second_is)

-- The lowest base is even.
lowest_even : (base : ℕ) (ps : Memory) → base % 2 ≡ 0 → AllByRecursion IsPiece ps → lowest_of base ps % 2 ≡ 0
lowest_even base [] even each = even
lowest_even base (p ∷ ps) even each =
    let later = lowest_even base ps even each.1 in
    let here = each.0.even in
    omega arith

pub base_even : (image : Image) → IsImage image → base_of image % 2 ≡ 0
base_even [] image = refl
base_even (p ∷ ps) image = lowest_even p.base ps image.each.0.even image.each.1

-- An instruction ends below 2^64.
pub short_below : (image : Image) (addr code : ℕ) → IsImage image
    → is_short_word (instruction_of image addr) code ≡ true → addr + 2 < 2 ^ 64
short_below image addr code kept is = go (words_of image addr) refl is
  where
    go : (word : Option Word) → words_of image addr ≡ word
        → is_short_word (option_map (with_code image addr) word) code ≡ true → addr + 2 < 2 ^ 64
    go None e is = cc
    go (Some w) e is =
        let program = words_of-IsProgram image kept in
        let long = program.long addr w e in
        let below = program.below addr w e in
        omega (arith, long, below)
