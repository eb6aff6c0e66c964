-- That the first halfwords are instructions is a lemma on the table of words, which no search opens.
use Rattle.std.proofs.Common.{◌≡◌, ◌∙◌, ◌+◌, true, false, arith, ap, sym}
use Rattle.std.specs.Prelude.{◌&&◌}
use Rattle.rvclass.specs.Memory.{base_of}
use Rattle.rvclass.specs.Instruction.{instruction_of}
use Rattle.explaining.specs.steps.ShortWord.{is_short_word}
use Rattle.explaining.proofs.ElfLemmas.{base_even, elf_is, short_below}
use Rattle.explaining.proofs.elf_image.begins_as_elf.Goals as goal

pub returns-then-is_short_word : goal.returns-then-is_short_word
returns-then-is_short_word c =
    let image = c.args.program.now in
    let base = c.base-base.ensures.base in
    let second = is_short_word (instruction_of image (base_of image + 2)) 0x464c in
    let first : true ≡ is_short_word (instruction_of image (base_of image)) 0x457f =
    sym c.if-is_short_word.true ∙ c.is_short_word.ensures
    ∙ ap (λ addr. is_short_word (instruction_of image addr) 0x457f) base in
    let below = short_below image (base_of image) 0x457f c.base-base.ensures.kept (sym first) in
    let next : c.saturating_add.result ≡ base_of image + 2 = omega (arith, below, base, c.saturating_add.ensures) in
    c.is_short_word-then-is_short_word.ensures
    ∙ ap (λ addr. is_short_word (instruction_of image addr) 0x464c) next
    ∙ ap (λ b. b && second) first
    ∙ sym (elf_is image (base_even image c.base-base.ensures.kept))

pub returns-else-is_short_word : goal.returns-else-is_short_word
returns-else-is_short_word c =
    let image = c.args.program.now in
    let base = c.base-base.ensures.base in
    let second = is_short_word (instruction_of image (base_of image + 2)) 0x464c in
    let first : false ≡ is_short_word (instruction_of image (base_of image)) 0x457f =
    sym c.if-is_short_word.false ∙ c.is_short_word.ensures
    ∙ ap (λ addr. is_short_word (instruction_of image addr) 0x457f) base in
    c.if-is_short_word.false
    ∙ ap (λ b. b && second) first
    ∙ sym (elf_is image (base_even image c.base-base.ensures.kept))
