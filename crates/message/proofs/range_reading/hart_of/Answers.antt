-- Digits that are read as no number: by a lemma on what `parse` reads, which no tactic finds.
use Rattle.std.proofs.Common.{◌∙◌, sym, ap, true, ◌≡◌}
use Rattle.std.specs.Char.{is_ascii_digit}
use Rattle.std.specs.List.{list_all}
use Rattle.message.proofs.Spelling.{none_spelt}
use Rattle.message.proofs.range_reading.hart_of.Goals as goal

pub returns-in_default-2 : goal.returns-in_default-2
returns-in_default-2 c =
    let digits : list_all is_ascii_digit c.args.text.now ≡ true =
    ap (list_all is_ascii_digit) (sym c.as_bytes.ensures.value) ∙ sym c.is_digits.ensures ∙ c.if-not-is_digits.false in
    none_spelt c.args.text.now c.in_default.field-0 digits c.in_default.ensures.value.0
