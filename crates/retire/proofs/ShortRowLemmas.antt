-- The row of a retirement at an address of eight digits.
use Rattle.std.proofs.Common.{◌≡◌, ◌≤◌, ◌++◌, ◌∙◌, Bool, ℕ, List, [], ◌∷◌, Option, Some, None, Ok, take, drop}
use Rattle.std.proofs.Common.{length, true, false, arith, refl, sym, ap, inl, inr, subst}
use Rattle.std.specs.List.{list_any}
use Rattle.std.proofs.lemmas.Bool.{false≢true, or_parts}
use Rattle.std.proofs.lemmas.List.{append-nil, drop_all, length-take, take-append-drop}
use Rattle.csv.specs.Quoting.{needs_byte}
use Rattle.csv.specs.Writing.{default_writer}
use Rattle.retire.specs.Number.{hex_value}
use Rattle.retire.specs.PlainLog.{EndsLine}
use Rattle.retire.specs.Row.{numbers_event}
use Rattle.retire.specs.declared.event.Event.{Event}
use Rattle.retire.specs.steps.PlainRow.{EndsLineIn, HasCell, HasDigits, HasField, HasRow, IsPlainRow, Spells}
use Rattle.retire.proofs.PlainRowLemmas.{as-written, cell-on, field-digit, field-on, field-some, in-quotes, row-fields}

-- A field with no comma ends at the first.
field-ends : (field other rest more : List ℕ) → list_any (needs_byte default_writer) field ≡ false
    → list_any (needs_byte default_writer) other ≡ false → field ++ 44 ∷ rest ≡ other ++ 44 ∷ more
    → rest ≡ more
field-ends [] [] rest more p q e = cc e
field-ends [] (c ∷ other) rest more p q e =
    let comma : c ≡ 44 = cc e in
    let plain = (or_parts (needs_byte default_writer c) (list_any (needs_byte default_writer) other) q).0 in
    let mark : needs_byte default_writer c ≡ true = rw comma refl in
    absurd (false≢true (sym plain ∙ mark))
field-ends (c ∷ field) [] rest more p q e =
    let comma : c ≡ 44 = cc e in
    let plain = (or_parts (needs_byte default_writer c) (list_any (needs_byte default_writer) field) p).0 in
    let mark : needs_byte default_writer c ≡ true = rw comma refl in
    absurd (false≢true (sym plain ∙ mark))
field-ends (c ∷ field) (d ∷ other) rest more p q e =
    let tails : field ++ 44 ∷ rest ≡ other ++ 44 ∷ more = cc e in
    field-ends field other rest more (or_parts _ _ p).1 (or_parts _ _ q).1 tails

-- So does a cell.
cell-ends : {text : List ℕ} {m n : Option ℕ} {rest more : List ℕ} → HasCell text m rest → HasCell text n more
    → rest ≡ more
cell-ends {text} {m} {n} {rest} {more} (field, e, spells) (other, f, spelt) =
    field-ends field other rest more spells.2 spelt.2 (sym e ∙ f)

-- A field before a byte that ends it is empty.
mark-ends : (c : ℕ) (rest after : List ℕ) (n : Option ℕ) → needs_byte default_writer c ≡ true
    → HasField (c ∷ rest) n after → after ≡ c ∷ rest
mark-ends c rest after n mark ([], e, spells) = sym e
mark-ends c rest after n mark (d ∷ field, e, spells) =
    let same : c ≡ d = cc e in
    let plain = (or_parts (needs_byte default_writer d) (list_any (needs_byte default_writer) field) spells.2).0 in
    absurd (false≢true (sym plain ∙ ap (needs_byte default_writer) (sym same) ∙ mark))

feed-ends : (rest more : List ℕ) → EndsLine (10 ∷ rest) more → rest ≡ more
feed-ends rest more (inl e) = cc e
feed-ends rest more (inr (inl e)) = cc e
feed-ends rest more (inr (inr e)) = let h = e.0 in cc h

return-ends : (rest more : List ℕ) → EndsLine (13 ∷ 10 ∷ rest) more → rest ≡ more
return-ends rest more (inl e) = cc e
return-ends rest more (inr (inl e)) = cc e
return-ends rest more (inr (inr e)) = let h = e.0 in cc h

none-ends : (more : List ℕ) → EndsLine [] more → [] ≡ more
none-ends more (inl e) = cc e
none-ends more (inr (inl e)) = cc e
none-ends more (inr (inr e)) = sym e.1

none-field : (after : List ℕ) (n : Option ℕ) → HasField [] n after → after ≡ []
none-field after n ([], e, spells) = sym e
none-field after n (c ∷ field, e, spells) = cc e

-- An empty field before the end of a line ends the line there.
empty-ends : (ended : Bool) (end rest after more : List ℕ) (n : Option ℕ) → EndsLineIn ended end rest
    → HasField end n after → EndsLine after more → rest ≡ more
empty-ends ended end rest after more n (inl e) h ends =
    feed-ends rest more (subst (λ t. EndsLine t more) (mark-ends 10 rest after n refl (field-on (sym e) h)) ends)
empty-ends ended end rest after more n (inr (inl e)) h ends =
    return-ends rest more
    (subst (λ t. EndsLine t more) (mark-ends 13 (10 ∷ rest) after n refl (field-on (sym e) h)) ends)
empty-ends ended end rest after more n (inr (inr (over, e, r))) h ends =
    r ∙ none-ends more (subst (λ t. EndsLine t more) (none-field after n (field-on (sym e) h)) ends)

-- A text that is a field and nothing else.
whole-spells : (text : List ℕ) (n : Option ℕ) (rest : List ℕ) → HasField text n rest → rest ≡ [] → Spells text n
whole-spells text n rest (field, e, spells) none =
    subst (λ f. Spells f n) (sym (e ∙ ap (λ t. field ++ t) none ∙ append-nil field)) spells

digit-spells : (byte value : ℕ) → value ≡ hex_value byte → (value ≡ 16 → ⊥) → Spells (byte ∷ []) (Some value)
digit-spells byte value is other =
    whole-spells (byte ∷ []) (Some value) _ (field-digit (byte ∷ []) value value (omega arith) refl is other) refl

pub digit-field : (byte value : ℕ) (rest : List ℕ) → value ≡ hex_value byte → (value ≡ 16 → ⊥)
    → HasField (byte ∷ rest) (Some value) rest
digit-field byte value rest is other = (byte ∷ [], refl, digit-spells byte value is other)

digit-cell : (byte value : ℕ) (rest : List ℕ) → value ≡ hex_value byte → (value ≡ 16 → ⊥)
    → HasCell (byte ∷ 44 ∷ rest) (Some value) rest
digit-cell byte value rest is other = digit-field byte value (44 ∷ rest) is other

empty-cell : (rest : List ℕ) → HasCell (44 ∷ rest) None rest
empty-cell rest = ([], refl, (refl, refl, refl))

pub address-field : (text digits behind : List ℕ) (addr : ℕ) → digits ≡ take 8 text → behind ≡ drop 8 text
    → HasDigits digits addr 8 → HasField text (Some addr) behind
address-field text digits behind addr front back h =
    let whole : text ≡ digits ++ behind = sym (take-append-drop 8 text) ∙ ap (λ t. t ++ drop 8 text) (sym front)
    ∙ ap (λ t. digits ++ t) (sym back) in
    let size = length-take 8 text in
    let short : length digits ≤ 8 = rw front (omega (arith, size)) in (
      digits,
      whole,
      whole-spells digits (Some addr) (drop 8 digits)
          (field-some digits (drop 8 digits) addr 8 h (omega arith) refl) (drop_all 8 digits short),
    )

address-cell : (text digits behind rest : List ℕ) (addr : ℕ) → digits ≡ take 8 text → behind ≡ drop 8 text
    → HasDigits digits addr 8 → behind ≡ 44 ∷ rest → HasCell text (Some addr) rest
address-cell text digits behind rest addr front back h comma =
    subst (HasField text (Some addr)) comma (address-field text digits behind addr front back h)

-- A row of eight digits, two of one digit, and two empty fields.
pub short-fields : (ended : Bool) (row addr second third i p : ℕ) (text digits behind end rest : List ℕ) (event : Event)
    → digits ≡ take 8 text → behind ≡ drop 8 text → HasDigits digits addr 8
    → behind ≡ 44 ∷ i ∷ 44 ∷ p ∷ 44 ∷ 44 ∷ end → EndsLineIn ended end rest → second ≡ hex_value i → (second ≡ 16 → ⊥)
    → third ≡ hex_value p → (third ≡ 16 → ⊥)
    → numbers_event row addr second third None None ≡ Ok event
    → HasRow ended row text event rest × ((more : List ℕ) → IsPlainRow row text more → rest ≡ more)
short-fields ended row addr second third i p text digits behind end rest event front back h tail ends is_i some_i is_p
    some_p known =
    let first = address-cell text digits behind (i ∷ 44 ∷ p ∷ 44 ∷ 44 ∷ end) addr front back h tail in
    let type = digit-cell i second (p ∷ 44 ∷ 44 ∷ end) is_i some_i in
    let level = digit-cell p third (44 ∷ end) is_p some_p in
    let cause = empty-cell end in (
      row-fields ended row addr second third text _ _ _ _ end rest _ _ _ None None event (as-written first)
          (as-written type) (as-written level) (as-written cause)
          ([], [], refl, inl refl, (refl, refl, refl)) ends refl refl refl known,
      λ more plain.
          let e1 = cell-ends first plain.first in
          let e2 = cell-ends type (cell-on e1 plain.second) in
          let e3 = cell-ends level (cell-on e2 plain.third) in
          let e4 = cell-ends cause (cell-on e3 plain.fourth) in
          empty-ends ended end rest plain.after_tval more plain.tval ends (field-on e4 plain.fifth) plain.ends,
    )

-- The same with each field in quotes.
pub short-quoted : (ended : Bool) (row addr second third i p : ℕ) (inside digits after end rest : List ℕ)
    (event : Event) → digits ≡ take 8 inside → after ≡ drop 8 inside → HasDigits digits addr 8
    → after ≡ 34 ∷ 44 ∷ 34 ∷ i ∷ 34 ∷ 44 ∷ 34 ∷ p ∷ 34 ∷ 44 ∷ 34 ∷ 34 ∷ 44 ∷ 34 ∷ 34 ∷ end → EndsLineIn ended end rest
    → second ≡ hex_value i → (second ≡ 16 → ⊥) → third ≡ hex_value p → (third ≡ 16 → ⊥)
    → numbers_event row addr second third None None ≡ Ok event → HasRow ended row (34 ∷ inside) event rest
short-quoted ended row addr second third i p inside digits after end rest event front back h tail ends is_i some_i is_p
    some_p known =
    let first : HasField inside (Some addr) _ = subst (HasField inside (Some addr)) tail (address-field inside digits
    after addr front back h) in
    row-fields ended row addr second third (34 ∷ inside) _ _ _ _ end rest _ _ _ None None event (in-quotes refl first)
    (in-quotes refl (digit-field i second _ is_i some_i)) (in-quotes refl (digit-field p third _ is_p some_p))
    (in-quotes refl ([], refl, (refl, refl, refl))) (in-quotes refl ([], refl, (refl, refl, refl))) ends refl refl refl
    known
