-- That a file has no entry says that it has no symbol: by a lemma on the lines of a file.
use Rattle.std.proofs.Common.{◌≡◌, ◌≤◌, ◌∙◌, ℕ, List, [], length, refl, sym, ap, inl, inr, arith}
use Rattle.symbols.specs.File.{most_bytes, symbols_of}
use Rattle.symbols.specs.steps.Entries.{entries_of}
use Rattle.symbols.proofs.EntryLemmas.{none_stand}
use Rattle.symbols.proofs.RefusedLemmas.{has_none, has_some, is_too_large}
use Rattle.symbols.proofs.symbols.Symbols.new.Goals as goal

-- The count of entries of the file, by what was counted in its slice.
counted : (file seen : List ℕ) (count : ℕ) → seen ≡ file → count ≡ length (entries_of seen)
    → count ≡ length (entries_of file)
counted file seen count same is = is ∙ ap (λ l. length (entries_of l)) same

-- Where the count is not 0 there is a symbol.
some : (file seen : List ℕ) (count : ℕ) → seen ≡ file → count ≡ length (entries_of seen) → 1 ≤ count
    → symbols_of file ≡ [] → ⊥
some file seen count same is more none =
    let zero_entries = (none_stand file).1 none in
    let all = counted file seen count same is in
    omega (arith, zero_entries, all, more)

pub returns-then-count-eq0-clause-no_symbol : goal.returns-then-count-eq0-clause-no_symbol
returns-then-count-eq0-clause-no_symbol g c =
    let file = c.args.file.items in
    let few : length file ≤ most_bytes = omega (arith, c.if-len-gt-MOST_BYTES.false, c.len.ensures) in
    let all =
    counted file c.as_slice.result.now c.count_entries-count.result c.as_slice.ensures.value
    c.count_entries-count.ensures in
    (λ e. (few, (none_stand file).0 (sym all ∙ c.if-count-eq0.true)), λ h. cc)

pub returns-in-Ok-clause-some : goal.returns-in-Ok-clause-some
returns-in-Ok-clause-some g c =
    some c.args.file.items c.as_slice.result.now c.count_entries-count.result c.as_slice.ensures.value
    c.count_entries-count.ensures (omega (arith, c.if-count-eq0.false))

pub returns-in-Ok-clause-no_symbol : goal.returns-in-Ok-clause-no_symbol
returns-in-Ok-clause-no_symbol g c = (λ e. cc, λ h. absurd (returns-in-Ok-clause-some g c h.1))

pub returns-in-Err-clause-no_symbol : goal.returns-in-Err-clause-no_symbol
returns-in-Err-clause-no_symbol g c = (
  λ e. cc,
  λ h. absurd
      (some c.args.file.items c.as_slice.result.now c.count_entries-count.result c.as_slice.ensures.value
      c.count_entries-count.ensures (omega (arith, c.if-count-eq0.false)) h.1),
)

pub returns-then-len-gt-MOST_BYTES-clause-value : goal.returns-then-len-gt-MOST_BYTES-clause-value
returns-then-len-gt-MOST_BYTES-clause-value g c =
    inr (is_too_large c.args.file.items (omega (arith, c.if-len-gt-MOST_BYTES.true, c.len.ensures)))

pub returns-then-count-eq0-clause-value : goal.returns-then-count-eq0-clause-value
returns-then-count-eq0-clause-value g c =
    let none = (returns-then-count-eq0-clause-no_symbol g c).0 refl in
    inr (has_none c.args.file.items none.0 none.1)

pub returns-in-Ok-clause-value : goal.returns-in-Ok-clause-value
returns-in-Ok-clause-value g c =
    inr (has_some c.args.file.items (omega (arith, c.if-len-gt-MOST_BYTES.false, c.len.ensures))
    (returns-in-Ok-clause-some g c))

pub returns-in-Err-clause-value : goal.returns-in-Err-clause-value
returns-in-Err-clause-value g c = inl refl
