-- Rows of fields of any bytes are read back, and plain fields are written as they are.
use Rattle.std.proofs.Common.{◌≡◌, ℕ, ◌==◌, ◌++◌, List, [], ◌∷◌, Some, codes, inl, inr, refl}
use Rattle.std.proofs.Common.{subst, sym, append-nil}
use Rattle.std.proofs.lemmas.Bool.{cases_Bool}
use Rattle.std.proofs.lemmas.List.{append_assoc}
use Rattle.std.specs.List.{flat_map}
use Rattle.csv.proofs.RoundTrip.{read-write-many}
use Rattle.csv.specs.Machine.{next_record}
use Rattle.csv.specs.Reading.{default_config}
use Rattle.csv.specs.Writing.{default_writer, escaped, fields_text, is_blank, quote_mark, row_body, row_text}
use Rattle.csv.specs.declared.parser.State.TheVariants.{StartRecord}
use Rattle.output.proofs.PlainFields.{IsPlain}
use Rattle.output.specs.Quoted.{quoted_field, quoted_line}
use Rattle.output.specs.ReadBack.{AreReadBack}
use Rattle.output.specs.steps.Quoting.{escaped_byte}

-- A field that calls for no quotes is written as it is.
pub plain_field : (field : List ℕ) → IsPlain field → quoted_field field ≡ field
plain_field field plain = rw plain refl

-- A line is written as `csv` writes it.
line_is : (field : List ℕ) (more : List (List ℕ))
    → quoted_line (field ∷ more) ≡ row_body default_writer (field ∷ more) ++ codes "\n"
unfolding fields_text
line_is field [] = rw (append-nil (quoted_field field)) refl
line_is field (next ∷ more) =
    rw (line_is next more)
    (sym (append_assoc (quoted_field field) (codes "," ++ row_body default_writer (next ∷ more)) (codes "\n")))

row_is : (first next : List ℕ) (more : List (List ℕ))
    → row_text default_writer (first ∷ next ∷ more) ≡ quoted_line (first ∷ next ∷ more)
unfolding is_blank
row_is first next more = sym (line_is first (next ∷ more))

-- So it is read back.
pub are_read_back : AreReadBack
are_read_back first next more rest =
    subst
    (λ text. next_record default_config StartRecord [] [] (text ++ rest) ≡ Some (first ∷ next ∷ more, StartRecord, rest))
    (row_is first next more) (read-write-many first next more rest)

-- The bytes between quotes are written one by one.
pub escaped_is : (field : List ℕ) → flat_map escaped_byte field ≡ escaped default_writer field
unfolding escaped
escaped_is [] = refl
escaped_is (byte ∷ more) = elim (cases_Bool (byte == quote_mark)) [
  | inl quote ↦ rw (quote, escaped_is more) refl
  | inr other ↦ rw (other, escaped_is more) refl
]
