-- A text of which the front is written.
use Rattle.std.proofs.Common.{◌≡◌, ℕ, List, [], ◌++◌, Option, refl, sym, subst, ◌∙◌, append-nil}
use Rattle.std.proofs.KnownBytes.{Appends-trans}
use Rattle.std.proofs.lemmas.List.{append_assoc}
use Rattle.std.specs.Io.KnownBytes.{Appends}
use Rattle.output.specs.Begun.{AppendsBeginning}
use Rattle.output.proofs.Beginnings.{begun_between}
use Rattle.std.proofs.KnownBytes.{Appends-nil}

-- The front of a text was appended, and this is left of it.
pub record HasWritten (whole rest : List ℕ) (old new : Option (List ℕ)) : Type 0 where
  pub front : List ℕ
  pub parted : whole ≡ front ++ rest
  pub appended : Appends old new front

-- At first all is left.
pub part_none : (whole : List ℕ) (old : Option (List ℕ)) → HasWritten whole whole old old
part_none whole old = record { front = []; parted = refl; appended = Appends-nil old }

-- One part more is written.
pub part_more : (whole part rest : List ℕ) (old mid new : Option (List ℕ)) → HasWritten whole (part ++ rest) old mid
    → Appends mid new part → HasWritten whole rest old new
part_more whole part rest old mid new has more = record {
  front = has.front ++ part;
  parted = has.parted ∙ sym (append_assoc has.front part rest);
  appended = Appends-trans old mid new has.front part has.appended more;
}

-- A beginning of the next part is written.
pub part_begun : (whole part rest : List ℕ) (old mid new : Option (List ℕ)) → HasWritten whole (part ++ rest) old mid
    → AppendsBeginning part mid new → AppendsBeginning whole old new
part_begun whole part rest old mid new has begun =
    subst (λ text. AppendsBeginning text old new) (sym has.parted)
    (begun_between has.front part rest old mid new has.appended begun)

-- Nothing is left.
pub part_all : (whole : List ℕ) (old new : Option (List ℕ)) → HasWritten whole [] old new → Appends old new whole
part_all whole old new has = subst (Appends old new) (sym (has.parted ∙ append-nil has.front)) has.appended
