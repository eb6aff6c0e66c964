-- What is written of the names at the end of a row.
use Rattle.std.proofs.Common.{◌≡◌, ◌++◌, ℕ, List, Option, codes, subst}
use Rattle.std.specs.Io.KnownBytes.{Appends}
use Rattle.std.proofs.KnownBytes.{Appends-trans}
use Rattle.output.specs.Begun.{AppendsBeginning}
use Rattle.output.proofs.Beginnings.{begun_behind, begun_between, begun_in_front}
use Rattle.symbols.specs.Nearest.{Naming}
use Rattle.listing.specs.Cells.{names_end, naming_cells}
use Rattle.listing.specs.Rows.{naming_at}

module _ (symbols : Option (List ℕ)) (first last : Option ℕ) (one two : Option Naming)
    (is_one : one ≡ naming_at symbols first) (is_two : two ≡ naming_at symbols last) where
  -- The names are those of the two places.
  names_are : naming_cells one ++ (codes "," ++ (naming_cells two ++ codes "\n")) ≡ names_end symbols first last
  names_are = λ i. naming_cells (is_one i) ++ (codes "," ++ (naming_cells (is_two i) ++ codes "\n"))

  module _ (old mid : Option (List ℕ)) where
    -- A beginning of the first name was written.
    pub first_begun : AppendsBeginning (naming_cells one) old mid → AppendsBeginning (names_end symbols first last) old mid
    first_begun begun =
        subst (λ l. AppendsBeginning l old mid) names_are
        (begun_in_front (naming_cells one) (codes "," ++ (naming_cells two ++ codes "\n")) old mid begun)

    module _ (named : Appends old mid (naming_cells one)) (next : Option (List ℕ)) where
      -- It was written, and a beginning of the comma after it.
      pub comma_begun : AppendsBeginning (codes ",") mid next → AppendsBeginning (names_end symbols first last) old next
      comma_begun begun =
          subst (λ l. AppendsBeginning l old next) names_are
          (begun_between (naming_cells one) (codes ",") (naming_cells two ++ codes "\n") old mid next named begun)

      module _ (parted : Appends mid next (codes ",")) (late : Option (List ℕ)) where
        -- Both were written, and a beginning of the second name.
        pub second_begun : AppendsBeginning (naming_cells two) next late
            → AppendsBeginning (names_end symbols first last) old late
        second_begun begun =
            subst (λ l. AppendsBeginning l old late) names_are
            (begun_behind (naming_cells one) (codes "," ++ (naming_cells two ++ codes "\n")) old mid late named
            (begun_between (codes ",") (naming_cells two) (codes "\n") mid next late parted begun))

        module _ (other : Appends next late (naming_cells two)) (new : Option (List ℕ)) where
          -- All but the line feed was written, and a beginning of this.
          pub end_begun : AppendsBeginning (codes "\n") late new → AppendsBeginning (names_end symbols first last) old new
          end_begun begun =
              subst (λ l. AppendsBeginning l old new) names_are
              (begun_behind (naming_cells one) (codes "," ++ (naming_cells two ++ codes "\n")) old mid new named
              (begun_behind (codes ",") (naming_cells two ++ codes "\n") mid next new parted
              (begun_behind (naming_cells two) (codes "\n") next late new other begun)))

          -- All was written.
          pub names_written : Appends late new (codes "\n") → Appends old new (names_end symbols first last)
          names_written ended =
              subst (Appends old new) names_are
              (Appends-trans old mid new (naming_cells one) (codes "," ++ (naming_cells two ++ codes "\n")) named
              (Appends-trans mid next new (codes ",") (naming_cells two ++ codes "\n") parted
              (Appends-trans next late new (naming_cells two) (codes "\n") other ended)))
