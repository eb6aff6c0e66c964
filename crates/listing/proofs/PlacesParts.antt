-- The text of places, part by part.
use Rattle.std.proofs.Common.{◌≡◌, ◌≤◌, ◌++◌, ℕ, zero, suc, List, Option, codes, subst, append_assoc, arith}
use Rattle.std.specs.Fmt.{decimal}
use Rattle.std.specs.Io.KnownBytes.{Appends}
use Rattle.std.proofs.KnownBytes.{Appends-trans}
use Rattle.output.specs.Begun.{AppendsBeginning}
use Rattle.output.proofs.Beginnings.{begun_behind, begun_in_front}
use Rattle.listing.specs.EffectText.{place_text, places_text}

module _ (symbols : Option (List ℕ)) (count first last : ℕ) (several : 2 ≤ count) where
  abbrev counted : List ℕ
  counted = decimal count ++ codes " events, "

  abbrev from : List ℕ
  from = place_text symbols first

  abbrev to : List ℕ
  to = place_text symbols last

  abbrev text : List ℕ
  text = places_text symbols count first last

  parted : counted ++ (from ++ (codes " to " ++ to)) ≡ text
  parted = by_count count several
    where
      by_count : (n : ℕ) → 2 ≤ n → (decimal n ++ codes " events, ") ++ (from ++ (codes " to " ++ to))
          ≡ places_text symbols n first last
      by_count zero several = absurd (omega (arith, several))
      by_count (suc zero) several = absurd (omega (arith, several))
      by_count (suc (suc more)) several =
          append_assoc (decimal (suc (suc more))) (codes " events, ") (from ++ (codes " to " ++ to))

  -- A beginning of the count was written.
  pub count_begun : (old new : Option (List ℕ)) → AppendsBeginning counted old new → AppendsBeginning text old new
  count_begun old new begun =
      subst (λ l. AppendsBeginning l old new) parted
      (begun_in_front counted (from ++ (codes " to " ++ to)) old new begun)

  module _ (old one : Option (List ℕ)) (begins : Appends old one counted) where
    -- It was written, and a beginning of the first place.
    pub first_begun : (new : Option (List ℕ)) → AppendsBeginning from one new → AppendsBeginning text old new
    first_begun new begun =
        subst (λ l. AppendsBeginning l old new) parted
        (begun_behind counted (from ++ (codes " to " ++ to)) old one new begins
        (begun_in_front from (codes " to " ++ to) one new begun))

    module _ (two : Option (List ℕ)) (goes_on : Appends one two from) where
      -- Both were written, and a beginning of the word between the places.
      pub between_begun : (new : Option (List ℕ)) → AppendsBeginning (codes " to ") two new
          → AppendsBeginning text old new
      between_begun new begun =
          subst (λ l. AppendsBeginning l old new) parted
          (begun_behind counted (from ++ (codes " to " ++ to)) old one new begins
          (begun_behind from (codes " to " ++ to) one two new goes_on
          (begun_in_front (codes " to ") to two new begun)))

      module _ (three : Option (List ℕ)) (between : Appends two three (codes " to ")) (new : Option (List ℕ)) where
        -- All but the last place was written, and a beginning of that.
        pub last_begun : AppendsBeginning to three new → AppendsBeginning text old new
        last_begun begun =
            subst (λ l. AppendsBeginning l old new) parted
            (begun_behind counted (from ++ (codes " to " ++ to)) old one new begins
            (begun_behind from (codes " to " ++ to) one two new goes_on
            (begun_behind (codes " to ") to two three new between begun)))

        -- All was written.
        pub places_written : Appends three new to → Appends old new text
        places_written ends =
            subst (Appends old new) parted
            (Appends-trans old one new counted (from ++ (codes " to " ++ to)) begins
            (Appends-trans one two new from (codes " to " ++ to) goes_on
            (Appends-trans two three new (codes " to ") to between ends)))
