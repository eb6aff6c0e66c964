-- What is written of a listing that does not reach its end.
use Rattle.std.specs.Prelude.{ℕ, ◌≡◌, ◌++◌, Bool, List, Option, None}
use Rattle.output.specs.Begun.{AppendsBeginning}
use Rattle.message.specs.declared.range.HartRange.{HartRange}
use Rattle.rvclass.specs.Words.{Words}
use Rattle.captures.specs.declared.outcome.CaptureFault.{CaptureFault}
use Rattle.listing.specs.Listing.{IsListing}
use Rattle.listing.specs.declared.form.Form.{Form}

-- The text is the listing of what a capture has of these harts, or of what a front of it has of them that decodes to its
-- end: a header, if there is one, and whole messages. The listing of the capture begins with the listing of such a front.
pub data IsPartOfListing (words : Words) (form : Form) (only : HartRange) (harts : ℕ) (symbols : Option (List ℕ))
    (bytes text : List ℕ) : Type 0 where
  OfAll : (closed : List Bool) (stop : Option (ℕ × CaptureFault))
      → IsListing words form only harts symbols bytes closed stop text
      → IsPartOfListing words form only harts symbols bytes text
  OfFront : (front back : List ℕ) (closed : List Bool) → bytes ≡ front ++ back
      → IsListing words form only harts symbols front closed None text
      → IsPartOfListing words form only harts symbols bytes text

-- A beginning was appended of a text that is, by this relation, a part of a listing.
pub record BeginsPart (IsText : List ℕ → Type 0) (old new : Option (List ℕ)) : Type 0 where
  pub text : List ℕ
  pub part : IsText text
  pub begun : AppendsBeginning text old new
