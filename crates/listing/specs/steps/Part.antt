-- The listing of messages that begin somewhere, and its parts.
use Rattle.std.specs.Prelude.{ℕ, ◌≡◌, ◌++◌, Bool, List, Option, None}
use Rattle.rvclass.specs.Fetch.{words_of}
use Rattle.captures.specs.declared.outcome.CaptureFault.{CaptureFault}
use Rattle.listing.specs.Listing.{AreMessagesListed, names_in}
use Rattle.listing.specs.declared.capture_listing.Start.{Start}
use Rattle.listing.specs.declared.input.ListInput.{ListInput}

-- The text is the listing of the messages of bytes, which begin there, of so many harts.
abbrev pub AreListedFrom : {S : Type 0} → ListInput S → ℕ → Start → List ℕ → List Bool
    → Option (ℕ × CaptureFault) → List ℕ → Type 0
AreListedFrom input harts start bytes closed stop text =
    AreMessagesListed (words_of input.program.now) input.form input.only harts start.announced (names_in input)
    start.first bytes closed stop text

-- Or the listing of a front of them that decodes to its end.
pub data IsPartOfMessages {S : Type 0} (input : ListInput S) (harts : ℕ) (start : Start) (bytes text : List ℕ)
    : Type 0 where
  OfAll : (closed : List Bool) (stop : Option (ℕ × CaptureFault))
      → AreListedFrom input harts start bytes closed stop text → IsPartOfMessages input harts start bytes text
  OfFront : (front back : List ℕ) (closed : List Bool) → bytes ≡ front ++ back
      → AreListedFrom input harts start front closed None text → IsPartOfMessages input harts start bytes text
