-- What a header decides, where a capture has one.
use Rattle.std.specs.Prelude.{ℕ, ◌≡◌, ◌++◌, Bool, List, Option, Some, None, length}
use Rattle.message.specs.Header.{header_bytes}
use Rattle.message.specs.declared.header.Header.{Header}
use Rattle.captures.specs.declared.outcome.CaptureFault.{CaptureFault}
use Rattle.listing.specs.Entries.{start_text}
use Rattle.listing.specs.declared.capture_listing.Start.{Start}
use Rattle.listing.specs.declared.input.ListInput.{ListInput}
use Rattle.listing.specs.steps.Part.{AreListedFrom, IsPartOfMessages}

-- How many harts there are: as many as the header counts, or else as are asked for.
abbrev pub harts_by : Option Header → ℕ → ℕ
harts_by None harts = harts
harts_by (Some header) harts = header.harts

-- The mode that the header announces, and the offset of the first message.
abbrev pub start_of : Option Header → Start
start_of None = record { announced = None; first = 0 }
start_of (Some header) = record { announced = Some header.mode; first = length (header_bytes header) }

-- The text is what comes before the messages, and then the listing of those after the header, if there is one.
pub record IsListedBehind {S : Type 0} (input : ListInput S) (harts : ℕ) (header : Option Header) (bytes : List ℕ)
    (closed : List Bool) (stop : Option (ℕ × CaptureFault)) (text : List ℕ) : Type 0 where
  pub entries : List ℕ
  pub listed : AreListedFrom input (harts_by header harts) (start_of header) bytes closed stop entries
  pub whole : text ≡ start_text input.form header ++ entries

-- The same of a part of that listing.
pub record IsPartBehind {S : Type 0} (input : ListInput S) (harts : ℕ) (header : Option Header) (bytes text : List ℕ)
    : Type 0 where
  pub entries : List ℕ
  pub part : IsPartOfMessages input (harts_by header harts) (start_of header) bytes entries
  pub whole : text ≡ start_text input.form header ++ entries
