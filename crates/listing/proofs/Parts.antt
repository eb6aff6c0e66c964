-- Listings of messages behind a header, or of messages alone, are those of captures.
use Rattle.std.proofs.Common.{◌≡◌, ◌++◌, ℕ, Bool, false, List, [], Option, Some, None, replicate, refl, sym, ap, subst}
use Rattle.std.proofs.Common.{◌∙◌, Result, Ok, Err, OnErr, append-nil, append_assoc}
use Rattle.std.specs.Io.KnownBytes.{Appends}
use Rattle.std.proofs.KnownBytes.{Appends-nil, Appends-trans}
use Rattle.output.specs.Begun.{AppendsBeginning}
use Rattle.output.proofs.Beginnings.{begun_behind}
use Rattle.rvclass.specs.Fetch.{words_of}
use Rattle.message.specs.Header.{IsMarked, header_bytes, mark}
use Rattle.message.specs.declared.fault.MessageFault.{MessageFault}
use Rattle.message.specs.declared.header.Header.{Header}
use Rattle.captures.specs.NoMessage.{BeginsNoHeader}
use Rattle.captures.specs.Whole.{BeginsWith}
use Rattle.captures.specs.declared.outcome.CaptureFault.{CaptureFault}
use Rattle.captures.specs.declared.outcome.CaptureFault.TheVariants as fault
use Rattle.listing.proofs.NothingListed.{none_listed}
use Rattle.listing.specs.Begun.{BeginsPart, IsPartOfListing}
use Rattle.listing.specs.Entries.{start_text}
use Rattle.listing.specs.Listing.{AppendsListing, IsListing, names_in}
use Rattle.listing.specs.declared.input.ListInput.{ListInput}
use Rattle.listing.specs.steps.Part.{AreListedFrom, IsPartOfMessages}
use Rattle.listing.specs.steps.Started.{IsListedBehind, IsPartBehind, harts_by, start_of}

-- A front of bytes that do not begin with the mark does not either.
unmarked_front : (front back bytes : List ℕ) → bytes ≡ front ++ back → ¬ IsMarked bytes → ¬ IsMarked front
unmarked_front front back bytes parted unmarked = λ marked.
    unmarked (marked.0 ++ back, parted ∙ ap (λ l. l ++ back) marked.1 ∙ append_assoc mark marked.0 back)

module _ {S : Type 0} (input : ListInput S) (harts : ℕ) where
  -- The listing of a capture, and a part of it.
  abbrev AreListed : List ℕ → List Bool → Option (ℕ × CaptureFault) → List ℕ → Type 0
  AreListed bytes = IsListing (words_of input.program.now) input.form input.only harts (names_in input) bytes

  abbrev IsPart : List ℕ → List ℕ → Type 0
  IsPart bytes = IsPartOfListing (words_of input.program.now) input.form input.only harts (names_in input) bytes

  -- What comes before the messages.
  abbrev start : Option Header → List ℕ
  start header = start_text input.form header

  -- What is listed behind a header, or without one, is the listing of the capture.
  listing_by : (bytes rest : List ℕ) (header : Option Header) (closed : List Bool) (stop : Option (ℕ × CaptureFault))
      (text : List ℕ) → BeginsWith header bytes rest
      → IsListedBehind input harts header rest closed stop text
      → AreListed bytes closed stop text
  listing_by bytes rest None closed stop text begins behind =
      IsListing.Version1 behind.entries begins.0
      (subst (λ bytes. AreListedFrom input harts (start_of None) bytes closed stop behind.entries)
      (sym begins.1) behind.listed) behind.whole
  listing_by bytes rest (Some header) closed stop text begins behind =
      IsListing.Version2 header rest behind.entries begins.0 begins.1 behind.listed behind.whole

  -- And a part of it is a part of that listing.
  front_by : (bytes rest front back : List ℕ) (header : Option Header) (closed : List Bool) (text : List ℕ)
      → BeginsWith header bytes rest → rest ≡ front ++ back
      → IsListedBehind input harts header front closed None text
      → IsPart bytes text
  front_by bytes rest front back None closed text begins parted behind =
      let whole : bytes ≡ front ++ back = begins.1 ∙ parted in
      IsPartOfListing.OfFront front back closed whole
      (listing_by front front None closed None text (unmarked_front front back bytes whole begins.0, refl) behind)
  front_by bytes rest front back (Some header) closed text begins parted behind =
      let all = header_bytes header in
      IsPartOfListing.OfFront (all ++ front) back closed
      (begins.1 ∙ ap (λ l. all ++ l) parted ∙ sym (append_assoc all front back))
      (listing_by (all ++ front) front (Some header) closed None text (begins.0, refl) behind)

  part_by : (bytes rest : List ℕ) (header : Option Header) (text entries : List ℕ) → BeginsWith header bytes rest
      → text ≡ start header ++ entries
      → IsPartOfMessages input (harts_by header harts) (start_of header) rest entries
      → IsPart bytes text
  part_by bytes rest header text entries begins whole (IsPartOfMessages.OfAll closed stop listed) =
      IsPartOfListing.OfAll closed stop
      (listing_by bytes rest header closed stop text begins
      (record { entries = entries; listed = listed; whole = whole }))
  part_by bytes rest header text entries begins whole (IsPartOfMessages.OfFront front back closed parted listed) =
      front_by bytes rest front back header closed text begins parted
      (record { entries = entries; listed = listed; whole = whole })

  module _ (bytes rest : List ℕ) (header : Option Header) (begins : BeginsWith header bytes rest)
      (old new : Option (List ℕ)) where
    -- The listing of the capture was written.
    pub capture_listed : (closed : List Bool) (stop : Option (ℕ × CaptureFault))
        → AppendsListing (IsListedBehind input harts header rest) closed stop old new
        → AppendsListing (AreListed bytes) closed stop old new
    capture_listed closed stop all = record {
      text = all.text;
      listed = listing_by bytes rest header closed stop all.text begins all.listed;
      appended = all.appended;
    }

    -- A beginning of it was.
    pub capture_begun : BeginsPart (IsPartBehind input harts header rest) old new
        → BeginsPart (IsPart bytes) old new
    capture_begun some = record {
      text = some.text;
      part = part_by bytes rest header some.text some.part.entries begins some.part.whole some.part.part;
      begun = some.begun;
    }

  -- Where the header is cut short or bad, what comes before messages is the listing.
  pub nothing_listed : (bytes : List ℕ) (why : MessageFault) (closed : List Bool) (old new : Option (List ℕ))
      → BeginsNoHeader bytes why → closed ≡ replicate harts false → Appends old new (start None)
      → AppendsListing (AreListed bytes) closed (Some (0, fault.Message why)) old new
  nothing_listed bytes why closed old new begins none_closed written = record {
    text = start None;
    listed = IsListing.NoHeader why begins refl none_closed refl;
    appended = written;
  }

  -- Or a beginning of it.
  pub nothing_begun : (bytes : List ℕ) (why : MessageFault) (old new : Option (List ℕ)) → BeginsNoHeader bytes why
      → AppendsBeginning (start None) old new
      → BeginsPart (IsPart bytes) old new
  nothing_begun bytes why old new begins begun = record {
    text = start None;
    part = IsPartOfListing.OfAll (replicate harts false) (Some (0, fault.Message why))
        (IsListing.NoHeader why begins refl refl refl);
    begun = begun;
  }

  -- No messages are listed with what comes before them alone.
  part_empty : (rest : List ℕ) (header : Option Header)
      → IsPartBehind input harts header rest (start header)
  part_empty rest header = record {
    entries = [];
    part = IsPartOfMessages.OfFront [] rest (replicate (harts_by header harts) false) refl
        (none_listed input (harts_by header harts) (start_of header));
    whole = sym (append-nil (start header));
  }

  -- Nothing was written.
  pub start_kept : (rest : List ℕ) (header : Option Header) (old : Option (List ℕ))
      → BeginsPart (IsPartBehind input harts header rest) old old
  start_kept rest header old = record {
    text = start header;
    part = part_empty rest header;
    begun = record { text = []; rest = start header; parted = refl; appended = Appends-nil old };
  }

  -- A beginning of what comes before messages was written.
  pub start_begun : (rest : List ℕ) (header : Option Header) (old new : Option (List ℕ))
      → AppendsBeginning (start header) old new
      → BeginsPart (IsPartBehind input harts header rest) old new
  start_begun rest header old new begun =
      record { text = start header; part = part_empty rest header; begun = begun }

  module _ (rest : List ℕ) (header : Option Header) (old mid new : Option (List ℕ)) where
    -- It was written, and then the listing of the messages.
    pub messages_listed : (closed : List Bool) (stop : Option (ℕ × CaptureFault))
        → Appends old mid (start header)
        → AppendsListing (AreListedFrom input (harts_by header harts) (start_of header) rest) closed stop mid new
        → AppendsListing (IsListedBehind input harts header rest) closed stop old new
    messages_listed closed stop line all = record {
      text = start header ++ all.text;
      listed = record { entries = all.text; listed = all.listed; whole = refl };
      appended = Appends-trans old mid new (start header) all.text line all.appended;
    }

    -- And then a beginning of it.
    pub messages_begun : Appends old mid (start header)
        → BeginsPart (IsPartOfMessages input (harts_by header harts) (start_of header) rest) mid new
        → BeginsPart (IsPartBehind input harts header rest) old new
    messages_begun line some = record {
      text = start header ++ some.text;
      part = record { entries = some.text; part = some.part; whole = refl };
      begun = begun_behind (start header) some.text old mid new line some.begun;
    }

-- What holds either way holds of a fault.
pub on_err_given : {T E P : Type 0} (r : Result T E) → P → OnErr r P
on_err_given (Ok value) p = tt
on_err_given (Err why) p = p
