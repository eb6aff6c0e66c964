-- The listing of no messages.
use Rattle.std.proofs.Common.{◌≡◌, ℕ, false, [], None, replicate, refl}
use Rattle.std.proofs.lemmas.List.{length-replicate}
use Rattle.std.proofs.lemmas.List.Elements.{All-nil, All-replicate}
use Rattle.rvclass.specs.Fetch.{words_of}
use Rattle.rvclass.specs.Words.{Words}
use Rattle.decoder.specs.Describes.{Describes}
use Rattle.message.proofs.Elements.{All-slice_get}
use Rattle.message.specs.Cut.{IsMessage}
use Rattle.receiver.specs.Agreeing.{Agrees}
use Rattle.receiver.specs.Holds.{AreDecoded}
use Rattle.listing.specs.declared.capture_listing.Start.{Start}
use Rattle.listing.specs.declared.input.ListInput.{ListInput}
use Rattle.listing.specs.steps.Part.{AreListedFrom}

-- No messages decode to no events, and close no hart.
pub none_decoded : (words : Words) (harts : ℕ)
    → AreDecoded (λ hart. words) harts [] (replicate harts []) (replicate harts false)
none_decoded words harts = record {
  lists_count = length-replicate harts [];
  closed_count = length-replicate harts false;
  described = λ hart list is.
      All-slice_get (Describes words []) (replicate harts []) hart list is
      (All-replicate (Describes words []) harts []
      (record { begins = tt; pieces = []; whole = refl; legal = tt; each = tt }));
  are_closed = λ hart flag is.
      All-slice_get (λ flag. flag ≡ false) (replicate harts false) hart flag is
      (All-replicate (λ flag. flag ≡ false) harts false refl);
}

-- They have no entries.
pub none_listed : {S : Type 0} (input : ListInput S) (harts : ℕ) (start : Start)
    → AreListedFrom input harts start [] (replicate harts false) None []
none_listed input harts start = record {
  messages = [];
  rest = [];
  ranges = All-nil IsMessage;
  whole = refl;
  accepted = tt;
  agree = All-nil (Agrees start.announced);
  lists = replicate harts [];
  decoded = none_decoded (words_of input.program.now) harts;
  stops = refl;
  effects = [];
  have = tt;
  last = [];
  last_entry = refl;
  entries = refl;
}
