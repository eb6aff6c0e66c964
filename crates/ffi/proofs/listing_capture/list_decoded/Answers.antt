-- What was listed is behind nothing.
use Rattle.std.proofs.Common.{◌≡◌, ◌∙◌, ◌++◌, ap, option_map, subst, sym}
use Rattle.listing.specs.Listing.{IsListing}
use Rattle.message.specs.Range.{every_hart}
use Rattle.rvclass.specs.Fetch.{words_of}
use Rattle.ffi.proofs.listing_capture.list_decoded.Goals as goal

pub returns : goal.returns
returns c =
    let is = c.in_ok-listed.ensures.listed in
    let listed = c.in_ok-listed.listed in
    let text : c.list_capture.new.sink.items ≡ is.text =
    is.appended ∙ ap (λ l. l ++ is.text) c.new-listed_text.ensures.items in
    record {
      closed = listed.closed.items;
      stop = listed.fault;
      listed = subst (λ t. IsListing (words_of c.args.program.now) c.args.format every_hart c.args.harts
          (option_map (λ file. file.now) c.args.symbols) c.args.capture.now listed.closed.items listed.fault t)
          (sym text) is.listed;
      ended = c.end_of-end.ensures;
    }
