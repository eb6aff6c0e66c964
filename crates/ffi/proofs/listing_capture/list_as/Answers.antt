-- What was listed by the program of the image and by the symbols is what is said of the bytes of both.
use Rattle.std.proofs.Common.{subst}
use Rattle.ffi.specs.steps.Listing.{HasAccount}
use Rattle.ffi.proofs.listing_capture.list_as.Goals as goal

pub returns-in-Ok-list_by : goal.returns-in-Ok-list_by
returns-in-Ok-list_by c =
    let written = c.in-Ok-list_by.written in (
      c.in-Ok.program,
      c.in-Ok-symbols_of.symbols,
      c.in-Ok.is,
      c.in-Ok-symbols_of.ensures.read,
      subst (λ f. HasAccount c.args.account c.args.capture.now c.args.format c.in-Ok.program f written.text.items
          written.end) c.as_ref.ensures.value c.in-Ok-list_by.ensures,
    )
