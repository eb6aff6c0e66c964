-- The format is named: by the constructor for that.
use Rattle.std.proofs.Common.{sym}
use Rattle.ffi.specs.Listed.{InFormat}
use Rattle.ffi.proofs.listing_capture.list_text.Goals as goal

pub returns-in-Some : goal.returns-in-Some
returns-in-Some c = InFormat c.in-Some.format (sym c.in-Some.ensures) c.list_as.ensures
