-- What is listed of a capture, and symbols that are not read.
use Rattle.std.specs.Prelude.{ℕ, ◌≡◌, List, Option, Err}
use Rattle.listing.specs.declared.form.Form.{Form}
use Rattle.rvclass.specs.Image.{Image}
use Rattle.symbols.specs.declared.fault.SymbolsFault.{SymbolsFault}
use Rattle.symbols.specs.declared.fault.SymbolsFault.TheVariants.{Memory}
use Rattle.ffi.specs.Listed.{HasListing, symbols_in}
use Rattle.ffi.specs.Listed.{HasTreated}
use Rattle.ffi.specs.declared.listing_capture.Account.{Account}
use Rattle.ffi.specs.declared.listing_capture.Account.TheVariants.{Decoded, Salvaged}
use Rattle.ffi.specs.declared.texts.TextEnd.{TextEnd}

-- The text says this of each message of a capture, and this is how it ends.
abbrev pub HasAccount : Account → List ℕ → Form → Image → Option (List ℕ) → List ℕ → TextEnd → Type 0
HasAccount (Decoded harts) capture = HasListing harts capture
HasAccount (Salvaged asked) capture = HasTreated asked capture

-- The symbols of bytes are not read, for this reason; or an allocation failed.
abbrev pub AreNotRead : List ℕ → SymbolsFault → Type 0
AreNotRead bytes Memory = Unit {0}
AreNotRead bytes why = symbols_in bytes ≡ Err why
