-- The text says what is asked for.
use Rattle.std.proofs.Common.{option_map, subst, sym}
use Rattle.std.specs.Prelude.{IfOk}
use Rattle.ffi.specs.steps.Listing.{HasAccount}
use Rattle.ffi.specs.declared.texts.Written.{Written}
use Rattle.ffi.proofs.listing_capture.list_by.Goals as goal

pub returns-in-Decoded : goal.returns-in-Decoded
returns-in-Decoded c =
    subst (λ a. IfOk c.list_decoded.result (λ (written : Written). HasAccount a c.args.capture.now c.args.format
    c.args.program.now (option_map (λ file. file.now) c.args.symbols) written.text.items written.end))
    (sym c.in-Decoded.is) c.list_decoded.ensures

pub returns-in-Salvaged : goal.returns-in-Salvaged
returns-in-Salvaged c =
    subst (λ a. IfOk c.treat_by.result (λ (written : Written). HasAccount a c.args.capture.now c.args.format
    c.args.program.now (option_map (λ file. file.now) c.args.symbols) written.text.items written.end))
    (sym c.in-Salvaged.is) c.treat_by.ensures
