-- The layout is named: by the constructor for that.
use Rattle.std.proofs.Common.{subst, sym}
use Rattle.ffi.specs.Salvaged.{InLayout, IsSalvagedAs}
use Rattle.ffi.proofs.salvaging_capture.salvage_text.Goals as goal

pub returns-in-Some : goal.returns-in-Some
returns-in-Some c =
    InLayout c.in-Some.layout (sym c.in-Some.ensures)
    (subst (λ asked. IsSalvagedAs c.in-Some.layout c.args.image.now asked c.args.capture.now c.salvage_as.result)
    c.harts_asked.ensures c.salvage_as.ensures)
