-- All numbers are within their ranges: by the constructor for that.
use Rattle.ffi.specs.Encoded.{InRange}
use Rattle.ffi.proofs.measuring_logs.measure_logs.Goals as goal

pub returns-in-Some : goal.returns-in-Some
returns-in-Some c =
    InRange c.in-Some.settings.mode c.in-Some.settings.version c.in-Some.ensures.within c.measure_in.ensures
