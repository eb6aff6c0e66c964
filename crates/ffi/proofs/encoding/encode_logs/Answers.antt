-- All numbers are within their ranges: by the constructor for that.
use Rattle.std.proofs.Common.{subst}
use Rattle.captures.specs.Versions.{capture_of}
use Rattle.ffi.specs.Encoded.{InRange, IsMade}
use Rattle.ffi.proofs.encoding.encode_logs.Goals as goal

pub returns-in-Some : goal.returns-in-Some
returns-in-Some c =
    let named = c.in-Some.settings in
    InRange named.mode named.version c.in-Some.ensures.within
    (subst
    (λ n. IsMade c.args.image.now c.args.logs.now c.args.ends.now (capture_of named.version n named.mode)
    c.encode_in.result) c.in-Some.ensures.period c.encode_in.ensures)
