-- The search does not cut the bytes of a number.
use Rattle.std.proofs.Common.{◌+◌, ◌*◌, ◌^◌, take, ap, ◌∙◌}
use Rattle.payload.proofs.ByteLists.{take-low_bytes}
use Rattle.payload.proofs.payload.Payload.of_low_bytes_long.Goals as goal

pub returns : goal.returns
returns c =
    c.truncate.ensures.items ∙ ap (take c.args.count) (c.from-bytes.ensures.0 ∙ c.bytes_of.ensures)
    ∙ take-low_bytes c.args.count 18 (c.args.low + 2 ^ 128 * c.args.high) c.requires.few
