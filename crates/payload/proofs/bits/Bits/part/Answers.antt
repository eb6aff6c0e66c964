-- The search does not find that a field below the bit 128 is one of the low part.
use Rattle.std.proofs.Common.{ap, ◌∙◌}
use Rattle.payload.specs.Faults.{part}
use Rattle.payload.proofs.WideNumbers.{low_part}
use Rattle.payload.proofs.bits.Bits.part.Goals as goal

pub returns : goal.returns
returns c =
    low_part c.self.inside.low c.self.inside.high c.args.from c.args.width c.requires.some c.requires.inside
    c.requires.narrow ∙ ap (λ n. part n c.args.from c.args.width) c.self.view_is
