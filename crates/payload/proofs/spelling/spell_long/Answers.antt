-- The search does not join the two parts of a number of 142 bits.
use Rattle.std.proofs.Common.{◌+◌, ◌*◌, ◌^◌, ap, ◌∙◌, arith}
use Rattle.payload.specs.Bytes.{low_bytes}
use Rattle.payload.proofs.LongNumbers.{shortest_clear, shortest_set}
use Rattle.payload.proofs.spelling.spell_long.Goals as goal

pub returns-then-rest : goal.returns-then-rest
returns-then-rest c =
    c.of_low_bytes_long.ensures
    ∙ ap (low_bytes c.byte_count_long.result) (omega arith)
    ∙ shortest_clear (c.args.head + 2 ^ 78 * c.args.rest) c.byte_count_long.result (omega arith)
    c.byte_count_long.ensures.value

pub returns-else-rest : goal.returns-else-rest
returns-else-rest c =
    c.of_low_bytes_long-else-rest.ensures
    ∙ shortest_set (c.args.head + 2 ^ 78 * c.args.rest) c.byte_count_long-count.result _ _ (omega arith) (omega arith)
    (omega arith) c.byte_count_long-count.ensures.value
