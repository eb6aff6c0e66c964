-- No more is alike than the log has, so the row after is no more than a number of 64 bits.
use Rattle.std.proofs.Common.{◌∙◌, ◌+◌, ap, arith}
use Rattle.std.proofs.Math.Nat.{min-eq_left}
use Rattle.comparing.proofs.AlikePieces.{alike_few}
use Rattle.comparing.proofs.pieces.Comparing.row.Goals as goal

pub returns : goal.returns
returns c = λ decoded seen has few.
    let alike = has.alike in
    let short = alike_few decoded seen in
    c.saturating_add.ensures ∙ min-eq_left (omega (arith, alike, short, few)) ∙ ap (λ n. n + 1) alike
