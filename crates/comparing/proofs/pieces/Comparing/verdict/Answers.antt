-- The verdict by counts is that of the lists: by what was counted.
use Rattle.std.proofs.Common.{◌∙◌, ap, arith, length}
use Rattle.bench.specs.Verdict.{count_alike}
use Rattle.comparing.specs.Verdicts.{verdict_at}
use Rattle.comparing.proofs.AlikePieces.{alike_few}
use Rattle.comparing.proofs.ComparedCounts.{verdict_same, within_counted}
use Rattle.comparing.proofs.pieces.Comparing.verdict.Goals as goal

pub returns : goal.returns
returns c = λ decoded seen has few.
    let alike = has.alike in
    let short = alike_few decoded seen in
    c.verdict_at.ensures (within_counted decoded seen c.args.self.now has few)
    ∙ ap (λ n. verdict_at c.args.closed c.args.self.now.alike n c.args.self.now.events) has.counted
    ∙ verdict_same c.args.closed c.args.self.now.alike (length decoded) c.args.self.now.events
    (omega (arith, alike, short, few))
    ∙ ap (λ n. verdict_at c.args.closed n (length decoded) c.args.self.now.events) alike
    ∙ ap (λ n. verdict_at c.args.closed (count_alike decoded seen) (length decoded) n) has.events
