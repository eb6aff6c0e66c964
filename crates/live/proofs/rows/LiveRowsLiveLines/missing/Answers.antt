-- The line is not counted: by a lemma on the counts of the harts, which no tactic finds.
use Rattle.std.proofs.Common.{refl}
use Rattle.live.specs.Lines.{Missing}
use Rattle.live.proofs.Counting.{counts_same}
use Rattle.live.proofs.rows.LiveRowsLiveLines.missing.Goals as goal

pub returns : goal.returns
returns g c = counts_same c.args.self.now (Missing c.args._hart c.args._lost) (λ own. refl) (λ others. refl)
