-- What is held is what was decoded: by a lemma on lists, which no tactic finds.
use Rattle.std.proofs.Common.{sym, subst}
use Rattle.receiver.proofs.HoldLemmas.{holds_decoded}
use Rattle.receiver.specs.Holds.{Holds}
use Rattle.receiver.proofs.receiving.Receiver.into_parts.Goals as goal

pub returns-clause-decoded : goal.returns-clause-decoded
returns-clause-decoded g c = λ programs harts messages holds.
    holds_decoded programs harts messages _ (subst (Holds programs harts messages) (sym c.self.view_is) holds)
