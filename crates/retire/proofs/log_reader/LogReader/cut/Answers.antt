-- That a text is cut between two records is a lemma, which no search finds.
use Rattle.std.proofs.Common.{◌≡◌, arith, rules, subst, take}
use Rattle.retire.specs.steps.Place.{place_after}
use Rattle.retire.specs.declared.boundary.Place.TheVariants as place
use Rattle.retire.proofs.StandsLemmas.{splits-all, splits-start}
use Rattle.retire.proofs.log_reader.LogReader.cut.Goals as goal

pub returns-then-self-clause-splits : goal.returns-then-self-clause-splits
returns-then-self-clause-splits g c =
    splits-all c.args.self.now.held.items c.len.result c.args.self.now.is_ended (search (rules, arith)) c.if-self.true

pub returns-else-self-clause-splits : goal.returns-else-self-clause-splits
returns-else-self-clause-splits g c =
    splits-start c.args.self.now.held.items c.boundary.result c.args.self.now.is_ended
    (subst (λ t. place_after place.Start (take c.boundary.result t) ≡ place.Start) c.deref.ensures.value
    c.boundary.ensures.starts)
