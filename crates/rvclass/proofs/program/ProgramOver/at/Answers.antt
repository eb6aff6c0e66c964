-- What every program keeps is a lemma about images, which the prover is given with the program's own invariant.
use Rattle.std.proofs.Common.{◌∙◌, ap, subst}
use Rattle.rvclass.specs.FetchedBytes.{BeginsWithHalf}
use Rattle.rvclass.proofs.FetchLemmas.{by_fetch}
use Rattle.rvclass.proofs.WordsLemmas.{words_of-IsProgram, words_of-LiesIn}
use Rattle.rvclass.specs.steps.ByFetch.{word_by_fetch}
use Rattle.rvclass.proofs.program.ProgramOver.at.Goals as goal

pub returns-clause-word : goal.returns-clause-word
returns-clause-word c =
    rw (← c.self.view_is)
    (c.word_of.ensures ∙ ap (word_by_fetch c.args.addr) c.fetch.ensures.what
    ∙ by_fetch _ c.args.addr (subst (BeginsWithHalf _ c.args.addr) c.fetch.ensures.what c.fetch.ensures.low))

pub returns-clause-kept : goal.returns-clause-kept
returns-clause-kept c = rw (← c.self.view_is) (words_of-IsProgram _ c.self.invariant)

pub returns-clause-within : goal.returns-clause-within
returns-clause-within c = rw (← c.self.view_is) (words_of-LiesIn _ c.self.invariant)
