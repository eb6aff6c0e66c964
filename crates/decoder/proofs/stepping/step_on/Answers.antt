-- The clauses of a plain step are asked for a word, which no search names.
use Rattle.std.proofs.Common.{◌≡◌, Some}
use Rattle.rvclass.specs.Fetch.{words_of}
use Rattle.rvclass.specs.declared.class.Class.TheVariants.{Plain}
use Rattle.decoder.proofs.stepping.step_on.Goals as goal

pub returns-in-Some-Plain-default-clause-carries : goal.returns-in-Some-Plain-default-clause-carries
returns-in-Some-Plain-default-clause-carries c =
    let at : words_of c.args.program.now c.args.addr ≡ Some (Plain, c.in-Some-Plain-default.length) = cc in
    c.step_plain.ensures.carries (words_of c.args.program.now) at
