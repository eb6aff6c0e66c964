-- That what the input begins with is read follows from all clauses of the reading together, by lemmas.
use Rattle.std.proofs.Common.{subst}
use Rattle.message.proofs.StartsRead.{Known, header_reads_back, message_reads_back}
use Rattle.message.proofs.reading.read_start.Goals.{After-first_part}
use Rattle.message.proofs.reading.read_start.Goals as goal

module _ (g : _) (c : After-first_part g) where
  -- What the reading ensures, in one.
  known : Known (g.R.Read.remaining c.args.r.now) (g.R.Read.remaining c.first_part.new.r) c.first_part.result
  known = record {
    start = c.first_part.ensures.start;
    short = c.first_part.ensures.short;
    bad_length = c.first_part.ensures.bad_length;
    bad_header = c.first_part.ensures.bad_header;
    never_write = c.first_part.ensures.never_write;
  }

pub returns-clause-header_reads_back : goal.returns-clause-header_reads_back
returns-clause-header_reads_back g c = λ header rest is from.
    header_reads_back header rest c.first_part.result _ is
    (subst (λ old. Known old (g.R.Read.remaining c.first_part.new.r) c.first_part.result) from (known g (goal.at.returns-clause-header_reads_back g c).After-first_part))

pub returns-clause-message_reads_back : goal.returns-clause-message_reads_back
returns-clause-message_reads_back g c = λ message rest is from.
    message_reads_back message rest c.first_part.result _ is
    (subst (λ old. Known old (g.R.Read.remaining c.first_part.new.r) c.first_part.result) from (known g (goal.at.returns-clause-message_reads_back g c).After-first_part))
