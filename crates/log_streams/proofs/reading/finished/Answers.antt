use Rattle.std.proofs.Common.{◌≤◌, arith, length}
use Rattle.retire.specs.Log.{most_long_rows}
use Rattle.legalpath.specs.LegalUpTo.{IsLegalUpTo}
use Rattle.log_streams.proofs.reading.finished.Goals as goal

pub returns-in-Ok-clause-finished : goal.returns-in-Ok-clause-finished
returns-in-Ok-clause-finished g c = λ most hart seen bound judged few.
    let image = c.byte_count.ensures.kept in
    let short : length seen ≤ most_long_rows = omega (arith, bound, few) in
    let legal : IsLegalUpTo most_long_rows c.args.program.now seen =
    record { legal = judged.passed.legal; short = short; numbers = judged.numbers; image = image } in (
      record { legal = judged.passed.legal; short = few; numbers = judged.numbers; image = image },
      c.in-Ok.ensures hart seen judged.keeps legal,
    )
