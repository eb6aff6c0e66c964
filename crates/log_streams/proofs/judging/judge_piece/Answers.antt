-- The hypotheses on the events that were seen are handed to the callees.
use Rattle.std.proofs.Common.{◌∙◌, ◌++◌, None, ap, arith, length-append, sym}
use Rattle.std.specs.List.{last_or}
use Rattle.std.proofs.lemmas.List.Elements.{All-append}
use Rattle.legalpath.proofs.FollowOnLemmas.{last_or-append}
use Rattle.retire.specs.Is64Bit.{Is64Bit}
use Rattle.retire.specs.Log.{most_long_rows}
use Rattle.rvclass.specs.Fetch.{words_of}
use Rattle.legalpath.specs.LegalUpTo.{IsLegalUpTo}
use Rattle.log_streams.proofs.judging.judge_piece.Goals as goal

pub pass-requires : goal.pass-requires
pass-requires g c =
    let counted = c.requires.judged.passed.counted in
    let both = length-append c.requires.seen c.args.piece.now in
    let few = c.requires.few in omega (arith, counted, both, few)

pub returns-in-Some : goal.returns-in-Some
returns-in-Some g c = λ hart seen judged few.
    c.in-Some.ensures (words_of c.args.program.now) seen judged.last (c.rows-rows.ensures ∙ judged.passed.counted)
    (c.in-Err.ensures.first seen judged.passed)

pub returns-in-None : goal.returns-in-None
returns-in-None g c = λ hart seen judged few. tt

pub returns : goal.returns
returns g c = λ hart seen judged few.
    let piece = c.args.piece.now in
    let passed = c.in_default.ensures.passed seen judged.passed in
    let numbers = All-append Is64Bit seen piece judged.numbers c.in_default.ensures.numbers in
    let legal : IsLegalUpTo most_long_rows c.args.program.now (seen ++ piece) =
    record { legal = passed.legal; short = few; numbers = numbers; image = c.byte_count.ensures.kept } in
    record {
      passed = passed;
      numbers = numbers;
      keeps = c.in_ok-add.ensures hart seen judged.keeps legal;
      last = c.last_event-judging.ensures ∙ ap (λ before. last_or before piece) judged.last
          ∙ sym (last_or-append None seen piece);
    }
