-- The prover is handed the events that were read and checked so far.
use Rattle.std.proofs.Common.{◌≤◌, ◌++◌, [], Ok, ap, arith, inl, inr, length, refl, subst, sym}
use Rattle.std.proofs.KnownBytes.{Keeps-refl, Keeps-trans}
use Rattle.std.proofs.lemmas.List.Elements.{All-from_recursion}
use Rattle.retire.specs.HasRead.{HasRead}
use Rattle.retire.specs.Is64Bit.{Is64Bit}
use Rattle.retire.specs.Log.{most_long_rows}
use Rattle.rvclass.specs.Fetch.{words_of}
use Rattle.log_streams.specs.steps.Judging.{IsJudged}
use Rattle.log_streams.specs.steps.Reading.{IsWholeLog}
use Rattle.log_streams.proofs.ReadingLemmas.{finished-log, piece-read}
use Rattle.log_streams.proofs.reading.made_of.Goals as goal

pub loop-init : goal.loop-init
loop-init g c = (
  record {
    seen = [];
    read = c.requires;
    judged = record {
      passed = c.new.ensures.none (words_of c.args.program.now);
      numbers = All-from_recursion Is64Bit [] tt;
      keeps = c.in-Ok.ensures;
      last = refl;
    };
  },
  Keeps-refl _,
)

-- An allocation failed before a log was read.
pub returns-in_default : goal.returns-in_default
returns-in_default g c = record { made = inl (inr refl); refused = tt; kept = Keeps-refl _ }

pub returns-in-Ok-false : goal.returns-in-Ok-false
returns-in-Ok-false g c = record {
  made =
      let given = g.S.Source.given in
      let left = g.S.Source.left in
      let on = c.loop.invariant.0 in
      let end = c.in-Ok-false.ensures.end c.args.most on.seen on.read (ap Ok c.in-Ok-false.field-0-test) in
      let whole : IsWholeLog given left c.args.most c.next.new.self on.seen = record { ended = end.1; log = end.2 } in
      let bound : c.args.most ≤ most_long_rows = omega (arith, c.ranges.most.fits) in
      finished-log given left c.args.most (g.T.LogTask.Makes c.args.task.now c.args.program.now)
      (g.T.LogTask.MakesOfIllegal c.args.task.now c.args.program.now) c.args.program.now c.args.hart on.seen
      c.next.new.self c.finished.result whole
      (c.finished.ensures.finished c.args.most c.args.hart on.seen bound on.judged on.read.few);
  refused = c.finished.ensures.refused;
  kept = Keeps-trans _ _ _ c.loop.invariant.1 c.next.ensures.kept;
}

pub returns-in-Err : goal.returns-in-Err
returns-in-Err g c = record {
  made = let on = c.loop.invariant.0 in c.in-Err.ensures.faults c.args.most on.seen on.read;
  refused = tt;
  kept = Keeps-trans _ _ _ c.loop.invariant.1 c.next.ensures.kept;
}

pub returns-in-Ok-Some : goal.returns-in-Ok-Some
returns-in-Ok-Some g c =
    let on = c.loop.invariant.0 in
    let more = subst (λ piece. HasRead g.S.Source.given g.S.Source.left c.args.most (on.seen ++ piece) c.next.new.self)
    (sym c.deref.ensures.value)
    (piece-read g.S.Source.given g.S.Source.left c.args.most on.seen c.clear.new.self.items c.next.new.events.items
    c.next.new.self c.clear.ensures.items (c.in-Ok-true.ensures.goes_on c.args.most on.seen on.read)) in
    let few : length (on.seen ++ c.deref.result.now) ≤ most_long_rows = omega (arith, c.ranges.most.fits, more.few) in
    record {
      made = c.made_of_illegal.ensures.made c.args.most c.args.hart (on.seen ++ c.deref.result.now) more
          (subst (IsJudged (g.T.LogTask.Keeps c.args.task.now c.args.program.now c.args.hart) c.args.program.now
          (on.seen ++ c.deref.result.now) c.judge_piece.new.judging) c.in-Ok-Some.field-0-is
          (c.in-Ok-Some.ensures c.args.hart on.seen on.judged few));
      refused = c.made_of_illegal.ensures.refused;
      kept = Keeps-trans _ _ _ (Keeps-trans _ _ _ c.loop.invariant.1 c.next.ensures.kept) c.made_of_illegal.ensures.kept;
    }

pub returns-in-Err-judge_piece : goal.returns-in-Err-judge_piece
returns-in-Err-judge_piece g c = record {
  made = inl (inr refl);
  refused = tt;
  kept = Keeps-trans _ _ _ c.loop.invariant.1 c.next.ensures.kept;
}

pub loop-preserved : goal.loop-preserved
loop-preserved g c =
    let on = c.loop.invariant.0 in
    let more = subst (λ piece. HasRead g.S.Source.given g.S.Source.left c.args.most (on.seen ++ piece) c.next.new.self)
    (sym c.deref.ensures.value)
    (piece-read g.S.Source.given g.S.Source.left c.args.most on.seen c.clear.new.self.items c.next.new.events.items
    c.next.new.self c.clear.ensures.items (c.in-Ok-true.ensures.goes_on c.args.most on.seen on.read)) in
    let few : length (on.seen ++ c.deref.result.now) ≤ most_long_rows = omega (arith, c.ranges.most.fits, more.few) in (
      record {
        seen = on.seen ++ c.deref.result.now;
        read = more;
        judged = subst (IsJudged (g.T.LogTask.Keeps c.args.task.now c.args.program.now c.args.hart) c.args.program.now
            (on.seen ++ c.deref.result.now) c.judge_piece.new.judging) c.in-Ok-None.field-0-is
            (c.in-Ok-None.ensures c.args.hart on.seen on.judged few);
      },
      Keeps-trans _ _ _ c.loop.invariant.1 c.next.ensures.kept,
    )

pub returns : goal.returns
returns g c = record { made = inl (inr refl); refused = tt; kept = c.loop.invariant.1 }
