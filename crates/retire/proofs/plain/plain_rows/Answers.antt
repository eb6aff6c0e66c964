-- One row more is named by hand, in the records and in the lines.
use Rattle.std.proofs.Common.{◌≡◌, ◌+◌, arith, rules, subst, sym, true}
use Rattle.std.specs.Result.{is_ok}
use Rattle.retire.specs.PlainLog.{ArePlainRows}
use Rattle.retire.proofs.PlainLogLemmas.{not_empty, plain-all, plain-next}
use Rattle.retire.proofs.ReadsLemmas.{front-more, front-none}
use Rattle.retire.proofs.plain.plain_rows.Goals as goal

pub loop-before-init : goal.loop-before-init
loop-before-init g c = record {
  so_far = front-none c.args.most c.args.rows c.args.is_ended c.args.text.now c.args.events.now.items;
  plain = λ ended plain. plain;
}

pub returns-in_default-clause-plain : goal.returns-in_default-clause-plain
returns-in_default-clause-plain g c = λ ended plain.
    let some = not_empty c.loop-before.rest.now c.is_empty.result c.is_empty.ensures c.if-is_empty.false in
    let (within, (rest, row, more)) =
    plain-next c.args.most (c.loop-before.before + 1) c.loop-before.rest.now
    (c.loop-before.invariant.plain ended plain) some in
    absurd (c.in_default.ensures.reads ended rest row)

pub loop-before-preserved : goal.loop-before-preserved
loop-before-preserved g c =
    let good : is_ok c.push.result ≡ true = search rules in
    let items = rw good at c.push.ensures.items in
    let (fields, known, left) = c.in-Some.ensures.row in
    record {
      so_far =
          front-more _ _ _ _ _ _ _ _ fields _ _ c.in-Some.plain.event c.loop-before.invariant.so_far left
          (search (rules, arith)) known items;
      plain = λ ended plain.
          let some = not_empty c.loop-before.rest.now c.is_empty.result c.is_empty.ensures c.if-is_empty.false in
          let (within, (rest, row, more)) =
          plain-next c.args.most (c.loop-before.before + 1) c.loop-before.rest.now
          (c.loop-before.invariant.plain ended plain) some in
          subst (λ t. ArePlainRows c.args.most (c.loop-before.before + 1 + 1) t) (sym
          (c.in-Some.ensures.reads ended rest row))
          more;
    }

pub returns-clause-plain : goal.returns-clause-plain
returns-clause-plain g c =
    λ ended plain. plain-all c.args.most (c.loop-before.before + 1) c.loop-before.rest.now (search (rules, arith))
    (c.loop-before.invariant.plain ended plain)
