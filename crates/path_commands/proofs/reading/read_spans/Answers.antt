-- One span more is kept: by lemmas on spans, which no tactic finds.
use Rattle.std.proofs.Common.{◌∙◌, ap, length, refl, subst}
use Rattle.frames.specs.Passages.{spans_from, spans_left}
use Rattle.path_commands.proofs.ReadSpans.{HasTaken, taken_all, taken_more, taken_none}
use Rattle.path_commands.proofs.reading.read_spans.Goals as goal

pub loop-span-init : goal.loop-span-init
loop-span-init c = (
  λ sees same short.
      taken_none c.args.harts (spans_left sees c.args.spans) c.args.fresh (length c.args.spans.bytes) c.requires.fresh,
  refl,
  refl,
  refl,
)

pub loop-span-preserved : goal.loop-span-preserved
loop-span-preserved c =
    let left = c.loop-span.left in
    let next = c.next.new.self in
    let own = c.loop-span.own in
    let takes = c.in_ok-take_span.ensures in
    let size = length c.args.spans.bytes in
    let each = length c.args.fresh.lists.payloads.lists in (
      λ sees same short.
          let all = spans_left sees c.args.spans in
          taken_more c.args.harts each all (spans_left sees next) own c.take_span.new.own (length left.bytes)
          (length next.bytes) size c.in-Some.span short c.in-Some.ensures.sizes.0 c.in-Some.ensures.sizes.1
          (subst (λ rest. HasTaken c.args.harts each all rest own (length left.bytes) size)
          (c.in-Some.ensures.spans sees same) (c.loop-span.invariant.0 sees same short)) takes,
      takes.header ∙ c.loop-span.invariant.1,
      takes.fault ∙ c.loop-span.invariant.2,
      takes.by ∙ c.loop-span.invariant.3,
    )

pub returns-clause-kept : goal.returns-clause-kept
returns-clause-kept c = λ sees same short.
    let left = c.loop-span.left in
    let all = spans_left sees c.args.spans in
    let size = length c.args.spans.bytes in
    let each = length c.args.fresh.lists.payloads.lists in
    taken_all c.args.harts each all c.loop-span.own (length left.bytes) size
    (subst (λ rest. HasTaken c.args.harts each all rest c.loop-span.own (length left.bytes) size)
    (ap (spans_from sees left.offset) (c.in_default.ensures.end refl)) (c.loop-span.invariant.0 sees same short))
