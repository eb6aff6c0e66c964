-- The spans are read one after the other: by lemmas on parts of a text, which no tactic finds.
use Rattle.std.proofs.Common.{◌≡◌, ◌∙◌, [], length, refl, sym, ap, subst}
use Rattle.std.specs.Io.KnownBytes.{Appends}
use Rattle.output.specs.Begun.{AppendsBeginning}
use Rattle.output.proofs.Beginnings.{begun_in_front, whole_begun}
use Rattle.frames.specs.Borrowed.{span_of}
use Rattle.frames.specs.Passages.{spans_from, spans_left}
use Rattle.auditing.proofs.Sights.{sight_kept}
use Rattle.auditing.specs.Seen.{sight_of}
use Rattle.path_commands.proofs.SpanRows.{HasRead, read_all, read_begun, read_more, read_none, read_notes, read_text}
use Rattle.path_commands.specs.Rows.{front_row, front_rows, span_row, span_rows}
use Rattle.path_commands.specs.steps.Noting.{noted_more}
use Rattle.path_commands.proofs.received.take_spans.Goals as goal

pub returns-in_err-write_text-clause-begun : goal.returns-in_err-write_text-clause-begun
returns-in_err-write_text-clause-begun g c = λ sent audits short.
    begun_in_front (front_row c.args.report.format)
    (span_rows c.args.path.now.by c.args.report sent [] (spans_left
    (sight_of c.args.path.now.by sent) c.args.spans))
    (g.O.Write.contents c.args.out.now) (g.O.Write.contents c.write_text.new.out) c.write_text.ensures.begun

pub loop-passage-init : goal.loop-passage-init
loop-passage-init g c = (
  λ sent audits short.
      read_none c.args.path.now.by c.args.report sent (spans_left
      (sight_of c.args.path.now.by sent) c.args.spans)
      c.args.path.now c.args.noted.now _ (length c.args.spans.bytes) (g.O.Write.contents c.args.out.now)
      (g.O.Write.contents c.write_text.new.out) refl audits c.requires.fresh c.in_ok-write_text.ensures.whole,
  refl,
  refl,
)

pub loop-passage-preserved : goal.loop-passage-preserved
loop-passage-preserved g c =
    let how = c.args.path.now.by in
    let path = c.loop-passage.path in
    let left = c.loop-passage.left in
    let next = c.next_passage.new.self in
    let span = span_of c.in-Some.passage in
    let old = g.O.Write.contents c.args.out.now in
    let mid = g.O.Write.contents c.loop-passage.out in
    let new = g.O.Write.contents c.write_passage.new.out in
    let by_is = c.loop-passage.invariant.1 in (
      λ sent audits short.
          let sees = sight_of how sent in
          let all = spans_left sees c.args.spans in
          let has = c.loop-passage.invariant.0 sent audits short in
          let step = c.in-Some.ensures.spans sees
          (λ message. sight_kept sent has.taken path message has.audits ∙ ap (λ h. sight_of h sent message) by_is) in
          subst
          (λ progress. HasRead how c.args.report sent all
          (spans_left sees next) c.write_passage.new.path
          c.write_passage.new.noted progress
          (length next.bytes) (length c.args.spans.bytes) old new) (sym c.after-progress.ensures)
          (read_more how c.args.report sent all
          (spans_left sees next) path c.loop-passage.noted c.loop-passage.progress (length left.bytes)
          (length c.args.spans.bytes) old mid span
          (subst
          (λ rest. HasRead how c.args.report sent all rest path c.loop-passage.noted
          c.loop-passage.progress (length left.bytes)
          (length c.args.spans.bytes) old mid) step has) c.write_passage.new.path c.write_passage.new.noted
          (length next.bytes) new short
          c.in-Some.ensures.sizes.0 c.in-Some.ensures.sizes.1 (c.write_passage.ensures.audits sent)
          (λ received is.
          subst (λ h. c.write_passage.new.noted ≡ noted_more h c.args.report.harts sent received c.loop-passage.noted
          c.loop-passage.progress.messages span) by_is
          (c.in_ok-write_passage.ensures.noted sent received is))
          (λ received is place.
          subst (λ h. Appends mid new (span_row h c.args.report sent received span)) by_is
          (c.in_ok-write_passage.ensures.text sent received is place))),
      c.write_passage.ensures.by ∙ by_is,
      c.write_passage.ensures.header ∙ c.loop-passage.invariant.2,
    )

pub returns-in_err-write_passage-clause-begun : goal.returns-in_err-write_passage-clause-begun
returns-in_err-write_passage-clause-begun g c = λ sent audits short.
    let how = c.args.path.now.by in
    let path = c.loop-passage.path in
    let left = c.loop-passage.left in
    let next = c.next_passage.new.self in
    let span = span_of c.in-Some.passage in
    let old = g.O.Write.contents c.args.out.now in
    let mid = g.O.Write.contents c.loop-passage.out in
    let new = g.O.Write.contents c.write_passage.new.out in
    let by_is = c.loop-passage.invariant.1 in
    let sees = sight_of how sent in
    let all = spans_left sees c.args.spans in
    let has = c.loop-passage.invariant.0 sent audits short in
    let step = c.in-Some.ensures.spans sees
    (λ message. sight_kept sent has.taken path message has.audits ∙ ap (λ h. sight_of h sent message) by_is) in
    read_begun how c.args.report sent all
    (spans_left sees next) path c.loop-passage.noted c.loop-passage.progress (length left.bytes)
    (length c.args.spans.bytes) old mid span
    (subst
    (λ rest. HasRead how c.args.report sent all rest path c.loop-passage.noted c.loop-passage.progress
    (length left.bytes)
    (length c.args.spans.bytes) old mid) step has) new
    (λ received is place.
    subst (λ h. AppendsBeginning (span_row h c.args.report sent received span) mid new) by_is
    (c.write_passage.ensures.begun sent received is place))

pub returns-in_err-write_passage-clause-by : goal.returns-in_err-write_passage-clause-by
returns-in_err-write_passage-clause-by g c = c.write_passage.ensures.by ∙ c.loop-passage.invariant.1

pub returns-in_err-write_passage-clause-header : goal.returns-in_err-write_passage-clause-header
returns-in_err-write_passage-clause-header g c = c.write_passage.ensures.header ∙ c.loop-passage.invariant.2

pub returns-clause-audits : goal.returns-clause-audits
returns-clause-audits g c = λ sent audits short.
    let how = c.args.path.now.by in
    let sees = sight_of how sent in
    let left = c.loop-passage.left in
    let has = c.loop-passage.invariant.0 sent audits short in
    let none = ap (spans_from sees left.offset) (c.in_default.ensures.end refl) in
    read_all how c.args.report sent
    (spans_left sees c.args.spans) c.loop-passage.path c.loop-passage.noted c.loop-passage.progress
    (length left.bytes) (length c.args.spans.bytes) (g.O.Write.contents c.args.out.now)
    (g.O.Write.contents c.loop-passage.out)
    (subst
    (λ rest. HasRead how c.args.report sent
    (spans_left sees c.args.spans) rest c.loop-passage.path c.loop-passage.noted c.loop-passage.progress
    (length left.bytes) (length c.args.spans.bytes) (g.O.Write.contents c.args.out.now)
    (g.O.Write.contents c.loop-passage.out)) none has)

pub returns-clause-noted : goal.returns-clause-noted
returns-clause-noted g c = λ sent audits short.
    let how = c.args.path.now.by in
    let sees = sight_of how sent in
    let left = c.loop-passage.left in
    let has = c.loop-passage.invariant.0 sent audits short in
    let none = ap (spans_from sees left.offset) (c.in_default.ensures.end refl) in
    read_notes how c.args.report sent
    (spans_left sees c.args.spans) c.loop-passage.path c.loop-passage.noted c.loop-passage.progress
    (length left.bytes) (length c.args.spans.bytes) (g.O.Write.contents c.args.out.now)
    (g.O.Write.contents c.loop-passage.out)
    (subst
    (λ rest. HasRead how c.args.report sent
    (spans_left sees c.args.spans) rest c.loop-passage.path c.loop-passage.noted c.loop-passage.progress
    (length left.bytes) (length c.args.spans.bytes) (g.O.Write.contents c.args.out.now)
    (g.O.Write.contents c.loop-passage.out)) none has)

pub returns-clause-text : goal.returns-clause-text
returns-clause-text g c = λ sent audits short.
    let how = c.args.path.now.by in
    let sees = sight_of how sent in
    let left = c.loop-passage.left in
    let has = c.loop-passage.invariant.0 sent audits short in
    let none = ap (spans_from sees left.offset) (c.in_default.ensures.end refl) in
    read_text how c.args.report sent
    (spans_left sees c.args.spans) c.loop-passage.path c.loop-passage.noted c.loop-passage.progress
    (length left.bytes) (length c.args.spans.bytes) (g.O.Write.contents c.args.out.now)
    (g.O.Write.contents c.loop-passage.out)
    (subst
    (λ rest. HasRead how c.args.report sent
    (spans_left sees c.args.spans) rest c.loop-passage.path c.loop-passage.noted c.loop-passage.progress
    (length left.bytes) (length c.args.spans.bytes) (g.O.Write.contents c.args.out.now)
    (g.O.Write.contents c.loop-passage.out)) none has)

pub returns-clause-begun : goal.returns-clause-begun
returns-clause-begun g c = λ sent audits short.
    whole_begun
    (front_rows c.args.path.now.by c.args.report sent (spans_left
    (sight_of c.args.path.now.by sent) c.args.spans))
    (g.O.Write.contents c.args.out.now) (g.O.Write.contents c.loop-passage.out) (returns-clause-text g c sent audits short)
