-- The spans are taken one after the other: by a lemma on what is left, which no tactic finds.
use Rattle.std.proofs.Common.{◌≡◌, ◌∙◌, ◌++◌, ◌∷◌, [], length, sym, ap, subst}
use Rattle.auditing.proofs.Sights.{sight_kept}
use Rattle.auditing.specs.Seen.{sight_of}
use Rattle.frames.specs.Borrowed.{span_of}
use Rattle.frames.specs.Passages.{spans_left}
use Rattle.ffi.proofs.PathWalk.{HasWalked, walked_more}
use Rattle.ffi.specs.AuditedAll.{arrivals_after}
use Rattle.ffi.proofs.path_arrivals.take_spans.Goals as goal

pub loop-passage-preserved : goal.loop-passage-preserved
loop-passage-preserved c =
    let how = c.args.path.now.by in
    let path = c.loop-passage.path in
    let after = c.take_passage.new.path in
    let left = c.loop-passage.left in
    let next = c.next_passage.new.self in
    let span = span_of c.in-Some.passage in
    let size = length c.args.spans.bytes in
    let came = c.args.arrivals.now.items in
    let arrivals = c.loop-passage.arrivals.items in
    let more_arrivals = c.take_passage.new.arrivals.items in
    let ran = c.args.runs.now.items in
    let runs = c.loop-passage.runs.items in
    let more_runs = c.take_passage.new.runs.items in
    let by_is = c.loop-passage.invariant.1 in (
      λ sent audits short.
          let sees = sight_of how sent in
          let all = spans_left sees c.args.spans in
          let has = c.loop-passage.invariant.0 sent audits short in
          let step = c.in-Some.ensures.spans sees
          (λ message. sight_kept sent has.taken path message has.audits ∙ ap (λ h. sight_of h sent message) by_is) in
          subst
          (λ n. HasWalked how sent all (spans_left sees next) after came more_arrivals ran more_runs n
          (length next.bytes) size) (sym c.saturating_add-bytes.ensures)
          (walked_more how sent all (spans_left sees next) path after came arrivals more_arrivals ran runs more_runs
          c.loop-passage.bytes c.in_ok-more.more (length left.bytes) (length next.bytes) size span
          (subst
          (λ rest. HasWalked how sent all rest path came arrivals ran runs c.loop-passage.bytes (length left.bytes) size)
          step has)
          (c.take_passage.ensures.audits sent)
          (λ received is.
          subst (λ h. more_arrivals ≡ arrivals ++ arrivals_after h sent received (span ∷ [])) by_is
          (c.in_ok-more.ensures.arrivals sent received is))
          c.in_ok-more.ensures.runs c.in_ok-more.ensures.bytes short c.in-Some.ensures.sizes.0
          c.in-Some.ensures.sizes.1),
      c.take_passage.ensures.same.0 ∙ by_is,
      c.take_passage.ensures.same.1 ∙ c.loop-passage.invariant.2,
      c.take_passage.ensures.same.2 ∙ c.loop-passage.invariant.3,
    )
