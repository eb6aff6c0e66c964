-- One span more: by lemmas on spans, which no tactic finds.
use Rattle.std.proofs.Common.{◌<◌, ◌≤◌, ◌∙◌, ◌++◌, ap, append-nil, arith, length, sym}
use Rattle.std.proofs.lemmas.List.{drop_all, get_or_read}
use Rattle.ffi.specs.AuditedAll.{byte_runs}
use Rattle.ffi.specs.AuditedUnnumbered.{arrivals_from, matched_arrivals}
use Rattle.ffi.proofs.AlignedSpans.{arrived_more, runs_more}
use Rattle.ffi.proofs.aligned_harts.matched_spans.Goals as goal

pub loop-span-preserved : goal.loop-span-preserved
loop-span-preserved c =
    let spans = c.args.spans.now in
    let place = c.loop-span.span-index in
    let span = c.span-item.result in
    let within : place < length spans = omega arith in
    let is = sym (get_or_read spans place span within c.span-item.is span) in (
      arrived_more spans place span within is c.loop-span.states.items c.add_arrival.new.states.items
          c.loop-span.arrivals.items c.add_arrival.new.arrivals.items (matched_arrivals c.args.all.now spans)
          c.loop-span.invariant.0 c.in_ok-add_arrival.ensures.arrived c.in_ok-add_arrival.ensures.moved,
      runs_more spans place span within is c.loop-span.runs.items c.add_run.new.runs.items (byte_runs spans)
          c.loop-span.invariant.1 c.in_ok-add_run.ensures,
    )

pub returns : goal.returns
returns c =
    let spans = c.args.spans.now in
    let past : length spans ≤ c.loop-span.span-index = omega arith in
    let none = drop_all c.loop-span.span-index spans past in (
      sym (append-nil c.loop-span.arrivals.items)
          ∙ ap (λ s. c.loop-span.arrivals.items ++ arrivals_from c.loop-span.states.items s) (sym none)
          ∙ c.loop-span.invariant.0,
      sym (append-nil c.loop-span.runs.items)
          ∙ ap (λ s. c.loop-span.runs.items ++ byte_runs s) (sym none) ∙ c.loop-span.invariant.1,
    )
