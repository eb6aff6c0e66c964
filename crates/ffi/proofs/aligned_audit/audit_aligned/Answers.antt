-- What is found of the alignments is what is reported: no tactic puts the audit together.
use Rattle.std.proofs.Common.{◌≡◌, ◌∙◌, ap, arith, drop, length, map, subst}
use Rattle.std.proofs.lemmas.Grind.{common_steps}
use Rattle.auditing.specs.Aligned.{AreAligned}
use Rattle.auditing.specs.PayloadSights.{payload_spans}
use Rattle.auditing.specs.Sent.{harts_of}
use Rattle.frames.specs.Counted.{messages_in}
use Rattle.frames.specs.Start.{first_place}
use Rattle.ffi.specs.AuditedAll.{byte_runs, path_end}
use Rattle.ffi.specs.AuditedUnnumbered.{aligned_reported, all_unmatched, first_told, matched_arrivals, strangers_among}
use Rattle.ffi.proofs.aligned_audit.audit_aligned.Goals as goal

pub returns-clause-found : goal.returns-clause-found
returns-clause-found c =
    let own = c.in-Ok.own in
    let came = c.in_ok-came.came in
    let read = c.in_ok-came.ensures in
    let all = c.in_ok-all.all.items in
    let from = first_place came.start.header in
    let count : own.harts ≡ harts_of own.header own.messages.items = c.in-Ok.ensures.harts in
    let many : c.len.result ≡ length c.in_ok-lost.lost.items = grind (arith, common_steps) in
    let strangers = c.strangers_among-strangers.ensures ∙ ap strangers_among c.as_slice-6.ensures.value in
    let first = c.first_told-first.ensures ∙ ap first_told c.as_slice-7.ensures.value in
    record {
      header = own.header;
      was_sent = own.messages.items;
      came_with = came.start.header;
      fault = came.start.fault;
      spans = came.spans.items;
      all = all;
      is_sent = c.in-Ok.ensures.read;
      starts = read.starts;
      spans_are = read.spans_are
          ∙ ap (λ sent. payload_spans c.args.by sent from (drop from c.args.received.now)) c.as_slice.ensures.value;
      aligned = subst (λ n. AreAligned c.args.by n own.messages.items (messages_in came.spans.items) all) count
          c.in_ok-all.ensures;
      rows_are = c.in_ok-rows.ensures ∙ ap (map aligned_reported) c.as_slice-4.ensures.value;
      arrivals_are = c.in_ok-arrivals.ensures.0
          ∙ (λ i. matched_arrivals (c.as_slice-2.ensures.value i) (c.as_slice-3.ensures.value i));
      lost_are = c.in_ok-lost.ensures ∙ ap all_unmatched c.as_slice-5.ensures.value;
      runs_are = c.in_ok-arrivals.ensures.1 ∙ ap byte_runs c.as_slice-3.ensures.value;
      end_is = c.end_of-end.ensures
          ∙ (λ i. path_end own.header came.start.header came.start.fault (c.as_slice-8.ensures.value i)
          (length c.in_ok-arrivals.arrivals.items) (many i) (length c.in_ok-arrivals.runs.items) (read.counted i)
          (strangers i) (first i));
    }
