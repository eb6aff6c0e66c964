-- What was taken of both captures is what is reported: no tactic puts the audit together.
use Rattle.std.proofs.Common.{◌≡◌, ◌∙◌, length, subst, arith}
use Rattle.std.proofs.lemmas.Grind.{common_steps}
use Rattle.auditing.specs.Findings.{first_found}
use Rattle.auditing.specs.Judged.{strangers_in}
use Rattle.auditing.specs.Known.{known_all}
use Rattle.auditing.specs.Sent.{harts_of}
use Rattle.frames.specs.Counted.{messages_in}
use Rattle.ffi.specs.AuditedAll.{all_lost, all_rows, path_end}
use Rattle.ffi.specs.steps.Walking.{HasCome}
use Rattle.ffi.proofs.path_all.audit_path.Goals as goal

pub returns-clause-found : goal.returns-clause-found
returns-clause-found c =
    let started = c.in-Ok.ensures.audits in
    let sent = started.0 in
    let header = c.in-Ok.path.header in
    let came = c.in_ok-came.came in
    let path = c.take_received.new.path in
    let come =
    subst (λ h. HasCome h sent c.args.received.now path came) c.in-Ok.ensures.by
    (c.in_ok-came.ensures.come sent started.2) in
    let by_is : path.by ≡ c.args.by = c.take_received.ensures.by ∙ c.in-Ok.ensures.by in
    let received = messages_in come.spans in
    let count : length path.harts ≡ harts_of header sent = c.take_received.ensures.harts ∙ started.2.count in
    let many : c.len.result ≡ length c.in_ok-lost.lost.items = grind (arith, common_steps) in
    let strangers =
    c.strangers-strangers.ensures sent received come.audits come.few
    ∙ (λ i. strangers_in (known_all (by_is i) sent) (known_all (by_is i) received)) in
    let first =
    c.first-first.ensures sent received come.audits come.few
    ∙ (λ i. first_found (known_all (by_is i) sent) (known_all (by_is i) received)) in
    let own = c.header.ensures ∙ c.take_received.ensures.header in
    let rows = c.as_slice.ensures.value in
    record {
      header = header;
      was_sent = sent;
      came_with = came.start.header;
      fault = came.start.fault;
      spans = come.spans;
      is_sent = started.1;
      starts = come.starts;
      spans_are = come.spans_are;
      rows_are = c.in_ok-rows.ensures sent received come.audits come.few
          ∙ (λ i. all_rows (known_all (by_is i) sent) (known_all (by_is i) received) (count i));
      arrivals_are = come.arrivals;
      lost_are = c.in_ok-lost.ensures sent received come.audits
          ∙ (λ i. all_lost (known_all (by_is i) sent) (known_all (by_is i) received) (count i));
      runs_are = come.runs;
      end_is = c.end_of-end.ensures
          ∙ (λ i. path_end (own i) came.start.header came.start.fault (rows i) (length came.arrivals.items) (many i)
          (length came.runs.items) (come.bytes_are i) (strangers i) (first i));
    }
