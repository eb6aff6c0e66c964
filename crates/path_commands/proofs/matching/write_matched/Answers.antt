-- RECEIVED is read and aligned, and then all is written: by lemmas on what was found.
use Rattle.std.proofs.Common.{◌∙◌, List, length, subst, sym}
use Rattle.auditing.specs.Sent.{harts_of}
use Rattle.frames.specs.Counted.{messages_in}
use Rattle.message.specs.Range.{selected}
use Rattle.message.specs.declared.message.Message.{Message}
use Rattle.auditing.specs.Aligned.{AreAligned}
use Rattle.auditing.specs.Split.{AreSplit}
use Rattle.path_commands.proofs.MatchedRuns.{matched_cut, matched_printed}
use Rattle.path_commands.specs.ReceivedCapture.{IsReadByPayloads}
use Rattle.path_commands.specs.Sides.{Sent, by_packets}
use Rattle.path_commands.specs.steps.Matching.{IsKept, ReadsCame, capture_with}
use Rattle.path_commands.proofs.matching.write_matched.Goals.{After-write_found}
use Rattle.path_commands.proofs.matching.write_matched.Goals as goal

module _ (g : _) (c : After-write_found g) (messages : List Message)
    (kept : IsKept (by_packets c.args.asked.now.packets) c.args.harts messages c.args.sent.now) where
  abbrev both : Sent
  both = record { header = c.args.sent.now.header; messages = messages }

  reads : ReadsCame c.by_packets.result messages c.args.harts (length c.args.sent.now.payloads.lists) c.args.bytes.now
      c.in_ok-came.came
  reads =
      c.in_ok-came.ensures.came messages
      (subst (λ by. IsKept by c.args.harts messages c.args.sent.now) (sym c.by_packets.ensures) kept)

  abbrev received : List Message
  received = messages_in reads.spans

  -- RECEIVED is split over as many harts, and compared in the same way.
  split : AreSplit c.args.sent.now.payloads.by (harts_of c.args.sent.now.header messages)
      (selected c.args.harts received)
      c.in_ok-came.came.lists.payloads.lists
  split =
      let lists = c.in_ok-came.came.lists.payloads in
      let own = reads.kept.lists in
      subst (λ by. AreSplit by (harts_of c.args.sent.now.header messages) (selected c.args.harts received) lists.lists)
      (reads.by ∙ c.by_packets.ensures ∙ sym kept.by)
      (subst (λ n. AreSplit lists.by n (selected c.args.harts received) lists.lists)
      (reads.each ∙ kept.split.count) own.split)

  is_came : IsReadByPayloads (by_packets c.args.asked.now.packets) messages c.args.bytes.now
      (capture_with c.in_ok-came.came reads.spans)
  is_came =
      subst (λ by. IsReadByPayloads by messages c.args.bytes.now (capture_with c.in_ok-came.came reads.spans))
      c.by_packets.ensures reads.is_came

  aligned : AreAligned (by_packets c.args.asked.now.packets) (harts_of c.args.sent.now.header messages)
      (selected c.args.harts messages) (selected c.args.harts received) c.as_slice.result.now
  aligned =
      let harts = harts_of c.args.sent.now.header messages in
      subst (λ by. AreAligned by harts (selected c.args.harts messages)
      (selected c.args.harts received) c.as_slice.result.now) kept.by
      (subst (AreAligned c.args.sent.now.payloads.by harts (selected c.args.harts messages)
      (selected c.args.harts received)) (sym c.as_slice.ensures.value)
      (c.in_ok-all.ensures harts (selected c.args.harts messages) (selected c.args.harts received) kept.split split))

pub returns-clause-printed : goal.returns-clause-printed
returns-clause-printed g c = λ messages kept.
    let at = (goal.at.returns-clause-printed g c).After-write_found in
    let its = reads g at messages kept in
    matched_printed c.args.asked.now c.args.harts (both g at messages kept) c.args.bytes.now
    (capture_with c.in_ok-came.came its.spans)
    (is_came g at messages kept) c.as_slice.result.now (aligned g at messages kept) c.write_found.result
    (g.O.Write.contents c.args.out.now) (g.O.Write.contents c.write_found.new.out)
    (c.write_found.ensures.written its.spans its.kept)

pub returns-clause-cut : goal.returns-clause-cut
returns-clause-cut g c = λ messages kept.
    let at = (goal.at.returns-clause-cut g c).After-write_found in
    let its = reads g at messages kept in
    matched_cut c.args.asked.now c.args.harts (both g at messages kept) c.args.bytes.now
    (capture_with c.in_ok-came.came its.spans)
    (is_came g at messages kept) c.as_slice.result.now (aligned g at messages kept)
    (g.O.Write.contents c.args.out.now) (g.O.Write.contents c.write_found.new.out)
    (c.write_found.ensures.begun its.spans its.kept)
