-- What is kept is of the messages that were checked: by a lemma, and the prover makes no record by itself.
use Rattle.std.proofs.Common.{subst}
use Rattle.auditing.specs.Sent.{IsSent}
use Rattle.path_commands.proofs.ByHartLemmas.{kept_by, same_front}
use Rattle.path_commands.specs.Sides.{by_packets}
use Rattle.path_commands.proofs.keeping.keep_sent.Goals as goal

pub returns-clause-held : goal.returns-clause-held
returns-clause-held c =
    let held = c.in_ok-front.ensures.held in
    let front = c.in_ok-front.front in
    let whole = c.in_ok-whole.whole in
    let read = c.in_ok-whole.ensures in
    let sent = subst (λ bytes. IsSent bytes front.0 held.0) c.as_slice-content.ensures.value held.1 in
    record {
      messages = held.0;
      sent = sent;
      kept =
          kept_by (by_packets c.args.asked.now.packets) c.by_packets-by.result c.args.harts c.args.bytes front.0 front.1
          held.0 read.front.0 whole.lists
          c.by_packets-by.ensures read.by read.count held.2
          (same_front c.as_slice-content.result.now front.0 whole.header held.0 read.front.0 whole.stop held.1.whole read.front.1)
          read.front.2 sent;
    }
