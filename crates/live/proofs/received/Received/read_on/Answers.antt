-- What is left stays where some of it is read: by lemmas on the buffer, which no tactic finds.
use Rattle.std.proofs.Common.{◌∙◌, ◌+◌, ◌-◌, ◌++◌, ap, drop, length, rules, take}
use Rattle.std.proofs.lemmas.List.{with_items_is, places}
use Rattle.std.specs.Vec.{with_items}
use Rattle.live.specs.ReceivedLeft.{ReceivedHeld}
use Rattle.live.proofs.ReceivedBuffer.{held_more, left_more}
use Rattle.live.proofs.received.Received.read_on.Goals as goal

pub returns-in-Ok-clause-reads : goal.returns-in-Ok-clause-reads
returns-in-Ok-clause-reads g c = λ rest left.
    let s = c.self.inside in
    let old = c.deref_mut.result.now in
    let new = c.read_after.new.buffer in
    let count = c.in-Ok.count in
    let items = with_items_is s.buffer new (search (rules, places)) in
    let bytes = ap (λ (own : ReceivedHeld). own.bytes) c.self.view_is in
    let next : ReceivedHeld = record {
      harts = s.harts;
      offset = s.offset;
      bytes = drop s.start (take (s.end + count) (with_items s.buffer new).items);
      ended = s.ended;
      most = length (with_items s.buffer new).items;
      room = length (with_items s.buffer new).items - (s.end + count);
    } in
    left_more c.args.self.now next (g.R.FileReader.left c.args.reader.now) (g.R.FileReader.left c.read_after.new.reader) rest
    (take count (drop s.end new)) left c.in-Ok.ensures.read.0
    (ap (λ l. drop s.start (take (s.end + count) l)) items
    ∙ held_more old new s.start s.end count (search rules) (search rules) c.read_after.ensures.length c.read_after.ensures.kept
    ∙ ap (λ l. drop s.start (take s.end l) ++ take count (drop s.end new)) (search rules)
    ∙ ap (λ l. l ++ take count (drop s.end new)) bytes)
    (ap (λ (own : ReceivedHeld). own.ended) c.self.view_is)
