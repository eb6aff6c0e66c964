-- The head and the payload are written one after the other: by a lemma on what a writer holds.
use Rattle.std.proofs.Common.{subst}
use Rattle.output.specs.Begun.{AppendsBeginning}
use Rattle.output.proofs.Beginnings.{begun_behind, begun_in_front}
use Rattle.std.specs.Io.KnownBytes.{Appends}
use Rattle.message.specs.Capture.{head_bytes}
use Rattle.message.proofs.Writes.{Appends-then}
use Rattle.message.proofs.writing.write_message.Goals as goal

pub returns-clause-written : goal.returns-clause-written
returns-clause-written g c =
    Appends-then c.put-2.result _ _ _ _ (head_bytes c.args.message.now) _ c.args.message.now.payload c.head_of.ensures
    c.bytes.ensures.same c.in_ok-put.ensures.written c.put-2.ensures.written

pub returns-in_err-put-clause-begun : goal.returns-in_err-put-clause-begun
returns-in_err-put-clause-begun g c =
    let old = g.W.Write.contents c.args.w.now in
    let new = g.W.Write.contents c.put.new.w in
    let message = c.args.message.now in
    begun_in_front (head_bytes message) message.payload old new
    (subst (λ bytes. AppendsBeginning bytes old new) c.head_of.ensures c.put.ensures.begun)

pub returns-clause-begun : goal.returns-clause-begun
returns-clause-begun g c =
    let old = g.W.Write.contents c.args.w.now in
    let mid = g.W.Write.contents c.put.new.w in
    let new = g.W.Write.contents c.put-2.new.w in
    let message = c.args.message.now in
    begun_behind (head_bytes message) message.payload old mid new
    (subst (Appends old mid) c.head_of.ensures c.in_ok-put.ensures.written)
    (subst (λ bytes. AppendsBeginning bytes mid new) c.bytes.ensures.same c.put-2.ensures.begun)
