-- The prover does not part what is written at the bytes that are not written: a lemma on that is handed to it.
use Rattle.std.proofs.Common.{Global, List, subst, ℕ}
use Rattle.std.specs.declared.vec.Vec.{Vec}
use Rattle.output.specs.Begun.{AppendsBeginning}
use Rattle.output.proofs.Items.{item_begun, items_front}
use Rattle.log_commands.proofs.encoding.write_joined.Goals as goal

-- The bytes of one log.
abbrev bytes_in : Vec ℕ Global → List ℕ
bytes_in bytes = bytes.items

pub returns-in_err-write_bytes-clause-begun : goal.returns-in_err-write_bytes-clause-begun
returns-in_err-write_bytes-clause-begun g c =
    let contents = g.O.Write.contents in
    let mid = contents c.loop-bytes.out in
    let new = contents c.write_bytes.new.out in
    let messages = c.args.messages.now in
    let place = c.loop-bytes.bytes-index in
    let old = contents c.args.out.now in
    item_begun bytes_in messages place old mid (items_front bytes_in messages place old mid c.loop-bytes.invariant)
    c.bytes-item.result new c.loop-bytes-test.true
    (subst (λ (bytes : Vec ℕ Global). AppendsBeginning (bytes_in bytes) mid new) c.bytes-item.is
    (subst (λ text. AppendsBeginning text mid new) c.as_slice.ensures.value c.write_bytes.ensures.begun))
