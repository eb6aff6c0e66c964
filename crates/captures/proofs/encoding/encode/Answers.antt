-- The messages of the harts so far and those of one more are put together by a lemma on lists.
use Rattle.std.proofs.Common.{take, sym, subst, zero-add}
use Rattle.std.proofs.lemmas.List.{take_all}
use Rattle.std.specs.Io.KnownBytes.{Appends}
use Rattle.std.specs.List.{flat_map}
use Rattle.std.proofs.KnownBytes.{Appends-trans}
use Rattle.output.specs.Begun.{AppendsBeginning}
use Rattle.output.proofs.Beginnings.{whole_begun}
use Rattle.captures.proofs.MessageTexts.{next_hart_begun, text-take_more_harts}
use Rattle.message.specs.Numbered.{messages_from}
use Rattle.captures.specs.Messages.{messages_of_harts}
use Rattle.encoder.specs.Payloads.{payloads}
use Rattle.captures.proofs.encoding.encode.Goals as goal

pub loop-hart-preserved : goal.loop-hart-preserved
loop-hart-preserved g c =
    let text = g.F.Form.text in
    let hart = c.loop-hart.hart in
    let before = flat_map text (messages_of_harts c.args.period c.args.mode 0 (take hart c.args.logs.now)) in
    let here = flat_map text (messages_from hart 0 (payloads c.args.period c.args.mode c.index-logs-hart.result)) in
    let more =
    text-take_more_harts text c.args.period c.args.mode 0 hart hart c.args.logs.now c.index-logs-hart.result
    c.loop-hart-test.true c.index-logs-hart.is (zero-add hart) in
    subst (Appends (g.W.Write.contents c.args.sink.now) (g.W.Write.contents c.encode_hart.new.sink)) (sym more)
    (Appends-trans (g.W.Write.contents c.args.sink.now) (g.W.Write.contents c.loop-hart.sink)
    (g.W.Write.contents c.encode_hart.new.sink) before here c.loop-hart.invariant c.in_ok-encode_hart.ensures.text)

pub returns-in_err-encode_hart-clause-begun : goal.returns-in_err-encode_hart-clause-begun
returns-in_err-encode_hart-clause-begun g c =
    next_hart_begun g.F.Form.text (g.W.Write.contents c.args.sink.now) (g.W.Write.contents c.loop-hart.sink)
    (g.W.Write.contents c.encode_hart.new.sink) c.args.period c.args.mode 0 c.loop-hart.hart c.loop-hart.hart
    c.args.logs.now c.index-logs-hart.result c.loop-hart-test.true c.index-logs-hart.is (zero-add c.loop-hart.hart)
    c.loop-hart.invariant c.encode_hart.ensures.begun

pub returns-clause-begun : goal.returns-clause-begun
returns-clause-begun g c =
    let old = g.W.Write.contents c.args.sink.now in
    let new = g.W.Write.contents c.loop-hart.sink in
    subst (λ logs. AppendsBeginning (flat_map g.F.Form.text (messages_of_harts c.args.period c.args.mode 0 logs)) old
    new)
    (take_all c.loop-hart.hart c.args.logs.now c.loop-hart-test.false) (whole_begun
    (flat_map g.F.Form.text (messages_of_harts c.args.period c.args.mode 0 (take c.loop-hart.hart c.args.logs.now)))
    old new
    c.loop-hart.invariant)
