-- What sees each message in the same way takes the same messages: by a lemma, which no tactic finds.
use Rattle.std.proofs.Common.{◌∙◌, ◌++◌, false, sym, ap}
use Rattle.std.specs.Option.{option_map, option_to_list}
use Rattle.frames.specs.Borrowed.{span_of}
use Rattle.frames.proofs.Seeing.{spans_alike}
use Rattle.frames.proofs.reading.GuidedScan.next_passage.Goals as goal

pub returns-clause-spans : goal.returns-clause-spans
returns-clause-spans g c = λ sees alike.
    let own = g.S.Sent.sees c.args.sent.now in
    let old = c.args.self.now in
    let new = c.pass.new.self in
    sym (spans_alike own sees false 0 old.offset old.bytes alike) ∙ c.pass.ensures.spans
    ∙ ap (λ l. option_to_list (option_map span_of c.pass.result) ++ l)
    (spans_alike own sees false 0 new.offset new.bytes alike)
