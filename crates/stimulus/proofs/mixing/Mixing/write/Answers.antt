-- The turns are written, and then what is left: by lemmas on turns, which no tactic finds.
use Rattle.std.proofs.Common.{List, ap, subst, sym, ◌∙◌}
use Rattle.std.specs.List.{flat_map}
use Rattle.std.specs.Prelude.{OnOk}
use Rattle.std.specs.Io.KnownBytes.{Appends}
use Rattle.message.specs.declared.message.Message.{Message}
use Rattle.output.proofs.Beginnings.{begun_behind}
use Rattle.output.proofs.Items.{ok_behind}
use Rattle.output.specs.Begun.{AppendsBeginning}
use Rattle.stimulus.specs.Mixing.{all_left, mixed_from, most_turns, unmixed}
use Rattle.stimulus.proofs.TurnLemmas.{mixed_by_is, turns_end}
use Rattle.stimulus.proofs.mixing.Mixing.write.Goals as goal

pub returns-in_err-write_turns-clause-begun : goal.returns-in_err-write_turns-clause-begun
returns-in_err-write_turns-clause-begun g c = λ seed left is.
    subst (λ (all : List Message). AppendsBeginning (flat_map g.F.Form.text all) (g.W.Write.contents c.args.sink.now)
    (g.W.Write.contents c.write_turns.new.sink)) (mixed_by_is seed left)
    (c.write_turns.ensures.begun (unmixed seed left) is)

pub returns-clause-text : goal.returns-clause-text
returns-clause-text g c = λ seed left is.
    let text = g.F.Form.text in
    let old = g.W.Write.contents c.args.sink.now in
    let mid = g.W.Write.contents c.write_turns.new.sink in
    let new = g.W.Write.contents c.write_left.new.sink in
    let turns = c.in_ok-write_turns.ensures.text (unmixed seed left) is in
    let ends = ap (flat_map text) (sym (mixed_by_is seed left))
    ∙ turns_end text (mixed_from most_turns (unmixed seed left)) c.write_turns.new.self old mid turns in
    subst (λ all. OnOk c.write_left.result (Appends old new all)) (sym ends)
    (ok_behind turns.front (flat_map text (all_left turns.mixed)) old mid new c.write_left.result turns.written
    (c.write_left.ensures.text turns.mixed.left turns.stands.left))

pub returns-clause-begun : goal.returns-clause-begun
returns-clause-begun g c = λ seed left is.
    let text = g.F.Form.text in
    let old = g.W.Write.contents c.args.sink.now in
    let mid = g.W.Write.contents c.write_turns.new.sink in
    let new = g.W.Write.contents c.write_left.new.sink in
    let turns = c.in_ok-write_turns.ensures.text (unmixed seed left) is in
    let ends = ap (flat_map text) (sym (mixed_by_is seed left))
    ∙ turns_end text (mixed_from most_turns (unmixed seed left)) c.write_turns.new.self old mid turns in
    subst (λ all. AppendsBeginning all old new) (sym ends)
    (begun_behind turns.front (flat_map text (all_left turns.mixed)) old mid new turns.written
    (c.write_left.ensures.begun turns.mixed.left turns.stands.left))
