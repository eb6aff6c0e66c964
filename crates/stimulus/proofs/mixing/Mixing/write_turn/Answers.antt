-- The message that the definition sends is written: by lemmas on turns, which no tactic finds.
use Rattle.std.proofs.Common.{get_or, refl, subst, [], ◌∷◌}
use Rattle.std.specs.Prelude.{OnOk}
use Rattle.std.specs.Io.KnownBytes.{Appends}
use Rattle.output.proofs.Beginnings.{whole_begun}
use Rattle.output.specs.Begun.{AppendsBeginning}
use Rattle.stimulus.specs.Mixing.{turn}
use Rattle.stimulus.specs.Order.{drawn_of, leaves}
use Rattle.stimulus.specs.steps.Drawing.{TakesFirst}
use Rattle.stimulus.proofs.TurnLemmas.{turned_mixing, turned_none, turned_nothing, turned_some, turned_text}
use Rattle.stimulus.proofs.mixing.Mixing.write_turn.Goals as goal

pub returns-in-Some-clause-mixed : goal.returns-in-Some-clause-mixed
returns-in-Some-clause-mixed g c = λ mixed is.
    let takes = subst (λ taken. TakesFirst mixed.left c.next-hart.result.hart (get_or mixed.left c.next-hart.result.hart []) taken
    c.take_first.new.left.items) c.in-Some.is (c.take_first.ensures mixed.left is.left) in
    turned_mixing (c.in-Some.message ∷ []) (drawn_of c.next-hart.new.self) (turn mixed) _ refl
    (turned_some mixed c.args.self.now is c.next-hart.result (drawn_of c.next-hart.new.self) c.next-hart.ensures
    c.take_first.new.left.items c.in-Some.message takes)

pub returns-in-Some-clause-text : goal.returns-in-Some-clause-text
returns-in-Some-clause-text g c = λ mixed is.
    let takes = subst (λ taken. TakesFirst mixed.left c.next-hart.result.hart (get_or mixed.left c.next-hart.result.hart []) taken
    c.take_first.new.left.items) c.in-Some.is (c.take_first.ensures mixed.left is.left) in
    let turned = turned_some mixed c.args.self.now is c.next-hart.result (drawn_of c.next-hart.new.self) c.next-hart.ensures
    c.take_first.new.left.items c.in-Some.message takes in
    subst (λ text. OnOk c.write.result (Appends (g.W.Write.contents c.args.sink.now)
    (g.W.Write.contents c.write.new.sink) text))
    (turned_text g.F.Form.text c.in-Some.message (drawn_of c.next-hart.new.self) c.take_first.new.left.items (turn mixed)
    turned) c.write.ensures.text

pub returns-in-Some-clause-begun : goal.returns-in-Some-clause-begun
returns-in-Some-clause-begun g c = λ mixed is.
    let takes = subst (λ taken. TakesFirst mixed.left c.next-hart.result.hart (get_or mixed.left c.next-hart.result.hart []) taken
    c.take_first.new.left.items) c.in-Some.is (c.take_first.ensures mixed.left is.left) in
    let turned = turned_some mixed c.args.self.now is c.next-hart.result (drawn_of c.next-hart.new.self) c.next-hart.ensures
    c.take_first.new.left.items c.in-Some.message takes in
    subst (λ text. AppendsBeginning text (g.W.Write.contents c.args.sink.now) (g.W.Write.contents c.write.new.sink))
    (turned_text g.F.Form.text c.in-Some.message (drawn_of c.next-hart.new.self) c.take_first.new.left.items (turn mixed)
    turned) c.write.ensures.begun

pub returns-in-None-clause-mixed : goal.returns-in-None-clause-mixed
returns-in-None-clause-mixed g c = λ mixed is.
    let takes = subst (λ taken. TakesFirst mixed.left c.next-hart.result.hart (get_or mixed.left c.next-hart.result.hart []) taken
    c.take_first.new.left.items) c.in-None.is (c.take_first.ensures mixed.left is.left) in
    turned_mixing [] (leaves c.next-hart.result.hart (drawn_of c.next-hart.new.self)) (turn mixed) _ c.leave.ensures
    (turned_none mixed c.args.self.now is c.next-hart.result (drawn_of c.next-hart.new.self) c.next-hart.ensures
    c.take_first.new.left.items takes)

pub returns-in-None-clause-text : goal.returns-in-None-clause-text
returns-in-None-clause-text g c = λ mixed is.
    let takes = subst (λ taken. TakesFirst mixed.left c.next-hart.result.hart (get_or mixed.left c.next-hart.result.hart []) taken
    c.take_first.new.left.items) c.in-None.is (c.take_first.ensures mixed.left is.left) in
    turned_nothing g.F.Form.text (leaves c.next-hart.result.hart (drawn_of c.next-hart.new.self)) c.take_first.new.left.items
    (turn mixed) (g.W.Write.contents c.args.sink.now)
    (turned_none mixed c.args.self.now is c.next-hart.result (drawn_of c.next-hart.new.self) c.next-hart.ensures
    c.take_first.new.left.items takes)

pub returns-in-None-clause-begun : goal.returns-in-None-clause-begun
returns-in-None-clause-begun g c = λ mixed is.
    whole_begun _ (g.W.Write.contents c.args.sink.now) (g.W.Write.contents c.args.sink.now)
    (returns-in-None-clause-text g c mixed is)
