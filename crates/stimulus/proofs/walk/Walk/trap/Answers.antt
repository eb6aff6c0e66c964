-- What the draws say, as it is defined: by a lemma, since no search joins three pairs.
use Rattle.std.proofs.Common.{◌≡◌, ◌∙◌, ◌/◌, ◌%◌, ap, false, sym, true, ℕ}
use Rattle.std.proofs.lemmas.Bool.{le-ltb, lt-ltb}
use Rattle.std.specs.Prelude.{nat_lt}
use Rattle.retire.specs.declared.event.Event.TheVariants.{Trap}
use Rattle.stimulus.specs.Walk.{trap_by}
use Rattle.stimulus.specs.declared.walk.Walk.{Walk}
use Rattle.stimulus.proofs.WalkLemmas.{draws_is}
use Rattle.stimulus.proofs.walk.Walk.trap.Goals as goal

pub returns-then-draw-self : goal.returns-then-draw-self
returns-then-draw-self c =
    let draw = c.next_word-draw.result in
    let after = c.epc-epc.new.self in
    let test : nat_lt (draw % 256) after.habits.interrupts ≡ true = lt-ltb _ _ c.if-draw-self.true in
    ap (λ b. trap_by b draw c.epc-epc.result after) (sym test)
    ∙ draws_is c.args.self.now after draw c.epc-epc.result c.next_word-draw.new.self c.next_word-draw.ensures
    c.epc-epc.ensures

pub returns : goal.returns
returns c =
    let draw = c.next_word-draw.result in
    let after = c.epc-epc.new.self in
    let test : nat_lt (draw % 256) after.habits.interrupts ≡ false = le-ltb _ _ c.if-draw-self.false in
    ap (λ (v : ℕ × Walk). (Trap v.1.privilege false (draw / 1024 % 64) c.epc-epc.result v.0, v.1)) c.number-tval.ensures
    ∙ ap (λ b. trap_by b draw c.epc-epc.result after) (sym test)
    ∙ draws_is c.args.self.now after draw c.epc-epc.result c.next_word-draw.new.self c.next_word-draw.ensures
    c.epc-epc.ensures
