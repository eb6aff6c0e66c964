-- The clauses hold for any packets before, which the search does not instantiate.
use Rattle.std.proofs.Common.{◌≡◌, ◌∙◌, ◌∷◌, ◌++◌, [], ap}
use Rattle.rvclass.specs.Fetch.{words_of}
use Rattle.stimulus.proofs.TraceLemmas.{gives_nothing, none_in_profile, opened, opening_in_profile, stands_fresh}
use Rattle.stimulus.proofs.sender.Tracer.next.Goals as goal

pub returns-in-Fresh-clause-given : goal.returns-in-Fresh-clause-given
returns-in-Fresh-clause-given c = λ plan number stand has.
    let words = words_of c.args.program.now in
    let t = c.args.self.now in
    let one : c.push.new.self.items ≡ c.open.result ∷ [] =
    c.push.ensures.items ∙ ap (λ l. l ++ c.open.result ∷ []) c.new-burst.ensures in
    opened words plan number stand t has c.in-Fresh.is c.open.new.self c.open.result c.push.new.self.items one
    c.open.ensures.same
    (c.open.ensures.packets words plan.period plan.mode [] (stands_fresh words plan number stand t has c.in-Fresh.is))

pub returns-in-Fresh-clause-profile : goal.returns-in-Fresh-clause-profile
returns-in-Fresh-clause-profile c = λ plan number stand has.
    let words = words_of c.args.program.now in
    let t = c.args.self.now in
    let one : c.push.new.self.items ≡ c.open.result ∷ [] =
    c.push.ensures.items ∙ ap (λ l. l ++ c.open.result ∷ []) c.new-burst.ensures in
    opening_in_profile plan.mode c.open.result c.push.new.self.items one
    (c.open.ensures.open words plan.period plan.mode [] (stands_fresh words plan number stand t has c.in-Fresh.is))

pub returns-in-Closed-clause-given : goal.returns-in-Closed-clause-given
returns-in-Closed-clause-given c = λ plan number stand has.
    gives_nothing (words_of c.args.program.now) plan number stand c.args.self.now has c.in-Closed.is c.new.result.items
    c.new.ensures

pub returns-in-Closed-clause-profile : goal.returns-in-Closed-clause-profile
returns-in-Closed-clause-profile c = λ plan number stand has. none_in_profile c.new.result.items c.new.ensures
