-- One message more is kept: by lemmas on lists, which no tactic finds.
use Rattle.std.proofs.Common.{◌≡◌, ◌++◌, ◌∷◌, [], arith, length}
use Rattle.std.proofs.lemmas.Grind.{common_steps}
use Rattle.auditing.proofs.Recognised.{ok_then}
use Rattle.path_commands.proofs.ByHartLemmas.{kept_more}
use Rattle.path_commands.proofs.by_hart.take_message.Goals as goal

pub returns-clause-kept : goal.returns-clause-kept
returns-clause-kept c = λ messages has.
    let lists = c.args.lists.now in
    let message = c.args.message.now in
    let pushed : c.push.new.self.items ≡ lists.harts.items ++ message.hart ∷ [] = grind (arith, common_steps) in
    ok_then c.add_selected.result
    (λ split. (
      kept_more c.args.harts messages message lists
          (record { harts = c.push.new.self; payloads = c.add_selected.new.payloads }) has
          pushed c.add_selected.ensures.by split,
      split.count,
    ))
    (c.add_selected.ensures.split (length lists.payloads.lists) messages has.split)
