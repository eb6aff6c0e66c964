-- What is selected with one message more: the equation goes into the lists, where no tactic puts it.
use Rattle.std.proofs.Common.{◌∙◌, ◌++◌, ◌∷◌, [], ap, append-nil, sym, subst}
use Rattle.std.specs.Prelude.{OnOk}
use Rattle.message.proofs.Selecting.{none_selected, one_selected, selected-append}
use Rattle.message.specs.Range.{selected}
use Rattle.auditing.specs.Split.{AreSplit}
use Rattle.path_commands.proofs.by_hart.add_selected.Goals as goal

pub returns-then-selects-clause-split : goal.returns-then-selects-clause-split
returns-then-selects-clause-split c = λ count messages split.
    let harts = c.args.harts in
    let message = c.args.message.now in
    let by = c.args.payloads.now.by in
    let same =
    selected-append harts messages (message ∷ [])
    ∙ ap (λ l. selected harts messages ++ l) (one_selected harts message (sym c.selects.ensures ∙ c.if-selects.true)) in
    subst (λ l. OnOk c.add.result (AreSplit by count l c.add.new.self.lists)) (sym same)
    (c.add.ensures.split count (selected harts messages) split)

pub returns-else-selects-clause-split : goal.returns-else-selects-clause-split
returns-else-selects-clause-split c = λ count messages split.
    let harts = c.args.harts in
    let message = c.args.message.now in
    let own = c.args.payloads.now in
    let same =
    selected-append harts messages (message ∷ [])
    ∙ ap (λ l. selected harts messages ++ l) (none_selected harts message (sym c.selects.ensures ∙ c.if-selects.false))
    ∙ append-nil (selected harts messages) in
    subst (λ l. AreSplit own.by count l own.lists) (sym same) split
