-- What the closure keeps is found by a lemma over its calls.
use Rattle.std.proofs.Common.{rules}
use Rattle.std.proofs.lemmas.Fn.{filter_same}
use Rattle.message.specs.Range.{selects}
use Rattle.message.specs.declared.message.Message.{Message}
use Rattle.capture_commands.proofs.own_messages.select_messages.Goals as goal

pub returns : goal.returns
returns c =
    filter_same _ (λ (message : Message). selects c.args.only message.hart) _ (λ message kept after call. search rules)
    c.args.messages.items c.retain.new.self.items c.retain.ensures.filtered
