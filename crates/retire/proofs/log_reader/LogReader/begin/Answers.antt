-- What is known once a byte order mark is dropped is named by hand.
use Rattle.std.proofs.Common.{◌≡◌, ◌∙◌, ◌≤◌, ◌⊎◌, arith, drop, inl, inr, length, rules, sym, true, ap}
use Rattle.retire.proofs.ReaderLemmas.{has-begun}
use Rattle.retire.proofs.log_reader.LogReader.begin.Goals as goal
use Rattle.retire.proofs.log_reader.LogReader.begin.Goals.{else-len-lt3-via-then-len-lt3+else-not-self}
use Rattle.retire.proofs.log_reader.LogReader.begin.Goals.{else-len-lt3-via-else-len-lt3}

pub returns-in-Ok-clause-goes_on : goal.returns-in-Ok-clause-goes_on
returns-in-Ok-clause-goes_on g c = λ most seen h.
    let known : (c.args.self.now.is_ended ≡ true) ⊎ (3 ≤ length c.args.self.now.held.items) =
    elim c.else-len-lt3.branch [
      | else-len-lt3-via-then-len-lt3+else-not-self w ↦ inl (search rules)
      | else-len-lt3-via-else-len-lt3 w ↦ inr (search (rules, arith))
    ] in
    has-begun g.S.Source.given g.S.Source.left most seen c.args.self.now c.drop_front.new.held c.drop_front.new.spare h
    c.requires.start known
    (c.in-Ok.ensures.held ∙ ap (drop c.mark_length-mark.result) (sym c.deref.ensures.value)
    ∙ c.mark_length-mark.ensures.mark ∙ search rules)
