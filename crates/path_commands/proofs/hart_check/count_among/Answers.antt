-- How long a range of numbers is: by a lemma, which no tactic finds.
use Rattle.std.proofs.Common.{◌∙◌, ◌+◌, ◌-◌, min, sym}
use Rattle.std.proofs.lemmas.List.FromFn.{length-range_with_len}
use Rattle.path_commands.proofs.hart_check.count_among.Goals as goal

pub returns : goal.returns
returns c =
    c.saturating_sub.ensures
    ∙ (λ i. c.past_among.ensures.past i - c.from.ensures i)
    ∙ sym (length-range_with_len c.args.harts.first (min c.args.count (c.args.harts.last + 1) - c.args.harts.first))
