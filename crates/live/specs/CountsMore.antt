-- Lines that are counted one after the other.
use Rattle.std.proofs.Common.{List, [], ◌++◌, refl, sym, subst, ◌∙◌}
use Rattle.std.proofs.lemmas.List.{append-nil, append_assoc}
use Rattle.live.specs.Lines.{Line}
use Rattle.live.specs.Rows.{Counts, CountsMore, LineRows}

-- No lines change nothing.
pub counts_nothing : (rows : LineRows) → CountsMore rows [] rows
counts_nothing rows = record {
  harts = refl;
  counts = λ before counts. subst (λ lines. Counts lines rows) (sym (append-nil before)) counts;
}

-- Lines, and then more.
pub counts_joined : (first between last : LineRows) (before after : List Line) → CountsMore first before between
    → CountsMore between after last → CountsMore first (before ++ after) last
counts_joined first between last before after one two = record {
  harts = two.harts ∙ one.harts;
  counts = λ all counts.
      subst (λ lines. Counts lines last) (append_assoc all before after)
      (two.counts (all ++ before) (one.counts all counts));
}
