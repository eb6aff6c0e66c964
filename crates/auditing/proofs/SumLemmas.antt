-- The sums of harts, with one hart more.
use Rattle.std.proofs.Common.{◌≡◌, ℕ, ◌+◌, ◌<◌, List, length, get_or, take, sym, ap, ◌∙◌}
use Rattle.std.specs.Prelude.{not}
use Rattle.std.specs.List.{count_by}
use Rattle.std.proofs.lemmas.List.Folds.{list_all_more}
use Rattle.std.proofs.lemmas.List.Sums.{sum_by_more}
use Rattle.auditing.specs.Matches.{Flags}
use Rattle.auditing.specs.Counted.{is_whole, total_of}
use Rattle.auditing.specs.declared.aligned_counts.AlignedTotal.{AlignedTotal}
use Rattle.auditing.specs.steps.Summing.{with_hart}

pub total_next : (all : List Flags) (hart : ℕ) (own : Flags) (total new : AlignedTotal) → hart < length all
    → own ≡ get_or all hart own → total ≡ total_of (take hart all) → new ≡ with_hart total own
    → new ≡ total_of (take (hart + 1) all)
total_next all hart own total new within own_is is new_is =
    new_is ∙ ap (λ t. with_hart t own) is ∙ ap (with_hart (total_of (take hart all))) own_is
    ∙ (λ i. record {
      sent = sym (sum_by_more (λ (f : Flags). length f.sent) all hart own within) i;
      came = sym (sum_by_more (λ (f : Flags). length f.came) all hart own within) i;
      lost = sym (sum_by_more (λ (f : Flags). count_by not f.sent) all hart own within) i;
      extra = sym (sum_by_more (λ (f : Flags). count_by not f.came) all hart own within) i;
      whole = sym (list_all_more is_whole all hart own within) i;
    })
