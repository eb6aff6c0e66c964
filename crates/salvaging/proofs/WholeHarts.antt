-- A hart that ends at none of its entries leaves what its entries leave one after the other.
use Rattle.std.proofs.Common.{◌≡◌, ◌+◌, ◌++◌, Bool, List, [], ◌∷◌}
use Rattle.std.proofs.Common.{refl, sym, ap, subst, ◌∙◌, append_assoc}
use Rattle.std.proofs.lemmas.List.{append-nil}
use Rattle.rvclass.specs.Words.{Words}
use Rattle.payload.specs.declared.mode.Mode.{Mode}
use Rattle.losses.specs.Runs.{first_run}
use Rattle.salvaging.specs.Ends.{AreCutAtEnd, EndsAtLast, HartLeaves, IsEnd, AllLeaveBeyond, none_good}
use Rattle.salvaging.specs.Entries.{Entry}
use Rattle.salvaging.specs.Leaving.{EntriesLeave}
use Rattle.salvaging.specs.LeftParts.{LeftPart}

-- The hart may end at none of these entries, wherever it is among them.
abbrev pub HasNoEnd : Words → Mode → List Entry → Type 0
HasNoEnd words mode entries =
    (front : List Entry) (last : Entry) (later : List Entry) → entries ≡ front ++ last ∷ later
    → ¬ IsEnd words mode last later

pub uncut : (words : Words) (mode : Mode) (entries upto beyond : List Entry)
    → AreCutAtEnd words mode entries upto beyond → HasNoEnd words mode entries → (upto ≡ entries) × (beyond ≡ [])
uncut words mode entries upto beyond cut none = by_beyond beyond cut.whole cut.ends
  where
    by_beyond : (beyond : List Entry) → entries ≡ upto ++ beyond → EndsAtLast words mode upto beyond
        → (upto ≡ entries) × (beyond ≡ [])
    by_beyond [] whole ends = (sym (whole ∙ append-nil upto), refl)
    by_beyond (first ∷ beyond) whole (front, last, is, end, lower) =
        absurd (none front last (first ∷ beyond)
        (whole ∙ ap (λ l. l ++ first ∷ beyond) is ∙ append_assoc front (last ∷ []) (first ∷ beyond)) end)

pub leave_whole : (words : Words) (mode : Mode) (entries upto beyond : List Entry) (goods : List Bool)
    (left : List LeftPart) → upto ≡ entries → beyond ≡ [] → HartLeaves words mode upto beyond goods left
    → EntriesLeave words mode first_run 0 entries goods left
leave_whole words mode entries upto beyond goods left same none leaves =
    subst (λ es. EntriesLeave words mode first_run 0 es goods left) same
    (subst (EntriesLeave words mode first_run 0 upto goods) (sym left_is)
    (subst (λ gs. EntriesLeave words mode first_run 0 upto gs leaves.first) (sym goods_are) leaves.leaves))
  where
    nothing : (after : List LeftPart) → AllLeaveBeyond words mode [] after → after ≡ []
    nothing [] are = refl
    nothing (part ∷ after) are = absurd are

    left_is : left ≡ leaves.first
    left_is =
        leaves.parts_are
        ∙ ap (λ l. leaves.first ++ l)
        (nothing leaves.after (subst (λ es. AllLeaveBeyond words mode es leaves.after) none leaves.beyond_leaves))
        ∙ append-nil leaves.first

    goods_are : goods ≡ leaves.good_first
    goods_are =
        leaves.goods_are ∙ ap (λ es. leaves.good_first ++ none_good es) none ∙ append-nil leaves.good_first
