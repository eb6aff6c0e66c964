-- What is counted of a line, of each hart.
use Rattle.std.proofs.Common.{◌≡◌, ◌≢◌, ◌⊎◌, inl, inr, ℕ, ◌<◌, ◌≤◌, Bool, true, false, cond, eqb, ltb, List, [], ◌∷◌, ◌++◌}
use Rattle.std.proofs.Common.{Option, Some, None, length, set, slice_get, refl, sym, ap, subst, ◌∙◌}
use Rattle.std.specs.Prelude.{is_some}
use Rattle.std.proofs.lemmas.Bool.{cases_lt, eq-eqb, le-ltb, lt-ltb, ne_eqb}
use Rattle.std.proofs.lemmas.List.{length-set}
use Rattle.std.proofs.lemmas.Option.{slice_get_past}
use Rattle.message.proofs.AcceptedLemmas.{slice_get-set}
use Rattle.message.proofs.Elements.{slice_get-some}
use Rattle.live.specs.Lines.{Line}
use Rattle.live.specs.Rows.{Counts, CountsMore, LineRows, counted, counts_after, counts_in, hart_of, no_counts}
use Rattle.live.specs.Rows.{one_more, others_after, others_counted, others_in}
use Rattle.live.specs.declared.rows.LineCounts.{LineCounts}
use Rattle.live.specs.steps.Counting.{with_counts}

-- The counts of a hart after one line more.
counts_next : (hart : ℕ) (own : LineCounts) (lines : List Line) (line : Line)
    → counts_after hart own (lines ++ line ∷ [])
    ≡ cond (eqb (hart_of line) hart) (counted line (counts_after hart own lines)) (counts_after hart own lines)
counts_next hart own [] line = refl
counts_next hart own (first ∷ lines) line =
    counts_next hart (cond (eqb (hart_of first) hart) (counted first own) own) lines line

-- Those of the hart of the line, and of another.
counts_own : (lines : List Line) (line : Line) → counts_in (lines ++ line ∷ []) (hart_of line)
    ≡ counted line (counts_in lines (hart_of line))
counts_own lines line =
    counts_next (hart_of line) no_counts lines line
    ∙ ap (λ b. cond b (counted line (counts_in lines (hart_of line))) (counts_in lines (hart_of line)))
    (eq-eqb (hart_of line) (hart_of line) refl)

counts_other : (lines : List Line) (line : Line) (hart : ℕ) → hart_of line ≢ hart
    → counts_in (lines ++ line ∷ []) hart ≡ counts_in lines hart
counts_other lines line hart other =
    counts_next hart no_counts lines line
    ∙ ap (λ b. cond b (counted line (counts_in lines hart)) (counts_in lines hart)) (ne_eqb (hart_of line) hart other)

-- The other messages after one line more.
others_next : (harts others : ℕ) (lines : List Line) (line : Line)
    → others_after harts others (lines ++ line ∷ []) ≡ others_counted harts line (others_after harts others lines)
others_next harts others [] line = refl
others_next harts others (first ∷ lines) line = others_next harts (others_counted harts first others) lines line

-- A line of a hart that is known is counted there, if it leaves the count of the other messages.
counts_known : (old : LineRows) (line : Line) (own : LineCounts) → slice_get old.counts (hart_of line) ≡ Some own
    → ((others : ℕ) → others_counted (length old.counts) line others ≡ others)
    → CountsMore old (line ∷ []) (record old { counts = set old.counts (hart_of line) (counted line own) })
counts_known old line own is same = record {
  harts = length-set old.counts (hart_of line) (counted line own);
  counts = λ before counts. record {
    each = λ hart its at. each before counts hart its (slice_get-set old.counts (hart_of line) (counted line own) hart its at);
    others =
        counts.others
        ∙ sym (same (others_in (length old.counts) before))
        ∙ sym (others_next (length old.counts) 0 before line)
        ∙ ap (λ n. others_in n (before ++ line ∷ []))
        (sym (length-set old.counts (hart_of line) (counted line own)));
  };
}
  where
    each : (before : List Line) → Counts before old → (hart : ℕ) (its : LineCounts)
        → ((hart_of line ≡ hart) × (its ≡ counted line own)) ⊎ ((hart_of line ≢ hart) × (slice_get old.counts hart ≡ Some its))
        → its ≡ counts_in (before ++ line ∷ []) hart
    each before counts hart its (inl both) =
        both.1
        ∙ ap (counted line) (counts.each (hart_of line) own is)
        ∙ sym (counts_own before line)
        ∙ ap (counts_in (before ++ line ∷ [])) both.0
    each before counts hart its (inr both) = counts.each hart its both.1 ∙ sym (counts_other before line hart both.0)

-- A line of a hart that is not known is counted among the other messages, if it is one.
counts_unknown : (old : LineRows) (line : Line) → slice_get old.counts (hart_of line) ≡ None → (others : ℕ)
    → others ≡ others_counted (length old.counts) line old.others
    → CountsMore old (line ∷ []) (record old { others = others })
counts_unknown old line none others is = record {
  harts = refl;
  counts = λ before counts. record {
    each = λ hart its at.
        counts.each hart its at
        ∙ sym (counts_other before line hart (λ same. never its (sym none ∙ ap (slice_get old.counts) same ∙ at)));
    others =
        is
        ∙ ap (others_counted (length old.counts) line) counts.others
        ∙ sym (others_next (length old.counts) 0 before line);
  };
}
  where
    never : (its : LineCounts) → None ≡ Some its → ⊥
    never its e = cc

-- A line is counted, by the counts of its hart, if that is known.
pub counts_line : (old : LineRows) (line : Line) (changed : LineCounts → LineCounts) → changed ≡ counted line
    → (own : Option LineCounts) → slice_get old.counts (hart_of line) ≡ own → (new : List LineCounts)
    → new ≡ with_counts changed old.counts (hart_of line) own → (others : ℕ)
    → others ≡ others_counted (length old.counts) line old.others
    → (is_some own ≡ true → (other : ℕ) → others_counted (length old.counts) line other ≡ other)
    → CountsMore old (line ∷ []) (record { counts = new; others = others })
counts_line old line changed is None at new same others counts none =
    subst (λ c. CountsMore old (line ∷ []) (record { counts = c; others = others })) (sym same)
    (counts_unknown old line at others counts)
counts_line old line changed is (Some own) at new same others counts none =
    subst (λ c. CountsMore old (line ∷ []) (record { counts = c; others = others }))
    (sym (same ∙ ap (λ f. set old.counts (hart_of line) (f own)) is))
    (subst (λ o. CountsMore old (line ∷ [])
    (record { counts = set old.counts (hart_of line) (counted line own); others = o }))
    (sym (counts ∙ none refl old.others)) (counts_known old line own at (none refl)))

-- A message of a hart that is known is no other message.
pub known_counts : (counts : List LineCounts) (hart : ℕ) → is_some (slice_get counts hart) ≡ true → (others : ℕ)
    → cond (ltb hart (length counts)) others (one_more others) ≡ others
known_counts counts hart known others = go (cases_lt hart (length counts))
  where
    go : (hart < length counts) ⊎ (length counts ≤ hart)
        → cond (ltb hart (length counts)) others (one_more others) ≡ others
    go (inl less) = ap (λ b. cond b others (one_more others)) (lt-ltb hart (length counts) less)
    go (inr past) =
        let never : false ≡ true = sym (ap is_some (slice_get_past counts hart past)) ∙ known in cc

-- One of a hart that is not is one.
pub unknown_counts : (counts : List LineCounts) (hart : ℕ) → is_some (slice_get counts hart) ≡ false → (others : ℕ)
    → one_more others ≡ cond (ltb hart (length counts)) others (one_more others)
unknown_counts counts hart unknown others = go (cases_lt hart (length counts))
  where
    go : (hart < length counts) ⊎ (length counts ≤ hart)
        → one_more others ≡ cond (ltb hart (length counts)) others (one_more others)
    go (inr past) = sym (ap (λ b. cond b others (one_more others)) (le-ltb hart (length counts) past))
    go (inl less) =
        let found = slice_get-some counts hart less in
        let never : true ≡ false = sym (ap is_some found.1) ∙ unknown in cc

-- A line that changes no count.
pub counts_same : (old : LineRows) (line : Line) → ((own : LineCounts) → counted line own ≡ own)
    → ((others : ℕ) → others_counted (length old.counts) line others ≡ others) → CountsMore old (line ∷ []) old
counts_same old line same none = record {
  harts = refl;
  counts = λ before counts. record {
    each = λ hart its at.
        counts.each hart its at
        ∙ sym (counts_next hart no_counts before line
        ∙ ap (λ c. cond (eqb (hart_of line) hart) c (counts_in before hart)) (same (counts_in before hart))
        ∙ both (eqb (hart_of line) hart) (counts_in before hart));
    others =
        counts.others
        ∙ sym (none (others_in (length old.counts) before))
        ∙ sym (others_next (length old.counts) 0 before line);
  };
}
  where
    both : (b : Bool) (own : LineCounts) → cond b own own ≡ own
    both true own = refl
    both false own = refl
