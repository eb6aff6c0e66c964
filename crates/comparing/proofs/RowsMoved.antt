-- The rows about the first difference of lists that come piece by piece.
use Rattle.std.proofs.Common.{◌≡◌, ◌∙◌, ◌⊎◌, ◌≤◌, ◌<◌, ◌+◌, ◌-◌, ◌++◌, ℕ, zero, suc, List, [], ◌∷◌, Option, None, ap}
use Rattle.std.proofs.Common.{append-nil, arith, inl, inr, length, refl, slice_get, sym}
use Rattle.retire.specs.declared.event.Event.{Event}
use Rattle.bench.specs.Verdict.{count_alike}
use Rattle.comparing.specs.Compared.{AreNext}
use Rattle.comparing.specs.RowsAbout.{near_rows, row_before, rows_about}
use Rattle.comparing.specs.declared.near.NearRows.{NearRows}
use Rattle.comparing.specs.steps.Moved.{IsMoved}
use Rattle.comparing.proofs.AlikePieces.{alike_few, alike_within}

which : (a b : ℕ) → (a < b) ⊎ (b ≤ a)
which a zero = inr (omega arith)
which zero (suc b) = inl (omega arith)
which (suc a) (suc b) = go (which a b)
  where
    go : (a < b) ⊎ (b ≤ a) → (suc a < suc b) ⊎ (suc b ≤ suc a)
    go (inl few) = inl (omega (arith, few))
    go (inr over) = inr (omega (arith, over))

-- A row that comes before a place within the list or at its end.
row_here : (many place : ℕ) (rows : List Event) → many ≤ place
    → row_before many place rows ≡ slice_get rows (place - many)
row_here zero place rows few = let same : place ≡ place - 0 = omega arith in ap (slice_get rows) same
row_here (suc many) zero rows few = absurd (omega (arith, few))
row_here (suc many) (suc place) rows few =
    let same : place - many ≡ suc place - suc many = omega arith in
    row_here many place rows (omega (arith, few)) ∙ ap (slice_get rows) same

row_none : (many place : ℕ) (rows : List Event) → place < many → row_before many place rows ≡ None
row_none zero place rows over = absurd (omega (arith, over))
row_none (suc many) zero rows over = refl
row_none (suc many) (suc place) rows over = row_none many place rows (omega (arith, over))

-- The item of one list or of the other.
get_front : (front back : List Event) (i : ℕ) → i < length front → slice_get (front ++ back) i ≡ slice_get front i
get_front [] back i within = absurd (omega (arith, within))
get_front (event ∷ front) back zero within = refl
get_front (event ∷ front) back (suc i) within = get_front front back i (omega (arith, within))

get_back : (front back : List Event) (i : ℕ) → slice_get (front ++ back) (length front + i) ≡ slice_get back i
get_back [] back i = let same : 0 + i ≡ i = omega arith in ap (slice_get back) same
get_back (event ∷ front) back i =
    let same : suc (length front) + i ≡ suc (length front + i) = omega arith in
    ap (slice_get (event ∷ front ++ back)) same ∙ get_back front back i

-- A row before a place stays where rows come after the place.
pub row_stays : (before decoded : List Event) (many place : ℕ) → 1 ≤ many → place ≤ length before
    → row_before many place before ≡ row_before many place (before ++ decoded)
row_stays before decoded many place some within = go (which place many)
  where
    go : (place < many) ⊎ (many ≤ place) → row_before many place before ≡ row_before many place (before ++ decoded)
    go (inl over) = row_none many place before over ∙ sym (row_none many place (before ++ decoded) over)
    go (inr few) =
        row_here many place before few
        ∙ sym (get_front before decoded (place - many) (omega (arith, some, within, few)))
        ∙ sym (row_here many place (before ++ decoded) few)

-- A row before a place behind the list is one of the next rows.
row_next : (before decoded : List Event) (many more : ℕ) → many ≤ more
    → slice_get decoded (more - many) ≡ row_before many (length before + more) (before ++ decoded)
row_next before decoded many more few =
    let same : length before + (more - many) ≡ length before + more - many = omega (arith, few) in
    sym (get_back before decoded (more - many)) ∙ ap (slice_get (before ++ decoded)) same
    ∙ sym (row_here many (length before + more) (before ++ decoded) (omega (arith, few)))

-- Or one of the list itself.
row_kept : (before decoded : List Event) (many more left : ℕ) → many ≡ more + left → 1 ≤ left
    → row_before left (length before) before ≡ row_before many (length before + more) (before ++ decoded)
row_kept before decoded many more left is some = go (which (length before) left)
  where
    go : (length before < left) ⊎ (left ≤ length before)
        → row_before left (length before) before ≡ row_before many (length before + more) (before ++ decoded)
    go (inl over) =
        row_none left (length before) before over
        ∙ sym (row_none many (length before + more) (before ++ decoded) (omega (arith, is, over)))
    go (inr few) =
        let same : length before - left ≡ length before + more - many = omega (arith, is, few) in
        row_here left (length before) before few
        ∙ sym (get_front before decoded (length before - left) (omega (arith, some, few)))
        ∙ ap (slice_get (before ++ decoded)) same
        ∙ sym (row_here many (length before + more) (before ++ decoded) (omega (arith, is, few)))

-- Rows that are the same, one by one.
same_near : (near : NearRows) (place : ℕ) (decoded log : List Event) → near.log ≡ slice_get log place
    → near.decoded ≡ slice_get decoded place → near.one_before ≡ row_before 1 place decoded
    → near.two_before ≡ row_before 2 place decoded → near.three_before ≡ row_before 3 place decoded
    → near ≡ rows_about place decoded log
same_near near place decoded log a b c d e =
    ap (λ row. record near { log = row }) a
    ∙ ap (λ row. record near { log = slice_get log place; decoded = row }) b
    ∙ ap (λ row. record near { log = slice_get log place; decoded = slice_get decoded place; one_before = row }) c
    ∙ ap (λ row. record {
      log = slice_get log place;
      decoded = slice_get decoded place;
      one_before = row_before 1 place decoded;
      two_before = row;
      three_before = near.three_before;
    }) d
    ∙ ap (λ row. record {
      log = slice_get log place;
      decoded = slice_get decoded place;
      one_before = row_before 1 place decoded;
      two_before = row_before 2 place decoded;
      three_before = row;
    }) e

module _ (before seen decoded events : List Event) where
  abbrev k : ℕ
  k = count_alike before seen

  -- Where not all so far are alike, or one list has ended, the rows stay.
  module _ (next : AreNext before seen decoded events)
      (other : ¬ ((k ≡ length seen) × (k ≡ length before))) where
    log_stays : slice_get seen k ≡ slice_get (seen ++ events) k
    log_stays = go (which k (length seen)) next.0
      where
        go : (k < length seen) ⊎ (length seen ≤ k) → (length before ≤ length seen) ⊎ (events ≡ [])
            → slice_get seen k ≡ slice_get (seen ++ events) k
        go (inl within) first = sym (get_front seen events k within)
        go (inr over) (inl few) =
            let a : k ≤ length seen = alike_few before seen in
            let b : k ≤ length before = alike_within before seen in
            absurd (other (omega (arith, over, a), omega (arith, over, few, a, b)))
        go (inr over) (inr none) =
            ap (λ l. slice_get l k) (sym (append-nil seen)) ∙ ap (λ l. slice_get (seen ++ l) k) (sym none)

    decoded_stays : slice_get before k ≡ slice_get (before ++ decoded) k
    decoded_stays = go (which k (length before)) next.1
      where
        go : (k < length before) ⊎ (length before ≤ k) → (length seen ≤ length before) ⊎ (decoded ≡ [])
            → slice_get before k ≡ slice_get (before ++ decoded) k
        go (inl within) first = sym (get_front before decoded k within)
        go (inr over) (inl few) =
            let a : k ≤ length seen = alike_few before seen in
            let b : k ≤ length before = alike_within before seen in
            absurd (other (omega (arith, over, few, a, b), omega (arith, over, b)))
        go (inr over) (inr none) =
            ap (λ l. slice_get l k) (sym (append-nil before)) ∙ ap (λ l. slice_get (before ++ l) k) (sym none)

    pub near_stays : rows_about k before seen ≡ rows_about k (before ++ decoded) (seen ++ events)
    near_stays =
        let within : k ≤ length before = alike_within before seen in
        same_near (rows_about k before seen) k (before ++ decoded) (seen ++ events) log_stays decoded_stays
        (row_stays before decoded 1 k (omega arith) within) (row_stays before decoded 2 k (omega arith) within)
        (row_stays before decoded 3 k (omega arith) within)

  -- Where all so far are alike, and as many of both came, the place goes on with the next rows.
  module _ (all : k ≡ length seen) (both : k ≡ length before) (near : NearRows) (is : near ≡ near_rows before seen)
    where
      back : (many more : ℕ) (row : Option Event) → 1 ≤ many → many ≤ 3 → IsMoved many more decoded near row
          → row ≡ row_before many (k + more) (before ++ decoded)
      back many more row some few moved = go (which more many)
        where
          place : length before + more ≡ k + more
          place = ap (λ n. n + more) (sym both)

          kept : (left : ℕ) → many ≡ more + left → 1 ≤ left → row ≡ row_before left k before
              → row ≡ row_before many (k + more) (before ++ decoded)
          kept left same some held =
              held ∙ ap (λ n. row_before left n before) both ∙ row_kept before decoded many more left same some
              ∙ ap (λ n. row_before many n (before ++ decoded)) place

          by_left : (left : ℕ) → many ≡ more + left → row ≡ row_before many (k + more) (before ++ decoded)
          by_left zero same =
              moved.here (omega (arith, same)) ∙ row_next before decoded many more (omega (arith, same))
              ∙ ap (λ n. row_before many n (before ++ decoded)) place
          by_left (suc zero) same = kept 1 same (omega arith) (moved.one same ∙ ap (λ near. near.one_before) is)
          by_left (suc (suc zero)) same = kept 2 same (omega arith) (moved.two same ∙ ap (λ near. near.two_before) is)
          by_left (suc (suc (suc zero))) same =
              kept 3 same (omega arith) (moved.three same ∙ ap (λ near. near.three_before) is)
          by_left (suc (suc (suc (suc left)))) same = absurd (omega (arith, same, few))

          go : (more < many) ⊎ (many ≤ more) → row ≡ row_before many (k + more) (before ++ decoded)
          go (inl over) = by_left (many - more) (omega (arith, over))
          go (inr here) =
              moved.here here ∙ row_next before decoded many more here
              ∙ ap (λ n. row_before many n (before ++ decoded)) place

      pub near_goes_on : (more : ℕ) (moved : NearRows) → moved.log ≡ slice_get events more
          → moved.decoded ≡ slice_get decoded more → IsMoved 1 more decoded near moved.one_before
          → IsMoved 2 more decoded near moved.two_before → IsMoved 3 more decoded near moved.three_before
          → moved ≡ rows_about (k + more) (before ++ decoded) (seen ++ events)
      near_goes_on more moved log row one two three =
          same_near moved (k + more) (before ++ decoded) (seen ++ events)
          (log ∙ sym (get_back seen events more) ∙ ap (λ n. slice_get (seen ++ events) (n + more)) (sym all))
          (row ∙ sym (get_back before decoded more) ∙ ap (λ n. slice_get (before ++ decoded) (n + more)) (sym both))
          (back 1 more moved.one_before (omega arith) (omega arith) one)
          (back 2 more moved.two_before (omega arith) (omega arith) two)
          (back 3 more moved.three_before (omega arith) (omega arith) three)
