-- For each gap among the parts of a hart one is reported, and one is 0 for each far number.
use Rattle.std.proofs.Common.{◌≡◌, ◌⊎◌, inl, inr, ℕ, zero, suc, ◌+◌, ◌-◌, ◌≤◌, ◌<◌, ◌++◌, ◌==◌, Bool, true, false}
use Rattle.std.proofs.Common.{cond, List, []}
use Rattle.std.proofs.Common.{◌∷◌, length, map, refl, sym, ap, subst, ◌∙◌, arith}
use Rattle.std.specs.Prelude.{◌&&◌, count_by, nat_lt}
use Rattle.std.proofs.lemmas.Bool.{cases_lt, le-ltb, ne_eqb}
use Rattle.std.proofs.lemmas.List.{length-append}
use Rattle.rvclass.specs.Words.{Words}
use Rattle.payload.specs.declared.mode.Mode.{Mode}
use Rattle.losses.specs.Apart.{AreRising}
use Rattle.losses.specs.Runs.{Run, first_run, run_behind, run_of}
use Rattle.message.specs.declared.message.Message.{Message}
use Rattle.salvaging.specs.Entries.{Entry, Used, Doubtful, entry_number, is_used, next_used}
use Rattle.salvaging.specs.Far.{AreFar, ahead, comes_behind, has_neighbour}
use Rattle.salvaging.specs.FarGaps.{believed_behind, far_among, gap_before, missing_in, reported_gap, reported_gaps}
use Rattle.salvaging.specs.Leaving.{EntriesLeave, own_mode}
use Rattle.salvaging.specs.LeftParts.{LeftPart, DoubtfulNumber, gap}
use Rattle.salvaging.specs.PartsIn.{parts_in}
use Rattle.salvaging.specs.Salvaged.{IsSalvagedHart}
use Rattle.salvaging.specs.Tallies.{next_behind}
use Rattle.salvaging.specs.declared.far_number.FarTreatment.{FarTreatment}
use Rattle.salvaging.specs.declared.salvaged.SalvagedHart.{SalvagedHart}
use Rattle.salvaging.proofs.CountedRows.{count_cons}
use Rattle.salvaging.proofs.CutLemmas.{rising_front}
use Rattle.salvaging.proofs.FarByBound.{no_way, none_passes, one_of}
use Rattle.salvaging.proofs.FarLaws.{beside_there, some_beside}
use Rattle.salvaging.proofs.FarNone.{missing-append, missing_before, missing_gap, missing_hart, missing_run}
use Rattle.salvaging.proofs.FarNone.{missing_used}
use Rattle.salvaging.proofs.Members.{IsIn}
use Rattle.salvaging.proofs.OrderedEntries.{in_front}
use Rattle.salvaging.proofs.PartsTreated.{hart_many}

-- An entry comes after the number `next`, and if it is far or not all numbers before are believed, numbers are missing
-- before it.
abbrev FitsOne : Bool → ℕ → ℕ → Entry → Type 0
FitsOne true next believed entry = next < entry_number entry
FitsOne false next believed entry = (next ≡ believed) ⊎ (next < entry_number entry)

abbrev pub Fit : ℕ → ℕ → List Entry → List Bool → Type 0
Fit next believed [] flags = Unit {0}
Fit next believed (entry ∷ entries) [] = ⊥
Fit next believed (entry ∷ entries) (flag ∷ flags) =
    FitsOne flag next believed entry × Fit (next_behind entry) (believed_behind flag believed entry) entries flags

one_gap : (lost : ℕ) → ¬ (lost ≡ 0) → length (reported_gap lost) ≡ 1
one_gap zero some = absurd (some refl)
one_gap (suc lost) some = refl

-- One is reported for each that there is.
as_many : (flag : Bool) (next believed : ℕ) (entry : Entry) → believed ≤ next → FitsOne flag next believed entry
    → length (reported_gap (entry_number entry - next)) ≡ length (gap_before flag believed entry)
as_many true next believed entry least above =
    one_gap (entry_number entry - next) (λ none. omega (arith, none, above))
as_many false next believed entry least (inl same) = ap (λ n. length (reported_gap (entry_number entry - n))) same
as_many false next believed entry least (inr above) =
    one_gap (entry_number entry - next) (λ none. omega (arith, none, above))
    ∙ sym (one_gap (entry_number entry - believed) (λ none. omega (arith, none, above, least)))

least_behind : (flag : Bool) (next believed from : ℕ) (entry : Entry) → believed ≤ next → next ≤ entry_number entry
    → believed_behind flag believed entry ≤ next_behind entry
least_behind true next believed from (Used number place payload) least low = omega (arith, least, low)
least_behind true next believed from (Doubtful number first second) least low = omega (arith, least, low)
least_behind false next believed from entry least low = omega arith

module _ (words : Words) (mode : Mode) where
  gaps_long : (entries : List Entry) (flags : List Bool) (run : Run) (next believed : ℕ) (goods : List Bool)
      (parts : List LeftPart) → EntriesLeave words mode run next entries goods parts
      → AreRising next (map entry_number entries) → believed ≤ next → Fit next believed entries flags
      → length (missing_in parts) ≡ length (reported_gaps believed entries flags)
  gaps_long [] flags run next believed [] parts leave rising least fit =
      ap length (missing_run words mode run next parts leave)
  gaps_long [] flags run next believed (good ∷ goods) parts leave rising least fit = absurd leave
  gaps_long (entry ∷ entries) flags run next believed [] parts leave rising least fit = absurd leave
  gaps_long (entry ∷ entries) [] run next believed (good ∷ goods) parts leave rising least fit = absurd fit
  gaps_long (Used number place payload ∷ entries) (flag ∷ flags) run next believed (good ∷ goods) parts
      (before, leaves, rest, is, used) (low, rising) least (one, fit) =
      let entry = Used number place payload in
      let behind = believed_behind flag believed entry in
      let later = missing_used words mode (run_behind (number - next) run) number place payload (next_used entries) good
      (λ behind. EntriesLeave words mode behind (number + 1) entries goods)
      (λ gaps. length gaps ≡ length (reported_gaps behind entries flags))
      (λ more left leave. gaps_long entries flags more (number + 1) behind goods left leave rising
      (least_behind flag next believed 0 entry least low) fit) rest used in
      let whole = ap length (ap missing_in is ∙ missing-append before rest)
      ∙ length-append (missing_in before) (missing_in rest) in
      let first = ap length (missing_before words mode run next (number - next) before leaves)
      ∙ as_many flag next believed entry least one in
      let all = length-append (gap_before flag believed entry) (reported_gaps behind entries flags) in
      omega (arith, whole, first, later, all)
  gaps_long (Doubtful number first second ∷ entries) (flag ∷ flags) run next believed (good ∷ goods) parts
      (fails, before, leaves, rest, is, leave) (low, rising) least (one, fit) =
      let entry = Doubtful number first second in
      let behind = believed_behind flag believed entry in
      let later = gaps_long entries flags (run_of 1 []) number behind goods rest leave (rising_from entries rising)
      (least_behind flag next believed 0 entry least low) fit in
      let whole = ap length (ap missing_in is
      ∙ missing-append before (gap (number - next) ++ DoubtfulNumber number first second ∷ rest)
      ∙ ap (λ l. l ++ missing_in (gap (number - next) ++ DoubtfulNumber number first second ∷ rest))
      (missing_run words mode run next before leaves)
      ∙ missing-append (gap (number - next)) (DoubtfulNumber number first second ∷ rest)
      ∙ ap (λ l. l ++ missing_in rest) (missing_gap (number - next)))
      ∙ length-append (reported_gap (number - next)) (missing_in rest) in
      let own = as_many flag next believed entry least one in
      let all = length-append (gap_before flag believed entry) (reported_gaps behind entries flags) in
      omega (arith, whole, own, later, all)
    where
      rising_from : (es : List Entry) → AreRising (number + 1) (map entry_number es)
          → AreRising number (map entry_number es)
      rising_from [] rises = tt
      rising_from (e ∷ es) (above, rises) = (omega (arith, above), rises)

module _ (entries : List Entry) (flags : List Bool) (f : AreFar entries flags) where
  abbrev far : Entry → Bool
  far = f.among

  -- A number beside a far one did not come.
  none_beside : (x y : Entry) → IsIn x entries → IsIn y entries → far x ≡ true
      → (entry_number y + 1 ≡ entry_number x) ⊎ (entry_number x + 1 ≡ entry_number y) → ⊥
  none_beside x y here there is beside =
      no_way (some_beside (entry_number x) entries y there (beside_there (entry_number x) y beside))
      (one_of (λ e. far e ≡ true → has_neighbour entries e ≡ false) entries x f.stand_far.by_itself here is)

  above_one : (last x : Entry) → IsIn last entries → IsIn x entries → entry_number last + 1 ≤ entry_number x
      → far x ≡ true → next_behind last < entry_number x
  above_one (Doubtful number first second) x there here low is = omega (arith, low)
  above_one (Used number place payload) x there here low is = by_order (cases_lt (number + 1) (entry_number x))
    where
      by_order : (number + 1 < entry_number x) ⊎ (entry_number x ≤ number + 1) → number + 1 < entry_number x
      by_order (inl above) = above
      by_order (inr upto) =
          absurd (none_beside x (Used number place payload) here there is (inl (omega (arith, upto, low))))

  above_far : (last x : Entry) → IsIn last entries → IsIn x entries → entry_number last + 1 ≤ entry_number x
      → far last ≡ true → next_behind last < entry_number x
  above_far (Doubtful number first second) x there here low is = omega (arith, low)
  above_far (Used number place payload) x there here low is = by_order (cases_lt (number + 1) (entry_number x))
    where
      by_order : (number + 1 < entry_number x) ⊎ (entry_number x ≤ number + 1) → number + 1 < entry_number x
      by_order (inl above) = above
      by_order (inr upto) =
          absurd (none_beside (Used number place payload) x there here is (inr (omega (arith, upto, low))))

  -- After an entry, which is far where not all before is believed.
  fit_on : (last : Entry) → IsIn last entries → (some beyond : List Entry)
      → ((x : Entry) → IsIn x some → IsIn x entries) → AreRising (entry_number last + 1) (map entry_number some)
      → (believed : ℕ) → (next_behind last ≡ believed) ⊎ (far last ≡ true)
      → Fit (next_behind last) believed some (map far (some ++ beyond))
  fit_on last there [] beyond among rising believed how = tt
  fit_on last there (x ∷ some) beyond among (low, rising) believed how = (
    by_flag (far x) refl how,
    fit_on x (among x (inl refl)) some beyond (λ y later. among y (inr later)) rising
        (believed_behind (far x) believed x) (by_far (far x) refl),
  )
    where
      here : IsIn x entries
      here = among x (inl refl)

      by_flag : (flag : Bool) → far x ≡ flag → (next_behind last ≡ believed) ⊎ (far last ≡ true)
          → FitsOne flag (next_behind last) believed x
      by_flag true is how = above_one last x there here low is
      by_flag false is (inl same) = inl same
      by_flag false is (inr far_last) = inr (above_far last x there here low far_last)

      by_far : (flag : Bool) → far x ≡ flag → (next_behind x ≡ believed_behind flag believed x) ⊎ (far x ≡ true)
      by_far true is = inr is
      by_far false is = inl refl

  pub fit_all : (some beyond : List Entry) → entries ≡ some ++ beyond → AreRising 0 (map entry_number some)
      → Fit 0 0 some (map far (some ++ beyond))
  fit_all [] beyond whole rising = tt
  fit_all (x ∷ some) beyond whole (low, rising) = (
    by_flag (far x) refl,
    fit_on x here some beyond (λ y later. subst (IsIn y) (sym whole) (inr (in_front y some beyond later))) rising
        (believed_behind (far x) 0 x) (by_far (far x) refl),
  )
    where
      here : IsIn x entries
      here = subst (IsIn x) (sym whole) (inl refl)

      -- It is ahead of a number, so its own is not 0.
      positive : far x ≡ true → 0 < entry_number x
      positive is = by_entry x here is
          (one_of (λ e. far e ≡ true → 1 ≤ ahead entries e) entries x f.stand_far.of_one here is)
        where
          none_below : (place : ℕ) (y : Entry) → comes_behind zero place y ≡ false
          none_below place (Used lower later payload) =
              ap (λ b. b && nat_lt place later) (le-ltb lower 0 (omega arith))
          none_below place (Doubtful lower first second) = refl

          by_entry : (e : Entry) → IsIn e entries → far e ≡ true → 1 ≤ ahead entries e → 0 < entry_number e
          by_entry (Doubtful number first second) there is some_ahead = absurd (omega (arith, some_ahead))
          by_entry (Used zero place payload) there is some_ahead =
              let none = none_passes (comes_behind zero place) entries (λ y more. none_below place y) in
              absurd (omega (arith, some_ahead, none))
          by_entry (Used (suc number) place payload) there is some_ahead = omega arith

      by_flag : (flag : Bool) → far x ≡ flag → FitsOne flag 0 0 x
      by_flag true is = positive is
      by_flag false is = inl refl

      by_far : (flag : Bool) → far x ≡ flag → (next_behind x ≡ believed_behind flag 0 x) ⊎ (far x ≡ true)
      by_far true is = inr is
      by_far false is = inl refl

-- Flagged entries are used.
abbrev FlaggedUsed : List Entry → List Bool → Type 0
FlaggedUsed [] flags = Unit {0}
FlaggedUsed (entry ∷ entries) [] = Unit {0}
FlaggedUsed (entry ∷ entries) (flag ∷ flags) = (flag ≡ true → is_used entry ≡ true) × FlaggedUsed entries flags

abbrev zeros : List ℕ → ℕ
zeros gaps = count_by (λ n. n == 0) gaps

no_zero : (lost : ℕ) (gaps : List ℕ) → zeros (reported_gap lost ++ gaps) ≡ zeros gaps
no_zero zero gaps = refl
no_zero (suc lost) gaps =
    count_cons (λ n. n == 0) (suc lost) gaps
    ∙ ap (λ b. cond b (suc (zeros gaps)) (zeros gaps)) (ne_eqb (suc lost) 0 (λ is. omega (arith, is)))

far_zeros : {M : Type 0} (treats : M → FarTreatment) (entries : List Entry) (kept : List M) (flags : List Bool)
    (next : ℕ) → length entries ≤ length kept → FlaggedUsed entries flags
    → length (far_among treats entries kept flags) ≡ zeros (reported_gaps next entries flags)
far_zeros treats [] kept flags next long used = refl
far_zeros treats (entry ∷ entries) [] flags next long used = absurd (omega (arith, long))
far_zeros treats (entry ∷ entries) (one ∷ kept) [] next long used = refl
far_zeros treats (Used number place payload ∷ entries) (one ∷ kept) (true ∷ flags) next long (is, used) =
    ap suc (far_zeros treats entries kept flags next (omega (arith, long)) used)
    ∙ sym (count_cons (λ n. n == 0) 0 (reported_gaps next entries flags))
far_zeros treats (Doubtful number first second ∷ entries) (one ∷ kept) (true ∷ flags) next long (is, used) =
    let never : false ≡ true = is refl in cc
far_zeros treats (entry ∷ entries) (one ∷ kept) (false ∷ flags) next long (is, used) =
    far_zeros treats entries kept flags (next_behind entry) (omega (arith, long)) used
    ∙ sym (no_zero (entry_number entry - next) (reported_gaps (next_behind entry) entries flags))

flagged_used : (entries : List Entry) (flags : List Bool) (f : AreFar entries flags) (some beyond : List Entry)
    → ((x : Entry) → IsIn x some → IsIn x entries) → FlaggedUsed some (map f.among (some ++ beyond))
flagged_used entries flags f [] beyond among = tt
flagged_used entries flags f (x ∷ some) beyond among = (
  λ is. one_of (λ e. f.among e ≡ true → is_used e ≡ true) entries x f.stand_far.used (among x (inl refl)) is,
  flagged_used entries flags f some beyond (λ y there. among y (inr there)),
)

-- As many gaps are reported as there are, and as many are 0 as numbers are far.
module _ {A : Type 0} (words : Words) (mode : Mode) (messages : List Message) (hart : SalvagedHart A)
    (salvaged : IsSalvagedHart words mode messages hart) where
  flags_upto : salvaged.flags ≡ map salvaged.are_far.among (salvaged.upto ++ salvaged.beyond)
  flags_upto = salvaged.are_far.are_among ∙ ap (map salvaged.are_far.among) salvaged.cut.whole

  rising_upto : AreRising 0 (map entry_number salvaged.upto)
  rising_upto =
      rising_front 0 salvaged.upto salvaged.beyond
      (subst (λ es. AreRising 0 (map entry_number es)) salvaged.cut.whole salvaged.are_entries.rising)

  pub gaps_many : length hart.gaps.items ≡ length (missing_in (parts_in hart.parts.items))
  gaps_many =
      let own = own_mode mode salvaged.entries in
      let left = salvaged.parts in
      let fit = subst (Fit 0 0 salvaged.upto) (sym flags_upto)
      (fit_all salvaged.entries salvaged.flags salvaged.are_far salvaged.upto salvaged.beyond salvaged.cut.whole
      rising_upto) in
      ap length salvaged.gaps
      ∙ sym (gaps_long words own salvaged.upto salvaged.flags first_run 0 0 left.good_first left.first left.leaves
      rising_upto (omega arith) fit)
      ∙ sym (ap length (missing_hart words own salvaged.upto salvaged.beyond salvaged.goods (parts_in hart.parts.items)
      left))

  pub far_many : length hart.far.items ≡ count_by (λ n. n == 0) hart.gaps.items
  far_many =
      let own = own_mode mode salvaged.entries in
      let many = hart_many words own salvaged.upto salvaged.beyond salvaged.shares salvaged.does in
      let both = length-append salvaged.upto salvaged.beyond in
      ap length salvaged.far
      ∙ far_zeros _ salvaged.upto salvaged.shares salvaged.flags 0 (omega (arith, many, both))
      (subst (FlaggedUsed salvaged.upto) (sym flags_upto)
      (flagged_used salvaged.entries salvaged.flags salvaged.are_far salvaged.upto salvaged.beyond
      (λ x there. subst (IsIn x) (sym salvaged.cut.whole) (in_front x salvaged.upto salvaged.beyond there))))
      ∙ sym (ap zeros salvaged.gaps)
