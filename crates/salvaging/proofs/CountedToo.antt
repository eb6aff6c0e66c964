-- What is done with messages counts as what is salvaged of them does.
use Rattle.std.proofs.Common.{◌≡◌, inl, inr, ℕ, suc, ◌+◌, ◌<◌, ◌&&◌, ◌==◌, Bool, true, false, cond, List, [], ◌∷◌}
use Rattle.std.proofs.Common.{Some, length, map, slice_get, take, refl, sym, ap, subst, ◌∙◌, arith}
use Rattle.std.specs.Prelude.{count_by, nat_lt, not, sum_by}
use Rattle.std.proofs.lemmas.Bool.{eqb-true, lt-ltb}
use Rattle.std.proofs.lemmas.Option.{slice_get_within}
use Rattle.rvclass.specs.Words.{Words, IsProgram}
use Rattle.payload.specs.declared.mode.Mode.{Mode}
use Rattle.message.specs.declared.message.Message.{Message}
use Rattle.salvaging.specs.Ends.{AreCutAtEnd, HartLeaves}
use Rattle.salvaging.specs.Entries.{Entry, Used, Doubtful}
use Rattle.salvaging.specs.Far.{AreFar, believed}
use Rattle.salvaging.specs.Late.{counted, is_late, late}
use Rattle.salvaging.specs.Leaving.{own_mode}
use Rattle.salvaging.specs.PartsIn.{parts_in}
use Rattle.salvaging.specs.Salvaged.{IsSalvaged, IsSalvagedHart}
use Rattle.salvaging.specs.Shares.{Share, Adds, Passes, Spoils, StandsAlone, Doubts}
use Rattle.salvaging.specs.Tallies.{good_count, passed}
use Rattle.salvaging.specs.Strangers.{has_number, is_stranger, own_messages}
use Rattle.salvaging.specs.TreatedCounts.{AreCountedAlike, AreCountedToo, is_alone_number, is_bad_number, is_own}
use Rattle.salvaging.specs.TreatedCounts.{count_treated, makes_alone, makes_bad, makes_copy, makes_passed, makes_stranger}
use Rattle.salvaging.specs.TreatedCounts.{makes_taken, own_of}
use Rattle.salvaging.specs.Treatments.{AreTreated, HartTreats, IsTreated, Row, hart_rows, is_good_treatment, own_place}
use Rattle.salvaging.specs.Treatments.{own_row, rows, stranger, treatment_of}
use Rattle.salvaging.specs.declared.salvaged.SalvagedHart.{SalvagedHart}
use Rattle.salvaging.specs.declared.salvaged.Salvaged.{Salvaged}
use Rattle.salvaging.specs.declared.treatment.Treated.{Treated}
use Rattle.salvaging.specs.declared.treatment.Treatment.{Treatment}
use Rattle.salvaging.proofs.CountedOnce.{hart_once}
use Rattle.salvaging.proofs.CountedRows.{AreTreatedBy, NoneDoubtful, as_many, count_cons}
use Rattle.salvaging.proofs.CountedTotals.{sum_from, sum_of, total}
use Rattle.salvaging.proofs.CutOnce.{cut_once}
use Rattle.salvaging.proofs.EntriesOnce.{entries_once}
use Rattle.salvaging.proofs.FarLaws.{one_set}
use Rattle.salvaging.proofs.GoodsTreated.{hart_good}
use Rattle.salvaging.proofs.MarksCounted.{GoTogether, SuitAll, doubts_fail, hart_suits, rows_of_parts}
use Rattle.salvaging.proofs.Members.{in_of_contains}
use Rattle.salvaging.proofs.OneWay.{copies_once}
use Rattle.salvaging.proofs.OwnTreated.{length-own, stands_among}
use Rattle.salvaging.proofs.PartsTreated.{hart_many, parts_treated}
use Rattle.salvaging.proofs.TreatedAll.{others_own}
use Rattle.salvaging.proofs.TreatedCopies.{row_share, treated_copies}
use Rattle.salvaging.proofs.TreatedTallies.{doubts_none, good_shares, hart_passes, one_kind, rows_shares}

-- As many rows are late as are counted.
late_rows : (far : Entry → Bool) (entries : List Entry) (treatments : List Treatment)
    → count_by (λ (row : Row). row.treated.late) (rows far entries treatments)
    ≡ late entries (believed (map is_good_treatment treatments) (map far entries))
late_rows far [] treatments = refl
late_rows far (entry ∷ entries) [] = refl
late_rows far (Used number place payload ∷ entries) (one ∷ treatments) =
    count_cons (λ (row : Row). row.treated.late) (own_row far (Used number place payload) entries one treatments)
    (rows far entries treatments)
    ∙ ap (λ n. cond is_late_one (suc n) n) (late_rows far entries treatments) ∙ by_test is_late_one
  where
    all_later : List Bool
    all_later = believed (map is_good_treatment treatments) (map far entries)

    is_late_one : Bool
    is_late_one = (is_good_treatment one && not (far (Used number place payload))) && is_late place entries all_later

    by_test : (b : Bool) → cond b (suc (late entries all_later)) (late entries all_later)
        ≡ counted b (late entries all_later)
    by_test true = refl
    by_test false = refl
late_rows far (Doubtful number first second ∷ entries) (one ∷ treatments) =
    count_cons (λ (row : Row). row.treated.late) (own_row far (Doubtful number first second) entries one treatments)
    (rows far entries treatments)
    ∙ late_rows far entries treatments

none_doubtful_late : (entries : List Entry) (treatments : List Treatment)
    → NoneDoubtful (λ (one : Treated). one.late) entries treatments
none_doubtful_late [] treatments = tt
none_doubtful_late (entry ∷ entries) [] = tt
none_doubtful_late (Used number place payload ∷ entries) (one ∷ treatments) = none_doubtful_late entries treatments
none_doubtful_late (Doubtful number first second ∷ entries) (one ∷ treatments) =
    (refl, none_doubtful_late entries treatments)

bad_together : GoTogether is_bad_number makes_bad
bad_together = record {
  missing = λ count. refl;
  events = λ first last some. refl;
  bad = λ number place why other. refl;
  alone = λ number place. refl;
  doubtful = λ number first second. refl;
  doubts = refl;
  passed = refl;
  taken = λ added. refl;
}

alone_together : GoTogether is_alone_number makes_alone
alone_together = record {
  missing = λ count. refl;
  events = λ first last some. refl;
  bad = λ number place why other. refl;
  alone = λ number place. refl;
  doubtful = λ number first second. refl;
  doubts = refl;
  passed = refl;
  taken = λ added. refl;
}

-- Two tests that go together count the same.
count_same : {X Y : Type 0} (p : X → Bool) (q : Y → Bool) (xs : List X) (ys : List Y) → length xs ≡ length ys
    → ((k : ℕ) (x : X) (y : Y) → slice_get xs k ≡ Some x → slice_get ys k ≡ Some y → p x ≡ q y)
    → count_by p xs ≡ count_by q ys
count_same p q [] [] long same = refl
count_same p q [] (y ∷ ys) long same = absurd (omega (arith, long))
count_same p q (x ∷ xs) [] long same = absurd (omega (arith, long))
count_same p q (x ∷ xs) (y ∷ ys) long same =
    let rest = count_same p q xs ys (omega (arith, long)) (λ k. same (suc k)) in
    count_cons p x xs ∙ ap (λ b. cond b (suc (count_by p xs)) (count_by p xs)) (same 0 x y refl refl)
    ∙ ap (λ n. cond (q y) (suc n) n) rest ∙ sym (count_cons q y ys)

share_no_stranger : (share : Share) → makes_stranger (treatment_of share) ≡ false
share_no_stranger (Adds events) = refl
share_no_stranger Passes = refl
share_no_stranger (Spoils why) = refl
share_no_stranger StandsAlone = refl
share_no_stranger Doubts = refl

-- No message of a hart is a stranger.
none_strange : (far : Entry → Bool) (messages : List Message) (entries : List Entry) (shares : List Share)
    (treated : List Treated)
    → AreTreatedBy messages (rows far entries (map treatment_of shares)) treated
    → count_treated makes_stranger treated ≡ 0
none_strange far messages entries shares treated by =
    count_same (λ (one : Treated). makes_stranger one.treatment) (λ (message : Message). false) treated messages by.long
    (λ k one message done here. by_treated k message one (by.each k message one here done))
    ∙ no_count messages
  where
    by_treated : (k : ℕ) (message : Message) (one : Treated)
        → IsTreated messages (rows far entries (map treatment_of shares)) k message one
        → makes_stranger one.treatment ≡ false
    by_treated k message one (inl (like, is)) = ap (λ (t : Treated). makes_stranger t.treatment) is
    by_treated k message one (inr (first, contains)) =
        let row : Row = record { number = message.number; treated = one } in
        let share = row_share far entries shares row
        (in_of_contains (rows far entries (map treatment_of shares)) row contains) in
        ap makes_stranger share.1 ∙ share_no_stranger share.0

    no_count : (messages : List Message) → count_by (λ (message : Message). false) messages ≡ 0
    no_count [] = refl
    no_count (message ∷ messages) = count_cons (λ (message : Message). false) message messages ∙ no_count messages

module _ (words : Words) (program : IsProgram words) (mode : Mode) where
  -- Of one hart.
  hart_counted : {A : Type 0} (messages : List Message) (treated : List Treated) (hart : SalvagedHart A)
      → IsSalvagedHart words mode messages hart → (treats : HartTreats words mode messages)
      → AreTreatedBy messages (hart_rows treats) treated → AreCountedAlike treated hart
  hart_counted messages treated hart salvaged treats by =
      let entries = treats.entries in
      let shares = treats.shares in
      let far = treats.are_far.among in
      let own = own_mode mode entries in
      let same = entries_once messages salvaged.entries entries salvaged.are_entries treats.are_entries in
      let cut = subst (λ es. AreCutAtEnd words (own_mode mode es) es salvaged.upto salvaged.beyond) same salvaged.cut in
      let once = cut_once words own entries salvaged.upto treats.upto salvaged.beyond treats.beyond cut treats.cut in
      let leaves = subst (λ es. HartLeaves words own treats.upto es salvaged.goods (parts_in hart.parts.items)) once.1
      (subst (λ es. HartLeaves words own es salvaged.beyond salvaged.goods (parts_in hart.parts.items)) once.0
      (subst (λ es. HartLeaves words (own_mode mode es) salvaged.upto salvaged.beyond salvaged.goods
      (parts_in hart.parts.items)) same salvaged.parts)) in
      let goods = hart_good words program own treats.upto treats.beyond salvaged.goods (parts_in hart.parts.items)
      shares leaves treats.are_shares in
      let suit = subst (λ es. SuitAll es shares) (sym treats.cut.whole)
      (hart_suits words program own treats.upto treats.beyond shares treats.are_shares) in
      let marks = (parts_treated words mode messages hart program salvaged treats).marks in
      let done = map treatment_of shares in
      let flags : salvaged.flags ≡ map far entries =
      one_set entries salvaged.flags treats.far (subst (λ es. AreFar es salvaged.flags) same salvaged.are_far)
      treats.are_far
      ∙ treats.are_far.are_among in
      let long_shares = hart_many words own treats.upto treats.beyond shares treats.are_shares
      ∙ sym (ap length treats.cut.whole) in
      let copies = copies_once messages _ hart.copies (treated_copies far messages entries shares treated by)
      salvaged.copies in
      let bad = as_many (λ (one : Treated). makes_bad one.treatment) far messages entries done treats.are_entries
      (doubts_fail is_bad_number makes_bad bad_together entries shares suit) treated by refl
      ∙ rows_of_parts is_bad_number makes_bad bad_together far (parts_in hart.parts.items) entries shares marks suit in
      let alone = as_many (λ (one : Treated). makes_alone one.treatment) far messages entries done treats.are_entries
      (doubts_fail is_alone_number makes_alone alone_together entries shares suit) treated by refl
      ∙ rows_of_parts is_alone_number makes_alone alone_together far (parts_in hart.parts.items) entries shares marks
      suit in
      let passes = as_many (λ (one : Treated). makes_passed one.treatment) far messages entries done treats.are_entries
      (doubts_none makes_passed refl entries shares suit) treated by refl
      ∙ rows_shares far makes_passed entries shares long_shares in
      let takes = as_many (λ (one : Treated). makes_taken one.treatment) far messages entries done treats.are_entries
      (doubts_none makes_taken refl entries shares suit) treated by refl
      ∙ rows_shares far makes_taken entries shares long_shares in
      let passed_is = passes
      ∙ hart_passes words own treats.upto treats.beyond shares treats.are_shares salvaged.goods goods
      ∙ ap (λ es. passed false 0 es salvaged.goods) (sym treats.cut.whole ∙ sym same)
      ∙ sym salvaged.tallied.passed in
      let good = good_shares shares in
      let goods_count = ap good_count goods in
      let tallied = salvaged.tallied.decoded in
      let decoded : count_treated makes_taken treated ≡ hart.decoded =
      omega (arith, takes, good, goods_count, tallied, passes, passed_is) in
      let counted = hart_once words mode messages hart salvaged in
      let kinds_are = one_kind treated in
      let no_stranger = none_strange far messages entries shares treated by in
      let long = by.long in
      record {
        copies = copies;
        late = as_many (λ (one : Treated). one.late) far messages entries done treats.are_entries
            (none_doubtful_late entries done) treated by refl
            ∙ late_rows far entries done ∙ sym (ap (λ gs. late entries (believed gs (map far entries))) goods)
            ∙ sym (ap (λ fs. late entries (believed salvaged.goods fs)) flags)
            ∙ sym (ap (λ es. late es (believed salvaged.goods salvaged.flags)) same) ∙ sym salvaged.late;
        decoded = decoded;
        passed = passed_is;
        doubtful = omega (arith, counted, kinds_are, no_stranger, long, decoded, passed_is, bad, alone, copies);
        bad = bad;
        alone = alone;
      }

-- A hart's own message, where the hart is known, is no stranger.
own_known : (harts hart : ℕ) (message : Message) → hart < harts → is_own hart message ≡ true
    → (message.hart ≡ hart) × (is_stranger harts message ≡ false)
own_known harts hart message below own = by_tests (message.hart == hart) (has_number message) refl refl own
  where
    by_tests : (is has : Bool) → (message.hart == hart) ≡ is → has_number message ≡ has → (is && has) ≡ true
        → (message.hart ≡ hart) × (is_stranger harts message ≡ false)
    by_tests true true is has own =
        let same : message.hart ≡ hart = eqb-true message.hart hart is in
        let known : nat_lt message.hart harts ≡ true = lt-ltb message.hart harts (omega (arith, same, below)) in
        (same, ap (λ b. not (b && has_number message)) known ∙ ap not has)
    by_tests true false is has own = cc
    by_tests false has is_not is own = cc

module _ (words : Words) (program : IsProgram words) (mode : Mode) (harts : ℕ) (messages : List Message)
    (treated : List Treated) (are : AreTreated words mode harts messages treated) where
  -- What is done with a hart's own messages.
  pub own_treated : (hart : ℕ) → (known : hart < harts)
      → AreTreatedBy (own_messages hart messages) (hart_rows (are.each_hart hart known)) (own_of hart messages treated)
  own_treated hart known = record {
    long = length-own hart messages treated are.count;
    each = λ k message one here done.
        let stands = stands_among hart messages treated k message one here done in
        let own = own_known harts hart message known stands.own in
        subst (λ n. IsTreated (own_messages hart messages) (hart_rows (are.each_hart hart known)) n message one)
        stands.before
        (subst (λ h. (below : h < harts) → IsTreated (own_messages h messages) (hart_rows (are.each_hart h below))
        (length (own_messages h (take stands.at messages))) message one) own.0
        (λ below. are.others stands.at message one stands.here stands.done own.1 below) known);
  }

  strangers_same : (at : ℕ) (one : Treated) (message : Message) → slice_get treated at ≡ Some one
      → slice_get messages at ≡ Some message → makes_stranger one.treatment ≡ is_stranger harts message
  strangers_same at one message done here = by_test (is_stranger harts message) refl
    where
      by_treated : (known : message.hart < harts)
          → IsTreated (own_messages message.hart messages) (hart_rows (are.each_hart message.hart known))
          (own_place messages at message) message one → makes_stranger one.treatment ≡ false
      by_treated known (inl (like, is)) = ap (λ (t : Treated). makes_stranger t.treatment) is
      by_treated known (inr (first, contains)) =
          let treats = are.each_hart message.hart known in
          let row : Row = record { number = message.number; treated = one } in
          let share = row_share treats.are_far.among treats.entries treats.shares row
          (in_of_contains (hart_rows treats) row contains) in
          ap makes_stranger share.1 ∙ share_no_stranger share.0

      by_test : (b : Bool) → is_stranger harts message ≡ b → makes_stranger one.treatment ≡ b
      by_test true is =
          ap (λ (t : Treated). makes_stranger t.treatment) (are.strangers at message one here done is)
      by_test false is =
          let known = (others_own harts message is).0 in
          by_treated known (are.others at message one here done is known)

  -- Of all harts.
  all_counted : {A : Type 0} (p : Treated → Bool) (v : SalvagedHart A → ℕ) (salvaged : Salvaged A)
      → length salvaged.harts.items ≡ harts → p stranger ≡ false
      → ((hart : ℕ) (own : SalvagedHart A) → slice_get salvaged.harts.items hart ≡ Some own
      → count_by p (own_of hart messages treated) ≡ v own)
      → count_by p treated ≡ sum_by v salvaged.harts.items
  all_counted p v salvaged count fails each =
      total p harts messages treated are.count
      (λ at message one here done strange. ap p (are.strangers at message one here done strange) ∙ fails)
      ∙ ap (sum_from (λ hart. count_by p (own_of hart messages treated)) 0) (sym count)
      ∙ sum_of v (λ hart. count_by p (own_of hart messages treated)) salvaged.harts.items 0
      (λ k own at.
      let here : k ≡ 0 + k = omega arith in
      subst (λ n. count_by p (own_of n messages treated) ≡ v own) here (each k own at))

  each_counted : {A : Type 0} (salvaged : Salvaged A) → IsSalvaged words mode harts messages salvaged → (hart : ℕ)
      (own : SalvagedHart A) → slice_get salvaged.harts.items hart ≡ Some own
      → AreCountedAlike (own_of hart messages treated) own
  each_counted salvaged is hart own at =
      let within = slice_get_within salvaged.harts.items hart own at in
      let count = is.count in
      let known : hart < harts = omega (arith, within, count) in
      hart_counted words program mode (own_messages hart messages) (own_of hart messages treated) own
      (is.each hart own at) (are.each_hart hart known) (own_treated hart known)

  pub counted_too : {A : Type 0} (salvaged : Salvaged A) → IsSalvaged words mode harts messages salvaged
      → AreCountedToo messages treated salvaged
  counted_too {A} salvaged is = record {
    each = each_counted salvaged is;
    copies = all_counted (λ (one : Treated). makes_copy one.treatment) (λ (own : SalvagedHart A). own.copies) salvaged
        is.count refl (λ hart own at. (each_counted salvaged is hart own at).copies);
    late = all_counted (λ (one : Treated). one.late) (λ (own : SalvagedHart A). own.late) salvaged is.count refl
        (λ hart own at. (each_counted salvaged is hart own at).late);
    strangers =
        count_same (λ (one : Treated). makes_stranger one.treatment) (is_stranger harts) treated messages are.count
        strangers_same ∙ sym is.strangers;
  }
