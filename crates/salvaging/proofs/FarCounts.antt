-- How many far messages are decoded and passed over, and what the reported gaps come to.
use Rattle.std.proofs.Common.{◌≡◌, inl, inr, ℕ, zero, suc, ◌+◌, ◌-◌, ◌≤◌, ◌++◌, All, Bool, true, false, cond, List}
use Rattle.std.proofs.Common.{[], ◌∷◌}
use Rattle.std.proofs.Common.{length, map, refl, sym, ap, subst, ◌∙◌, arith}
use Rattle.std.specs.Prelude.{count_by, sum}
use Rattle.std.proofs.lemmas.List.{append-nil}
use Rattle.std.proofs.lemmas.List.Elements.{All-head, All-tail}
use Rattle.std.proofs.lemmas.List.Sums.{sum_by-cons}
use Rattle.rvclass.specs.Words.{Words}
use Rattle.payload.specs.declared.mode.Mode.{Mode}
use Rattle.losses.specs.Apart.{AreRising}
use Rattle.message.specs.declared.message.Message.{Message}
use Rattle.salvaging.specs.Entries.{Entry, Used, Doubtful, entry_number, is_used}
use Rattle.salvaging.specs.Far.{AreFar, AreFarNumbers, numbers_of}
use Rattle.salvaging.specs.FarGaps.{believed_numbers, far_among, far_passed, far_taken, is_far_passed}
use Rattle.salvaging.specs.FarGaps.{is_far_taken, missing_in, number_after, reported_gap, reported_gaps}
use Rattle.salvaging.specs.FarGaps.{treatment_of_far}
use Rattle.salvaging.specs.Late.{counted}
use Rattle.salvaging.specs.Leaving.{own_mode}
use Rattle.salvaging.specs.PartsIn.{parts_in}
use Rattle.salvaging.specs.Salvaged.{IsSalvagedHart}
use Rattle.salvaging.specs.Shares.{Share, Adds, Passes, Spoils, StandsAlone, Doubts}
use Rattle.salvaging.specs.Tallies.{good_count, passed}
use Rattle.salvaging.specs.TreatedCounts.{makes_passed, makes_taken}
use Rattle.salvaging.specs.Treatments.{treatment_of}
use Rattle.salvaging.specs.declared.far_number.FarNumber.{FarNumber}
use Rattle.salvaging.specs.declared.far_number.FarTreatment.{FarTreatment}
use Rattle.salvaging.specs.declared.salvaged.SalvagedHart.{SalvagedHart}
use Rattle.salvaging.specs.declared.treatment.Treatment.{Treatment}
use Rattle.salvaging.proofs.CountedRows.{count_cons}
use Rattle.salvaging.proofs.EntriesOnce.{entries_once}
use Rattle.salvaging.proofs.FarLaws.{one_set}
use Rattle.salvaging.proofs.FarNone.{plain_hart}
use Rattle.salvaging.proofs.HartSalvaged.{far_count}
use Rattle.salvaging.proofs.Members.{IsIn}
use Rattle.salvaging.proofs.TreatedTallies.{good_shares, hart_passes, share_cons, share_count}

-- What is done with the message of an entry, were it far.
abbrev kind : Share → FarTreatment
kind share = treatment_of_far (treatment_of share)

module _ (is : FarTreatment → Bool) (makes : Treatment → Bool)
    (makes_it : (share : Share) → is (kind share) ≡ true → makes (treatment_of share) ≡ true) where
  abbrev such : List FarNumber → ℕ
  such numbers = count_by (λ (one : FarNumber). is one.treatment) numbers

  one_more : (a b : Bool) → (a ≡ true → b ≡ true) → (n m : ℕ) → n ≤ m → cond a (suc n) n ≤ counted b m
  one_more true true goes n m few = omega (arith, few)
  one_more true false goes n m few = let never : false ≡ true = goes refl in cc
  one_more false true goes n m few = omega (arith, few)
  one_more false false goes n m few = few

  more_or_same : (b : Bool) (n m : ℕ) → n ≤ m → n ≤ counted b m
  more_or_same true n m few = omega (arith, few)
  more_or_same false n m few = few

  -- No more far numbers are such than entries.
  far_few : (entries : List Entry) (shares : List Share) (flags : List Bool)
      → such (far_among kind entries shares flags) ≤ share_count makes shares
  far_few [] shares flags = let none : such [] ≡ 0 = refl in omega (arith, none)
  far_few (entry ∷ entries) [] flags = let none : such [] ≡ 0 = refl in omega (arith, none)
  far_few (entry ∷ entries) (share ∷ shares) [] = let none : such [] ≡ 0 = refl in omega (arith, none)
  far_few (Used number place payload ∷ entries) (share ∷ shares) (true ∷ flags) =
      let numbers = far_among kind entries shares flags in
      let one : FarNumber = record { number = number; place = place; treatment = kind share } in
      let first = count_cons (λ (one : FarNumber). is one.treatment) one numbers in
      let all = share_cons makes share shares in
      let few = one_more (is (kind share)) (makes (treatment_of share)) (makes_it share) (such numbers)
      (share_count makes shares) (far_few entries shares flags) in
      omega (arith, first, all, few)
  far_few (Doubtful number first second ∷ entries) (share ∷ shares) (true ∷ flags) =
      let all = share_cons makes share shares in
      let few = more_or_same (makes (treatment_of share)) (such (far_among kind entries shares flags))
      (share_count makes shares) (far_few entries shares flags) in
      omega (arith, all, few)
  far_few (entry ∷ entries) (share ∷ shares) (false ∷ flags) =
      let all = share_cons makes share shares in
      let few = more_or_same (makes (treatment_of share)) (such (far_among kind entries shares flags))
      (share_count makes shares) (far_few entries shares flags) in
      omega (arith, all, few)

takes : (share : Share) → is_far_taken (kind share) ≡ true → makes_taken (treatment_of share) ≡ true
takes (Adds events) is = refl
takes Passes is = cc
takes (Spoils why) is = cc
takes StandsAlone is = cc
takes Doubts is = cc

passes : (share : Share) → is_far_passed (kind share) ≡ true → makes_passed (treatment_of share) ≡ true
passes (Adds events) is = cc
passes Passes is = refl
passes (Spoils why) is = cc
passes StandsAlone is = cc
passes Doubts is = cc

module _ {A : Type 0} (words : Words) (mode : Mode) (messages : List Message) (hart : SalvagedHart A)
    (salvaged : IsSalvagedHart words mode messages hart) where
  shares_pass : share_count makes_passed salvaged.shares ≡ hart.passed
  shares_pass =
      hart_passes words (own_mode mode salvaged.entries) salvaged.upto salvaged.beyond salvaged.shares salvaged.does
      salvaged.goods salvaged.goods_are
      ∙ ap (λ es. passed false 0 es salvaged.goods) (sym salvaged.cut.whole) ∙ sym salvaged.tallied.passed

  shares_take : share_count makes_taken salvaged.shares ≡ hart.decoded
  shares_take =
      let good = good_shares salvaged.shares in
      let same = ap good_count salvaged.goods_are in
      let tallied = salvaged.tallied.decoded in
      let pass = shares_pass in
      omega (arith, good, same, tallied, pass)

  pub taken_few : far_taken hart.far.items ≤ hart.decoded
  taken_few =
      let few = far_few is_far_taken makes_taken takes salvaged.upto salvaged.shares salvaged.flags in
      let same = ap far_taken salvaged.far in
      let all = shares_take in
      omega (arith, few, same, all)

  pub passed_few : far_passed hart.far.items ≤ hart.passed
  passed_few =
      let few = far_few is_far_passed makes_passed passes salvaged.upto salvaged.shares salvaged.flags in
      let same = ap far_passed salvaged.far in
      let all = shares_pass in
      omega (arith, few, same, all)

-- Where no number is far, no entry is.
none_numbers : (among : Entry → Bool) (entries : List Entry) → numbers_of entries (map among entries) ≡ []
    → (x : Entry) → IsIn x entries → among x ≡ false
none_numbers among [] none x there = absurd there
none_numbers among (entry ∷ entries) none x there =
    by_flag (among entry) refl (λ later. none_numbers among entries later x) there
  where
    by_flag : (flag : Bool) → among entry ≡ flag
        → (numbers_of entries (map among entries) ≡ [] → IsIn x entries → among x ≡ false)
        → IsIn x (entry ∷ entries) → among x ≡ false
    by_flag true is again here =
        let some : entry_number entry ∷ numbers_of entries (map among entries) ≡ [] =
        sym (ap (λ b. numbers_of (entry ∷ entries) (b ∷ map among entries)) is) ∙ none in
        cc
    by_flag false is again (inl same) = ap among same ∙ is
    by_flag false is again (inr later) =
        again (sym (ap (λ b. numbers_of (entry ∷ entries) (b ∷ map among entries)) is) ∙ none) later

pub reported_plain : {A : Type 0} (words : Words) (mode : Mode) (messages : List Message) (hart : SalvagedHart A)
    → IsSalvagedHart words mode messages hart → AreFarNumbers messages []
    → (hart.gaps.items ≡ missing_in (parts_in hart.parts.items)) × (hart.far.items ≡ [])
reported_plain words mode messages hart salvaged f =
    let same = entries_once messages salvaged.entries f.entries salvaged.are_entries f.are_entries in
    let flags = one_set salvaged.entries salvaged.flags f.far salvaged.are_far
    (subst (λ es. AreFar es f.far) (sym same) f.are_far) in
    plain_hart words mode messages hart salvaged (none_numbers salvaged.are_far.among salvaged.entries
    (ap (numbers_of salvaged.entries) (sym salvaged.are_far.are_among ∙ flags) ∙ ap (λ es. numbers_of es f.far) same
    ∙ sym f.are_numbers))

abbrev UsedOne : Entry → Type 0
UsedOne entry = is_used entry ≡ true

sum_gap : (lost : ℕ) (gaps : List ℕ) → sum (reported_gap lost ++ gaps) ≡ lost + sum gaps
sum_gap zero gaps = omega arith
sum_gap (suc lost) gaps = sum_by-cons (λ y. y) (suc lost) gaps

-- The gaps before used entries and the believed numbers of them come to the number after the last one.
sums : (entries : List Entry) (flags : List Bool) (next from : ℕ) → length flags ≡ length entries
    → AreRising from (map entry_number entries) → next ≤ from → All UsedOne entries
    → sum (reported_gaps next entries flags) + length (believed_numbers entries flags) + next
    ≡ number_after next (believed_numbers entries flags)
sums [] flags next from long rising least used = omega arith
sums (entry ∷ entries) [] next from long rising least used = absurd (omega (arith, long))
sums (Doubtful number first second ∷ entries) (flag ∷ flags) next from long rising least used =
    let never : false ≡ true = All-head UsedOne (Doubtful number first second) entries used in cc
sums (Used number place payload ∷ entries) (true ∷ flags) next from long (low, rising) least used =
    let rest = sums entries flags next (number + 1) (omega (arith, long)) rising (omega (arith, low, least))
    (All-tail UsedOne (Used number place payload) entries used) in
    let first = sum_by-cons (λ y. y) 0 (reported_gaps next entries flags) in
    omega (arith, rest, first)
sums (Used number place payload ∷ entries) (false ∷ flags) next from long (low, rising) least used =
    let rest = sums entries flags (number + 1) (number + 1) (omega (arith, long)) rising (omega arith)
    (All-tail UsedOne (Used number place payload) entries used) in
    let first = sum_gap (number - next) (reported_gaps (number + 1) entries flags) in
    omega (arith, rest, first, low, least)

pub gaps_add_up : {A : Type 0} (words : Words) (mode : Mode) (messages : List Message) (hart : SalvagedHart A)
    → (salvaged : IsSalvagedHart words mode messages hart) → All UsedOne salvaged.entries → salvaged.beyond ≡ []
    → sum hart.gaps.items + length (believed_numbers salvaged.entries salvaged.flags)
    ≡ number_after 0 (believed_numbers salvaged.entries salvaged.flags)
gaps_add_up words mode messages hart salvaged used none =
    let whole : salvaged.upto ≡ salvaged.entries =
    sym (append-nil salvaged.upto) ∙ ap (λ l. salvaged.upto ++ l) (sym none) ∙ sym salvaged.cut.whole in
    let all = sums salvaged.entries salvaged.flags 0 0 (far_count salvaged.entries salvaged.flags salvaged.are_far)
    salvaged.are_entries.rising (omega arith) used in
    let same = ap sum (salvaged.gaps ∙ ap (λ es. reported_gaps 0 es salvaged.flags) whole) in
    omega (arith, all, same)
