-- As many of a hart's messages are decoded, passed over and of doubtful numbers by what is done with each.
use Rattle.std.proofs.Common.{◌≡◌, ◌≢◌, ℕ, zero, suc, ◌+◌, ◌-◌, ◌++◌, ◌&&◌, Bool, true, false, cond}
use Rattle.std.proofs.Common.{List, [], ◌∷◌, Option, Ok, Result, length, map, refl, sym, ap, ◌∙◌, arith}
use Rattle.std.specs.Prelude.{◌||◌, count_by, nat_lt, not}
use Rattle.std.proofs.lemmas.Bool.{le-ltb, lt-ltb}
use Rattle.std.proofs.lemmas.List.{length-map}
use Rattle.std.proofs.lemmas.List.Sums.{sum_by-append}
use Rattle.rvclass.specs.Words.{Words}
use Rattle.payload.specs.Reading.{reading}
use Rattle.payload.specs.declared.fault.PackFault.{PackFault}
use Rattle.payload.specs.declared.mode.Mode.{Mode}
use Rattle.payload.specs.declared.packet.Packet.{Packet}
use Rattle.payload.specs.declared.packet.Packet.TheVariants as packet
use Rattle.losses.specs.Runs.{Run, first_run, from_sync, longer, run_behind, run_of}
use Rattle.salvaging.specs.Entries.{Entry, Used, Doubtful, next_used}
use Rattle.salvaging.specs.Late.{counted}
use Rattle.salvaging.specs.Leaving.{kept}
use Rattle.salvaging.specs.Ends.{none_good}
use Rattle.salvaging.specs.Shares.{AllShareBeyond, EntriesShare, HartShares, Share, SharesBeyond, UsedShares}
use Rattle.salvaging.specs.Shares.{Adds, Passes, Spoils, StandsAlone, Doubts}
use Rattle.salvaging.specs.Tallies.{good_count, looks_behind, next_behind, passed, reads_sync}
use Rattle.salvaging.specs.TreatedCounts.{count_treated, makes_alone, makes_bad, makes_copy, makes_doubtful, makes_passed}
use Rattle.salvaging.specs.TreatedCounts.{makes_stranger, makes_taken}
use Rattle.salvaging.specs.Treatments.{Row, is_good_treatment, own_row, rows, treatment_of}
use Rattle.salvaging.specs.declared.treatment.Treated.{Treated}
use Rattle.salvaging.specs.declared.treatment.Treatment.{Treatment}
use Rattle.salvaging.specs.declared.treatment.Treatment.TheVariants as treatment
use Rattle.salvaging.specs.steps.Trails.{goods_of}
use Rattle.salvaging.proofs.CountedRows.{NoneDoubtful, count_cons}
use Rattle.salvaging.proofs.GoodsTreated.{beyond_good, goods_append}
use Rattle.salvaging.proofs.MarksCounted.{SuitAll}
use Rattle.salvaging.proofs.PartsTreated.{shares_many}

-- No packet is left.
abbrev none_left : List Packet → Bool
none_left [] = true
none_left (packet ∷ packets) = false

-- A synchronisation is looked for: numbers are lost before the run, and none of its packets is one.
abbrev looks_by : ℕ → List Packet → Bool
looks_by zero packets = false
looks_by (suc lost) packets = none_left (from_sync packets)

abbrev looks_in : Run → Bool
looks_in run = looks_by run.missing run.packets

none_left_is : (packets : List Packet) → packets ≡ [] → none_left packets ≡ true
none_left_is [] is = refl
none_left_is (packet ∷ packets) is = cc

none_left_not : (packets : List Packet) → packets ≢ [] → none_left packets ≡ false
none_left_not [] not = absurd (not refl)
none_left_not (packet ∷ packets) not = refl

kept_none : (missing : ℕ) (packets : List Packet) (last : Packet) → kept missing (packets ++ last ∷ []) ≡ []
    → looks_by missing (packets ++ last ∷ []) ≡ true
kept_none zero [] last is = cc
kept_none zero (packet ∷ packets) last is = cc
kept_none (suc lost) packets last is = none_left_is (from_sync (packets ++ last ∷ [])) is

kept_some : (missing : ℕ) (packets : List Packet) (last : Packet) → kept missing (packets ++ last ∷ []) ≢ []
    → looks_by missing (packets ++ last ∷ []) ≡ false
kept_some zero packets last not = refl
kept_some (suc lost) packets last not = none_left_not (from_sync (packets ++ last ∷ [])) not

-- Whether one is still looked for after a message of which this was read.
abbrev looks_after : Bool → Result Packet PackFault → Bool
looks_after looks read = looks && not (reads_sync read)

-- Whether one is looked for after a packet more.
sync_one : (last : Packet) → none_left (from_sync (last ∷ [])) ≡ looks_after true (Ok last)
sync_one (packet.Sync taken priv address) = refl
sync_one (packet.Trap taken priv cause interrupt handler address tval) = refl
sync_one (packet.Support support) = refl
sync_one (packet.Address outcomes delta report) = refl
sync_one (packet.Map outcomes) = refl

sync_more : (packets : List Packet) (last : Packet)
    → none_left (from_sync (packets ++ last ∷ [])) ≡ looks_after (none_left (from_sync packets)) (Ok last)
sync_more [] last = sync_one last
sync_more (packet.Sync taken priv address ∷ packets) last = refl
sync_more (packet.Trap taken priv cause interrupt handler address tval ∷ packets) last = sync_more packets last
sync_more (packet.Support support ∷ packets) last = sync_more packets last
sync_more (packet.Address outcomes delta report ∷ packets) last = sync_more packets last
sync_more (packet.Map outcomes ∷ packets) last = sync_more packets last

looks_more : (run : Run) (last : Packet) → looks_in (longer run (last ∷ [])) ≡ looks_after (looks_in run) (Ok last)
looks_more run last = by_missing run.missing
  where
    by_missing : (missing : ℕ)
        → looks_by missing (run.packets ++ last ∷ []) ≡ looks_after (looks_by missing run.packets) (Ok last)
    by_missing zero = refl
    by_missing (suc lost) = sync_more run.packets last

-- Where numbers are lost before a run, one is looked for.
looks_lost : (run : Run) (next number : ℕ)
    → looks_in (run_behind (number - next) run) ≡ (looks_in run || nat_lt next number)
looks_lost run next number = by_lost (number - next) refl
  where
    either : (b : Bool) → b ≡ (b || false)
    either true = refl
    either false = refl

    all_true : (b : Bool) → true ≡ (b || true)
    all_true true = refl
    all_true false = refl

    by_lost : (lost : ℕ) → number - next ≡ lost → looks_in (run_behind lost run) ≡ (looks_in run || nat_lt next number)
    by_lost zero is =
        either (looks_in run) ∙ ap (λ b. looks_in run || b) (sym (le-ltb next number (omega (arith, is))))
    by_lost (suc lost) is =
        all_true (looks_in run) ∙ ap (λ b. looks_in run || b) (sym (lt-ltb next number (omega (arith, is))))

-- How many entries do such.
abbrev pub share_count : (Treatment → Bool) → List Share → ℕ
share_count p shares = count_by (λ (share : Share). p (treatment_of share)) shares

pub share_cons : (p : Treatment → Bool) (share : Share) (shares : List Share)
    → share_count p (share ∷ shares) ≡ counted (p (treatment_of share)) (share_count p shares)
share_cons p share shares =
    count_cons (λ (one : Share). p (treatment_of one)) share shares ∙ by_test (p (treatment_of share))
  where
    by_test : (b : Bool)
        → cond b (suc (share_count p shares)) (share_count p shares) ≡ counted b (share_count p shares)
    by_test true = refl
    by_test false = refl

-- As many rows say it.
pub rows_shares : (far : Entry → Bool) (p : Treatment → Bool) (entries : List Entry) (shares : List Share)
    → length shares ≡ length entries
    → count_by (λ (row : Row). p row.treated.treatment) (rows far entries (map treatment_of shares)) ≡ share_count p
    shares
rows_shares far p [] [] long = refl
rows_shares far p [] (one ∷ shares) long = absurd (omega (arith, long))
rows_shares far p (entry ∷ entries) [] long = absurd (omega (arith, long))
rows_shares far p (entry ∷ entries) (one ∷ shares) long =
    let rest = rows_shares far p entries shares (omega (arith, long)) in
    count_cons (λ (row : Row). p row.treated.treatment)
    (own_row far entry entries (treatment_of one) (map treatment_of shares))
    (rows far entries (map treatment_of shares))
    ∙ ap (λ n. cond (p (treatment_of one)) (suc n) n) rest
    ∙ sym (count_cons (λ (share : Share). p (treatment_of share)) one shares)

-- What is passed over of a used message and those after it, by whether it is good.
abbrev by_good : Bool → Result Packet PackFault → Bool → (Bool → ℕ) → ℕ
by_good looks read true Passed = counted (looks_after looks read) (Passed (looks_after looks read))
by_good looks read false Passed = Passed true

-- None that is not good is passed over.
none_passed : (looks : Bool) (next : ℕ) (entries : List Entry) → passed looks next entries (none_good entries) ≡ 0
none_passed looks next [] = refl
none_passed looks next (entry ∷ entries) =
    none_passed (looks_behind looks next entry false) (next_behind entry) entries

passed_front : (looks : Bool) (next : ℕ) (upto beyond : List Entry) (goods : List Bool) → length goods ≡ length upto
    → passed looks next (upto ++ beyond) (goods ++ none_good beyond) ≡ passed looks next upto goods
passed_front looks next [] beyond [] long = none_passed looks next beyond
passed_front looks next [] beyond (good ∷ goods) long = absurd (omega (arith, long))
passed_front looks next (entry ∷ upto) beyond [] long = absurd (omega (arith, long))
passed_front looks next (entry ∷ upto) beyond (good ∷ goods) long =
    ap (counted (good && looks_behind looks next entry good))
    (passed_front (looks_behind looks next entry good) (next_behind entry) upto beyond goods (omega (arith, long)))

goods_long : (shares : List Share) → length (goods_of shares) ≡ length shares
goods_long shares =
    length-map (map treatment_of shares) is_good_treatment ∙ length-map shares treatment_of

module _ (words : Words) (mode : Mode) where
  module _ (run : Run) (looks : Bool) (looking : looks_in run ≡ looks) (payload : List ℕ) (following : Option ℕ) (rows_passed : ℕ)
      (Passed : Bool → ℕ) (Rest : Run → Type 0)
      (more : (behind : Run) (after : Bool) → looks_in behind ≡ after → Rest behind → rows_passed ≡ Passed after) where
    read_more : (packet : Packet) → reading payload ≡ Ok packet
        → looks_in (longer run (packet ∷ [])) ≡ looks_after looks (reading payload)
    read_more packet read =
        looks_more run packet ∙ ap (λ b. looks_after b (Ok packet)) looking ∙ sym (ap (looks_after looks) read)

    used_passes : (share : Share) → UsedShares words mode run payload following share Rest
        → counted (makes_passed (treatment_of share)) rows_passed
        ≡ by_good looks (reading payload) (is_good_treatment (treatment_of share)) Passed
    used_passes (Spoils why) (bad, rest) = more (run_of 1 []) true refl rest
    used_passes (Adds events) (packet, good, given, rest) =
        let after = read_more packet good.read in
        let no = sym after ∙ kept_some run.missing run.packets packet given.0 in
        more (longer run (packet ∷ [])) (looks_after looks (reading payload)) after rest
        ∙ ap (λ b. counted b (Passed (looks_after looks (reading payload)))) (sym no)
    used_passes Passes (packet, good, given, rest) =
        let after = read_more packet good.read in
        let yes = sym after ∙ kept_none run.missing run.packets packet given in
        ap suc (more (longer run (packet ∷ [])) (looks_after looks (reading payload)) after rest)
        ∙ ap (λ b. counted b (Passed (looks_after looks (reading payload)))) (sym yes)
    used_passes StandsAlone (packet, good, given, rest) = absurd given
    used_passes Doubts (packet, good, given, rest) = absurd given

  -- What the definition counts, entry by entry.
  entries_pass : (entries : List Entry) (run : Run) (next : ℕ) (shares : List Share) (looks : Bool)
      → looks_in run ≡ looks → EntriesShare words mode run next entries shares
      → share_count makes_passed shares ≡ passed looks next entries (goods_of shares)
  entries_pass [] run next [] looks looking share = refl
  entries_pass [] run next (one ∷ shares) looks looking share = absurd share
  entries_pass (entry ∷ entries) run next [] looks looking share = absurd share
  entries_pass (Used number place payload ∷ entries) run next (one ∷ shares) looks looking share =
      share_cons makes_passed one shares
      ∙ used_passes (run_behind (number - next) run) (looks || nat_lt next number)
      (looks_lost run next number ∙ ap (λ b. b || nat_lt next number) looking) payload (next_used entries)
      (share_count makes_passed shares) (λ after. passed after (number + 1) entries (goods_of shares))
      (λ behind. EntriesShare words mode behind (number + 1) entries shares)
      (λ behind after looks_so rest. entries_pass entries behind (number + 1) shares after looks_so rest) one share
      ∙ by_goods (is_good_treatment (treatment_of one))
    where
      by_goods : (good : Bool) → by_good (looks || nat_lt next number) (reading payload) good
          (λ after. passed after (number + 1) entries (goods_of shares))
          ≡ passed looks next (Used number place payload ∷ entries) (good ∷ goods_of shares)
      by_goods true = refl
      by_goods false = refl
  entries_pass (Doubtful number first second ∷ entries) run next (one ∷ shares) looks looking share =
      share_cons makes_passed one shares
      ∙ ap (λ s. counted (makes_passed (treatment_of s)) (share_count makes_passed shares)) share.0
      ∙ entries_pass entries (run_of 1 []) number shares true refl share.1
      ∙ sym (ap (λ s. passed looks next (Doubtful number first second ∷ entries)
      (is_good_treatment (treatment_of s) ∷ goods_of shares)) share.0)

  -- Beyond the end none is passed over.
  not_passed : (entry : Entry) (following : Option ℕ) (share : Share) → SharesBeyond words mode entry following share
      → makes_passed (treatment_of share) ≡ false
  not_passed entry following (Spoils why) does = refl
  not_passed entry following StandsAlone does = refl
  not_passed entry following Doubts does = refl
  not_passed entry following (Adds events) does = refl
  not_passed (Used number place payload) following Passes does = absurd does
  not_passed (Doubtful number first second) following Passes does = absurd does

  none_beyond : (entries : List Entry) (shares : List Share) → AllShareBeyond words mode entries shares
      → share_count makes_passed shares ≡ 0
  none_beyond [] [] share = refl
  none_beyond [] (one ∷ shares) share = absurd share
  none_beyond (entry ∷ entries) [] share = absurd share
  none_beyond (entry ∷ entries) (one ∷ shares) share =
      share_cons makes_passed one shares
      ∙ ap (λ b. counted b (share_count makes_passed shares)) (not_passed entry (next_used entries) one share.0)
      ∙ none_beyond entries shares share.1

  pub hart_passes : (upto beyond : List Entry) (shares : List Share) → HartShares words mode upto beyond shares
      → (goods : List Bool) → goods ≡ goods_of shares → share_count makes_passed shares ≡ passed false 0 (upto ++ beyond) goods
  hart_passes upto beyond shares share goods goods_are =
      let after = none_beyond beyond share.after share.shares_beyond in
      let both = sum_by-append (λ (one : Share). cond (makes_passed (treatment_of one)) 1 0) share.first share.after in
      let whole = ap (share_count makes_passed) share.whole in
      let upto_is = entries_pass upto first_run 0 share.first false refl share.shares_upto in
      let goods_split = goods_are ∙ ap goods_of share.whole ∙ goods_append share.first share.after in
      let none = beyond_good words mode beyond share.after share.shares_beyond in
      let all = ap (passed false 0 (upto ++ beyond)) (goods_split ∙ ap (λ l. goods_of share.first ++ l) (sym none))
      ∙ passed_front false 0 upto beyond (goods_of share.first)
      (goods_long share.first ∙ shares_many words mode upto first_run 0 share.first share.shares_upto) in
      omega (arith, after, both, whole, upto_is, all)

-- A doubtful number passes no such test.
pub doubts_none : (p : Treatment → Bool) → p treatment.Doubtful ≡ false → (entries : List Entry) (shares : List Share)
    → SuitAll entries shares → NoneDoubtful (λ (one : Treated). p one.treatment) entries (map treatment_of shares)
doubts_none p fails [] shares suit = tt
doubts_none p fails (entry ∷ entries) [] suit = tt
doubts_none p fails (Used number place payload ∷ entries) (share ∷ shares) suit =
    doubts_none p fails entries shares suit
doubts_none p fails (Doubtful number first second ∷ entries) (share ∷ shares) suit =
    (ap (λ s. p (treatment_of s)) suit.0 ∙ fails, doubts_none p fails entries shares suit.1)

-- A good message is decoded or passed over.
pub good_shares : (shares : List Share)
    → share_count makes_taken shares + share_count makes_passed shares ≡ good_count (goods_of shares)
good_shares [] = refl
good_shares (share ∷ shares) =
    let rest = good_shares shares in
    let taken = share_cons makes_taken share shares in
    let passes = share_cons makes_passed share shares in
    by_share share (share_count makes_taken shares) (share_count makes_passed shares) (good_count (goods_of shares)) rest
    (share_count makes_taken (share ∷ shares)) taken (share_count makes_passed (share ∷ shares)) passes
  where
    by_share : (share : Share) (t q g : ℕ) → t + q ≡ g → (n : ℕ) → n ≡ counted (makes_taken (treatment_of share)) t
        → (m : ℕ) → m ≡ counted (makes_passed (treatment_of share)) q
        → n + m ≡ counted (is_good_treatment (treatment_of share)) g
    by_share (Adds events) t q g rest n one m two = omega (arith, rest, one, two)
    by_share Passes t q g rest n one m two = omega (arith, rest, one, two)
    by_share (Spoils why) t q g rest n one m two = omega (arith, rest, one, two)
    by_share StandsAlone t q g rest n one m two = omega (arith, rest, one, two)
    by_share Doubts t q g rest n one m two = omega (arith, rest, one, two)

treated_cons : (p : Treatment → Bool) (one : Treated) (treated : List Treated)
    → count_treated p (one ∷ treated) ≡ counted (p one.treatment) (count_treated p treated)
treated_cons p one treated =
    count_cons (λ (t : Treated). p t.treatment) one treated ∙ by_test (p one.treatment)
  where
    by_test : (b : Bool) → cond b (suc (count_treated p treated)) (count_treated p treated)
        ≡ counted b (count_treated p treated)
    by_test true = refl
    by_test false = refl

-- How many of messages with which this is done are of each kind, but strangers.
abbrev pub kinds : List Treated → ℕ
kinds treated =
    count_treated makes_taken treated + count_treated makes_passed treated
    + (count_treated makes_bad treated + count_treated makes_alone treated) + count_treated makes_doubtful treated
    + count_treated makes_copy treated

-- Each is of one kind.
pub one_kind : (treated : List Treated) → length treated ≡ count_treated makes_stranger treated + kinds treated
one_kind [] = refl
one_kind (one ∷ treated) =
    let rest = one_kind treated in
    let stranger = treated_cons makes_stranger one treated in
    let taken = treated_cons makes_taken one treated in
    let passes = treated_cons makes_passed one treated in
    let bad = treated_cons makes_bad one treated in
    let alone = treated_cons makes_alone one treated in
    let doubtful = treated_cons makes_doubtful one treated in
    let copy = treated_cons makes_copy one treated in
    let sums = by_kind one.treatment (count_treated makes_stranger treated) (count_treated makes_taken treated)
    (count_treated makes_passed treated) (count_treated makes_bad treated) (count_treated makes_alone treated)
    (count_treated makes_doubtful treated) (count_treated makes_copy treated) in
    omega (arith, rest, stranger, taken, passes, bad, alone, doubtful, copy, sums)
  where
    by_kind : (t : Treatment) (a b c d e f g : ℕ)
        → suc (a + (b + c + (d + e) + f + g)) ≡ counted (makes_stranger t) a + (counted (makes_taken t) b
        + counted (makes_passed t) c + (counted (makes_bad t) d + counted (makes_alone t) e)
        + counted (makes_doubtful t) f + counted (makes_copy t) g)
    by_kind treatment.Stranger a b c d e f g = omega arith
    by_kind treatment.Copy a b c d e f g = omega arith
    by_kind treatment.Doubtful a b c d e f g = omega arith
    by_kind (treatment.Bad why) a b c d e f g = omega arith
    by_kind treatment.Alone a b c d e f g = omega arith
    by_kind treatment.Passed a b c d e f g = omega arith
    by_kind (treatment.Taken added) a b c d e f g = omega arith
