-- Each message is counted once: by what its hart's entries leave, and hart by hart.
use Rattle.std.proofs.Common.{◌≡◌, ◌≢◌, ℕ, zero, suc, ◌+◌, ◌-◌, ◌<◌, ◌≤◌, ◌++◌, ◌&&◌, ◌==◌, Bool, true, false, cond}
use Rattle.std.proofs.Common.{List, [], ◌∷◌, Some, Option, length, slice_get, refl, sym, ap, subst, ◌∙◌, arith}
use Rattle.std.specs.Prelude.{count_by, nat_lt, not}
use Rattle.std.proofs.lemmas.Bool.{eq-eqb, eqb-true, lt-ltb, ne_eqb}
use Rattle.std.proofs.lemmas.List.Sums.{sum_by-append}
use Rattle.retire.specs.declared.event.Event.{Event}
use Rattle.rvclass.specs.Words.{Words}
use Rattle.payload.specs.declared.mode.Mode.{Mode}
use Rattle.message.specs.declared.message.Message.{Message}
use Rattle.losses.specs.Runs.{Run, first_run, run_behind, run_of}
use Rattle.salvaging.specs.CountedOnce.{AreCountedOnce, counted_of}
use Rattle.salvaging.specs.Ends.{AllLeaveBeyond, HartLeaves, LeavesBeyond, none_good}
use Rattle.salvaging.specs.Entries.{Entry, Used, Doubtful, next_used}
use Rattle.salvaging.specs.Late.{counted}
use Rattle.salvaging.specs.Leaving.{EntriesLeave, LeavesBefore, RunLeaves, UsedLeaves}
use Rattle.salvaging.specs.LeftParts.{LeftPart, Missing, Events, BadNumber, DoubtfulNumber, AloneNumber, gap, stretch}
use Rattle.salvaging.specs.PartsIn.{parts_in}
use Rattle.salvaging.specs.Salvaged.{IsSalvaged, IsSalvagedHart}
use Rattle.salvaging.specs.Strangers.{has_number, is_stranger, own_messages}
use Rattle.salvaging.specs.Tallies.{good_count, used_count}
use Rattle.salvaging.specs.TreatedCounts.{is_alone_number, is_bad_number, is_own}
use Rattle.salvaging.specs.declared.salvaged.SalvagedHart.{SalvagedHart}
use Rattle.salvaging.specs.declared.salvaged.Salvaged.{Salvaged}
use Rattle.salvaging.proofs.CountedRows.{count_cons}
use Rattle.salvaging.proofs.CountedTotals.{sum_from, sum_more, sum_of}
use Rattle.salvaging.proofs.OwnTreated.{own_cons}
use Rattle.salvaging.proofs.TreatedAll.{others_own}

-- How many of these parts are bad or alone.
abbrev marks : List LeftPart → ℕ
marks parts = count_by is_bad_number parts + count_by is_alone_number parts

marks_append : (front back : List LeftPart) → marks (front ++ back) ≡ marks front + marks back
marks_append front back =
    let bad = sum_by-append (λ (y : LeftPart). cond (is_bad_number y) 1 0) front back in
    let alone = sum_by-append (λ (y : LeftPart). cond (is_alone_number y) 1 0) front back in
    omega (arith, bad, alone)

no_mark_stretch : (next count : ℕ) (events : List Event) → marks (stretch next count events) ≡ 0
no_mark_stretch next count [] = refl
no_mark_stretch next count (event ∷ events) = refl

no_mark_gap : (missing : ℕ) → marks (gap missing) ≡ 0
no_mark_gap zero = refl
no_mark_gap (suc missing) = refl

mark_doubtful : (number first second : ℕ) (parts : List LeftPart)
    → marks (DoubtfulNumber number first second ∷ parts) ≡ marks parts
mark_doubtful number first second parts =
    let both = marks_append (DoubtfulNumber number first second ∷ []) parts in omega (arith, both)

module _ (words : Words) (mode : Mode) where
  no_mark_run : (run : Run) (next : ℕ) (parts : List LeftPart) → RunLeaves words mode run next parts → marks parts ≡ 0
  no_mark_run run next parts (events, describes, is) = ap marks is ∙ no_mark_stretch next _ events

  no_mark_before : (run : Run) (next lost : ℕ) (parts : List LeftPart) → LeavesBefore words mode run next lost parts
      → marks parts ≡ 0
  no_mark_before run next zero parts is = ap marks is
  no_mark_before run next (suc lost) parts (before, leaves, is) =
      let none = no_mark_run run next before leaves in
      let both = ap marks is ∙ marks_append before (Missing (suc lost) ∷ []) in
      omega (arith, none, both)

  module _ (run : Run) (number place : ℕ) (payload : List ℕ) (following : Option ℕ) (used goods_are : ℕ)
      (Leaves : Run → List LeftPart → Type 0)
      (more : (behind : Run) (rest : List LeftPart) → Leaves behind rest → used ≡ goods_are + marks rest) where
    used_counted : (good : Bool) (parts : List LeftPart)
        → UsedLeaves words mode run number place payload following good Leaves parts
        → suc used ≡ counted good goods_are + marks parts
    used_counted true parts (packet, good, follows) =
        let rest = more _ parts follows in omega (arith, rest)
    used_counted false parts (why, bad, before, leaves, rest, is, follows) =
        let later = more (run_of 1 []) rest follows in
        let none = no_mark_run run number before leaves in
        let both = ap marks is ∙ marks_append before (BadNumber number place why ∷ rest) in
        let own = marks_append (BadNumber number place why ∷ []) rest in
        omega (arith, later, none, both, own)

  -- Each used number is good, or its part is a bad one.
  entries_counted : (entries : List Entry) (run : Run) (next : ℕ) (goods : List Bool) (parts : List LeftPart)
      → EntriesLeave words mode run next entries goods parts → used_count entries ≡ good_count goods + marks parts
  entries_counted [] run next [] parts leaves = let none = no_mark_run run next parts leaves in omega (arith, none)
  entries_counted [] run next (good ∷ goods) parts leaves = absurd leaves
  entries_counted (entry ∷ entries) run next [] parts leaves = absurd leaves
  entries_counted (Used number place payload ∷ entries) run next (good ∷ goods) parts (before, over, rest, is, used) =
      let none = no_mark_before run next (number - next) before over in
      let both = ap marks is ∙ marks_append before rest in
      let own = used_counted (run_behind (number - next) run) number place payload (next_used entries)
      (used_count entries) (good_count goods)
      (λ behind. EntriesLeave words mode behind (number + 1) entries goods)
      (λ behind left follows. entries_counted entries behind (number + 1) goods left follows) good rest used in
      omega (arith, none, both, own)
  entries_counted (Doubtful number first second ∷ entries) run next (good ∷ goods) parts
      (bad, before, over, rest, is, follows) =
      let later = entries_counted entries (run_of 1 []) number goods rest follows in
      let none = no_mark_run run next before over in
      let no_gap = no_mark_gap (number - next) in
      let first_part = ap marks is ∙ marks_append before (gap (number - next) ++ DoubtfulNumber number first second ∷ rest)
      in
      let second_part = marks_append (gap (number - next)) (DoubtfulNumber number first second ∷ rest) in
      let third = mark_doubtful number first second rest in
      let good_is = ap (λ b. counted b (good_count goods)) bad in
      omega (arith, later, none, no_gap, first_part, second_part, third, good_is)

  one_beyond : (entry : Entry) (following : Option ℕ) (part : LeftPart) → LeavesBeyond words mode entry following part
      → used_count (entry ∷ []) ≡ marks (part ∷ [])
  one_beyond (Used number place payload) following (BadNumber bad at why) leaves = refl
  one_beyond (Used number place payload) following (AloneNumber alone at) leaves = refl
  one_beyond (Used number place payload) following (Missing count) leaves = absurd leaves
  one_beyond (Used number place payload) following (Events one last events) leaves = absurd leaves
  one_beyond (Used number place payload) following (DoubtfulNumber doubtful one other) leaves = absurd leaves
  one_beyond (Doubtful number first second) following (DoubtfulNumber doubtful one other) leaves = refl
  one_beyond (Doubtful number first second) following (BadNumber bad at why) leaves = absurd leaves
  one_beyond (Doubtful number first second) following (AloneNumber alone at) leaves = absurd leaves
  one_beyond (Doubtful number first second) following (Missing count) leaves = absurd leaves
  one_beyond (Doubtful number first second) following (Events one last events) leaves = absurd leaves

  used_append : (front back : List Entry) → used_count (front ++ back) ≡ used_count front + used_count back
  used_append [] back = omega arith
  used_append (Used number place payload ∷ front) back =
      let rest = used_append front back in omega (arith, rest)
  used_append (Doubtful number first second ∷ front) back = used_append front back

  beyond_counted : (entries : List Entry) (parts : List LeftPart) → AllLeaveBeyond words mode entries parts
      → used_count entries ≡ marks parts
  beyond_counted [] [] leaves = refl
  beyond_counted [] (part ∷ parts) leaves = absurd leaves
  beyond_counted (entry ∷ entries) [] leaves = absurd leaves
  beyond_counted (entry ∷ entries) (part ∷ parts) leaves =
      let own = one_beyond entry (next_used entries) part leaves.0 in
      let rest = beyond_counted entries parts leaves.1 in
      let all = used_append (entry ∷ []) entries in
      let both = marks_append (part ∷ []) parts in
      omega (arith, own, rest, all, both)

  good_append : (front back : List Bool) → good_count (front ++ back) ≡ good_count front + good_count back
  good_append [] back = omega arith
  good_append (true ∷ front) back = let rest = good_append front back in omega (arith, rest)
  good_append (false ∷ front) back = good_append front back

  none_counted : (entries : List Entry) → good_count (none_good entries) ≡ 0
  none_counted [] = refl
  none_counted (entry ∷ entries) = none_counted entries

  pub hart_used : (upto beyond : List Entry) (goods : List Bool) (parts : List LeftPart)
      → HartLeaves words mode upto beyond goods parts
      → used_count (upto ++ beyond) ≡ good_count goods + marks parts
  hart_used upto beyond goods parts leaves =
      let first = entries_counted upto first_run 0 leaves.good_first leaves.first leaves.leaves in
      let after = beyond_counted beyond leaves.after leaves.beyond_leaves in
      let all = used_append upto beyond in
      let good = ap good_count leaves.goods_are ∙ good_append leaves.good_first (none_good beyond) in
      let none = none_counted beyond in
      let both = ap marks leaves.parts_are ∙ marks_append leaves.first leaves.after in
      omega (arith, first, after, all, good, none, both)

pub hart_once : {A : Type 0} (words : Words) (mode : Mode) (messages : List Message) (hart : SalvagedHart A)
    → IsSalvagedHart words mode messages hart → counted_of hart ≡ length messages
hart_once words mode messages hart is =
    let used = ap used_count is.cut.whole
    ∙ hart_used words _ is.upto is.beyond is.goods (parts_in hart.parts.items) is.parts in
    let decoded = is.tallied.decoded in
    let doubtful = is.tallied.doubtful in
    omega (arith, used, decoded, doubtful)

-- The sum is the same where its terms are.
sum_within : (f g : ℕ → ℕ) (start n : ℕ) → ((h : ℕ) → start ≤ h → h < start + n → f h ≡ g h)
    → sum_from f start n ≡ sum_from g start n
sum_within f g start zero same = refl
sum_within f g start (suc n) same =
    let first = same start (omega arith) (omega arith) in
    let rest = sum_within f g (suc start) n (λ h least most. same h (omega (arith, least)) (omega (arith, most))) in
    omega (arith, first, rest)

module _ (harts : ℕ) where
  -- How many messages are a hart's own.
  abbrev own_long : List Message → ℕ → ℕ
  own_long messages hart = length (own_messages hart messages)

  none_long : (n start : ℕ) → sum_from (own_long []) start n ≡ 0
  none_long zero start = refl
  none_long (suc n) start = let rest = none_long n (suc start) in omega (arith, rest)

  module _ (message : Message) (messages : List Message) where
    long_by : (hart : ℕ) (b : Bool) → is_own hart message ≡ b
        → own_long (message ∷ messages) hart ≡ cond b (suc (own_long messages hart)) (own_long messages hart)
    long_by hart b is =
        ap length (own_cons hart message messages)
        ∙ ap (λ o. length (cond o (message ∷ own_messages hart messages) (own_messages hart messages))) is ∙ by_test b
      where
        by_test : (b : Bool) → length (cond b (message ∷ own_messages hart messages) (own_messages hart messages))
            ≡ cond b (suc (own_long messages hart)) (own_long messages hart)
        by_test true = refl
        by_test false = refl

    -- A stranger is no known hart's own.
    not_own : is_stranger harts message ≡ true → (hart : ℕ) → hart < harts → is_own hart message ≡ false
    not_own strange hart below = by_tests (message.hart == hart) (has_number message) refl refl
      where
        by_tests : (is has : Bool) → (message.hart == hart) ≡ is → has_number message ≡ has → (is && has) ≡ false
        by_tests false has is own = refl
        by_tests true false is own = refl
        by_tests true true is own =
            let known = ap (λ n. nat_lt n harts) (eqb-true message.hart hart is) ∙ lt-ltb hart harts below in
            let never : false ≡ true =
            sym (ap (λ b. not (b && has_number message)) known ∙ ap not own) ∙ strange in
            cc

    own_others : (hart : ℕ) → hart ≢ message.hart → is_own hart message ≡ false
    own_others hart apart = ap (λ b. b && has_number message) (ne_eqb message.hart hart (λ is. apart (sym is)))

    own_here : has_number message ≡ true → is_own message.hart message ≡ true
    own_here has = ap (λ b. b && has_number message) (eq-eqb message.hart message.hart refl) ∙ has

  -- Each message is a stranger or a hart's own.
  pub each_once : (messages : List Message) → length messages
      ≡ count_by (is_stranger harts) messages + sum_from (own_long messages) 0 harts
  each_once [] = let none = none_long harts 0 in omega (arith, none)
  each_once (message ∷ messages) = by_test (is_stranger harts message) refl (each_once messages)
    where
      by_test : (b : Bool) → is_stranger harts message ≡ b
          → length messages ≡ count_by (is_stranger harts) messages + sum_from (own_long messages) 0 harts
          → suc (length messages) ≡ count_by (is_stranger harts) (message ∷ messages)
          + sum_from (own_long (message ∷ messages)) 0 harts
      by_test true strange rest =
          let count = count_cons (is_stranger harts) message messages
          ∙ ap (λ b. cond b (suc (count_by (is_stranger harts) messages)) (count_by (is_stranger harts) messages)) strange
          in
          let same = sum_within (own_long (message ∷ messages)) (own_long messages) 0 harts
          (λ h least most. long_by message messages h false (not_own message messages strange h (omega (arith, most)))) in
          omega (arith, count, same, rest)
      by_test false known rest =
          let count = count_cons (is_stranger harts) message messages
          ∙ ap (λ b. cond b (suc (count_by (is_stranger harts) messages)) (count_by (is_stranger harts) messages)) known in
          let own = others_own harts message known in
          let below = own.0 in
          let more = sum_more (own_long messages) (own_long (message ∷ messages)) message.hart
          (long_by message messages message.hart true (own_here message messages own.1))
          (λ h apart. long_by message messages h false (own_others message messages h apart)) 0 harts (omega arith)
          (omega (arith, below)) in
          omega (arith, count, more, rest)

pub counted_once : {A : Type 0} (words : Words) (mode : Mode) (harts : ℕ) (messages : List Message)
    (salvaged : Salvaged A) → IsSalvaged words mode harts messages salvaged → AreCountedOnce messages salvaged
counted_once {A} words mode harts messages salvaged is = record {
  each = each;
  all =
      let total = each_once harts messages in
      let strangers = is.strangers in
      let sums = ap (sum_from (λ hart. length (own_messages hart messages)) 0) (sym is.count)
      ∙ sum_of counted_of (λ hart. length (own_messages hart messages)) salvaged.harts.items 0
      (λ k own at.
      let here : k ≡ 0 + k = omega arith in
      subst (λ n. length (own_messages n messages) ≡ counted_of own) here (sym (each k own at))) in
      omega (arith, total, strangers, sums);
}
  where
    each : (hart : ℕ) (own : SalvagedHart A) → slice_get salvaged.harts.items hart ≡ Some own
        → counted_of own ≡ length (own_messages hart messages)
    each hart own at = hart_once words mode (own_messages hart messages) own (is.each hart own at)
