-- The parts that entries leave, and what each of the entries does.
use Rattle.std.proofs.Common.{◌≡◌, ℕ, zero, suc, ◌+◌, ◌-◌, ◌++◌, Bool, true, false, List, [], ◌∷◌, length, map}
use Rattle.std.proofs.Common.{Option, refl, sym, ap, subst, ◌∙◌, append_assoc, arith}
use Rattle.std.proofs.lemmas.List.{append-nil, length-append}
use Rattle.retire.specs.declared.event.Event.{Event}
use Rattle.rvclass.specs.Words.{Words, IsProgram}
use Rattle.payload.specs.declared.mode.Mode.{Mode}
use Rattle.payload.specs.declared.packet.Packet.{Packet}
use Rattle.decoder.proofs.UniqueLemmas.{one_log}
use Rattle.decoder.specs.Describes.{Describes}
use Rattle.message.specs.declared.message.Message.{Message}
use Rattle.losses.specs.Runs.{Run, first_run, from_sync, longer, opened, run_behind, run_of, trace_after, trace_of_run}
use Rattle.losses.proofs.RunLemmas.{describes_none, describes_nothing, from_sync-begun}
use Rattle.salvaging.specs.AlikeParts.{AreAlikeParts}
use Rattle.salvaging.specs.Ends.{AllLeaveBeyond, AreCutAtEnd, HartLeaves, LeavesBeyond}
use Rattle.salvaging.specs.Entries.{Entry, Used, Doubtful, next_used}
use Rattle.salvaging.specs.Leaving.{EntriesLeave, LeavesBefore, RunLeaves, UsedLeaves, kept, own_mode}
use Rattle.salvaging.specs.LeftParts.{LeftPart, Missing, BadNumber, DoubtfulNumber, AloneNumber, gap}
use Rattle.salvaging.specs.PartsIn.{parts_in}
use Rattle.salvaging.specs.Salvaged.{IsSalvagedHart}
use Rattle.salvaging.specs.Shares.{AllShareBeyond, EntriesShare, HartShares, Share, SharesBeyond, UsedShares}
use Rattle.salvaging.specs.Shares.{Adds, Passes, Spoils, StandsAlone, Doubts}
use Rattle.salvaging.specs.TreatedParts.{AreTreatedParts, added_in, events_in, events_taken, marks_in, marks_of}
use Rattle.salvaging.specs.Treatments.{HartTreats, added_of, rows, treatment_of}
use Rattle.salvaging.specs.declared.salvaged.SalvagedHart.{SalvagedHart}
use Rattle.salvaging.proofs.CutOnce.{cut_once}
use Rattle.salvaging.proofs.EntriesOfLog.{same_packet}
use Rattle.salvaging.proofs.EntriesOnce.{entries_once}
use Rattle.salvaging.proofs.MarkedPlaces.{marked_parts}
use Rattle.salvaging.proofs.Members.{no_item}
use Rattle.salvaging.proofs.OneWay.{alike_append, good_not_bad, reasons_alike}
use Rattle.salvaging.proofs.JoinedParts.{Agree, added_append, agree_front, events_append, events_gap, events_stretch}
use Rattle.salvaging.proofs.JoinedParts.{marks_append, marks_gap, marks_of-append, marks_stretch}

-- Nothing of a run is kept where the last packet leaves nothing.
none_before : (packets : List Packet) (p : Packet) → from_sync (packets ++ p ∷ []) ≡ [] → from_sync packets ≡ []
none_before packets p none = by_list (from_sync packets) refl
  where
    by_list : (syncs : List Packet) → from_sync packets ≡ syncs → from_sync packets ≡ []
    by_list [] is = is
    by_list (q ∷ qs) is = absurd (no_item (q ∷ qs) p (sym (from_sync-begun packets p q qs is) ∙ none))

nothing_kept : (mode : Mode) (missing : ℕ) (packets : List Packet) (p : Packet)
    → kept missing (packets ++ p ∷ []) ≡ []
    → (trace_after missing mode packets ≡ []) × (trace_after missing mode (packets ++ p ∷ []) ≡ [])
nothing_kept mode zero packets p none = absurd (no_item packets p none)
nothing_kept mode (suc missing) packets p none =
    (ap (opened mode) (none_before packets p none), ap (opened mode) none)

-- Each entry does something.
module _ (words : Words) (mode : Mode) where
  pub used_rest : (run : Run) (payload : List ℕ) (following : Option ℕ) (share : Share) (Rest : Run → Type 0)
      → UsedShares words mode run payload following share Rest → (behind : Run) × Rest behind
  used_rest run payload following (Spoils why) Rest (bad, rest) = (run_of 1 [], rest)
  used_rest run payload following (Adds events) Rest (q, good, given, rest) = (longer run (q ∷ []), rest)
  used_rest run payload following Passes Rest (q, good, given, rest) = (longer run (q ∷ []), rest)
  used_rest run payload following StandsAlone Rest (q, good, given, rest) = absurd given
  used_rest run payload following Doubts Rest (q, good, given, rest) = absurd given

  pub shares_many : (entries : List Entry) (run : Run) (next : ℕ) (shares : List Share)
      → EntriesShare words mode run next entries shares → length shares ≡ length entries
  shares_many [] run next [] share = refl
  shares_many [] run next (one ∷ shares) share = absurd share
  shares_many (entry ∷ entries) run next [] share = absurd share
  shares_many (Used number place payload ∷ entries) run next (one ∷ shares) share =
      let rest = used_rest (run_behind (number - next) run) payload (next_used entries) one
      (λ behind. EntriesShare words mode behind (number + 1) entries shares) share in
      ap suc (shares_many entries rest.0 (number + 1) shares rest.1)
  shares_many (Doubtful number first second ∷ entries) run next (one ∷ shares) share =
      ap suc (shares_many entries (run_of 1 []) number shares share.1)

  beyond_many : (entries : List Entry) (shares : List Share) → AllShareBeyond words mode entries shares
      → length shares ≡ length entries
  beyond_many [] [] share = refl
  beyond_many [] (one ∷ shares) share = absurd share
  beyond_many (entry ∷ entries) [] share = absurd share
  beyond_many (entry ∷ entries) (one ∷ shares) share = ap suc (beyond_many entries shares share.1)

  pub hart_many : (upto beyond : List Entry) (shares : List Share) → HartShares words mode upto beyond shares
      → length shares ≡ length (upto ++ beyond)
  hart_many upto beyond shares share =
      let first = shares_many upto first_run 0 share.first share.shares_upto in
      let after = beyond_many beyond share.after share.shares_beyond in
      let all = ap length share.whole ∙ length-append share.first share.after in
      let whole = length-append upto beyond in
      omega (arith, first, after, all, whole)

module _ (words : Words) (program : IsProgram words) (mode : Mode) where
  -- The events of a run that is over.
  run_events : (run : Run) (next : ℕ) (parts : List LeftPart) (before : List Event)
      → Describes words (trace_of_run mode run) before → RunLeaves words mode run next parts
      → (events_in parts ≡ before) × (marks_in parts ≡ [])
  run_events run next parts before described (events, too, is) =
      let count = length (kept run.missing run.packets) in
      let same = one_log words program (trace_of_run mode run) events before too described in (
        ap events_in is ∙ events_stretch next count events ∙ same,
        ap marks_in is ∙ marks_stretch next count events,
      )

  module _ (run : Run) (number place : ℕ) (payload : List ℕ) (following : Option ℕ) (entries : List Entry)
      (shares : List Share) (Leaves : Run → List LeftPart → Type 0) (Rest : Run → Type 0)
      (more : (behind : Run) (begun : List Event) → Describes words (trace_of_run mode behind) begun
      → (rest : List LeftPart) → Leaves behind rest → Rest behind → Agree begun entries shares rest)
      (before : List Event) (described : Describes words (trace_of_run mode run) before) where
    used_agree : (good : Bool) (share : Share) (parts : List LeftPart)
        → UsedLeaves words mode run number place payload following good Leaves parts
        → UsedShares words mode run payload following share Rest
        → Agree before (Used number place payload ∷ entries) (share ∷ shares) parts
    used_agree true (Spoils why) parts (p, good, follows) (bad, rest) =
        absurd (good_not_bad words program mode run payload following p why good bad)
    used_agree true (Adds events) parts (p, good, follows) (q, too, (some, begun, first, then), rest) =
        let same = same_packet payload q p too.read good.read in
        let begun_is = one_log words program (trace_of_run mode run) begun before first described in
        let agree = more (longer run (p ∷ [])) (before ++ events)
        (subst (λ l. Describes words (trace_of_run mode (longer run (p ∷ []))) (l ++ events)) begun_is
        (subst (λ x. Describes words (trace_of_run mode (longer run (x ∷ []))) (begun ++ events)) same then))
        parts follows (subst (λ x. Rest (longer run (x ∷ []))) same rest) in
        record { events = agree.events ∙ append_assoc before events (added_in shares); marks = agree.marks }
    used_agree true Passes parts (p, good, follows) (q, too, none, rest) =
        let same = same_packet payload q p too.read good.read in
        let nothing = nothing_kept mode run.missing run.packets p
        (subst (λ x. kept run.missing (run.packets ++ x ∷ []) ≡ []) same none) in
        let empty = describes_none words before
        (subst (λ ps. Describes words ps before) nothing.0 described) in
        let agree = more (longer run (p ∷ [])) []
        (subst (λ ps. Describes words ps []) (sym nothing.1) (describes_nothing words)) parts follows
        (subst (λ x. Rest (longer run (x ∷ []))) same rest) in
        record { events = agree.events ∙ ap (λ l. l ++ added_in shares) (sym empty); marks = agree.marks }
    used_agree true StandsAlone parts leaves does = absurd does.2
    used_agree true Doubts parts leaves does = absurd does.2
    used_agree false (Spoils fault) parts (why, bad, over, left, rest, is, follows) (bad_too, rests) =
        let ran = run_events run number over before described left in
        let agree = more (run_of 1 []) [] (describes_nothing words) rest follows rests in
        agree_front before (Used number place payload ∷ entries) (Spoils fault ∷ shares) over
        (BadNumber number place why ∷ rest) parts is ran.0 ran.1
        (record {
          events = agree.events;
          marks = (
            refl,
            refl,
            reasons_alike words program mode run payload following why fault bad bad_too,
            agree.marks,
          );
        })
    used_agree false (Adds events) parts leaves does =
        absurd (good_not_bad words program mode run payload following does.0 leaves.0 does.1 leaves.1)
    used_agree false Passes parts leaves does =
        absurd (good_not_bad words program mode run payload following does.0 leaves.0 does.1 leaves.1)
    used_agree false StandsAlone parts leaves does =
        absurd (good_not_bad words program mode run payload following does.0 leaves.0 does.1 leaves.1)
    used_agree false Doubts parts leaves does =
        absurd (good_not_bad words program mode run payload following does.0 leaves.0 does.1 leaves.1)

  -- What entries leave is what they do.
  entries_agree : (entries : List Entry) (run : Run) (next : ℕ) (goods : List Bool) (parts : List LeftPart)
      (shares : List Share) (before : List Event) → EntriesLeave words mode run next entries goods parts
      → EntriesShare words mode run next entries shares → Describes words (trace_of_run mode run) before
      → Agree before entries shares parts
  entries_agree [] run next [] parts [] before leaves share described =
      let ran = run_events run next parts before described leaves in
      record {
        events = ran.0 ∙ sym (append-nil before);
        marks = subst (λ l. AreAlikeParts l []) (sym ran.1) tt;
      }
  entries_agree [] run next [] parts (one ∷ shares) before leaves share described = absurd share
  entries_agree [] run next (good ∷ goods) parts shares before leaves share described = absurd leaves
  entries_agree (entry ∷ entries) run next [] parts shares before leaves share described = absurd leaves
  entries_agree (entry ∷ entries) run next (good ∷ goods) parts [] before leaves share described = absurd share
  entries_agree (Used number place payload ∷ entries) run next (good ∷ goods) parts (one ∷ shares) before
      (over, before_leaves, rest, is, used) share described =
      by_lost (λ behind begun tells rest follows rests.
      entries_agree entries behind (number + 1) goods rest shares begun follows rests tells) (number - next)
      before_leaves
      used share
    where
      by_lost : ((behind : Run) (begun : List Event) → Describes words (trace_of_run mode behind) begun
          → (rest : List LeftPart) → EntriesLeave words mode behind (number + 1) entries goods rest
          → EntriesShare words mode behind (number + 1) entries shares → Agree begun entries shares rest)
          → (lost : ℕ) → LeavesBefore words mode run next lost over
          → UsedLeaves words mode (run_behind lost run) number place payload (next_used entries) good
          (λ behind. EntriesLeave words mode behind (number + 1) entries goods) rest
          → UsedShares words mode (run_behind lost run) payload (next_used entries) one
          (λ behind. EntriesShare words mode behind (number + 1) entries shares)
          → Agree before (Used number place payload ∷ entries) (one ∷ shares) parts
      by_lost more zero none left does =
          subst (Agree before (Used number place payload ∷ entries) (one ∷ shares))
          (sym (is ∙ ap (λ l. l ++ rest) none))
          (used_agree run number place payload (next_used entries) entries shares
          (λ behind. EntriesLeave words mode behind (number + 1) entries goods)
          (λ behind. EntriesShare words mode behind (number + 1) entries shares) more before described good one rest
          left
          does)
      by_lost more (suc lost) (ended, left_before, gone) left does =
          let ran = run_events run next ended before described left_before in
          agree_front before (Used number place payload ∷ entries) (one ∷ shares) over rest parts is
          (ap events_in gone ∙ events_append ended (Missing (suc lost) ∷ []) ∙ append-nil (events_in ended) ∙ ran.0)
          (ap marks_in gone ∙ marks_append ended (Missing (suc lost) ∷ []) ∙ append-nil (marks_in ended) ∙ ran.1)
          (used_agree (run_of (suc lost) []) number place payload (next_used entries) entries shares
          (λ behind. EntriesLeave words mode behind (number + 1) entries goods)
          (λ behind. EntriesShare words mode behind (number + 1) entries shares) more [] (describes_nothing words) good
          one rest left does)
  entries_agree (Doubtful number first second ∷ entries) run next (good ∷ goods) parts (one ∷ shares) before
      (bad, over, left, rest, is, follows) (doubts, rests) described =
      let ran = run_events run next over before described left in
      let agree = entries_agree entries (run_of 1 []) number goods rest shares [] follows rests
      (describes_nothing words)
      in
      let own : Agree [] (Doubtful number first second ∷ entries) (one ∷ shares)
      (DoubtfulNumber number first second ∷ rest) =
      record {
        events = subst (λ s. events_in rest ≡ added_in (s ∷ shares)) (sym doubts) agree.events;
        marks = subst (λ s. AreAlikeParts (DoubtfulNumber number first second ∷ marks_in rest)
            (marks_of (Doubtful number first second ∷ entries) (s ∷ shares))) (sym doubts)
            (refl, refl, refl, agree.marks);
      } in
      agree_front before (Doubtful number first second ∷ entries) (one ∷ shares) over
      (gap (number - next) ++ DoubtfulNumber number first second ∷ rest) parts is ran.0 ran.1
      (agree_front [] (Doubtful number first second ∷ entries) (one ∷ shares) (gap (number - next))
      (DoubtfulNumber number first second ∷ rest) (gap (number - next) ++ DoubtfulNumber number first second ∷ rest)
      refl
      (events_gap (number - next)) (marks_gap (number - next)) own)

  -- Beyond the end of their hart too.
  one_agrees : (entry : Entry) (entries : List Entry) (following : Option ℕ) (share : Share) (shares : List Share)
      (part : LeftPart) (parts : List LeftPart) → LeavesBeyond words mode entry following part
      → SharesBeyond words mode entry following share → Agree [] entries shares parts
      → Agree [] (entry ∷ entries) (share ∷ shares) (part ∷ parts)
  one_agrees (Used number place payload) entries following (Spoils fault) shares (BadNumber n p why) parts
      (is, at, bad) too agree = record {
        events = agree.events;
        marks = (
          is,
          at,
          reasons_alike words program mode (run_of 1 []) payload following why fault bad too,
          agree.marks,
        );
      }
  one_agrees (Used number place payload) entries following StandsAlone shares (AloneNumber n p) parts
      leaves too agree = record { events = agree.events; marks = (leaves.0, leaves.1, agree.marks) }
  one_agrees (Used number place payload) entries following StandsAlone shares (BadNumber n p why) parts
      (is, at, bad) (q, good) agree =
      absurd (good_not_bad words program mode (run_of 1 []) payload following q why good bad)
  one_agrees (Used number place payload) entries following (Spoils fault) shares (AloneNumber n p) parts
      (is, at, q, good) bad agree =
      absurd (good_not_bad words program mode (run_of 1 []) payload following q fault good bad)
  one_agrees (Doubtful number first second) entries following Doubts shares (DoubtfulNumber n i j) parts
      (is, at, behind) too agree = record { events = agree.events; marks = (is, at, behind, agree.marks) }
  one_agrees (Used number place payload) entries following (Adds events) shares part parts leaves too agree = absurd too
  one_agrees (Used number place payload) entries following Passes shares part parts leaves too agree = absurd too
  one_agrees (Used number place payload) entries following Doubts shares part parts leaves too agree = absurd too
  one_agrees (Doubtful number first second) entries following (Adds events) shares part parts leaves too agree =
      absurd too
  one_agrees (Doubtful number first second) entries following Passes shares part parts leaves too agree = absurd too
  one_agrees (Doubtful number first second) entries following (Spoils why) shares part parts leaves too agree =
      absurd too
  one_agrees (Doubtful number first second) entries following StandsAlone shares part parts leaves too agree =
      absurd too
  one_agrees entry entries following share shares part parts leaves too agree = absurd leaves

  beyond_agrees : (entries : List Entry) (parts : List LeftPart) (shares : List Share)
      → AllLeaveBeyond words mode entries parts → AllShareBeyond words mode entries shares
      → Agree [] entries shares parts
  beyond_agrees [] [] [] leaves share = record { events = refl; marks = tt }
  beyond_agrees [] [] (one ∷ shares) leaves share = absurd share
  beyond_agrees [] (part ∷ parts) shares leaves share = absurd leaves
  beyond_agrees (entry ∷ entries) [] shares leaves share = absurd leaves
  beyond_agrees (entry ∷ entries) (part ∷ parts) [] leaves share = absurd share
  beyond_agrees (entry ∷ entries) (part ∷ parts) (one ∷ shares) leaves share =
      one_agrees entry entries (next_used entries) one shares part parts leaves.0 share.0
      (beyond_agrees entries parts shares leaves.1 share.1)

  hart_agrees : (upto beyond : List Entry) (goods : List Bool) (parts : List LeftPart) (shares : List Share)
      → HartLeaves words mode upto beyond goods parts → HartShares words mode upto beyond shares
      → Agree [] (upto ++ beyond) shares parts
  hart_agrees upto beyond goods parts shares leaves share =
      let first = entries_agree upto first_run 0 leaves.good_first leaves.first share.first [] leaves.leaves
      share.shares_upto (describes_nothing words) in
      let after = beyond_agrees beyond leaves.after share.after leaves.beyond_leaves share.shares_beyond in
      let many = shares_many words mode upto first_run 0 share.first share.shares_upto in
      record {
        events = ap events_in leaves.parts_are ∙ events_append leaves.first leaves.after
            ∙ ap (λ l. l ++ events_in leaves.after) first.events ∙ ap (λ l. added_in share.first ++ l) after.events
            ∙ sym (added_append share.first share.after) ∙ sym (ap added_in share.whole);
        marks = subst (λ l. AreAlikeParts l (marks_of (upto ++ beyond) shares))
            (sym (ap marks_in leaves.parts_are ∙ marks_append leaves.first leaves.after))
            (subst (AreAlikeParts (marks_in leaves.first ++ marks_in leaves.after))
            (sym (ap (marks_of (upto ++ beyond)) share.whole
            ∙ marks_of-append upto beyond share.first share.after many))
            (alike_append (marks_in leaves.first) (marks_in leaves.after) (marks_of upto share.first)
            (marks_of beyond share.after) first.marks after.marks));
      }

-- Rows say how many events their messages add.
count_added : (events : List Event) → (added_of events).count ≡ length events
count_added [] = refl
count_added (event ∷ events) = refl

none_more : {count events : ℕ} → count ≡ events → 0 + count ≡ events
none_more same = omega (arith, same)

rows_count : (far : Entry → Bool) (entries : List Entry) (shares : List Share) → length shares ≡ length entries
    → events_taken (rows far entries (map treatment_of shares)) ≡ length (added_in shares)
rows_count far [] [] many = refl
rows_count far [] (share ∷ shares) many = absurd (omega (arith, many))
rows_count far (entry ∷ entries) [] many = absurd (omega (arith, many))
rows_count far (entry ∷ entries) (Adds events ∷ shares) many =
    let rest = rows_count far entries shares (omega (arith, many)) in
    let own = count_added events in
    let both = length-append events (added_in shares) in
    ap (λ n. n + events_taken (rows far entries (map treatment_of shares))) own ∙ ap (λ n. length events + n) rest ∙ sym
    both
rows_count far (entry ∷ entries) (Passes ∷ shares) many =
    none_more (rows_count far entries shares (omega (arith, many)))
rows_count far (entry ∷ entries) (Spoils why ∷ shares) many =
    none_more (rows_count far entries shares (omega (arith, many)))
rows_count far (entry ∷ entries) (StandsAlone ∷ shares) many =
    none_more (rows_count far entries shares (omega (arith, many)))
rows_count far (entry ∷ entries) (Doubts ∷ shares) many =
    none_more (rows_count far entries shares (omega (arith, many)))

-- The parts of a hart and what its entries do, of the same messages.
pub parts_treated : {A : Type 0} (words : Words) (mode : Mode) (messages : List Message) (hart : SalvagedHart A)
    → IsProgram words → IsSalvagedHart words mode messages hart → (treats : HartTreats words mode messages)
    → AreTreatedParts (parts_in hart.parts.items) treats
parts_treated words mode messages hart program salvaged treats =
    let own = own_mode mode treats.entries in
    let same = entries_once messages salvaged.entries treats.entries salvaged.are_entries treats.are_entries in
    let cut = subst (λ es. AreCutAtEnd words (own_mode mode es) es salvaged.upto salvaged.beyond) same salvaged.cut in
    let once = cut_once words own treats.entries salvaged.upto treats.upto salvaged.beyond treats.beyond cut treats.cut
    in
    let leaves = subst (λ es. HartLeaves words own treats.upto es salvaged.goods (parts_in hart.parts.items)) once.1
    (subst (λ es. HartLeaves words own es salvaged.beyond salvaged.goods (parts_in hart.parts.items)) once.0
    (subst (λ es. HartLeaves words (own_mode mode es) salvaged.upto salvaged.beyond salvaged.goods
    (parts_in hart.parts.items)) same salvaged.parts)) in
    let agree = hart_agrees words program own treats.upto treats.beyond salvaged.goods (parts_in hart.parts.items)
    treats.shares leaves treats.are_shares in
    let many = hart_many words own treats.upto treats.beyond treats.shares treats.are_shares
    ∙ sym (ap length treats.cut.whole) in
    let marks : AreAlikeParts (marks_in (parts_in hart.parts.items)) (marks_of treats.entries treats.shares) =
    subst (λ es. AreAlikeParts (marks_in (parts_in hart.parts.items)) (marks_of es treats.shares))
    (sym treats.cut.whole)
    agree.marks in
    record {
      marks = marks;
      places = marked_parts treats.are_far.among messages treats.entries treats.shares treats.are_entries
          (parts_in hart.parts.items) marks;
      events = agree.events;
      count = rows_count treats.are_far.among treats.entries treats.shares many ∙ sym (ap length agree.events);
    }
