-- Where a synchronisation is looked for, entries leave a stretch if and only if one begins at one of them.
use Rattle.std.proofs.Common.{◌≡◌, ◌≢◌, ℕ, zero, suc, ◌+◌, ◌-◌, ◌++◌, Bool, true, false, List, [], ◌∷◌, length}
use Rattle.std.proofs.Common.{Option, None, refl, sym, ap, subst, ◌∙◌}
use Rattle.std.specs.Prelude.{Ok}
use Rattle.retire.specs.declared.event.Event.{Event}
use Rattle.rvclass.specs.Words.{Words}
use Rattle.legalpath.specs.Join.{join}
use Rattle.payload.specs.Reading.{reading}
use Rattle.payload.specs.declared.mode.Mode.{Mode}
use Rattle.payload.specs.declared.packet.Packet.{Packet}
use Rattle.payload.specs.declared.packet.Packet.TheVariants as packet
use Rattle.decoder.specs.Describes.{Describes}
use Rattle.decoder.specs.Order.{open_packet}
use Rattle.decoder.specs.Pieces.{Pieces}
use Rattle.decoder.specs.Resuming.{IsSync}
use Rattle.losses.specs.Runs.{Run, from_sync, longer, opened, run_behind, run_of, trace_of_run}
use Rattle.losses.proofs.RunLemmas.{Kind, Syncs, Closes, Passed, describes_none, from_sync-begun, from_sync-none}
use Rattle.losses.proofs.RunLemmas.{kind_of}
use Rattle.salvaging.specs.Bad.{IsBad, IsGood}
use Rattle.salvaging.specs.Ends.{BeginsStretch, NoneBegins}
use Rattle.salvaging.specs.EndsByParts.{NoStretch}
use Rattle.salvaging.specs.Entries.{Entry, Used, Doubtful, next_used}
use Rattle.salvaging.specs.Leaving.{EntriesLeave, LeavesBefore, RunLeaves, UsedLeaves, kept}
use Rattle.salvaging.specs.LeftParts.{LeftPart, Missing, Events, BadNumber, DoubtfulNumber, AloneNumber, gap, stretch}
use Rattle.salvaging.specs.declared.reason.Reason.{Reason}
use Rattle.salvaging.specs.declared.reason.Reason.TheVariants as reason
use Rattle.salvaging.proofs.EndLemmas.{not_closing}

-- Stretches among parts of which some are before others.
none_ahead : (xs ys : List LeftPart) → NoStretch (xs ++ ys) → NoStretch xs
none_ahead [] ys none = tt
none_ahead (Missing count ∷ xs) ys none = none_ahead xs ys none
none_ahead (Events first last events ∷ xs) ys none = none
none_ahead (BadNumber number place why ∷ xs) ys none = none_ahead xs ys none
none_ahead (DoubtfulNumber number first second ∷ xs) ys none = none_ahead xs ys none
none_ahead (AloneNumber number place ∷ xs) ys none = none_ahead xs ys none

none_after : (xs ys : List LeftPart) → NoStretch (xs ++ ys) → NoStretch ys
none_after [] ys none = none
none_after (Missing count ∷ xs) ys none = none_after xs ys none
none_after (Events first last events ∷ xs) ys none = absurd none
none_after (BadNumber number place why ∷ xs) ys none = none_after xs ys none
none_after (DoubtfulNumber number first second ∷ xs) ys none = none_after xs ys none
none_after (AloneNumber number place ∷ xs) ys none = none_after xs ys none

none_in_both : (xs ys : List LeftPart) → NoStretch xs → NoStretch ys → NoStretch (xs ++ ys)
none_in_both [] ys none more = more
none_in_both (Missing count ∷ xs) ys none more = none_in_both xs ys none more
none_in_both (Events first last events ∷ xs) ys none more = absurd none
none_in_both (BadNumber number place why ∷ xs) ys none more = none_in_both xs ys none more
none_in_both (DoubtfulNumber number first second ∷ xs) ys none more = none_in_both xs ys none more
none_in_both (AloneNumber number place ∷ xs) ys none more = none_in_both xs ys none more

none_in_gap : (missing : ℕ) → NoStretch (gap missing)
none_in_gap zero = tt
none_in_gap (suc missing) = tt

no_events : (next count : ℕ) (events : List Event) → NoStretch (stretch next count events) → events ≡ []
no_events next count [] none = refl
no_events next count (event ∷ events) none = absurd none

-- A synchronisation is the first packet of its stretch.
sync_first : (p : Packet) → IsSync p → from_sync (p ∷ []) ≡ p ∷ []
sync_first (packet.Sync taken priv address) sync = refl
sync_first (packet.Support support) sync = absurd sync
sync_first (packet.Trap taken priv cause interrupt handler address tval) sync = absurd sync
sync_first (packet.Address taken delta report) sync = absurd sync
sync_first (packet.Map taken) sync = absurd sync

first_syncs : (ps : List Packet) (q : Packet) (qs : List Packet) → from_sync ps ≡ q ∷ qs → IsSync q
first_syncs [] q qs is = cc
first_syncs (packet.Sync taken priv address ∷ ps) q qs is =
    let same : packet.Sync taken priv address ≡ q = cc in
    subst IsSync same tt
first_syncs (packet.Support support ∷ ps) q qs is = first_syncs ps q qs is
first_syncs (packet.Trap taken priv cause interrupt handler address tval ∷ ps) q qs is = first_syncs ps q qs is
first_syncs (packet.Address taken delta report ∷ ps) q qs is = first_syncs ps q qs is
first_syncs (packet.Map taken ∷ ps) q qs is = first_syncs ps q qs is

module _ (words : Words) (mode : Mode) where
  -- A trace that begins with a synchronisation describes an event.
  not_empty : (q : Packet) (qs : List Packet) (events : List Event) → IsSync q
      → Describes words (open_packet mode ∷ q ∷ qs) events → events ≢ []
  not_empty (packet.Sync taken priv address) qs events sync d = by_pieces d.pieces d.each d.whole
    where
      by_pieces : (pieces : List (List Event))
          → Pieces words mode None 0 (open_packet mode ∷ packet.Sync taken priv address ∷ qs) None pieces
          → events ≡ join pieces → events ≢ []
      by_pieces [] each whole empty = absurd each
      by_pieces (first ∷ []) each whole empty = absurd each.2
      by_pieces (first ∷ piece ∷ pieces) each whole empty =
          let opens : first ≡ [] = each.1 in
          let one = each.2.1 in
          let is : join (first ∷ piece ∷ pieces) ≡ one.0 ∷ join pieces =
          ap (λ l. l ++ (piece ++ join pieces)) opens ∙ ap (λ l. l ++ join pieces) one.1 in
          let none : one.0 ∷ join pieces ≡ [] = sym is ∙ sym whole ∙ empty in
          cc
  not_empty (packet.Support support) qs events sync d = absurd sync
  not_empty (packet.Trap taken priv cause interrupt handler address tval) qs events sync d = absurd sync
  not_empty (packet.Address taken delta report) qs events sync d = absurd sync
  not_empty (packet.Map taken) qs events sync d = absurd sync

  -- A run in which a synchronisation came leaves a stretch.
  begun_left : (missing : ℕ) (packets : List Packet) (q : Packet) (qs : List Packet) → from_sync packets ≡ q ∷ qs
      → (next : ℕ) (parts : List LeftPart) → RunLeaves words mode (run_of (suc missing) packets) next parts
      → ¬ NoStretch parts
  begun_left missing packets q qs begun next parts (events, described, is) none =
      not_empty q qs events (first_syncs packets q qs begun)
      (subst (λ ps. Describes words (opened mode ps) events) begun described)
      (no_events next (length (kept (suc missing) packets)) events (subst NoStretch is none))

  -- A run in which none came leaves nothing.
  looking_left : (missing : ℕ) (packets : List Packet) → from_sync packets ≡ [] → (next : ℕ) (parts : List LeftPart)
      → RunLeaves words mode (run_of (suc missing) packets) next parts → parts ≡ []
  looking_left missing packets looks next parts (events, described, is) =
      let none = describes_none words events
      (subst (λ ps. Describes words (opened mode ps) events) looks described) in
      is ∙ ap (stretch next (length (kept (suc missing) packets))) none

  used_after_begun : (missing : ℕ) (packets : List Packet) (q : Packet) (qs : List Packet)
      → from_sync packets ≡ q ∷ qs → (number place : ℕ) (payload : List ℕ) (following : Option ℕ) (good : Bool)
      (Follows : Run → List LeftPart → Type 0) (parts : List LeftPart)
      → ((p : Packet) (rest : List LeftPart) → Follows (run_of (suc missing) (packets ++ p ∷ [])) rest
      → ¬ NoStretch rest)
      → UsedLeaves words mode (run_of (suc missing) packets) number place payload following good Follows parts
      → ¬ NoStretch parts
  used_after_begun missing packets q qs begun number place payload following true Follows parts more
      (p, is_good, follows) none = more p parts follows none
  used_after_begun missing packets q qs begun number place payload following false Follows parts more
      (why, bad, before, left, rest, is, follows) none =
      begun_left missing packets q qs begun number before left
      (none_ahead before (BadNumber number place why ∷ rest) (subst NoStretch is none))

  -- Where a stretch is under way, entries leave a stretch.
  begun_leaves : (entries : List Entry) (missing : ℕ) (packets : List Packet) (q : Packet) (qs : List Packet)
      → from_sync packets ≡ q ∷ qs → (next : ℕ) (goods : List Bool) (parts : List LeftPart)
      → EntriesLeave words mode (run_of (suc missing) packets) next entries goods parts → ¬ NoStretch parts
  begun_leaves [] missing packets q qs begun next [] parts leaves none =
      begun_left missing packets q qs begun next parts leaves none
  begun_leaves [] missing packets q qs begun next (good ∷ goods) parts leaves none = absurd leaves
  begun_leaves (entry ∷ entries) missing packets q qs begun next [] parts leaves none = absurd leaves
  begun_leaves (Used number place payload ∷ entries) missing packets q qs begun next (good ∷ goods) parts
      (before, leaves_before, rest, is, used) none =
      by_lost (λ p more follows. begun_leaves entries missing (packets ++ p ∷ []) q (qs ++ p ∷ [])
      (from_sync-begun packets p q qs begun) (number + 1) goods more follows) (number - next) leaves_before used
    where
      none_left : NoStretch (before ++ rest)
      none_left = subst NoStretch is none

      by_lost : ((p : Packet) (more : List LeftPart)
          → EntriesLeave words mode (run_of (suc missing) (packets ++ p ∷ [])) (number + 1) entries goods more
          → ¬ NoStretch more)
          → (lost : ℕ) → LeavesBefore words mode (run_of (suc missing) packets) next lost before
          → UsedLeaves words mode (run_behind lost (run_of (suc missing) packets)) number place payload
          (next_used entries) good (λ behind. EntriesLeave words mode behind (number + 1) entries goods) rest → ⊥
      by_lost further zero here left =
          used_after_begun missing packets q qs begun number place payload (next_used entries) good
          (λ behind. EntriesLeave words mode behind (number + 1) entries goods) rest further
          left (none_after before rest none_left)
      by_lost further (suc lost) (ended, over, gone) left =
          begun_left missing packets q qs begun next ended over
          (none_ahead ended (Missing (suc lost) ∷ []) (subst NoStretch gone (none_ahead before rest none_left)))
  begun_leaves (Doubtful number first second ∷ entries) missing packets q qs begun next (good ∷ goods) parts
      (bad, before, over, rest, is, follows) none =
      begun_left missing packets q qs begun next before over
      (none_ahead before (gap (number - next) ++ DoubtfulNumber number first second ∷ rest) (subst NoStretch is none))

  -- What a synchronisation begins is the same trace, whatever was passed over before it.
  pub begins_trace : (missing : ℕ) (packets : List Packet) → from_sync packets ≡ [] → (p : Packet) → IsSync p
      → trace_of_run mode (longer (run_of (suc missing) packets) (p ∷ [])) ≡ open_packet mode ∷ p ∷ []
  begins_trace missing packets looks p sync =
      ap (opened mode) (from_sync-none packets p looks ∙ sync_first p sync)

  -- A stretch begins at a good synchronisation.
  begins_good : (missing : ℕ) (packets : List Packet) → from_sync packets ≡ [] → (number place : ℕ)
      (payload : List ℕ) (following : Option ℕ) (p : Packet) → IsSync p
      → IsGood words mode (run_of (suc missing) packets) payload following p
      → BeginsStretch words mode (Used number place payload)
  begins_good missing packets looks number place payload following p sync good =
      let same = begins_trace missing packets looks p sync ∙ sym (begins_trace 0 [] refl p sync) in (
        p,
        sync,
        record {
          read = good.read;
          not_early = λ closing. refl;
          described = (good.described.0, subst (λ ps. Describes words ps good.described.0) same good.described.1);
        },
      )

  -- None begins at a bad one.
  bad_begins : (missing : ℕ) (packets : List Packet) → from_sync packets ≡ [] → (number place : ℕ) (payload : List ℕ)
      (following : Option ℕ) (why : Reason) → IsBad words mode (run_of (suc missing) packets) payload following why
      → ¬ BeginsStretch words mode (Used number place payload)
  bad_begins missing packets looks number place payload following (reason.Packet why) bad (p, sync, good) =
      let read = good.read in cc
  bad_begins missing packets looks number place payload following (reason.Closing next) bad (p, sync, good) =
      let never = not_closing words mode payload p good.read sync in
      let closes = bad.0 in
      let both : true ≡ false = sym closes ∙ never in
      cc
  bad_begins missing packets looks number place payload following (reason.Decode why) bad (p, sync, good) =
      let own = bad.read in
      let read = good.read in
      let one : bad.packet ≡ p = cc in
      let same = begins_trace 0 [] refl p sync ∙ sym (begins_trace missing packets looks p sync)
      ∙ ap (λ x. trace_of_run mode (longer (run_of (suc missing) packets) (x ∷ []))) (sym one) in
      bad.not_described good.described.0 (subst (λ ps. Describes words ps good.described.0) same good.described.1)

  -- None begins at a good one that is no synchronisation.
  other_begins : (number place : ℕ) (payload : List ℕ) (p : Packet) → reading payload ≡ Ok p → from_sync (p ∷ []) ≡ []
      → ¬ BeginsStretch words mode (Used number place payload)
  other_begins number place payload p own none (s, sync, good) =
      let read = good.read in
      let one : s ≡ p = cc in
      let begun : from_sync (p ∷ []) ≡ s ∷ [] = ap (λ x. from_sync (x ∷ [])) (sym one) ∙ sync_first s sync in
      let both : [] ≡ s ∷ [] = sym none ∙ begun in
      cc

  module _ (number place : ℕ) (payload : List ℕ) (entries : List Entry) (goods : List Bool) where
    abbrev Follows : Run → List LeftPart → Type 0
    Follows behind = EntriesLeave words mode behind (number + 1) entries goods

    -- Where a synchronisation is looked for, a used number leaves no stretch.
    used_none : (missing : ℕ) (packets : List Packet) → from_sync packets ≡ [] → (following : Option ℕ) (good : Bool)
        (parts : List LeftPart)
        → ((lost : ℕ) (passed : List Packet) → from_sync passed ≡ [] → (rest : List LeftPart)
        → Follows (run_of (suc lost) passed) rest → NoStretch rest → NoneBegins words mode entries)
        → UsedLeaves words mode (run_of (suc missing) packets) number place payload following good Follows parts
        → NoStretch parts → NoneBegins words mode (Used number place payload ∷ entries)
    used_none missing packets looks following true parts more (p, is_good, follows) none = by_kind (kind_of p)
      where
        passes : from_sync (p ∷ []) ≡ [] → NoneBegins words mode (Used number place payload ∷ entries)
        passes other = (
          other_begins number place payload p is_good.read other,
          more missing (packets ++ p ∷ []) (from_sync-none packets p looks ∙ other) parts follows none,
        )

        by_kind : Kind p → NoneBegins words mode (Used number place payload ∷ entries)
        by_kind (Syncs first sync opens) =
            absurd (begun_leaves entries missing (packets ++ p ∷ []) p [] (from_sync-none packets p looks ∙ first)
            (number + 1) goods parts follows none)
        by_kind (Closes other closing opens) = passes other
        by_kind (Passed other closing sync) = passes other
    used_none missing packets looks following false parts more (why, bad, before, left, rest, is, follows) none = (
      bad_begins missing packets looks number place payload following why bad,
      more 0 [] refl rest follows (none_after before (BadNumber number place why ∷ rest) (subst NoStretch is none)),
    )

    -- Where no stretch begins, a used number leaves none.
    used_left : (missing : ℕ) (packets : List Packet) → from_sync packets ≡ [] → (following : Option ℕ) (good : Bool)
        (parts : List LeftPart)
        → ((lost : ℕ) (passed : List Packet) → from_sync passed ≡ [] → (rest : List LeftPart)
        → Follows (run_of (suc lost) passed) rest → NoStretch rest)
        → UsedLeaves words mode (run_of (suc missing) packets) number place payload following good Follows parts
        → ¬ BeginsStretch words mode (Used number place payload) → NoStretch parts
    used_left missing packets looks following true parts more (p, is_good, follows) never = by_kind (kind_of p)
      where
        by_kind : Kind p → NoStretch parts
        by_kind (Syncs first sync opens) =
            absurd (never (begins_good missing packets looks number place payload following p sync is_good))
        by_kind (Closes other closing opens) =
            more missing (packets ++ p ∷ []) (from_sync-none packets p looks ∙ other) parts follows
        by_kind (Passed other closing sync) =
            more missing (packets ++ p ∷ []) (from_sync-none packets p looks ∙ other) parts follows
    used_left missing packets looks following false parts more (why, bad, before, left, rest, is, follows) never =
        let nothing = looking_left missing packets looks number before left in
        subst NoStretch (sym (is ∙ ap (λ l. l ++ BadNumber number place why ∷ rest) nothing))
        (more 0 [] refl rest follows)

  -- Entries that leave no stretch begin none.
  pub none_begin : (entries : List Entry) (missing : ℕ) (packets : List Packet) → from_sync packets ≡ [] → (next : ℕ)
      (goods : List Bool) (parts : List LeftPart)
      → EntriesLeave words mode (run_of (suc missing) packets) next entries goods parts → NoStretch parts
      → NoneBegins words mode entries
  none_begin [] missing packets looks next goods parts leaves none = tt
  none_begin (entry ∷ entries) missing packets looks next [] parts leaves none = absurd leaves
  none_begin (Used number place payload ∷ entries) missing packets looks next (good ∷ goods) parts
      (before, leaves_before, rest, is, used) none =
      by_lost (λ lost passed looking after. none_begin entries lost passed looking (number + 1) goods after)
      (number - next) used
    where
      none_left : NoStretch rest
      none_left = none_after before rest (subst NoStretch is none)

      by_lost : ((lost : ℕ) (passed : List Packet) → from_sync passed ≡ [] → (after : List LeftPart)
          → EntriesLeave words mode (run_of (suc lost) passed) (number + 1) entries goods after → NoStretch after
          → NoneBegins words mode entries)
          → (lost : ℕ)
          → UsedLeaves words mode (run_behind lost (run_of (suc missing) packets)) number place payload
          (next_used entries) good (λ behind. EntriesLeave words mode behind (number + 1) entries goods) rest
          → NoneBegins words mode (Used number place payload ∷ entries)
      by_lost more zero left =
          used_none number place payload entries goods missing packets looks (next_used entries) good rest more left
          none_left
      by_lost more (suc lost) left =
          used_none number place payload entries goods lost [] refl (next_used entries) good rest more left none_left
  none_begin (Doubtful number first second ∷ entries) missing packets looks next (good ∷ goods) parts
      (bad, before, over, rest, is, follows) none =
      let later = none_after (gap (number - next)) (DoubtfulNumber number first second ∷ rest)
      (none_after before (gap (number - next) ++ DoubtfulNumber number first second ∷ rest)
      (subst NoStretch is none)) in
      (λ begins. begins, none_begin entries 0 [] refl number goods rest follows later)

  -- Entries that begin no stretch leave none.
  pub none_leave : (entries : List Entry) (missing : ℕ) (packets : List Packet) → from_sync packets ≡ [] → (next : ℕ)
      (goods : List Bool) (parts : List LeftPart)
      → EntriesLeave words mode (run_of (suc missing) packets) next entries goods parts
      → NoneBegins words mode entries → NoStretch parts
  none_leave [] missing packets looks next [] parts leaves none =
      subst NoStretch (sym (looking_left missing packets looks next parts leaves)) tt
  none_leave [] missing packets looks next (good ∷ goods) parts leaves none = absurd leaves
  none_leave (entry ∷ entries) missing packets looks next [] parts leaves none = absurd leaves
  none_leave (Used number place payload ∷ entries) missing packets looks next (good ∷ goods) parts
      (before, leaves_before, rest, is, used) none =
      by_lost (λ lost passed looking after follows. none_leave entries lost passed looking (number + 1) goods after
      follows
      none.1) (number - next) leaves_before used
    where
      by_lost : ((lost : ℕ) (passed : List Packet) → from_sync passed ≡ [] → (after : List LeftPart)
          → EntriesLeave words mode (run_of (suc lost) passed) (number + 1) entries goods after → NoStretch after)
          → (lost : ℕ) → LeavesBefore words mode (run_of (suc missing) packets) next lost before
          → UsedLeaves words mode (run_behind lost (run_of (suc missing) packets)) number place payload
          (next_used entries) good (λ behind. EntriesLeave words mode behind (number + 1) entries goods) rest
          → NoStretch parts
      by_lost more zero nothing left =
          subst NoStretch (sym (is ∙ ap (λ l. l ++ rest) nothing))
          (used_left number place payload entries goods missing packets looks (next_used entries) good rest more left
          none.0)
      by_lost more (suc lost) (ended, over, gone) left =
          let nothing = looking_left missing packets looks next ended over in
          subst NoStretch (sym (is ∙ ap (λ l. l ++ rest) (gone ∙ ap (λ l. l ++ Missing (suc lost) ∷ []) nothing)))
          (used_left number place payload entries goods lost [] refl (next_used entries) good rest more left none.0)
  none_leave (Doubtful number first second ∷ entries) missing packets looks next (good ∷ goods) parts
      (bad, before, over, rest, is, follows) none =
      let nothing = looking_left missing packets looks next before over in
      subst NoStretch
      (sym (is ∙ ap (λ l. l ++ (gap (number - next) ++ DoubtfulNumber number first second ∷ rest)) nothing))
      (none_in_both (gap (number - next)) (DoubtfulNumber number first second ∷ rest) (none_in_gap (number - next))
      (none_leave entries 0 [] refl number goods rest follows none.1))
