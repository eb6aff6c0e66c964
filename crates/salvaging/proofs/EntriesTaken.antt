-- The entries of a hart are taken one by one.
use Rattle.std.proofs.Common.{◌≡◌, ℕ, zero, suc, ◌+◌, ◌-◌, Bool, true, false, List, [], ◌∷◌, ◌++◌, None, map, refl}
use Rattle.std.proofs.Common.{sym, ap, subst, ◌∙◌, arith, append_assoc}
use Rattle.std.proofs.lemmas.List.{append-nil}
use Rattle.std.specs.Prelude.{IfOk, Result, Ok, Err, Some}
use Rattle.std.specs.declared.alloc.AllocError.{AllocError}
use Rattle.rvclass.specs.Words.{Words}
use Rattle.payload.specs.Closing.{is_closing_packet}
use Rattle.payload.specs.Reading.{reading}
use Rattle.payload.specs.declared.mode.Mode.{Mode}
use Rattle.payload.specs.declared.packet.Packet.{Packet}
use Rattle.losses.specs.Apart.{AreRising}
use Rattle.losses.specs.Runs.{Run, first_run, longer, missing_behind, packets_behind, run_behind, run_of}
use Rattle.salvaging.specs.Bad.{IsGood}
use Rattle.salvaging.specs.Entries.{Entry, Used, Doubtful, entry_number, next_used}
use Rattle.salvaging.specs.LeftParts.{LeftPart, BadNumber, DoubtfulNumber, gap}
use Rattle.salvaging.specs.Leaving.{EntriesLeave, LeavesBefore, UsedLeaves, mode_by, own_mode}
use Rattle.salvaging.specs.PartsIn.{parts_in}
use Rattle.salvaging.specs.Shares.{Share, Adds, Passes, Spoils, StandsAlone, Doubts, EntriesShare}
use Rattle.salvaging.specs.Treatments.{is_good_treatment, treatment_of}
use Rattle.salvaging.specs.steps.Trails.{TakesAll, TakesEntries, goods_of}
use Rattle.salvaging.specs.steps.UnderWay.{AddsParts, EndsRun, IsUnderWay, StaysRead, TakesDoubtful, TakesUsed, Took}
use Rattle.salvaging.specs.steps.UnderWay.{reads_behind}
use Rattle.salvaging.specs.declared.trail.HartOutcome.{HartOutcome}
use Rattle.salvaging.specs.declared.trail.Trail.{Trail}
use Rattle.salvaging.specs.declared.treatment.Treatment.{Treatment}
use Rattle.salvaging.proofs.Members.{no_item}

-- Numbers that rise from the next one on rise from this one on.
pub rising_sooner : (from : ℕ) (numbers : List ℕ) → AreRising (from + 1) numbers → AreRising from numbers
rising_sooner from [] rising = tt
rising_sooner from (number ∷ numbers) (low, rising) = (omega (arith, low), rising)

-- The first entry decides the mode.
pub own_mode-more : (mode : Mode) (entry : Entry) (more : List Entry)
    → own_mode mode (entry ∷ more) ≡ own_mode mode (entry ∷ [])
own_mode-more mode (Used number place payload) more = refl
own_mode-more mode (Doubtful number first second) more = refl

-- Parts and goods behind others.
parts_behind : (old new before added parts : List LeftPart) → new ≡ old ++ (before ++ added)
    → old ++ (before ++ (added ++ parts)) ≡ new ++ parts
parts_behind old new before added parts is =
    ap (λ l. old ++ l) (sym (append_assoc before added parts)) ∙ sym (append_assoc old (before ++ added) parts)
    ∙ ap (λ l. l ++ parts) (sym is)

goods_behind : (shares : List Share) (share : Share) (goods : List Bool)
    → goods_of shares ++ is_good_treatment (treatment_of share) ∷ goods ≡ goods_of (shares ++ share ∷ []) ++ goods
goods_behind [] share goods = refl
goods_behind (one ∷ shares) share goods =
    ap (λ l. is_good_treatment (treatment_of one) ∷ l) (goods_behind shares share goods)

module _ {A : Type 0} (words : Words) (mode : Mode) (all done : List Entry) (shares : List Share) (rest : List Entry)
    (old new : Trail A) where
  -- The entry is taken, these parts are added for what is before it and for it, and the run after it is under way.
  next_taken : (entry : Entry) (share : Share) (run : Run) (closed : Bool) (next : ℕ) (before added : List LeftPart)
      → (t : TakesEntries words mode all done shares (entry ∷ rest) old)
      → IsUnderWay words mode mode run next closed new → (run.missing ≡ 0 → ¬ (run.packets ≡ []))
      → (closed ≡ true → next_used rest ≡ None) → AreRising next (map entry_number rest)
      → AddsParts (before ++ added) old.parts.items new.parts.items
      → ((goods : List Bool) (parts : List LeftPart) → EntriesLeave words mode run next rest goods parts
      → EntriesLeave words mode t.run old.next (entry ∷ rest) (is_good_treatment (treatment_of share) ∷ goods)
      (before ++ (added ++ parts)))
      → ((later : List Share) → EntriesShare words mode run next rest later
      → EntriesShare words mode t.run old.next (entry ∷ rest) (share ∷ later))
      → TakesEntries words mode all (done ++ entry ∷ []) (shares ++ share ∷ []) rest new
  next_taken entry share run closed next before added t u begun over rising adds leave does = record {
    own = t.own;
    whole = t.whole ∙ sym (append_assoc done (entry ∷ []) rest);
    run = run;
    closed = closed;
    under_way = subst (λ n. IsUnderWay words mode mode run n closed new) (sym u.next_is) u;
    begun = λ none are. absurd (begun none are);
    over = over;
    rising = subst (λ n. AreRising n (map entry_number rest)) (sym u.next_is) rising;
    leaves = λ goods parts further.
        subst (λ gs. EntriesLeave words mode first_run 0 all gs (parts_in new.parts.items ++ parts))
        (goods_behind shares share goods)
        (subst (EntriesLeave words mode first_run 0 all
        (goods_of shares ++ is_good_treatment (treatment_of share) ∷ goods))
        (parts_behind (parts_in old.parts.items) (parts_in new.parts.items) before added parts adds)
        (t.leaves (is_good_treatment (treatment_of share) ∷ goods) (before ++ (added ++ parts))
        (leave goods parts (subst (λ n. EntriesLeave words mode run n rest goods parts) u.next_is further))));
    share = λ later further. subst (λ l. EntriesShare words mode first_run 0 all l)
        (sym (append_assoc shares (share ∷ []) later))
        (t.share (share ∷ later) (does later
        (subst (λ n. EntriesShare words mode run n rest later) u.next_is further)));
  }

  module _ (number place : ℕ) (payload : List ℕ) where
    -- The packet of the first message is read in the hart's own mode.
    stays_read : (t : TakesEntries words mode all done shares (Used number place payload ∷ rest) old)
        → StaysRead mode (run_behind (number - old.next) t.run) payload
    stays_read t packet read = by_lost (number - old.next) t.run.missing t.run.packets refl refl refl
      where
        by_lost : (lost missing : ℕ) (packets : List Packet) → number - old.next ≡ lost → t.run.missing ≡ missing
            → t.run.packets ≡ packets
            → reads_behind mode mode (missing_behind lost missing) (packets_behind lost packets) packet ≡ mode
        by_lost (suc lost) missing packets behind is are = refl
        by_lost zero (suc missing) packets behind is are = refl
        by_lost zero zero (q ∷ qs) behind is are = refl
        by_lost zero zero [] behind is are =
            let first = t.begun is are in
            let at = first.1 in
            let from = t.rising.0 in
            let none : number ≡ 0 = omega (arith, behind, at, from) in
            let whole : all ≡ Used number place payload ∷ rest =
            t.whole ∙ ap (λ l. l ++ Used number place payload ∷ rest) first.0 in
            sym (ap (mode_by 0 mode) read) ∙ sym (ap (λ n. mode_by n mode (reading payload)) none)
            ∙ sym (ap (own_mode mode) whole) ∙ t.own

    -- What a good message leaves: nothing of its own.
    good_leaves : (run : Run) (packet : Packet) → IsGood words mode run payload (next_used rest) packet
        → (goods : List Bool) (added parts : List LeftPart) → added ≡ []
        → EntriesLeave words mode (longer run (packet ∷ [])) (number + 1) rest goods parts
        → UsedLeaves words mode run number place payload (next_used rest) true
        (λ behind. EntriesLeave words mode behind (number + 1) rest goods) (added ++ parts)
    good_leaves run packet good goods added parts none further = (
      packet,
      good,
      subst (EntriesLeave words mode (longer run (packet ∷ [])) (number + 1) rest goods)
          (ap (λ l. l ++ parts) (sym none)) further,
    )

    by_share : (t : TakesEntries words mode all done shares (Used number place payload ∷ rest) old) (share : Share)
        (before added : List LeftPart) → LeavesBefore words mode t.run old.next (number - old.next) before
        → Took words mode (run_behind (number - old.next) t.run) number place payload (next_used rest) share added new
        → AddsParts (before ++ added) old.parts.items new.parts.items
        → TakesEntries words mode all (done ++ Used number place payload ∷ []) (shares ++ share ∷ []) rest new
    by_share t (Spoils why) before added leaves (bad, left, over, is, u) adds =
        next_taken (Used number place payload) (Spoils why) (run_of 1 []) false (number + 1) before added t u
        (λ none. cc) (λ never. cc) t.rising.1 adds
        (λ goods parts further. (
          before,
          leaves,
          added ++ parts,
          refl,
          (
            why,
            bad,
            left,
            over,
            parts,
            ap (λ l. l ++ parts) is ∙ append_assoc left (BadNumber number place why ∷ []) parts,
            further,
          ),
        ))
        (λ later further. (bad, further))
    by_share t (Adds events) before added leaves (none, packet, good, goes, u) adds =
        let run = run_behind (number - old.next) t.run in
        next_taken (Used number place payload) (Adds events) (longer run (packet ∷ [])) (is_closing_packet packet)
        (number + 1) before added t u (λ none. no_item run.packets packet) good.not_early t.rising.1 adds
        (λ goods parts further. (
          before,
          leaves,
          added ++ parts,
          refl,
          good_leaves run packet good goods added parts none further,
        ))
        (λ later further. (packet, good, goes, further))
    by_share t Passes before added leaves (none, packet, good, goes, u) adds =
        let run = run_behind (number - old.next) t.run in
        next_taken (Used number place payload) Passes (longer run (packet ∷ [])) (is_closing_packet packet)
        (number + 1) before added t u (λ none. no_item run.packets packet) good.not_early t.rising.1 adds
        (λ goods parts further. (
          before,
          leaves,
          added ++ parts,
          refl,
          good_leaves run packet good goods added parts none further,
        ))
        (λ later further. (packet, good, goes, further))
    by_share t StandsAlone before added leaves (none, packet, good, goes, u) adds = absurd goes
    by_share t Doubts before added leaves (none, packet, good, goes, u) adds = absurd goes

    -- A used number is taken.
    pub used_taken : (result : Result Treatment AllocError)
        → TakesEntries words mode all done shares (Used number place payload ∷ rest) old
        → ((run : Run) → IsUnderWay words mode mode run old.next false old
        → StaysRead mode (run_behind (number - old.next) run) payload
        → IfOk result (λ treatment. TakesUsed words mode run old.next number place payload (next_used rest) treatment old
        new))
        → IfOk result (λ treatment. (share : Share) × (treatment ≡ treatment_of share)
        × TakesEntries words mode all (done ++ Used number place payload ∷ []) (shares ++ share ∷ []) rest new)
    used_taken (Err refused) t takes = tt
    used_taken (Ok treatment) t takes = by_closed t.closed refl
      where
        by_closed : (closed : Bool) → t.closed ≡ closed
            → (share : Share) × (treatment ≡ treatment_of share)
            × TakesEntries words mode all (done ++ Used number place payload ∷ []) (shares ++ share ∷ []) rest new
        by_closed true is = let none : Some number ≡ None = t.over is in cc
        by_closed false is =
            let k = takes t.run (subst (λ c. IsUnderWay words mode mode t.run old.next c old) is t.under_way)
            (stays_read t) in
            (k.share, k.treated, by_share t k.share k.before k.added k.leaves k.took k.parts)

  -- A doubtful number is taken.
  pub doubtful_taken : (number first second : ℕ)
      → (t : TakesEntries words mode all done shares (Doubtful number first second ∷ rest) old)
      → TakesDoubtful words mode t.run old.next number first second t.closed old new
      → TakesEntries words mode all (done ++ Doubtful number first second ∷ []) (shares ++ Doubts ∷ []) rest new
  doubtful_taken number first second t k =
      let lost = gap (number - old.next) in
      let one = DoubtfulNumber number first second in
      next_taken (Doubtful number first second) Doubts (run_of 1 []) t.closed number k.left (lost ++ one ∷ []) t
      k.under_way (λ none. cc) t.over (rising_sooner number (map entry_number rest) t.rising.1) k.parts
      (λ goods parts further.
      (refl, k.left, k.leaves, parts, ap (λ l. k.left ++ l) (append_assoc lost (one ∷ []) parts), further))
      (λ later further. (refl, further))

-- No entry is taken yet.
pub none_taken : {A : Type 0} (words : Words) (mode : Mode) (all : List Entry) (trail : Trail A)
    → own_mode mode all ≡ mode → IsUnderWay words mode mode first_run 0 false trail → trail.next ≡ 0
    → trail.parts.items ≡ [] → AreRising 0 (map entry_number all) → TakesEntries words mode all [] [] all trail
none_taken words mode all trail own u at parts rising = record {
  own = own;
  whole = refl;
  run = first_run;
  closed = false;
  under_way = subst (λ n. IsUnderWay words mode mode first_run n false trail) (sym at) u;
  begun = λ none are. (refl, at);
  over = λ never. cc;
  rising = subst (λ n. AreRising n (map entry_number all)) (sym at) rising;
  leaves = λ further more leaves. subst (λ l. EntriesLeave words mode first_run 0 all further (parts_in l ++ more))
      (sym parts) (subst (λ n. EntriesLeave words mode first_run n all further more) at leaves);
  share = λ later does. subst (λ n. EntriesShare words mode first_run n all later) at does;
}

-- All entries are taken, and the last run is ended.
pub all_taken : {A M : Type 0} (kept : Treatment → M) (words : Words) (mode : Mode) (all done : List Entry) (shares : List Share)
    (rest : List Entry) (old new : Trail A) → rest ≡ []
    → (t : TakesEntries words mode all done shares rest old)
    → EndsRun words mode mode t.run old.next t.closed old new → (outcome : HartOutcome A M) → outcome.parts ≡ new.parts
    → outcome.marks.items ≡ map kept (map treatment_of shares) → TakesAll kept words mode all outcome
all_taken kept words mode all done shares rest old new none t ends outcome same marks =
    let left : parts_in old.parts.items ++ ends.left ≡ parts_in outcome.parts.items =
    sym ends.added ∙ sym (ap (λ (v : _). parts_in v.items) same) in
    record {
      shares = shares;
      marks = marks;
      leaves = subst (λ gs. EntriesLeave words mode first_run 0 all gs (parts_in outcome.parts.items))
          (append-nil (goods_of shares))
          (subst (EntriesLeave words mode first_run 0 all (goods_of shares ++ [])) left
          (t.leaves [] ends.left
          (subst (λ es. EntriesLeave words mode t.run old.next es [] ends.left) (sym none) ends.leaves)));
      share = subst (EntriesShare words mode first_run 0 all) (append-nil shares)
          (t.share [] (subst (λ es. EntriesShare words mode t.run old.next es []) (sym none) tt));
    }
