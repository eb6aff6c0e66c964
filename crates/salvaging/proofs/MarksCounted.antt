-- As many entries are bad, or stand alone, by what they do as by the parts that they leave.
use Rattle.std.proofs.Common.{◌≡◌, ℕ, suc, ◌+◌, ◌-◌, ◌++◌, Bool, false, cond, List, [], ◌∷◌, length, map, refl, sym}
use Rattle.std.proofs.Common.{ap, subst, ◌∙◌, arith}
use Rattle.std.specs.Prelude.{count_by}
use Rattle.retire.specs.declared.event.Event.{Event}
use Rattle.rvclass.specs.Words.{Words, IsProgram}
use Rattle.payload.specs.declared.mode.Mode.{Mode}
use Rattle.losses.specs.Runs.{Run, first_run, run_behind, run_of}
use Rattle.salvaging.specs.AlikeParts.{AreAlikeParts}
use Rattle.salvaging.specs.Entries.{Entry, Used, Doubtful, next_used}
use Rattle.salvaging.specs.LeftParts.{LeftPart, Missing, Events, BadNumber, DoubtfulNumber, AloneNumber}
use Rattle.salvaging.specs.Shares.{AllShareBeyond, EntriesShare, HartShares, Share, SharesBeyond}
use Rattle.salvaging.specs.Shares.{Adds, Passes, Spoils, StandsAlone, Doubts}
use Rattle.salvaging.specs.TreatedParts.{marks_in, marks_of}
use Rattle.salvaging.specs.Treatments.{Row, added_of, own_row, rows, treatment_of}
use Rattle.salvaging.specs.declared.reason.Reason.{Reason}
use Rattle.salvaging.specs.declared.treatment.Added.{Added}
use Rattle.salvaging.specs.declared.treatment.Treated.{Treated}
use Rattle.salvaging.specs.declared.treatment.Treatment.{Treatment}
use Rattle.salvaging.specs.declared.treatment.Treatment.TheVariants as treatment
use Rattle.salvaging.proofs.CountedRows.{NoneDoubtful, count_cons}
use Rattle.salvaging.proofs.PartsTreated.{shares_many, used_rest}

-- A test of parts and a test of what is done go together: both pass bad numbers, or numbers that stand alone, and no
-- others.
pub record GoTogether (q : LeftPart → Bool) (p : Treatment → Bool) : Type 0 where
  pub missing : (count : ℕ) → q (Missing count) ≡ false
  pub events : (first last : ℕ) (some : List Event) → q (Events first last some) ≡ false
  pub bad : (number place : ℕ) (why other : Reason) → q (BadNumber number place why) ≡ p (treatment.Bad other)
  pub alone : (number place : ℕ) → q (AloneNumber number place) ≡ p treatment.Alone
  pub doubtful : (number first second : ℕ) → q (DoubtfulNumber number first second) ≡ false
  pub doubts : p treatment.Doubtful ≡ false
  pub passed : p treatment.Passed ≡ false
  pub taken : (added : Added) → p (treatment.Taken added) ≡ false

none_more : {X : Type 0} (q : X → Bool) (x : X) (xs : List X) → q x ≡ false → count_by q (x ∷ xs) ≡ count_by q xs
none_more q x xs fails = count_cons q x xs ∙ ap (λ b. cond b (suc (count_by q xs)) (count_by q xs)) fails

same_more : {X Y : Type 0} (q : X → Bool) (r : Y → Bool) (x : X) (xs : List X) (y : Y) (ys : List Y) → q x ≡ r y
    → count_by q xs ≡ count_by r ys → count_by q (x ∷ xs) ≡ count_by r (y ∷ ys)
same_more q r x xs y ys same counts =
    count_cons q x xs ∙ ap (λ b. cond b (suc (count_by q xs)) (count_by q xs)) same
    ∙ ap (λ n. cond (r y) (suc n) n) counts ∙ sym (count_cons r y ys)

-- A doubtful number is doubtful.
abbrev pub SuitAll : List Entry → List Share → Type 0
SuitAll [] shares = Unit {0}
SuitAll (entry ∷ entries) [] = Unit {0}
SuitAll (Used number place payload ∷ entries) (share ∷ shares) = SuitAll entries shares
SuitAll (Doubtful number first second ∷ entries) (share ∷ shares) = (share ≡ Doubts) × SuitAll entries shares

suit-append : (upto beyond : List Entry) (xs ys : List Share) → length xs ≡ length upto → SuitAll upto xs
    → SuitAll beyond ys → SuitAll (upto ++ beyond) (xs ++ ys)
suit-append [] beyond [] ys many suit too = too
suit-append [] beyond (x ∷ xs) ys many suit too = absurd (omega (arith, many))
suit-append (entry ∷ upto) beyond [] ys many suit too = absurd (omega (arith, many))
suit-append (Used number place payload ∷ upto) beyond (x ∷ xs) ys many suit too =
    suit-append upto beyond xs ys (omega (arith, many)) suit too
suit-append (Doubtful number first second ∷ upto) beyond (x ∷ xs) ys many suit too =
    (suit.0, suit-append upto beyond xs ys (omega (arith, many)) suit.1 too)

module _ (words : Words) (program : IsProgram words) (mode : Mode) where
  entries_suit : (entries : List Entry) (run : Run) (next : ℕ) (shares : List Share)
      → EntriesShare words mode run next entries shares → SuitAll entries shares
  entries_suit [] run next shares share = tt
  entries_suit (entry ∷ entries) run next [] share = tt
  entries_suit (Used number place payload ∷ entries) run next (one ∷ shares) share =
      let rest = used_rest words mode (run_behind (number - next) run) payload (next_used entries) one
      (λ behind. EntriesShare words mode behind (number + 1) entries shares) share in
      entries_suit entries rest.0 (number + 1) shares rest.1
  entries_suit (Doubtful number first second ∷ entries) run next (one ∷ shares) share =
      (share.0, entries_suit entries (run_of 1 []) number shares share.1)

  beyond_suit : (entries : List Entry) (shares : List Share) → AllShareBeyond words mode entries shares
      → SuitAll entries shares
  beyond_suit [] shares share = tt
  beyond_suit (entry ∷ entries) [] share = tt
  beyond_suit (Used number place payload ∷ entries) (one ∷ shares) share = beyond_suit entries shares share.1
  beyond_suit (Doubtful number first second ∷ entries) (one ∷ shares) share =
      (by_share one share.0, beyond_suit entries shares share.1)
    where
      by_share : (one : Share) → SharesBeyond words mode (Doubtful number first second) (next_used entries) one
          → one ≡ Doubts
      by_share Doubts does = refl
      by_share (Adds events) does = absurd does
      by_share Passes does = absurd does
      by_share (Spoils why) does = absurd does
      by_share StandsAlone does = absurd does

  pub hart_suits : (upto beyond : List Entry) (shares : List Share) → HartShares words mode upto beyond shares
      → SuitAll (upto ++ beyond) shares
  hart_suits upto beyond shares share =
      subst (SuitAll (upto ++ beyond)) (sym share.whole)
      (suit-append upto beyond share.first share.after
      (shares_many words mode upto first_run 0 share.first share.shares_upto)
      (entries_suit upto first_run 0 share.first share.shares_upto)
      (beyond_suit beyond share.after share.shares_beyond))

module _ (q : LeftPart → Bool) (p : Treatment → Bool) (go : GoTogether q p) where
  abbrev done_so : Row → Bool
  done_so row = p row.treated.treatment

  marks_count : (parts : List LeftPart) → count_by q (marks_in parts) ≡ count_by q parts
  marks_count [] = refl
  marks_count (Missing count ∷ parts) =
      marks_count parts ∙ sym (none_more q (Missing count) parts (go.missing count))
  marks_count (Events first last events ∷ parts) =
      marks_count parts ∙ sym (none_more q (Events first last events) parts (go.events first last events))
  marks_count (BadNumber number place why ∷ parts) =
      let one = BadNumber number place why in
      same_more q q one (marks_in parts) one parts refl (marks_count parts)
  marks_count (DoubtfulNumber number first second ∷ parts) =
      let one = DoubtfulNumber number first second in
      same_more q q one (marks_in parts) one parts refl (marks_count parts)
  marks_count (AloneNumber number place ∷ parts) =
      let one = AloneNumber number place in
      same_more q q one (marks_in parts) one parts refl (marks_count parts)

  alike_count : (left others : List LeftPart) → AreAlikeParts left others → count_by q left ≡ count_by q others
  alike_count [] [] alike = refl
  alike_count (Missing one ∷ left) (Missing other ∷ others) alike =
      same_more q q (Missing one) left (Missing other) others (go.missing one ∙ sym (go.missing other))
      (alike_count left others alike.1)
  alike_count (Events first last events ∷ left) (Events begun ended stretch ∷ others) alike =
      same_more q q (Events first last events) left (Events begun ended stretch) others
      (go.events first last events ∙ sym (go.events begun ended stretch)) (alike_count left others alike.3)
  alike_count (BadNumber one place why ∷ left) (BadNumber other at fault ∷ others) alike =
      same_more q q (BadNumber one place why) left (BadNumber other at fault) others
      (go.bad one place why fault ∙ sym (go.bad other at fault fault)) (alike_count left others alike.3)
  alike_count (DoubtfulNumber one first second ∷ left) (DoubtfulNumber other place at ∷ others) alike =
      same_more q q (DoubtfulNumber one first second) left (DoubtfulNumber other place at) others
      (go.doubtful one first second ∙ sym (go.doubtful other place at)) (alike_count left others alike.3)
  alike_count (AloneNumber one place ∷ left) (AloneNumber other at ∷ others) alike =
      same_more q q (AloneNumber one place) left (AloneNumber other at) others
      (go.alone one place ∙ sym (go.alone other at)) (alike_count left others alike.2)
  alike_count left others alike = absurd alike

  entries_count : (far : Entry → Bool) (entries : List Entry) (shares : List Share) → SuitAll entries shares
      → count_by q (marks_of entries shares)
      ≡ count_by (λ (row : Row). p row.treated.treatment) (rows far entries (map treatment_of shares))
  entries_count far [] shares suit = refl
  entries_count far (entry ∷ entries) [] suit = refl
  entries_count far (Used number place payload ∷ entries) (Spoils why ∷ shares) suit =
      same_more q done_so (BadNumber number place why) (marks_of entries shares)
      (own_row far (Used number place payload) entries (treatment.Bad why) (map treatment_of shares))
      (rows far entries (map treatment_of shares)) (go.bad number place why why) (entries_count far entries shares suit)
  entries_count far (Used number place payload ∷ entries) (StandsAlone ∷ shares) suit =
      same_more q done_so (AloneNumber number place) (marks_of entries shares)
      (own_row far (Used number place payload) entries treatment.Alone (map treatment_of shares))
      (rows far entries (map treatment_of shares)) (go.alone number place) (entries_count far entries shares suit)
  entries_count far (Used number place payload ∷ entries) (Adds events ∷ shares) suit =
      entries_count far entries shares suit
      ∙ sym (none_more done_so (own_row far (Used number place payload) entries (treatment.Taken (added_of events))
      (map treatment_of shares)) (rows far entries (map treatment_of shares)) (go.taken (added_of events)))
  entries_count far (Used number place payload ∷ entries) (Passes ∷ shares) suit =
      entries_count far entries shares suit
      ∙ sym (none_more done_so (own_row far (Used number place payload) entries treatment.Passed (map treatment_of
      shares))
      (rows far entries (map treatment_of shares)) go.passed)
  entries_count far (Used number place payload ∷ entries) (Doubts ∷ shares) suit =
      entries_count far entries shares suit
      ∙ sym (none_more done_so (own_row far (Used number place payload) entries treatment.Doubtful (map treatment_of
      shares))
      (rows far entries (map treatment_of shares)) go.doubts)
  entries_count far (Doubtful number first second ∷ entries) (Doubts ∷ shares) suit =
      none_more q (DoubtfulNumber number first second) (marks_of entries shares) (go.doubtful number first second)
      ∙ entries_count far entries shares suit.1
      ∙ sym (none_more done_so (own_row far (Doubtful number first second) entries treatment.Doubtful
      (map treatment_of shares)) (rows far entries (map treatment_of shares)) go.doubts)
  entries_count far (Doubtful number first second ∷ entries) (Adds events ∷ shares) suit =
      let never : Adds events ≡ Doubts = suit.0 in cc
  entries_count far (Doubtful number first second ∷ entries) (Passes ∷ shares) suit =
      let never : Passes ≡ Doubts = suit.0 in cc
  entries_count far (Doubtful number first second ∷ entries) (Spoils why ∷ shares) suit =
      let never : Spoils why ≡ Doubts = suit.0 in cc
  entries_count far (Doubtful number first second ∷ entries) (StandsAlone ∷ shares) suit =
      let never : StandsAlone ≡ Doubts = suit.0 in cc

  pub doubts_fail : (entries : List Entry) (shares : List Share) → SuitAll entries shares
      → NoneDoubtful (λ (one : Treated). p one.treatment) entries (map treatment_of shares)
  doubts_fail [] shares suit = tt
  doubts_fail (entry ∷ entries) [] suit = tt
  doubts_fail (Used number place payload ∷ entries) (share ∷ shares) suit = doubts_fail entries shares suit
  doubts_fail (Doubtful number first second ∷ entries) (share ∷ shares) suit =
      (ap (λ s. p (treatment_of s)) suit.0 ∙ go.doubts, doubts_fail entries shares suit.1)

  -- As many rows pass the test as parts do.
  pub rows_of_parts : (far : Entry → Bool) (parts : List LeftPart) (entries : List Entry) (shares : List Share)
      → AreAlikeParts (marks_in parts) (marks_of entries shares) → SuitAll entries shares
      → count_by (λ (row : Row). p row.treated.treatment) (rows far entries (map treatment_of shares)) ≡ count_by q
      parts
  rows_of_parts far parts entries shares alike suit =
      sym (entries_count far entries shares suit) ∙ sym (alike_count (marks_in parts) (marks_of entries shares) alike)
      ∙ marks_count parts
