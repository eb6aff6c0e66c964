-- How many of a hart's messages are copies, by what is done with each.
use Rattle.std.proofs.Common.{◌≡◌, ◌⊎◌, inl, inr, ℕ, suc, ◌+◌, ◌++◌, All, Bool, true, false, cond, Contains, List}
use Rattle.std.proofs.Common.{[], ◌∷◌, Some, length, map, slice_get, take, refl, sym, ap, subst, ◌∙◌, arith, append_assoc}
use Rattle.std.proofs.lemmas.List.{append-nil, length_push}
use Rattle.std.proofs.lemmas.List.Elements.{All-append, All-cons, All-contains, All-nil, All-weaker}
use Rattle.std.proofs.lemmas.List.Elements.{Contains-append_left, Contains-push}
use Rattle.message.specs.declared.message.Message.{Message}
use Rattle.salvaging.specs.Copies.{AreAlike, AreCopies, HasLike}
use Rattle.salvaging.specs.Entries.{Entry}
use Rattle.salvaging.specs.Shares.{Share, Adds, Passes, Spoils, StandsAlone, Doubts}
use Rattle.salvaging.specs.TreatedCounts.{count_treated, makes_copy}
use Rattle.salvaging.specs.Treatments.{IsTreated, Row, rows, treatment_of}
use Rattle.salvaging.specs.declared.treatment.Treated.{Treated}
use Rattle.salvaging.proofs.CountedRows.{AreTreatedBy, count_cons}
use Rattle.salvaging.proofs.Members.{IsIn, contains_of_in, in_of_contains}

-- The row of a number says what its entry does.
pub row_share : (far : Entry → Bool) (entries : List Entry) (shares : List Share) (row : Row)
    → IsIn row (rows far entries (map treatment_of shares))
    → (share : Share) × (row.treated.treatment ≡ treatment_of share)
row_share far [] shares row there = absurd there
row_share far (entry ∷ entries) [] row there = absurd there
row_share far (entry ∷ entries) (share ∷ shares) row (inl is) = (share, ap (λ (r : Row). r.treated.treatment) is)
row_share far (entry ∷ entries) (share ∷ shares) row (inr there) = row_share far entries shares row there

share_no_copy : (share : Share) → makes_copy (treatment_of share) ≡ false
share_no_copy (Adds events) = refl
share_no_copy Passes = refl
share_no_copy (Spoils why) = refl
share_no_copy StandsAlone = refl
share_no_copy Doubts = refl

like_on : (message like other : Message) → AreAlike message like → AreAlike like other → AreAlike message other
like_on message like other alike too = (alike.0 ∙ too.0, alike.1 ∙ too.1)

module _ (front : List Message) (count : ℕ) (copies : AreCopies front count) (message : Message) where
  abbrev more : List Message
  more = front ++ message ∷ []

  some_more : All (Contains (front ++ message ∷ [])) copies.distinct
  some_more =
      All-weaker (Contains front) (Contains (front ++ message ∷ []))
      (λ one there. Contains-append_left front (message ∷ []) one there) copies.distinct copies.are_distinct.some

  -- One more that is like one before.
  copy_more : HasLike front message → AreCopies (front ++ message ∷ []) (suc count)
  copy_more (like, there, alike) =
      let its = All-contains (HasLike copies.distinct) front like copies.are_distinct.all there in
      let has : HasLike copies.distinct message = (its.0, its.1, like_on message like its.0 alike its.2) in
      let others = copies.others in
      let long = length_push front message in
      record {
        distinct = copies.distinct;
        are_distinct = record {
          some = some_more;
          all = All-append (HasLike copies.distinct) front (message ∷ []) copies.are_distinct.all
              (All-cons (HasLike copies.distinct) message [] has (All-nil (HasLike copies.distinct)));
          differ = copies.are_distinct.differ;
        };
        others = omega (arith, others, long);
      }

  -- And one more that is not.
  first_more : ¬ HasLike front message → AreCopies (front ++ message ∷ []) count
  first_more none =
      let distinct = message ∷ copies.distinct in
      let others = copies.others in
      let long = length_push front message in
      record {
        distinct = distinct;
        are_distinct = record {
          some = All-cons (Contains (front ++ message ∷ [])) message copies.distinct (Contains-push front message)
              some_more;
          all = All-append (HasLike (message ∷ copies.distinct)) front (message ∷ [])
              (All-weaker (HasLike copies.distinct) (HasLike (message ∷ copies.distinct)) wider front
              copies.are_distinct.all)
              (All-cons (HasLike (message ∷ copies.distinct)) message []
              (message, contains_of_in (message ∷ copies.distinct) message (inl refl), (refl, refl))
              (All-nil (HasLike (message ∷ copies.distinct))));
          differ = (apart, copies.are_distinct.differ);
        };
        others = omega (arith, others, long);
      }
    where
      wider : (one : Message) → HasLike copies.distinct one → HasLike (message ∷ copies.distinct) one
      wider one (like, there, alike) = (
        like,
        contains_of_in (message ∷ copies.distinct) like (inr (in_of_contains copies.distinct like there)),
        alike,
      )

      apart : ¬ HasLike copies.distinct message
      apart (like, there, alike) =
          none (like, All-contains (Contains front) copies.distinct like copies.are_distinct.some there, alike)

-- What is done says whether a message is like one before it.
abbrev SaysLike : List Message → Message → Treated → Type 0
SaysLike before message one =
    (HasLike before message × (makes_copy one.treatment ≡ true))
    ⊎ ((¬ HasLike before message) × (makes_copy one.treatment ≡ false))

copies_through : (front messages : List Message) (treated : List Treated) (count : ℕ) → AreCopies front count
    → length treated ≡ length messages
    → ((k : ℕ) (message : Message) (one : Treated) → slice_get messages k ≡ Some message
    → slice_get treated k ≡ Some one → SaysLike (front ++ take k messages) message one)
    → AreCopies (front ++ messages) (count + count_treated makes_copy treated)
copies_through front [] [] count copies long says =
    let none : count ≡ count + 0 = omega arith in
    subst (λ n. AreCopies (front ++ []) n) none (subst (λ l. AreCopies l count) (sym (append-nil front)) copies)
copies_through front [] (one ∷ treated) count copies long says = absurd (omega (arith, long))
copies_through front (message ∷ messages) [] count copies long says = absurd (omega (arith, long))
copies_through front (message ∷ messages) (one ∷ treated) count copies long says =
    subst (λ l. AreCopies l (count + count_treated makes_copy (one ∷ treated)))
    (append_assoc front (message ∷ []) messages)
    (by_first (says 0 message one refl refl)
    (λ n so_far. copies_through (front ++ message ∷ []) messages treated n so_far (omega (arith, long)) says_later))
  where
    says_later : (k : ℕ) (other : Message) (its : Treated) → slice_get messages k ≡ Some other
        → slice_get treated k ≡ Some its → SaysLike ((front ++ message ∷ []) ++ take k messages) other its
    says_later k other its here done =
        subst (λ l. SaysLike l other its) (sym (append_assoc front (message ∷ []) (take k messages)))
        (says (suc k) other its here done)

    counted : (b : Bool) → makes_copy one.treatment ≡ b → count_treated makes_copy (one ∷ treated)
        ≡ cond b (suc (count_treated makes_copy treated)) (count_treated makes_copy treated)
    counted b is =
        count_cons (λ (t : Treated). makes_copy t.treatment) one treated
        ∙ ap (λ b. cond b (suc (count_treated makes_copy treated)) (count_treated makes_copy treated)) is

    by_first : SaysLike (front ++ []) message one
        → ((n : ℕ) → AreCopies (front ++ message ∷ []) n
        → AreCopies ((front ++ message ∷ []) ++ messages) (n + count_treated makes_copy treated))
        → AreCopies ((front ++ message ∷ []) ++ messages) (count + count_treated makes_copy (one ∷ treated))
    by_first (inl (like, is)) rest =
        let more = counted true is in
        let all : suc count + count_treated makes_copy treated ≡ count + count_treated makes_copy (one ∷ treated) =
        omega (arith, more) in
        subst (λ n. AreCopies ((front ++ message ∷ []) ++ messages) n) all
        (rest (suc count) (copy_more front count copies message
        (subst (λ l. HasLike l message) (append-nil front) like)))
    by_first (inr (none, is)) rest =
        let same = counted false is in
        subst (λ n. AreCopies ((front ++ message ∷ []) ++ messages) (count + n)) (sym same)
        (rest count (first_more front count copies message
        (subst (λ l. ¬ HasLike l message) (append-nil front) none)))

-- Of a hart's messages those are copies that are treated as such.
pub treated_copies : (far : Entry → Bool) (messages : List Message) (entries : List Entry) (shares : List Share)
    (treated : List Treated)
    → AreTreatedBy messages (rows far entries (map treatment_of shares)) treated
    → AreCopies messages (count_treated makes_copy treated)
treated_copies far messages entries shares treated by =
    let all : 0 + count_treated makes_copy treated ≡ count_treated makes_copy treated = omega arith in
    subst (AreCopies messages) all
    (copies_through [] messages treated 0 no_copies by.long (λ k message one here done.
    says k message one (by.each k message one here done)))
  where
    no_copies : AreCopies [] 0
    no_copies = record {
      distinct = [];
      are_distinct = record { some = All-nil (Contains []); all = All-nil (HasLike []); differ = tt };
      others = refl;
    }

    says : (k : ℕ) (message : Message) (one : Treated)
        → IsTreated messages (rows far entries (map treatment_of shares)) k message one
        → SaysLike (take k messages) message one
    says k message one (inl (like, is)) = inl (like, ap (λ (t : Treated). makes_copy t.treatment) is)
    says k message one (inr (none, contains)) =
        let row : Row = record { number = message.number; treated = one } in
        let share = row_share far entries shares row
        (in_of_contains (rows far entries (map treatment_of shares)) row contains) in
        inr (none, ap makes_copy share.1 ∙ share_no_copy share.0)
