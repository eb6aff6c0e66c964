-- How far the entries of a hart's messages are taken, from one entry to the next.
use Rattle.std.proofs.Common.{◌≡◌, ℕ, ◌-◌, ◌<◌, ◌≤◌, ◌++◌, false, List, [], ◌∷◌, drop, length, map, sym, ap, subst}
use Rattle.std.proofs.Common.{◌∙◌, arith, take}
use Rattle.std.proofs.lemmas.List.{length-drop, map-append, take_all}
use Rattle.std.proofs.lemmas.List.Elements.{All-head, All-tail}
use Rattle.rvclass.specs.Words.{Words}
use Rattle.payload.specs.declared.mode.Mode.{Mode}
use Rattle.losses.specs.Apart.{AreRising}
use Rattle.losses.specs.Runs.{first_run}
use Rattle.message.specs.Harts.{end_of_numbers}
use Rattle.salvaging.specs.Entries.{Entry, entry_number}
use Rattle.salvaging.specs.Leaving.{own_mode}
use Rattle.salvaging.specs.Shares.{Share}
use Rattle.salvaging.specs.Treatments.{treatment_of}
use Rattle.salvaging.specs.declared.received.ReceivedMessage.{ReceivedMessage}
use Rattle.salvaging.specs.declared.trail.Trail.{Trail}
use Rattle.salvaging.specs.declared.treatment.Treatment.{Treatment}
use Rattle.salvaging.specs.steps.Arrivals.{arrivals_in}
use Rattle.salvaging.specs.steps.Grouping.{AreSmall, entries_by}
use Rattle.salvaging.specs.steps.Trails.{TakesEntries}
use Rattle.salvaging.specs.steps.UnderWay.{IsUnderWay}
use Rattle.salvaging.proofs.EntriesTaken.{none_taken}

abbrev entries_in : List ReceivedMessage → List Entry
entries_in came = entries_by (arrivals_in came)

-- The messages behind so many.
abbrev pub behind : List ReceivedMessage → ℕ → List ReceivedMessage
behind rest count = take (length rest - count) (drop count rest)

pub behind-is : (rest : List ReceivedMessage) (count : ℕ) → behind rest count ≡ drop count rest
behind-is rest count =
    let long = length-drop count rest in take_all (length rest - count) (drop count rest) (omega (arith, long))

-- The number of the first entry is one that a hart may have.
pub small_next : (rest : List ReceivedMessage) (entry : Entry) (later : List Entry) → entries_in rest ≡ entry ∷ later
    → AreSmall (entries_in rest) → entry_number entry < end_of_numbers
small_next rest entry later first small =
    All-head (λ (one : Entry). entry_number one < end_of_numbers) entry later (subst AreSmall first small)

-- Of a hart's messages those before these are taken, and this is done with them.
pub record TakenSo {A M : Type 0} (kept : Treatment → M) (words : Words) (mode : Mode)
    (came rest : List ReceivedMessage) (marks : List M) (trail : Trail A) : Type 0 where
  pub shorter : length rest ≤ length came
  pub small : AreSmall (entries_in rest)
  pub done : List Entry
  pub shares : List Share
  pub marks_are : marks ≡ map kept (map treatment_of shares)
  pub taken : TakesEntries words mode (entries_in came) done shares (entries_in rest) trail

module _ {A M : Type 0} (kept : Treatment → M) (words : Words) (mode : Mode) (came : List ReceivedMessage) where
  pub taken_start : (trail : Trail A) (marks : List M) → marks ≡ []
      → own_mode mode (entries_in came) ≡ mode → IsUnderWay words mode mode first_run 0 false trail → trail.next ≡ 0
      → trail.parts.items ≡ [] → AreRising 0 (map entry_number (entries_in came)) → AreSmall (entries_in came)
      → TakenSo kept words mode came came marks trail
  taken_start trail marks none own u at parts rising small = record {
    shorter = omega arith;
    small = small;
    done = [];
    shares = [];
    marks_are = none;
    taken = none_taken words mode (entries_in came) trail own u at parts rising;
  }

  pub taken_next : (rest : List ReceivedMessage) (old new : Trail A) (marks more : List M) (one : Treatment)
      → TakenSo kept words mode came rest marks old → (entry : Entry) (count : ℕ)
      → entries_in rest ≡ entry ∷ entries_in (drop count rest)
      → ((all done : List Entry) (shares : List Share)
      → TakesEntries words mode all done shares (entry ∷ entries_in (behind rest count)) old
      → (share : Share) × (one ≡ treatment_of share)
      × TakesEntries words mode all (done ++ entry ∷ []) (shares ++ share ∷ []) (entries_in (behind rest count)) new)
      → more ≡ marks ++ kept one ∷ [] → TakenSo kept words mode came (behind rest count) more new
  taken_next rest old new marks more one t entry count first takes pushed =
      let is = behind-is rest count in
      let parted = first ∙ sym (ap (λ l. entry ∷ entries_in l) is) in
      let shorter = t.shorter in
      let long = ap length is ∙ length-drop count rest in
      let k = takes (entries_in came) t.done t.shares
      (subst (λ es. TakesEntries words mode (entries_in came) t.done t.shares es old) parted t.taken) in
      record {
        shorter = omega (arith, shorter, long);
        small = All-tail (λ (one : Entry). entry_number one < end_of_numbers) entry (entries_in (behind rest count))
            (subst AreSmall parted t.small);
        done = t.done ++ entry ∷ [];
        shares = t.shares ++ k.0 ∷ [];
        marks_are = pushed ∙ ap (λ l. l ++ kept one ∷ []) t.marks_are
            ∙ sym (map-append kept (map treatment_of t.shares) (one ∷ []))
            ∙ ap (λ x. map kept (map treatment_of t.shares ++ x ∷ [])) k.1
            ∙ ap (map kept) (sym (map-append treatment_of t.shares (k.0 ∷ [])));
        taken = k.2;
      }

  -- The first entry's number is not below the next one.
  pub next_above : (rest : List ReceivedMessage) (trail : Trail A) (marks : List M)
      → TakenSo kept words mode came rest marks trail → (entry : Entry) (later : List Entry)
      → entries_in rest ≡ entry ∷ later → trail.next ≤ entry_number entry
  next_above rest trail marks t entry later first =
      (subst (λ es. AreRising trail.next (map entry_number es)) first t.taken.rising).0
