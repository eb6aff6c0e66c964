-- The end of a hart, by the numbers of its entries.
use Rattle.std.proofs.Common.{◌≡◌, ◌≢◌, ◌⊎◌, ◌↔◌, inl, inr, ℕ, ◌+◌, ◌<◌, ◌≤◌, ◌++◌, Contains}
use Rattle.std.proofs.Common.{List, [], ◌∷◌, refl, sym, ap, subst, ◌∙◌, append_assoc, arith}
use Rattle.std.proofs.lemmas.List.{append-nil}
use Rattle.std.proofs.lemmas.List.Elements.{All-contains, All-weaker}
use Rattle.std.proofs.lemmas.Bool.{cases_lt}
use Rattle.rvclass.specs.Words.{Words}
use Rattle.payload.specs.declared.mode.Mode.{Mode}
use Rattle.decoder.specs.Describes.{Describes}
use Rattle.salvaging.specs.Ends.{AreCutAtEnd, BeginsStretch, EndsAtLast, IsEnd, NoneBegins, NoneEnds}
use Rattle.salvaging.specs.EndsByNumbers.{AreCutByNumber, IsUsedAfter, MayEndAt}
use Rattle.salvaging.specs.Entries.{Entry, Used, Doubtful, entry_number}
use Rattle.salvaging.proofs.CutOnce.{not_at}
use Rattle.salvaging.proofs.OrderedEntries.{IsAt, Rise, after_it, at_of_in, in_either, in_front, in_later, it_itself}
use Rattle.salvaging.proofs.OrderedEntries.{rise_front, rise_later, some_used, used_after}
use Rattle.salvaging.proofs.Members.{IsIn, all_in, contains_of_in, in_of_contains}
use Rattle.salvaging.proofs.StretchesBehind.{begins_trace}

module _ (words : Words) (mode : Mode) where
  -- No stretch begins at any of the entries.
  never_begins : (entries : List Entry) → NoneBegins words mode entries → (x : Entry) → IsIn x entries
      → ¬ BeginsStretch words mode x
  never_begins [] none x one begins = absurd one
  never_begins (y ∷ entries) none x (inl is) begins = none.0 (subst (BeginsStretch words mode) is begins)
  never_begins (y ∷ entries) none x (inr one) begins = never_begins entries none.1 x one begins

  none_begins : (entries : List Entry) → ((x : Entry) → IsIn x entries → ¬ BeginsStretch words mode x)
      → NoneBegins words mode entries
  none_begins [] never = tt
  none_begins (entry ∷ entries) never =
      (never entry (inl refl), none_begins entries (λ x one. never x (inr one)))

  -- The hart ends at none of the entries.
  none_ends : (upto later : List Entry)
      → ((front : List Entry) (x : Entry) (rest : List Entry) → upto ≡ front ++ x ∷ rest
      → ¬ IsEnd words mode x (rest ++ later)) → NoneEnds words mode upto later
  none_ends [] later never = tt
  none_ends (entry ∷ upto) later never = (
    never [] entry upto refl,
    none_ends upto later (λ front x rest is. never (entry ∷ front) x rest (ap (λ l. entry ∷ l) is)),
  )

  module _ (from : ℕ) (front : List Entry) (entry : Entry) (later : List Entry)
      (rises : Rise from (front ++ entry ∷ later)) where
    rises_on : Rise (entry_number entry + 1) later
    rises_on = by_front from front rises
      where
        by_front : (from : ℕ) (front : List Entry) → Rise from (front ++ entry ∷ later)
            → Rise (entry_number entry + 1) later
        by_front from [] rises = rises.1
        by_front from (y ∷ front) rises = by_front (entry_number y + 1) front rises.1

    -- Where it may end at an entry, it may at its number, and the other way round.
    by_number : IsEnd words mode entry later → MayEndAt words mode (front ++ entry ∷ later) (entry_number entry)
    by_number end = by_kind entry refl end
      where
        by_kind : (own : Entry) → own ≡ entry → IsEnd words mode own later
            → MayEndAt words mode (front ++ entry ∷ later) (entry_number entry)
        by_kind (Doubtful number first second) is end = absurd end
        by_kind (Used number place payload) is (closes, some, none) = record {
          place = place;
          payload = payload;
          used = subst (λ n. Contains (front ++ entry ∷ later) (Used n place payload)) (ap entry_number is)
              (contains_of_in (front ++ entry ∷ later) (Used number place payload)
              (in_later (Used number place payload) front (entry ∷ later) (inl is)));
          closes = closes;
          greater = subst (IsUsedAfter (entry_number entry)) (append_assoc front (entry ∷ []) later)
              (used_after (front ++ entry ∷ []) later (entry_number entry) rises_on some);
          no_synchronisation = λ number there bytes packet log above contains read sync described.
              never_begins later none (Used number there bytes)
              (after_it from front entry later rises (Used number there bytes)
              (in_of_contains (front ++ entry ∷ later) (Used number there bytes) contains) above) (
                packet,
                sync,
                record {
                  read = read;
                  not_early = λ closing. refl;
                  described = (
                    log,
                    subst (λ ps. Describes words ps log) (sym (begins_trace words mode 0 [] refl packet sync))
                        described,
                  );
                },
              );
        }

    by_entry : MayEndAt words mode (front ++ entry ∷ later) (entry_number entry) → IsEnd words mode entry later
    by_entry may =
        let used = Used (entry_number entry) may.place may.payload in
        let same = it_itself from front entry later rises used (in_of_contains (front ++ entry ∷ later) used may.used)
        refl in
        subst (λ e. IsEnd words mode e later) same (
          may.closes,
          some_used later may.greater.0 may.greater.1 may.greater.2
              (after_it from front entry later rises (Used may.greater.0 may.greater.1 may.greater.2)
              (in_of_contains (front ++ entry ∷ later) (Used may.greater.0 may.greater.1 may.greater.2) may.greater.4)
              may.greater.3),
          none_begins later never,
        )
      where
        never : (x : Entry) → IsIn x later → ¬ BeginsStretch words mode x
        never (Doubtful number first second) one begins = begins
        never (Used number place payload) one (packet, sync, good) =
            may.no_synchronisation number place payload packet good.described.0
            (rise_later from front entry later rises (Used number place payload) one)
            (contains_of_in (front ++ entry ∷ later) (Used number place payload)
            (in_later (Used number place payload) front (entry ∷ later) (inr one)))
            good.read sync
            (subst (λ ps. Describes words ps good.described.0) (begins_trace words mode 0 [] refl packet sync)
            good.described.1)

  -- Entries in which the hart ends at an entry, or not.
  module _ (entries upto : List Entry) (rises : Rise 0 entries) where
    -- Where it may end at a number, that is the number of an entry at which it may end.
    pub record IsEntryEnd (number : ℕ) (within : List Entry) (rest : List Entry) : Type 0 where
      pub front : List Entry
      pub entry : Entry
      pub later : List Entry
      pub is : within ≡ front ++ entry ∷ later
      pub numbered : entry_number entry ≡ number
      pub end : IsEnd words mode entry (later ++ rest)

    ends_within : (number : ℕ) (within rest : List Entry) → entries ≡ within ++ rest → (place : ℕ) (payload : List ℕ)
        → IsIn (Used number place payload) within → MayEndAt words mode entries number
        → IsEntryEnd number within rest
    ends_within number within rest whole place payload one may =
        let used = Used number place payload in
        let at = at_of_in used within one in
        let split : entries ≡ at.front ++ used ∷ (at.later ++ rest) =
        whole ∙ ap (λ l. l ++ rest) at.whole ∙ append_assoc at.front (used ∷ at.later) rest in
        record {
          front = at.front;
          entry = used;
          later = at.later;
          is = at.whole;
          numbered = refl;
          end = by_entry 0 at.front used (at.later ++ rest) (subst (Rise 0) split rises)
              (subst (λ es. MayEndAt words mode es number) split may);
        }

    never_ends : (within rest : List Entry) → NoneEnds words mode within rest → (number : ℕ)
        → ¬ IsEntryEnd number within rest
    never_ends within rest none number one =
        not_at words mode one.front one.entry one.later rest
        (subst (λ es. NoneEnds words mode es rest) one.is none) one.end

    not_within : (within rest : List Entry) → entries ≡ within ++ rest
        → ((number : ℕ) → MayEndAt words mode entries number → (x : Entry) → IsIn x within → entry_number x ≢ number)
        → NoneEnds words mode within rest
    not_within within rest whole never = none_ends within rest
        (λ front x later is end.
        let split : entries ≡ front ++ x ∷ (later ++ rest) =
        whole ∙ ap (λ l. l ++ rest) is ∙ append_assoc front (x ∷ later) rest in
        never (entry_number x)
        (subst (λ es. MayEndAt words mode es (entry_number x)) (sym split)
        (by_number 0 front x (later ++ rest) (subst (Rise 0) split rises) end))
        x (subst (IsIn x) (sym is) (in_later x front (x ∷ later) (inl refl))) refl)

    used_in : (number : ℕ) → (may : MayEndAt words mode entries number)
        → IsIn (Used number may.place may.payload) entries
    used_in number may = in_of_contains entries (Used number may.place may.payload) may.used

    -- Cut at the end, the entries are cut by its number.
    cut_by_number : (beyond : List Entry) → AreCutAtEnd words mode entries upto beyond
        → AreCutByNumber words mode entries upto beyond
    cut_by_number [] cut = λ number may.
        never_ends upto [] cut.ends number
        (ends_within number upto [] cut.whole may.place may.payload
        (subst (IsIn (Used number may.place may.payload)) (cut.whole ∙ append-nil upto) (used_in number may)) may)
    cut_by_number (first ∷ beyond) cut = by_last cut.ends
      where
        by_last : EndsAtLast words mode upto (first ∷ beyond) → AreCutByNumber words mode entries upto (first ∷ beyond)
        by_last (front, last, is, end, lower) = (
          entry_number last,
          record {
            may_end = subst (λ es. MayEndAt words mode es (entry_number last)) (sym split)
                (by_number 0 front last (first ∷ beyond) rising end);
            lowest = λ number may. not_lower number may (cases_lt number (entry_number last));
          },
          All-weaker (λ x. IsIn x upto) (λ x. entry_number x ≤ entry_number last)
              (λ x one. up_to x (in_either x front (last ∷ []) (subst (IsIn x) is one))) upto (all_in upto),
          All-weaker (λ x. IsIn x (first ∷ beyond)) (λ x. entry_number last < entry_number x)
              (λ x one. rise_later 0 front last (first ∷ beyond) rising x one) (first ∷ beyond)
              (all_in (first ∷ beyond)),
        )
          where
            split : entries ≡ front ++ last ∷ first ∷ beyond
            split = cut.whole ∙ ap (λ l. l ++ first ∷ beyond) is ∙ append_assoc front (last ∷ []) (first ∷ beyond)

            rising : Rise 0 (front ++ last ∷ first ∷ beyond)
            rising = subst (Rise 0) split rises

            up_to : (x : Entry) → IsIn x front ⊎ IsIn x (last ∷ []) → entry_number x ≤ entry_number last
            up_to x (inl there) =
                let below = rise_front 0 front last (first ∷ beyond) rising x there in
                omega (arith, below)
            up_to x (inr (inl same)) = let numbers = ap entry_number same in omega (arith, numbers)
            up_to x (inr (inr none)) = absurd none

            among : (number : ℕ) → number < entry_number last → (x : Entry) → entry_number x ≡ number
                → IsIn x front ⊎ IsIn x (last ∷ first ∷ beyond) → IsIn x front
            among number below x numbered (inl there) = there
            among number below x numbered (inr (inl same)) =
                let numbers = ap entry_number same in
                absurd (omega (arith, below, numbered, numbers))
            among number below x numbered (inr (inr there)) =
                let above = rise_later 0 front last (first ∷ beyond) rising x there in
                absurd (omega (arith, below, numbered, above))

            not_lower : (number : ℕ) → MayEndAt words mode entries number
                → (number < entry_number last) ⊎ (entry_number last ≤ number) → entry_number last ≤ number
            not_lower number may (inr least) = least
            not_lower number may (inl below) =
                let used = Used number may.place may.payload in
                let there = among number below used refl
                (in_either used front (last ∷ first ∷ beyond) (subst (IsIn used) split (used_in number may))) in
                absurd (never_ends front (last ∷ first ∷ beyond) lower number
                (ends_within number front (last ∷ first ∷ beyond) split may.place may.payload there may))

    -- Cut by the number of the end, they are cut at the end.
    cut_at_end : (beyond : List Entry) → entries ≡ upto ++ beyond → AreCutByNumber words mode entries upto beyond
        → AreCutAtEnd words mode entries upto beyond
    cut_at_end [] whole none = record {
      whole = whole;
      ends = not_within upto [] whole (λ number may x one numbered. none number may);
    }
    cut_at_end (first ∷ beyond) whole (number, ends, up_to, above) = record { whole = whole; ends = last_ends }
      where
        may : MayEndAt words mode entries number
        may = ends.may_end

        used : Entry
        used = Used number may.place may.payload

        within : IsIn used upto ⊎ IsIn used (first ∷ beyond) → IsIn used upto
        within (inl there) = there
        within (inr there) =
            let more = All-contains (λ x. number < entry_number x) (first ∷ beyond) used above
            (contains_of_in (first ∷ beyond) used there) in
            absurd (omega (arith, more))

        at : IsAt used upto
        at = at_of_in used upto
            (within (in_either used upto (first ∷ beyond) (subst (IsIn used) whole (used_in number may))))

        split : entries ≡ at.front ++ used ∷ (at.later ++ first ∷ beyond)
        split = whole ∙ ap (λ l. l ++ first ∷ beyond) at.whole ∙ append_assoc at.front (used ∷ at.later)
            (first ∷ beyond)

        rising : Rise 0 (at.front ++ used ∷ (at.later ++ first ∷ beyond))
        rising = subst (Rise 0) split rises

        -- Nothing up to the end comes after it.
        none_later : (later : List Entry) → ((x : Entry) → IsIn x later → ⊥) → later ≡ []
        none_later [] never = refl
        none_later (x ∷ later) never = absurd (never x (inl refl))

        nothing : at.later ≡ []
        nothing = none_later at.later
            (λ x one.
            let higher = rise_later 0 at.front used (at.later ++ first ∷ beyond) rising x
            (in_front x at.later (first ∷ beyond) one) in
            let least = All-contains (λ y. entry_number y ≤ number) upto x up_to
            (contains_of_in upto x (subst (IsIn x) (sym at.whole) (in_later x at.front (used ∷ at.later) (inr one)))) in
            omega (arith, higher, least))

        is : upto ≡ at.front ++ used ∷ []
        is = at.whole ∙ ap (λ l. at.front ++ used ∷ l) nothing

        shorter : entries ≡ at.front ++ used ∷ first ∷ beyond
        shorter = split ∙ ap (λ l. at.front ++ used ∷ (l ++ first ∷ beyond)) nothing

        last_ends : EndsAtLast words mode upto (first ∷ beyond)
        last_ends = (
          at.front,
          used,
          is,
          by_entry 0 at.front used (first ∷ beyond) (subst (Rise 0) shorter rises)
              (subst (λ es. MayEndAt words mode es number) shorter may),
          not_within at.front (used ∷ first ∷ beyond) shorter
              (λ lower too x one numbered.
              let below = rise_front 0 at.front used (at.later ++ first ∷ beyond) rising x one in
              let least = ends.lowest lower too in
              omega (arith, below, least, numbered)),
        )

    pub ends_by_numbers : (beyond : List Entry) → AreCutAtEnd words mode entries upto beyond
        ↔ ((entries ≡ upto ++ beyond) × AreCutByNumber words mode entries upto beyond)
    ends_by_numbers beyond =
        (λ cut. (cut.whole, cut_by_number beyond cut), λ cut. cut_at_end beyond cut.0 cut.1)
