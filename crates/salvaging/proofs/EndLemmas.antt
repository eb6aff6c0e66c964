-- The end of a hart is looked for from its last entry to the first.
use Rattle.std.proofs.Common.{◌≡◌, ◌≢◌, ℕ, ◌+◌, ◌≤◌, ◌++◌, ◌&&◌, ◌||◌, Bool, true, false, List, [], ◌∷◌, Option}
use Rattle.std.proofs.Common.{Some, None, drop, length, map, take, if◌then◌else◌, refl, sym, ap, subst, ◌∙◌, arith}
use Rattle.std.proofs.Common.{append_assoc}
use Rattle.std.proofs.Math.Seq.{drop-append_seam, drop-length, take-append_seam, take-length}
use Rattle.std.proofs.lemmas.List.{append-nil, length-append, map-append, take-append-drop}
use Rattle.std.specs.Prelude.{Ok}
use Rattle.rvclass.specs.Words.{Words}
use Rattle.payload.specs.Closing.{is_closing, is_closing_reading}
use Rattle.payload.specs.Reading.{reading}
use Rattle.payload.specs.declared.mode.Mode.{Mode}
use Rattle.payload.specs.declared.packet.Packet.{Packet}
use Rattle.payload.specs.declared.packet.Packet.TheVariants as packet
use Rattle.decoder.specs.Resuming.{IsSync}
use Rattle.losses.specs.Apart.{AreRising}
use Rattle.salvaging.specs.Ends.{AreCutAtEnd, BeginsStretch, EndsAtLast, IsEnd, NoneBegins, NoneEnds}
use Rattle.salvaging.specs.Entries.{Entry, Used, Doubtful, entry_number, is_used, next_used}
use Rattle.salvaging.specs.declared.received.ReceivedMessage.{ReceivedMessage}
use Rattle.salvaging.specs.steps.Arrivals.{Arrival, arrival_of, arrivals_in}
use Rattle.salvaging.specs.steps.Ending.{closes}
use Rattle.salvaging.specs.steps.Grouping.{AreOfOne, entries_by}
use Rattle.salvaging.proofs.GroupParted.{begins_with_first, group_parted}

abbrev entries_in : List ReceivedMessage → List Entry
entries_in came = entries_by (arrivals_in came)

-- Whether there is a number.
abbrev pub is_number : Option ℕ → Bool
is_number None = false
is_number (Some number) = true

module _ (words : Words) (mode : Mode) where
  -- An entry more before others, at which the hart may not end.
  ends_one : (entry : Entry) (between beyond : List Entry) → ¬ IsEnd words mode entry (between ++ beyond)
      → EndsAtLast words mode between beyond → EndsAtLast words mode (entry ∷ between) beyond
  ends_one entry between [] none ends = (none, ends)
  ends_one entry between (first ∷ beyond) none (front, last, is, end, lower) = (
    entry ∷ front,
    last,
    ap (λ l. entry ∷ l) is,
    end,
    (
      subst (λ l. ¬ IsEnd words mode entry l)
          (ap (λ l. l ++ first ∷ beyond) is ∙ append_assoc front (last ∷ []) (first ∷ beyond)) none,
      lower,
    ),
  )

  ends_before : (before between beyond : List Entry) → NoneEnds words mode before (between ++ beyond)
      → EndsAtLast words mode between beyond → EndsAtLast words mode (before ++ between) beyond
  ends_before [] between beyond none ends = ends
  ends_before (entry ∷ before) between beyond (here, none) ends =
      ends_one entry (before ++ between) beyond
      (subst (λ l. ¬ IsEnd words mode entry l) (sym (append_assoc before between beyond)) here)
      (ends_before before between beyond none ends)

  -- The hart ends at the first of these entries.
  ends_here : (number place : ℕ) (payload : List ℕ) (later : List Entry)
      → IsEnd words mode (Used number place payload) later
      → EndsAtLast words mode (Used number place payload ∷ []) later
  ends_here number place payload [] (closes, some, none) = absurd (some refl)
  ends_here number place payload (first ∷ later) end = ([], Used number place payload, refl, end, tt)

  -- Before an entry at which a stretch begins the hart may not end.
  none_begins_at : (front : List Entry) (start : Entry) (later : List Entry) → BeginsStretch words mode start
      → ¬ NoneBegins words mode (front ++ start ∷ later)
  none_begins_at [] start later begins none = none.0 begins
  none_begins_at (entry ∷ front) start later begins none = none_begins_at front start later begins none.1

  not_before : (entry : Entry) (front : List Entry) (start : Entry) (later : List Entry)
      → BeginsStretch words mode start → ¬ IsEnd words mode entry (front ++ start ∷ later)
  not_before (Used number place payload) front start later begins (closes, some, none) =
      none_begins_at front start later begins none
  not_before (Doubtful number one other) front start later begins end = end

  -- Nor at that entry itself.
  pub not_closing : (payload : List ℕ) (p : Packet) → reading payload ≡ Ok p → IsSync p → is_closing payload ≡ false
  not_closing payload (packet.Sync taken priv address) read sync = ap is_closing_reading read
  not_closing payload (packet.Support support) read sync = absurd sync
  not_closing payload (packet.Trap taken priv cause interrupt handler address tval) read sync = absurd sync
  not_closing payload (packet.Address taken delta report) read sync = absurd sync
  not_closing payload (packet.Map taken) read sync = absurd sync

  not_at_start : (start : Entry) (later : List Entry) → BeginsStretch words mode start
      → ¬ IsEnd words mode start later
  not_at_start (Used number place payload) later (p, sync, good) (closes, some, none) =
      let never = not_closing payload p good.read sync in
      let both : true ≡ false = sym closes ∙ never in
      cc
  not_at_start (Doubtful number one other) later begins end = end

  none_up_to : (front : List Entry) (start : Entry) (later : List Entry) → BeginsStretch words mode start
      → NoneEnds words mode (front ++ start ∷ []) later
  none_up_to [] start later begins = (not_at_start start later begins, tt)
  none_up_to (entry ∷ front) start later begins = (
    subst (λ l. ¬ IsEnd words mode entry l) (sym (append_assoc front (start ∷ []) later))
        (not_before entry front start later begins),
    none_up_to front start later begins,
  )

-- Rising numbers are apart.
apart_in_order : (from : ℕ) (front : List Entry) (one other : Entry) (later : List Entry)
    → AreRising from (map entry_number (front ++ one ∷ other ∷ later)) → entry_number one ≢ entry_number other
apart_in_order from [] one other later rising is = let above = rising.1.0 in omega (arith, above, is)
apart_in_order from (entry ∷ front) one other later rising is =
    apart_in_order (entry_number entry + 1) front one other later rising.1 is

-- The entries after these messages were looked at. Among them no stretch begins, and this is the count of messages up
-- to the lowest end.
pub record EndSo (words : Words) (mode : Mode) (came rest : List ReceivedMessage) (end : ℕ) (used : Bool) : Type 0 where
  pub tail : List ReceivedMessage
  pub whole : came ≡ rest ++ tail
  pub parted : entries_in came ≡ entries_in rest ++ entries_in tail
  pub none : NoneBegins words mode (entries_in tail)
  pub used_is : used ≡ is_number (next_used (entries_in tail))
  pub between : List Entry
  pub later : entries_in tail ≡ between ++ entries_in (drop end came)
  pub front : entries_in (take end came) ≡ entries_in rest ++ between
  pub ends : EndsAtLast words mode between (entries_in (drop end came))
  pub within : end ≤ length came

module _ (words : Words) (mode : Mode) (came : List ReceivedMessage) where
  pub end_start : (end : ℕ) → end ≡ length came → EndSo words mode came came end false
  end_start end is = record {
    tail = [];
    whole = sym (append-nil came);
    parted = sym (append-nil (entries_in came));
    none = tt;
    used_is = refl;
    between = [];
    later = sym (ap entries_in none_left);
    front = ap entries_in (ap (λ n. take n came) is ∙ take-length came) ∙ sym (append-nil (entries_in came));
    ends = subst (EndsAtLast words mode []) (sym (ap entries_in none_left)) tt;
    within = omega (arith, is);
  }
    where
      none_left : drop end came ≡ []
      none_left = ap (λ n. drop n came) is ∙ drop-length came

  -- The entries are those up to the end and those after it.
  whole_at_end : (rest : List ReceivedMessage) (end : ℕ) (used : Bool) → (e : EndSo words mode came rest end used)
      → entries_in came ≡ entries_in (take end came) ++ entries_in (drop end came)
  whole_at_end rest end used e =
      e.parted ∙ ap (λ l. entries_in rest ++ l) e.later
      ∙ sym (append_assoc (entries_in rest) e.between (entries_in (drop end came)))
      ∙ ap (λ l. l ++ entries_in (drop end came)) (sym e.front)

  -- All entries were looked at.
  pub end_none : (rest : List ReceivedMessage) (end : ℕ) (used : Bool) → EndSo words mode came rest end used
      → entries_in rest ≡ []
      → AreCutAtEnd words mode (entries_in came) (entries_in (take end came)) (entries_in (drop end came))
  end_none rest end used e none = record {
    whole = whole_at_end rest end used e;
    ends = subst (λ l. EndsAtLast words mode l (entries_in (drop end came)))
        (sym (e.front ∙ ap (λ l. l ++ e.between) none)) e.ends;
  }

  module _ (rest : List ReceivedMessage) (end : ℕ) (used : Bool) (e : EndSo words mode came rest end used)
      (entry : Entry)
      (count : ℕ) (last : entries_in rest ≡ entries_in (take count rest) ++ entry ∷ []) where
    -- A stretch begins at the entry before them.
    pub end_begins : BeginsStretch words mode entry
        → AreCutAtEnd words mode (entries_in came) (entries_in (take end came)) (entries_in (drop end came))
    end_begins begins = record {
      whole = whole_at_end rest end used e;
      ends = subst (λ l. EndsAtLast words mode l (entries_in (drop end came))) (sym e.front)
          (ends_before words mode (entries_in rest) e.between (entries_in (drop end came))
          (subst (λ l. NoneEnds words mode l (e.between ++ entries_in (drop end came))) (sym last)
          (none_up_to words mode (entries_in (take count rest)) entry (e.between ++ entries_in (drop end came))
          begins)) e.ends);
    }

    module _ (group : AreOfOne (arrivals_in (drop count rest)) entry)
        (rising : AreRising 0 (map entry_number (entries_in came))) where
      abbrev more : List ReceivedMessage
      more = drop count rest ++ e.tail

      apart : (next : Arrival) (arrivals : List Arrival) → arrivals_in e.tail ≡ next ∷ arrivals
          → entry_number entry ≢ next.message.number
      apart next arrivals is same =
          let begins = begins_with_first next arrivals in
          let behind : entries_in e.tail ≡ begins.entry ∷ begins.later = ap entries_by is ∙ begins.whole in
          let all = e.parted ∙ ap (λ l. l ++ entries_in e.tail) last
          ∙ append_assoc (entries_in (take count rest)) (entry ∷ []) (entries_in e.tail)
          ∙ ap (λ l. entries_in (take count rest) ++ entry ∷ l) behind in
          apart_in_order 0 (entries_in (take count rest)) entry begins.entry begins.later
          (subst (λ l. AreRising 0 (map entry_number l)) all rising) (same ∙ sym begins.number_is)

      more_is : entries_in more ≡ entry ∷ entries_in e.tail
      more_is =
          ap entries_by (map-append arrival_of (drop count rest) e.tail)
          ∙ group_parted (arrivals_in (drop count rest)) (arrivals_in e.tail) entry group apart

      -- No stretch begins at the entry before them.
      module _ (none : ¬ BeginsStretch words mode entry) where
        abbrev Next : ℕ → Bool → Type 0
        Next count_to any = EndSo words mode came (take count rest) count_to any

        next_with : (count_to : ℕ) (any : Bool) → any ≡ is_number (next_used (entry ∷ entries_in e.tail))
            → (between : List Entry) → entry ∷ entries_in e.tail ≡ between ++ entries_in (drop count_to came)
            → entries_in (take count_to came) ≡ entries_in (take count rest) ++ between
            → EndsAtLast words mode between (entries_in (drop count_to came)) → count_to ≤ length came
            → Next count_to any
        next_with count_to any any_is between later front ends within = record {
          tail = more;
          whole = e.whole ∙ ap (λ l. l ++ e.tail) (sym (take-append-drop count rest))
              ∙ append_assoc (take count rest) (drop count rest) e.tail;
          parted = e.parted ∙ ap (λ l. l ++ entries_in e.tail) last
              ∙ append_assoc (entries_in (take count rest)) (entry ∷ []) (entries_in e.tail)
              ∙ ap (λ l. entries_in (take count rest) ++ l) (sym more_is);
          none = subst (NoneBegins words mode) (sym more_is) (none, e.none);
          used_is = any_is ∙ ap (λ l. is_number (next_used l)) (sym more_is);
          between = between;
          later = more_is ∙ later;
          front = front;
          ends = ends;
          within = within;
        }

        -- The end stays.
        next_same : (any : Bool) → any ≡ is_number (next_used (entry ∷ entries_in e.tail))
            → ¬ IsEnd words mode entry (entries_in e.tail) → Next end any
        next_same any any_is not_end =
            next_with end any any_is (entry ∷ e.between) (ap (λ l. entry ∷ l) e.later)
            (e.front ∙ ap (λ l. l ++ e.between) last
            ∙ append_assoc (entries_in (take count rest)) (entry ∷ []) e.between)
            (ends_one words mode entry e.between (entries_in (drop end came))
            (subst (λ l. ¬ IsEnd words mode entry l) e.later not_end) e.ends) e.within

        -- It is the entry.
        next_here : (any : Bool) → any ≡ is_number (next_used (entry ∷ entries_in e.tail))
            → EndsAtLast words mode (entry ∷ []) (entries_in e.tail) → Next (length rest) any
        next_here any any_is ends =
            let behind : drop (length rest) came ≡ e.tail =
            ap (drop (length rest)) e.whole ∙ drop-append_seam rest e.tail in
            let before : take (length rest) came ≡ rest =
            ap (take (length rest)) e.whole ∙ take-append_seam rest e.tail in
            let long = ap length e.whole ∙ length-append rest e.tail in
            next_with (length rest) any any_is (entry ∷ []) (ap (λ l. entry ∷ entries_in l) (sym behind))
            (ap entries_in before ∙ last)
            (subst (λ l. EndsAtLast words mode (entry ∷ []) (entries_in l)) (sym behind) ends)
            (omega (arith, long))

  pub end_next : (rest : List ReceivedMessage) (end : ℕ) (used : Bool) → (e : EndSo words mode came rest end used)
      → (entry : Entry) (count : ℕ) → entries_in rest ≡ entries_in (take count rest) ++ entry ∷ []
      → AreOfOne (arrivals_in (drop count rest)) entry
      → AreRising 0 (map entry_number (entries_in came)) → ¬ BeginsStretch words mode entry
      → EndSo words mode came (take count rest) (if used && closes entry then length rest else end)
      (used || is_used entry)
  end_next rest end used e entry count last group rising none = by_entry entry last group none
    where
      or_true : (b : Bool) → (b || true) ≡ true
      or_true true = refl
      or_true false = refl

      or_false : (b : Bool) → (b || false) ≡ b
      or_false true = refl
      or_false false = refl

      and_false : (b : Bool) → (b && false) ≡ false
      and_false true = refl
      and_false false = refl

      not_used : is_number (next_used (entries_in e.tail)) ≡ false → next_used (entries_in e.tail) ≡ None
      not_used is = by_next (next_used (entries_in e.tail)) is
        where
          by_next : (following : Option ℕ) → is_number following ≡ false → following ≡ None
          by_next None is = refl
          by_next (Some next) is = cc

      some_used : is_number (next_used (entries_in e.tail)) ≡ true → next_used (entries_in e.tail) ≢ None
      some_used is none = let never : false ≡ true = sym (ap is_number none) ∙ is in cc

      -- The end stays, or is here.
      by_test : (one : Entry) (test any : Bool) (now : Bool) → test ≡ now
          → (now ≡ true → EndSo words mode came (take count rest) (length rest) any)
          → (now ≡ false → EndSo words mode came (take count rest) end any)
          → EndSo words mode came (take count rest) (if test then length rest else end) any
      by_test one test any true is here stays =
          subst (λ b. EndSo words mode came (take count rest) (if b then length rest else end) any) (sym is)
          (here refl)
      by_test one test any false is here stays =
          subst (λ b. EndSo words mode came (take count rest) (if b then length rest else end) any) (sym is)
          (stays refl)

      by_entry : (one : Entry) → entries_in rest ≡ entries_in (take count rest) ++ one ∷ []
          → AreOfOne (arrivals_in (drop count rest)) one → ¬ BeginsStretch words mode one
          → EndSo words mode came (take count rest) (if used && closes one then length rest else end)
          (used || is_used one)
      by_entry (Doubtful number one other) last group none =
          by_test (Doubtful number one other) (used && false) (used || false) false (and_false used) (λ never. cc)
          (λ test. next_same rest end used e (Doubtful number one other) count last group rising none (used || false)
          (or_false used ∙ e.used_is) (λ end. end))
      by_entry (Used number place payload) last group none = by_tests used (is_closing payload) refl refl
        where
          one : Entry
          one = Used number place payload

          by_tests : (any closing : Bool) → used ≡ any → is_closing payload ≡ closing
              → EndSo words mode came (take count rest) (if used && is_closing payload then length rest else end)
              (used || true)
          by_tests true true is closing =
              by_test one (used && is_closing payload) (used || true) true
              (ap (λ b. b && is_closing payload) is ∙ ap (λ c. true && c) closing)
              (λ test. next_here rest end used e one count last group rising none (used || true) (or_true used)
              (ends_here words mode number place payload (entries_in e.tail)
              (closing, some_used (sym e.used_is ∙ is), e.none))) (λ never. cc)
          by_tests true false is closing =
              by_test one (used && is_closing payload) (used || true) false
              (ap (λ b. b && is_closing payload) is ∙ ap (λ c. true && c) closing) (λ never. cc)
              (λ test. next_same rest end used e one count last group rising none (used || true) (or_true used)
              (λ ends. let never : true ≡ false = sym ends.0 ∙ closing in cc))
          by_tests false closing is closing_is =
              by_test one (used && is_closing payload) (used || true) false
              (ap (λ b. b && is_closing payload) is) (λ never. cc)
              (λ test. next_same rest end used e one count last group rising none (used || true) (or_true used)
              (λ ends. ends.1 (not_used (sym e.used_is ∙ is))))
