-- Where no number is far, and that the far numbers are known.
use Rattle.std.proofs.Common.{◌≡◌, ◌⊎◌, inl, inr, ℕ, ◌+◌, ◌<◌, ◌≤◌, ◌==◌, ◌&&◌, ◌||◌, Bool, true, false, Contains, List, []}
use Rattle.std.proofs.Common.{◌∷◌, length, map, refl, sym, ap, subst, ◌∙◌, arith}
use Rattle.std.specs.Prelude.{nat_lt}
use Rattle.std.specs.List.{list_any}
use Rattle.std.proofs.lemmas.Bool.{cases_lt, eq-eqb, le-ltb}
use Rattle.std.proofs.lemmas.List.{length-map}
use Rattle.std.proofs.lemmas.List.Sorted.{length_permutation}
use Rattle.std.proofs.lemmas.Option.{same_Some, slice_get_within}
use Rattle.std.specs.List.Sorted.{IsPermutation}
use Rattle.message.specs.declared.message.Message.{Message}
use Rattle.salvaging.specs.Entries.{Entry, Used, Doubtful, AreEntries, IsDoubtful, IsEntryOf, IsUsed, entry_number}
use Rattle.salvaging.specs.Far.{AreFar, AreFarNumbers, ComeInOrder, HaveNeighbours, ahead, comes_behind}
use Rattle.salvaging.specs.Far.{has_neighbour, is_beside, numbers_of}
use Rattle.salvaging.specs.declared.received.ReceivedMessage.{ReceivedMessage}
use Rattle.salvaging.specs.steps.Ahead.{ArePlaced, places_of}
use Rattle.salvaging.specs.steps.Arrivals.{AreOrdered, arrival_of, arrivals_in, placed_from}
use Rattle.salvaging.specs.steps.Grouping.{entries_by}
use Rattle.salvaging.proofs.AheadSteps.{place_in}
use Rattle.salvaging.proofs.Distributed.{length-placed}
use Rattle.salvaging.proofs.EntriesOnce.{entries_once}
use Rattle.salvaging.proofs.GroupedMessages.{entries_of_messages}
use Rattle.salvaging.proofs.FarByBound.{all_of, no_way, none_passes, of_map, one_of}
use Rattle.salvaging.proofs.Members.{IsIn, contains_of_in, in_of_contains}
use Rattle.salvaging.proofs.OneHart.{in_at}

none_far : (entries : List Entry) (among : Entry → Bool) → ((x : Entry) → IsIn x entries → among x ≡ false)
    → numbers_of entries (map among entries) ≡ []
none_far [] among none = refl
none_far (x ∷ entries) among none =
    ap (λ b. numbers_of (x ∷ entries) (b ∷ map among entries)) (none x (inl refl))
    ∙ none_far entries among (λ y there. none y (inr there))

false_or : (b : Bool) → (b ≡ true → ⊥) → b ≡ false
false_or false not = refl
false_or true not = absurd (not refl)

or_true : (b : Bool) {c : Bool} → c ≡ true → (b || c) ≡ true
or_true true is = refl
or_true false is = is

pub and_false : (b : Bool) → (b && false) ≡ false
and_false true = refl
and_false false = refl

-- The messages of entries have their places.
placed_of : (messages : List Message) (entries : List Entry) → AreEntries messages entries
    → ArePlaced (length messages) entries
placed_of messages entries are = record {
  within = all_of (λ place. place < length messages) (places_of entries) (λ place there.
      let found = place_in entries place there in
      let used : IsUsed messages found.0 place found.1 =
      one_of (IsEntryOf messages) entries (Used found.0 place found.1) are.each found.2 in
      slice_get_within messages place used.message used.here);
  differ = λ number other place payload content one two.
      let used : IsUsed messages number place payload =
      one_of (IsEntryOf messages) entries (Used number place payload) are.each
      (in_of_contains entries (Used number place payload) one) in
      let second : IsUsed messages other place content =
      one_of (IsEntryOf messages) entries (Used other place content) are.each
      (in_of_contains entries (Used other place content) two) in
      sym used.number_here ∙ ap (λ (m : Message). m.number) (same_Some used.message second.message (sym used.here ∙ second.here)) ∙ second.number_here;
}

-- So have those of messages that were put in order.
pub placed_in_order : (messages : List Message) (list : List ReceivedMessage)
    → IsPermutation (placed_from 0 messages) (arrivals_in list) → AreOrdered (arrivals_in list)
    → ArePlaced (length list) (entries_by (arrivals_in list))
placed_in_order messages list permuted ordered =
    let came = arrivals_in list in
    let placed = length-placed 0 messages in
    let same = length_permutation (placed_from 0 messages) came permuted in
    let all = length-map list arrival_of in
    let long : length messages ≡ length list = omega (arith, placed, same, all) in
    subst (λ n. ArePlaced n (entries_by came)) long
    (placed_of messages (entries_by came) (entries_of_messages messages came permuted ordered))

pub some_beside : (number : ℕ) (xs : List Entry) (x : Entry) → IsIn x xs → is_beside number x ≡ true
    → list_any (is_beside number) xs ≡ true
some_beside number [] x there is = absurd there
some_beside number (y ∷ xs) x (inl same) is =
    ap (λ b. b || list_any (is_beside number) xs) (sym (ap (is_beside number) same) ∙ is)
some_beside number (y ∷ xs) x (inr there) is = or_true (is_beside number y) (some_beside number xs x there is)

pub beside_there : (number : ℕ) (x : Entry) → (entry_number x + 1 ≡ number) ⊎ (number + 1 ≡ entry_number x)
    → is_beside number x ≡ true
beside_there number x (inl below) =
    ap (λ b. b || number + 1 == entry_number x) (eq-eqb (entry_number x + 1) number below)
beside_there number x (inr above) =
    or_true (entry_number x + 1 == number) (eq-eqb (number + 1) (entry_number x) above)

module _ (messages : List Message) (entries : List Entry) (are : AreEntries messages entries) where
  used_one : (number place : ℕ) (payload : List ℕ) → IsIn (Used number place payload) entries
      → IsUsed messages number place payload
  used_one number place payload there = one_of (IsEntryOf messages) entries (Used number place payload) are.each there

  in_order_none : ComeInOrder messages → (entry : Entry) → IsIn entry entries → ahead entries entry ≡ 0
  in_order_none order (Doubtful number first second) there = refl
  in_order_none order (Used number place payload) there =
      none_passes (comes_behind number place) entries each
    where
      each : (x : Entry) → IsIn x entries → comes_behind number place x ≡ false
      each (Doubtful lower first second) too = refl
      each (Used lower later content) too = by_place (cases_lt place later)
        where
          by_place : (place < later) ⊎ (later ≤ place) → (nat_lt lower number && nat_lt place later) ≡ false
          by_place (inr before) =
              ap (λ b. nat_lt lower number && b) (le-ltb place later before) ∙ and_false (nat_lt lower number)
          by_place (inl behind) =
              let own = used_one number place payload there in
              let other = used_one lower later content too in
              let upto = order place later own.message other.message behind own.here other.here in
              let n = own.number_here in
              let m = other.number_here in
              ap (λ b. b && nat_lt place later) (le-ltb lower number (omega (arith, upto, n, m)))

  -- A message with this number makes it a neighbour.
  neighbour_there : (entry : Entry) (other : Message) → Contains messages other
      → (other.number + 1 ≡ entry_number entry) ⊎ (entry_number entry + 1 ≡ other.number)
      → has_neighbour entries entry ≡ true
  neighbour_there entry other there beside =
      let found = of_map entry_number entries other.number (in_of_contains (map entry_number entries) other.number
      (one_of (λ (m : Message). Contains (map entry_number entries) m.number) messages other are.none_left_out
      (in_of_contains messages other there))) in
      some_beside (entry_number entry) entries found.0 found.1 (beside_there (entry_number entry) found.0
      (subst (λ n. (n + 1 ≡ entry_number entry) ⊎ (entry_number entry + 1 ≡ n)) found.2 beside))

  message_of : (entry : Entry) → IsIn entry entries → (message : Message) × Contains messages message
      × (message.number ≡ entry_number entry)
  message_of (Used number place payload) there =
      let used = used_one number place payload there in
      (used.message, contains_of_in messages used.message (in_at messages place used.message used.here), used.number_here)
  message_of (Doubtful number first second) there =
      let two : IsDoubtful messages number first second =
      one_of (IsEntryOf messages) entries (Doubtful number first second) are.each there in
      (two.one, contains_of_in messages two.one (in_at messages first two.one two.one_here), two.one_number)

-- No entry is far.
pub in_order_among : (messages : List Message) (entries : List Entry) → AreEntries messages entries
    → ComeInOrder messages
    → (flags : List Bool) → (f : AreFar entries flags) → (x : Entry) → IsIn x entries → f.among x ≡ false
in_order_among messages entries are order flags f x there = false_or (f.among x) (λ far.
    let some = one_of (λ e. f.among e ≡ true → 1 ≤ ahead entries e) entries x f.stand_far.of_one there far in
    let none = in_order_none messages entries are order x there in
    omega (arith, some, none))

pub in_order_far : (messages : List Message) (numbers : List ℕ) → ComeInOrder messages → AreFarNumbers messages numbers
    → numbers ≡ []
in_order_far messages numbers order f =
    f.are_numbers ∙ ap (numbers_of f.entries) f.are_far.are_among
    ∙ none_far f.entries f.are_far.among (in_order_among messages f.entries f.are_entries order f.far f.are_far)

pub neighbours_far : (messages : List Message) (numbers : List ℕ) → HaveNeighbours messages
    → AreFarNumbers messages numbers → numbers ≡ []
neighbours_far messages numbers have f =
    f.are_numbers ∙ ap (numbers_of f.entries) f.are_far.are_among
    ∙ none_far f.entries f.are_far.among (λ x there. false_or (f.are_far.among x) (λ far.
    let own = message_of messages f.entries f.are_entries x there in
    let beside = one_of (λ m. (other : Message) × Contains messages other
    × ((other.number + 1 ≡ m.number) ⊎ (m.number + 1 ≡ other.number))) messages own.0 have
    (in_of_contains messages own.0 own.1) in
    let is = subst (λ n. (beside.0.number + 1 ≡ n) ⊎ (n + 1 ≡ beside.0.number)) own.2 beside.2 in
    no_way (neighbour_there messages f.entries f.are_entries x beside.0 beside.1 is)
    (one_of (λ e. f.are_far.among e ≡ true → has_neighbour f.entries e ≡ false) f.entries x
    f.are_far.stand_far.by_itself there far)))

-- Two sets that are each in the other have the same flags.
same_flags : (entries : List Entry) (one other : Entry → Bool)
    → ((x : Entry) → IsIn x entries → one x ≡ true → other x ≡ true)
    → ((x : Entry) → IsIn x entries → other x ≡ true → one x ≡ true) → map one entries ≡ map other entries
same_flags [] one other there back = refl
same_flags (x ∷ entries) one other there back =
    ap (λ b. b ∷ map one entries) (same_bool (one x) (other x) (there x (inl refl)) (back x (inl refl)))
    ∙ ap (λ l. other x ∷ l) (same_flags entries one other (λ y is. there y (inr is)) (λ y is. back y (inr is)))
  where
    same_bool : (a b : Bool) → (a ≡ true → b ≡ true) → (b ≡ true → a ≡ true) → a ≡ b
    same_bool true b to from = sym (to refl)
    same_bool false true to from = from refl
    same_bool false false to from = refl

pub one_set : (entries : List Entry) (one other : List Bool) → AreFar entries one → AreFar entries other → one ≡ other
one_set entries one other f g =
    f.are_among ∙ same_flags entries f.among g.among
    (λ x there. one_of (λ e. f.among e ≡ true → g.among e ≡ true) entries x (g.greatest f.among f.stand_far) there)
    (λ x there. one_of (λ e. g.among e ≡ true → f.among e ≡ true) entries x (f.greatest g.among g.stand_far) there)
    ∙ sym g.are_among

pub far_once : (messages : List Message) (one other : List ℕ) → AreFarNumbers messages one
    → AreFarNumbers messages other → one ≡ other
far_once messages one other f g =
    let same = entries_once messages f.entries g.entries f.are_entries g.are_entries in
    f.are_numbers ∙ ap (numbers_of f.entries) (one_set f.entries f.far g.far f.are_far
    (subst (λ es. AreFar es g.far) (sym same) g.are_far)) ∙ ap (λ es. numbers_of es g.far) same ∙ sym g.are_numbers
