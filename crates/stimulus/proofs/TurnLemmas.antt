-- What one turn sends, and what is left then.
use Rattle.std.proofs.Common.{◌≡◌, ◌∙◌, ◌++◌, ◌≤◌, ap, append-nil, arith, refl, subst, sym, ℕ, zero, suc, true, false}
use Rattle.std.proofs.Common.{if◌then◌else◌, slice_get}
use Rattle.std.proofs.Common.{List, [], ◌∷◌, Option, Some, None, eqb, get_or, length, set}
use Rattle.std.proofs.KnownBytes.{Appends-nil}
use Rattle.std.proofs.lemmas.Grind.{flat_map-append}
use Rattle.std.proofs.lemmas.Option.{same_Some}
use Rattle.std.specs.Io.KnownBytes.{Appends}
use Rattle.std.specs.List.{flat_map}
use Rattle.message.specs.declared.message.Message.{Message}
use Rattle.output.proofs.FieldParts.{HasWritten, part_begun, part_more}
use Rattle.output.specs.Begun.{AppendsBeginning}
use Rattle.stimulus.specs.Mixing.{AllAreInFront, AreInFront, IsMixing, Mixed, all_left, mixed_by, mixed_from, most_turns}
use Rattle.stimulus.specs.Mixing.{sends, turn, unmixed}
use Rattle.stimulus.specs.Order.{Drawn, drawn_of, leaves, next_turn}
use Rattle.stimulus.specs.steps.Drawing.{TakesFirst, TakesNext, WritesTurns}
use Rattle.stimulus.specs.declared.mixing.Mixing.{Mixing}
use Rattle.stimulus.specs.declared.order.Turn.{Turn}
use Rattle.stimulus.proofs.LeftMessages.{fronts_long, some_none, some_or}

-- Where a hart has none, nothing changes with them.
none_changes : (place : ℕ) (left : List (List Message)) → get_or left place [] ≡ [] → set left place [] ≡ left
none_changes zero [] is = refl
none_changes (suc place) [] is = refl
none_changes zero (own ∷ left) is = ap (λ (own : List Message). own ∷ left) (sym is)
none_changes (suc place) (own ∷ left) is = ap (λ l. own ∷ l) (none_changes place left is)

-- The bytes of a hart begin with its messages.
front_at : (left : List (List Message)) (bytes : List (List ℕ)) (place : ℕ) (own : List ℕ) → AllAreInFront left bytes
    → slice_get bytes place ≡ Some own → AreInFront (get_or left place []) own
front_at [] [] place own fronts at = cc
front_at [] (first ∷ bytes) place own fronts at = elim fronts [ ]
front_at (messages ∷ left) [] place own fronts at = elim fronts [ ]
front_at (messages ∷ left) (first ∷ bytes) zero own fronts at =
    subst (AreInFront messages) (same_Some first own at) fronts.0
front_at (messages ∷ left) (first ∷ bytes) (suc place) own fronts at = front_at left bytes place own fronts.1 at

-- Other bytes begin with other messages.
fronts_set : (left : List (List Message)) (bytes : List (List ℕ)) (place : ℕ) (rest : List Message) (new : List ℕ)
    → AllAreInFront left bytes → AreInFront rest new → AllAreInFront (set left place rest) (set bytes place new)
fronts_set [] [] place rest new fronts front = tt
fronts_set [] (first ∷ bytes) place rest new fronts front = elim fronts [ ]
fronts_set (messages ∷ left) [] place rest new fronts front = elim fronts [ ]
fronts_set (messages ∷ left) (first ∷ bytes) zero rest new fronts front = (front, fronts.1)
fronts_set (messages ∷ left) (first ∷ bytes) (suc place) rest new fronts front =
    (fronts.0, fronts_set left bytes place rest new fronts.1 front)

-- The first message of a hart is taken, and the others stay.
pub first_taken : (left : List (List Message)) (place : ℕ) (own : List Message) (taken : Option Message)
    (bytes : List (List ℕ)) (new : List ℕ) → AllAreInFront left bytes → get_or left place [] ≡ own
    → TakesNext own taken new → TakesFirst left place own taken (set bytes place new)
first_taken left place [] taken bytes new fronts at takes = (
  takes.0,
  subst (λ l. AllAreInFront l (set bytes place new)) (none_changes place left at)
      (fronts_set left bytes place [] new fronts takes.1),
)
first_taken left place (message ∷ rest) taken bytes new fronts at takes =
    (takes.0, fronts_set left bytes place rest new fronts takes.1)

-- Past all harts there is none.
none_past : (place : ℕ) (left : List (List Message)) → length left ≤ place → get_or left place [] ≡ []
none_past zero [] past = refl
none_past (suc place) [] past = refl
none_past zero (own ∷ left) past = absurd (omega (arith, past))
none_past (suc place) (own ∷ left) past = none_past place left (omega (arith, past))

pub none_taken : (left : List (List Message)) (place : ℕ) (bytes : List (List ℕ)) → AllAreInFront left bytes
    → length bytes ≤ place → TakesFirst left place (get_or left place []) None bytes
none_taken left place bytes fronts past =
    let count = fronts_long left bytes fronts in
    subst (λ own. TakesFirst left place own None bytes) (sym (none_past place left (omega (arith, count, past))))
    (refl, fronts)

-- The hart at a place takes the first of its messages.
pub one_taken : (left : List (List Message)) (place : ℕ) (bytes : List (List ℕ)) (own new : List ℕ)
    (taken : Option Message) → AllAreInFront left bytes → slice_get bytes place ≡ Some own
    → ((messages : List Message) → AreInFront messages own → TakesNext messages taken new)
    → TakesFirst left place (get_or left place []) taken (set bytes place new)
one_taken left place bytes own new taken fronts at takes =
    first_taken left place (get_or left place []) taken bytes new fronts refl
    (takes (get_or left place []) (front_at left bytes place own fronts at))

-- What was sent, how far the order is drawn, and what is left.
pub record Turned (sent : List Message) (drawn : Drawn) (bytes : List (List ℕ)) (out : List Message × Mixed) : Type 0
  where
    pub sent_is : out.0 ≡ sent
    pub drawn_is : out.1.drawn ≡ drawn
    pub left : AllAreInFront out.1.left bytes

module _ (mixed : Mixed) where
  abbrev by_next : Turn × Drawn → List Message × Mixed
  by_next next = sends next.0.hart (record mixed { drawn = next.1 }) (get_or mixed.left next.0.hart [])

  turn_is : (next : Turn × Drawn) → next_turn mixed.drawn ≡ next → turn mixed ≡ by_next next
  unfolding turn
  turn_is next is = ap by_next is

  module _ (hart : ℕ) (drawn : Drawn) (bytes : List (List ℕ)) where
    some_sent : (message : Message) (own : List Message) → TakesFirst mixed.left hart own (Some message) bytes
        → Turned (message ∷ []) drawn bytes (sends hart (record mixed { drawn = drawn }) own)
    some_sent message [] takes = absurd (some_none message takes.0)
    some_sent message (first ∷ rest) takes =
        let same : first ≡ message = ap (some_or first) (sym takes.0) in
        record { sent_is = ap (λ m. m ∷ []) same; drawn_is = refl; left = takes.1 }

    none_sent : (own : List Message) → TakesFirst mixed.left hart own None bytes
        → Turned [] (leaves hart drawn) bytes (sends hart (record mixed { drawn = drawn }) own)
    none_sent [] takes = record { sent_is = refl; drawn_is = refl; left = takes.1 }
    none_sent (first ∷ rest) takes = absurd (some_none first (sym takes.0))

  module _ {A : Type 0} (mixing : Mixing A) (is : IsMixing mixed mixing) (now : Turn) (drawn : Drawn)
      (next : (now, drawn) ≡ next_turn (drawn_of mixing.order)) (bytes : List (List ℕ)) where
    same : turn mixed ≡ by_next (now, drawn)
    same = turn_is (now, drawn) (ap next_turn (sym is.drawn) ∙ sym next)

    -- The hart of the turn sent a message.
    pub turned_some : (message : Message)
        → TakesFirst mixed.left now.hart (get_or mixed.left now.hart []) (Some message) bytes
        → Turned (message ∷ []) drawn bytes (turn mixed)
    turned_some message takes =
        subst (Turned (message ∷ []) drawn bytes) (sym same)
        (some_sent now.hart drawn bytes message (get_or mixed.left now.hart []) takes)

    -- It had none, and leaves.
    pub turned_none : TakesFirst mixed.left now.hart (get_or mixed.left now.hart []) None bytes
        → Turned [] (leaves now.hart drawn) bytes (turn mixed)
    turned_none takes =
        subst (Turned [] (leaves now.hart drawn) bytes) (sym same)
        (none_sent now.hart drawn bytes (get_or mixed.left now.hart []) takes)

-- So the messages are mixed that far.
pub turned_mixing : {A : Type 0} (sent : List Message) (drawn : Drawn) (out : List Message × Mixed) (mixing : Mixing A)
    → drawn_of mixing.order ≡ drawn → Turned sent drawn mixing.left.items out → IsMixing out.1 mixing
turned_mixing sent drawn out mixing is turned =
    record { drawn = is ∙ sym turned.drawn_is; left = turned.left }

-- A message is written.
pub turned_text : (text : Message → List ℕ) (message : Message) (drawn : Drawn) (bytes : List (List ℕ))
    (out : List Message × Mixed) → Turned (message ∷ []) drawn bytes out → text message ≡ flat_map text out.0
turned_text text message drawn bytes out turned =
    sym (ap (flat_map text) turned.sent_is ∙ append-nil (text message))

-- Or none.
pub turned_nothing : (text : Message → List ℕ) (drawn : Drawn) (bytes : List (List ℕ)) (out : List Message × Mixed)
    (old : Option (List ℕ)) → Turned [] drawn bytes out → Appends old old (flat_map text out.0)
turned_nothing text drawn bytes out old turned =
    subst (λ messages. Appends old old (flat_map text messages)) (sym turned.sent_is) (Appends-nil old)

left_now : (mixed : Mixed) → mixed_from 0 mixed ≡ all_left mixed
unfolding mixed_from
left_now mixed = refl

over_left : (count : ℕ) (mixed : Mixed) → eqb (length mixed.drawn.listed) 0 ≡ true
    → mixed_from count mixed ≡ all_left mixed
unfolding mixed_from
over_left zero mixed is = refl
over_left (suc count) mixed is =
    ap (λ b. if b then all_left mixed else ((turn mixed).0 ++ mixed_from count (turn mixed).1)) is

not_over : (count : ℕ) (mixed : Mixed) → eqb (length mixed.drawn.listed) 0 ≡ false
    → mixed_from (suc count) mixed ≡ (turn mixed).0 ++ mixed_from count (turn mixed).1
unfolding mixed_from
not_over count mixed is =
    ap (λ b. if b then all_left mixed else ((turn mixed).0 ++ mixed_from count (turn mixed).1)) is

module _ {A : Type 0} (text : Message → List ℕ) (whole : List Message) where
  -- At first all is left.
  pub turns_none : (count : ℕ) (mixed : Mixed) (mixing : Mixing A) (old : Option (List ℕ)) → IsMixing mixed mixing
      → whole ≡ mixed_from count mixed → WritesTurns text whole count mixing old old
  turns_none count mixed mixing old is all = record {
    mixed = mixed;
    stands = is;
    front = [];
    parted = ap (flat_map text) all;
    written = Appends-nil old;
  }

  module _ (count : ℕ) (before : Mixing A) (old mid : Option (List ℕ)) (wrote : WritesTurns text whole count before old
      mid) where
    -- No hart may send.
    pub turns_over : eqb (length (drawn_of before.order).listed) 0 ≡ true → WritesTurns text whole 0 before old mid
    turns_over is =
        let over = over_left count wrote.mixed (ap (λ (d : Drawn). eqb (length d.listed) 0) (sym wrote.stands.drawn) ∙ is) in
        record {
          mixed = wrote.mixed;
          stands = wrote.stands;
          front = wrote.front;
          parted = wrote.parted ∙ ap (λ l. wrote.front ++ flat_map text l) (over ∙ sym (left_now wrote.mixed));
          written = wrote.written;
        }

  module _ (n count : ℕ) (more : n ≡ suc count) (before : Mixing A) (old mid new : Option (List ℕ))
      (wrote : WritesTurns text whole n before old mid)
      (going : eqb (length (drawn_of before.order).listed) 0 ≡ false) where
    has : HasWritten (flat_map text whole)
        (flat_map text (turn wrote.mixed).0 ++ flat_map text (mixed_from count (turn wrote.mixed).1)) old mid
    has = record {
      front = wrote.front;
      parted = wrote.parted ∙ ap (λ k. wrote.front ++ flat_map text (mixed_from k wrote.mixed)) more
          ∙ ap (λ l. wrote.front ++ flat_map text l)
          (not_over count wrote.mixed (ap (λ (d : Drawn). eqb (length d.listed) 0) (sym wrote.stands.drawn) ∙ going))
          ∙ ap (λ l. wrote.front ++ l)
          (flat_map-append text (turn wrote.mixed).0 (mixed_from count (turn wrote.mixed).1));
      appended = wrote.written;
    }

    -- One turn more.
    pub turns_more : (after : Mixing A) → IsMixing (turn wrote.mixed).1 after
        → Appends mid new (flat_map text (turn wrote.mixed).0) → WritesTurns text whole count after old new
    turns_more after is wrote_one =
        let next = part_more (flat_map text whole) (flat_map text (turn wrote.mixed).0)
        (flat_map text (mixed_from count (turn wrote.mixed).1)) old mid new has wrote_one in record {
          mixed = (turn wrote.mixed).1;
          stands = is;
          front = next.front;
          parted = next.parted;
          written = next.appended;
        }

    -- A beginning of one more.
    pub turns_begun : AppendsBeginning (flat_map text (turn wrote.mixed).0) mid new
        → AppendsBeginning (flat_map text whole) old new
    turns_begun begun =
        part_begun (flat_map text whole) (flat_map text (turn wrote.mixed).0)
        (flat_map text (mixed_from count (turn wrote.mixed).1)) old mid new has begun

  -- The same with another name of the count.
  pub turns_count : (n m : ℕ) → n ≡ m → (mixing : Mixing A) (old new : Option (List ℕ))
      → WritesTurns text whole n mixing old new → WritesTurns text whole m mixing old new
  turns_count n m same mixing old new wrote = record {
    mixed = wrote.mixed;
    stands = wrote.stands;
    front = wrote.front;
    parted = wrote.parted ∙ ap (λ k. wrote.front ++ flat_map text (mixed_from k wrote.mixed)) same;
    written = wrote.written;
  }

  -- What was written is a front.
  pub turns_front : (n : ℕ) (mixing : Mixing A) (old new : Option (List ℕ))
      → WritesTurns text whole n mixing old new → AppendsBeginning (flat_map text whole) old new
  turns_front n mixing old new wrote =
      record { text = wrote.front; rest = _; parted = wrote.parted; appended = wrote.written }

  -- What is left in the end comes hart after hart.
  pub turns_end : (mixing : Mixing A) (old new : Option (List ℕ)) (wrote : WritesTurns text whole 0 mixing old new)
      → flat_map text whole ≡ wrote.front ++ flat_map text (all_left wrote.mixed)
  unfolding mixed_from
  turns_end mixing old new wrote = wrote.parted

-- Mixed messages are those of all turns.
pub mixed_by_is : (seed : ℕ) (left : List (List Message)) → mixed_from most_turns (unmixed seed left) ≡ mixed_by seed left
unfolding mixed_by
mixed_by_is seed left = refl
