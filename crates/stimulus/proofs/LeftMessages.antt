-- Messages that are written one after the other, while their bytes are read.
use Rattle.std.proofs.Common.{◌≡◌, ◌≢◌, ◌≤◌, ◌∙◌, ◌++◌, All, ap, append-nil, append_assoc, arith, inl, inr, refl, subst, sym}
use Rattle.std.proofs.Common.{ℕ, zero, suc, List, [], ◌∷◌, Option, Some, None, Ok, Err, Result, length, map}
use Rattle.std.proofs.lemmas.Grind.{flat_map-append}
use Rattle.std.proofs.lemmas.List.{length-append, nil_from_length}
use Rattle.std.proofs.lemmas.List.Elements.{All-cons, All-head, All-nil, All-tail}
use Rattle.std.specs.Prelude.{IfErr, IfOk, IfSome}
use Rattle.std.specs.Io.KnownBytes.{Appends}
use Rattle.std.specs.List.{flat_map}
use Rattle.captures.proofs.Dumps.{AreBytes-behind}
use Rattle.message.proofs.Fronts.{Front, front_of}
use Rattle.message.proofs.ReadBack.{not_bad, not_cut}
use Rattle.message.specs.Capture.{capture, message_bytes}
use Rattle.message.specs.Cut.{HasBadLength, IsCut, IsMessage}
use Rattle.message.specs.declared.fault.MessageFault.{MessageFault}
use Rattle.message.specs.declared.message.Message.{Message}
use Rattle.message.specs.steps.Filling.{AreBytes}
use Rattle.output.proofs.FieldParts.{HasWritten, part_all, part_begun, part_more, part_none}
use Rattle.output.specs.Begun.{AppendsBeginning}
use Rattle.stimulus.specs.Mixing.{AllAreInFront, AreInFront}
use Rattle.stimulus.specs.steps.Drawing.{TakesNext}

-- The message, if there is one.
abbrev pub some_or : Message → Option Message → Message
some_or default (Some m) = m
some_or default None = default

-- There is none or one.
pub some_none : (message : Message) → Some message ≡ None → ⊥
some_none message is = cc

-- What was read, if it is no fault.
abbrev pub or_none : Result (Option Message) MessageFault → Option Message
or_none (Ok found) = found
or_none (Err why) = None

-- Where no message is left, none is read, and the bytes stay.
none_read : (bytes new : List ℕ) (result : Result (Option Message) MessageFault) → AreInFront [] bytes
    → IfOk result (λ found. IfSome found (λ message. IsMessage message))
    → IfOk result (λ found. IfSome found (λ message. bytes ≡ message_bytes message ++ new))
    → (result ≡ Ok None → bytes ≡ []) → (result ≡ Ok None → new ≡ []) → IfErr result (λ fault. new ≡ bytes)
    → TakesNext [] (or_none result) new
none_read bytes new (Ok (Some message)) front ranges is end ended stays =
    absurd (front.no_more message new ranges (sym front.parted ∙ is))
none_read bytes new (Ok None) front ranges is end ended stays =
    (refl, subst (AreInFront []) (end refl ∙ sym (ended refl)) front)
none_read bytes new (Err fault) front ranges is end ended stays = (refl, subst (AreInFront []) (sym stays) front)

-- The first message is read where there is one.
pub next_taken : (messages : List Message) (bytes new : List ℕ) (result : Result (Option Message) MessageFault)
    → AreInFront messages bytes
    → IfOk result (λ found. IfSome found (λ message. IsMessage message))
    → IfOk result (λ found. IfSome found (λ message. bytes ≡ message_bytes message ++ new))
    → (result ≡ Ok None → bytes ≡ []) → (result ≡ Ok None → new ≡ []) → IfErr result (λ fault. new ≡ bytes)
    → ((message : Message) (rest : List ℕ) → IsMessage message → bytes ≡ message_bytes message ++ rest
    → (result ≡ Ok (Some message)) × (new ≡ rest))
    → TakesNext messages (or_none result) new
next_taken [] bytes new result front ranges is end ended stays reads =
    none_read bytes new result front ranges is end ended stays
next_taken (message ∷ rest) bytes new result front ranges is end ended stays reads =
    let read = reads message (capture rest ++ front.rest) (All-head IsMessage message rest front.ranges)
    (front.parted ∙ append_assoc (message_bytes message) (capture rest) front.rest) in (
      ap or_none read.0,
      record {
        ranges = All-tail IsMessage message rest front.ranges;
        rest = front.rest;
        parted = read.1;
        no_more = front.no_more;
      },
    )

-- Of these messages the first are written, and the bytes of the others are left.
pub record HasLeft (text : Message → List ℕ) (messages : List Message) (bytes : List ℕ) (old mid : Option (List ℕ))
    : Type 0 where
  pub left : List Message
  pub front : AreInFront left bytes
  pub has : HasWritten (flat_map text messages) (flat_map text left) old mid

module _ (text : Message → List ℕ) (messages : List Message) where
  -- At first all are left.
  pub left_none : (bytes : List ℕ) (old : Option (List ℕ)) → AreInFront messages bytes
      → HasLeft text messages bytes old old
  left_none bytes old front = record { left = messages; front = front; has = part_none (flat_map text messages) old }

  module _ (bytes rest : List ℕ) (message : Message) (old mid new : Option (List ℕ)) where
    more : (left : List Message) → HasWritten (flat_map text messages) (flat_map text left) old mid
        → TakesNext left (Some message) rest → Appends mid new (text message) → HasLeft text messages rest old new
    more [] has takes wrote = absurd (some_none message takes.0)
    more (first ∷ left) has takes wrote =
        let same : first ≡ message = ap (some_or first) (sym takes.0) in record {
          left = left;
          front = takes.1;
          has = part_more (flat_map text messages) (text first) (flat_map text left) old mid new has
              (subst (λ m. Appends mid new (text m)) (sym same) wrote);
        }

    -- One more is written.
    pub left_more : HasLeft text messages bytes old mid
        → ((left : List Message) → AreInFront left bytes → TakesNext left (Some message) rest)
        → Appends mid new (text message) → HasLeft text messages rest old new
    left_more has takes wrote = more has.left has.has (takes has.left has.front) wrote

    begun : (left : List Message) → HasWritten (flat_map text messages) (flat_map text left) old mid
        → TakesNext left (Some message) rest → AppendsBeginning (text message) mid new
        → AppendsBeginning (flat_map text messages) old new
    begun [] has takes wrote = absurd (some_none message takes.0)
    begun (first ∷ left) has takes wrote =
        let same : first ≡ message = ap (some_or first) (sym takes.0) in
        part_begun (flat_map text messages) (text first) (flat_map text left) old mid new has
        (subst (λ m. AppendsBeginning (text m) mid new) (sym same) wrote)

    -- A beginning of one more is written.
    pub left_begun : HasLeft text messages bytes old mid
        → ((left : List Message) → AreInFront left bytes → TakesNext left (Some message) rest)
        → AppendsBeginning (text message) mid new → AppendsBeginning (flat_map text messages) old new
    left_begun has takes wrote = begun has.left has.has (takes has.left has.front) wrote

  module _ (bytes rest : List ℕ) (old mid : Option (List ℕ)) where
    all : (left : List Message) → HasWritten (flat_map text messages) (flat_map text left) old mid
        → TakesNext left None rest → Appends old mid (flat_map text messages)
    all [] has takes = part_all (flat_map text messages) old mid has
    all (first ∷ left) has takes = absurd (some_none first (sym takes.0))

    -- None is left.
    pub left_all : HasLeft text messages bytes old mid
        → ((left : List Message) → AreInFront left bytes → TakesNext left None rest)
        → Appends old mid (flat_map text messages)
    left_all has takes = all has.left has.has (takes has.left has.front)

-- The texts of lists of messages are those of all.
pub joined_text : (text : Message → List ℕ) (left : List (List Message))
    → flat_map text (flat_map (λ own. own) left) ≡ flat_map (λ own. flat_map text own) left
joined_text text [] = refl
joined_text text (own ∷ left) =
    flat_map-append text own (flat_map (λ own. own) left)
    ∙ ap (λ l. flat_map text own ++ l) (joined_text text left)

-- Of the messages of harts those of the first harts are written, and the bytes of the others are left.
pub record HartsLeft (text : Message → List ℕ) (messages : List (List Message)) (bytes : List (List ℕ))
    (old mid : Option (List ℕ)) : Type 0 where
  pub left : List (List Message)
  pub fronts : AllAreInFront left bytes
  pub has : HasWritten (flat_map (λ own. flat_map text own) messages) (flat_map (λ own. flat_map text own) left) old mid

module _ (text : Message → List ℕ) (messages : List (List Message)) where
  abbrev own_text : List Message → List ℕ
  own_text own = flat_map text own

  -- At first all are left.
  pub harts_none : (bytes : List (List ℕ)) (old : Option (List ℕ)) → AllAreInFront messages bytes
      → HartsLeft text messages bytes old old
  harts_none bytes old fronts =
      record { left = messages; fronts = fronts; has = part_none (flat_map own_text messages) old }

  module _ (rest : List (List ℕ)) (own : List ℕ) (old mid new : Option (List ℕ)) where
    more_by : (left : List (List Message)) → AllAreInFront left (own ∷ rest)
        → HasWritten (flat_map own_text messages) (flat_map own_text left) old mid
        → ((ms : List Message) → AreInFront ms own → Appends mid new (flat_map text ms))
        → HartsLeft text messages rest old new
    more_by [] fronts has wrote = elim fronts [ ]
    more_by (first ∷ left) fronts has wrote = record {
      left = left;
      fronts = fronts.1;
      has = part_more (flat_map own_text messages) (own_text first) (flat_map own_text left) old mid new has
          (wrote first fronts.0);
    }

    begun_by : (left : List (List Message)) → AllAreInFront left (own ∷ rest)
        → HasWritten (flat_map own_text messages) (flat_map own_text left) old mid
        → ((ms : List Message) → AreInFront ms own → AppendsBeginning (flat_map text ms) mid new)
        → AppendsBeginning (flat_map own_text messages) old new
    begun_by [] fronts has wrote = elim fronts [ ]
    begun_by (first ∷ left) fronts has wrote =
        part_begun (flat_map own_text messages) (own_text first) (flat_map own_text left) old mid new has
        (wrote first fronts.0)

    module _ (bytes : List (List ℕ)) (parted : bytes ≡ own ∷ rest) (has : HartsLeft text messages bytes old mid) where
      -- Those of one hart more are written.
      pub harts_more : ((ms : List Message) → AreInFront ms own → Appends mid new (flat_map text ms))
          → HartsLeft text messages rest old new
      harts_more wrote = more_by has.left (subst (AllAreInFront has.left) parted has.fronts) has.has wrote

      -- A beginning of those of one hart more is written.
      pub harts_begun : ((ms : List Message) → AreInFront ms own → AppendsBeginning (flat_map text ms) mid new)
          → AppendsBeginning (flat_map text (flat_map (λ own. own) messages)) old new
      harts_begun wrote =
          subst (λ l. AppendsBeginning l old new) (sym (joined_text text messages))
          (begun_by has.left (subst (AllAreInFront has.left) parted has.fronts) has.has wrote)

  all_by : (left : List (List Message)) → AllAreInFront left []
      → (old mid : Option (List ℕ)) → HasWritten (flat_map own_text messages) (flat_map own_text left) old mid
      → Appends old mid (flat_map own_text messages)
  all_by [] fronts old mid has = part_all (flat_map own_text messages) old mid has
  all_by (first ∷ left) fronts old mid has = elim fronts [ ]

  -- None is left.
  pub harts_all : (bytes : List (List ℕ)) (old mid : Option (List ℕ)) → length bytes ≡ 0
      → HartsLeft text messages bytes old mid → Appends old mid (flat_map text (flat_map (λ own. own) messages))
  harts_all bytes old mid none has =
      subst (Appends old mid) (sym (joined_text text messages))
      (all_by has.left (subst (AllAreInFront has.left) (nil_from_length bytes none) has.fronts) old mid has.has)

-- There are as many lists of messages as of bytes.
pub fronts_long : (left : List (List Message)) (bytes : List (List ℕ)) → AllAreInFront left bytes
    → length left ≡ length bytes
fronts_long [] [] fronts = refl
fronts_long [] (own ∷ bytes) fronts = elim fronts [ ]
fronts_long (own ∷ left) [] fronts = elim fronts [ ]
fronts_long (own ∷ left) (first ∷ bytes) fronts = ap suc (fronts_long left bytes fronts.1)

-- No message is behind the last.
ended : (messages : List Message) → All IsMessage messages → AreInFront messages (capture messages)
ended messages ranges = record {
  ranges = ranges;
  rest = [];
  parted = sym (append-nil (capture messages));
  no_more = λ message later is none. cc;
}

-- The messages of bytes that hold no other bytes.
pub all_held : (left : List (List Message)) (bytes : List (List ℕ)) → bytes ≡ map capture left
    → All (All IsMessage) left → AllAreInFront left bytes
all_held left bytes is ranges = subst (AllAreInFront left) (sym is) (go left ranges)
  where
    go : (left : List (List Message)) → All (All IsMessage) left → AllAreInFront left (map capture left)
    go [] ranges = tt
    go (own ∷ left) ranges =
        (ended own (All-head (All IsMessage) own left ranges), go left (All-tail (All IsMessage) own left ranges))

-- A message is behind it, if there is one.
pub record SomeAreInFront (bytes : List ℕ) : Type 0 where
  pub own : List Message
  pub front : AreInFront own bytes

none_in_front : (bytes : List ℕ)
    → ((message : Message) (later : List ℕ) → IsMessage message → bytes ≢ message_bytes message ++ later)
    → SomeAreInFront bytes
none_in_front bytes none = record {
  own = [];
  front = record { ranges = All-nil IsMessage; rest = bytes; parted = refl; no_more = none };
}

-- All bytes begin with some messages, or none, and after them with none.
found_in : (room : ℕ) (bytes : List ℕ) → AreBytes bytes → length bytes ≤ room → SomeAreInFront bytes
found_in zero bytes are few =
    none_in_front bytes (λ message later is same. long_message message later (ap length same) few)
  where
    long_message : (message : Message) (later : List ℕ) → length bytes ≡ length (message_bytes message ++ later)
        → length bytes ≤ 0 → ⊥
    long_message message later same few = omega (arith, same, few)
found_in (suc room) bytes are few = by (front_of bytes are) (found_in room)
  where
    some : (message : Message) (rest : List ℕ) → IsMessage message → bytes ≡ message_bytes message ++ rest
        → SomeAreInFront rest → SomeAreInFront bytes
    some message rest ranges is behind = record {
      own = message ∷ behind.own;
      front = record {
        ranges = All-cons IsMessage message behind.own ranges behind.front.ranges;
        rest = behind.front.rest;
        parted = is ∙ ap (λ l. message_bytes message ++ l) behind.front.parted
            ∙ sym (append_assoc (message_bytes message) (capture behind.own) behind.front.rest);
        no_more = behind.front.no_more;
      };
    }

    by : Front bytes → ((rest : List ℕ) → AreBytes rest → length rest ≤ room → SomeAreInFront rest)
        → SomeAreInFront bytes
    by (inl none) rest_of = none_in_front bytes (λ message later is same. cc (sym none ∙ same))
    by (inr (inl cut)) rest_of =
        none_in_front bytes (λ message later is same. not_cut message later is (subst IsCut same cut))
    by (inr (inr (inl bad))) rest_of =
        none_in_front bytes (λ message later is same. not_bad message later is (subst HasBadLength same bad))
    by (inr (inr (inr (message, rest, ranges, is)))) rest_of =
        let long = ap length is in
        let behind = length-append message.payload rest in
        some message rest ranges is (rest_of rest (rest_bytes message rest is) (omega (arith, long, behind, few)))
      where
        rest_bytes : (message : Message) (rest : List ℕ) → bytes ≡ message_bytes message ++ rest → AreBytes rest
        rest_bytes message rest is = AreBytes-behind (message_bytes message) rest (subst AreBytes is are)

-- So do those of all harts.
pub record AllFound (bytes : List (List ℕ)) : Type 0 where
  pub left : List (List Message)
  pub fronts : AllAreInFront left bytes

pub all_found : (bytes : List (List ℕ)) → All AreBytes bytes → AllFound bytes
all_found [] are = record { left = []; fronts = tt }
all_found (own ∷ bytes) are =
    let here = found_in (length own) own (All-head AreBytes own bytes are) (omega arith) in
    let others = all_found bytes (All-tail AreBytes own bytes are) in
    record { left = here.own ∷ others.left; fronts = (here.front, others.fronts) }
