-- The next message of SENT is read.
use Rattle.std.proofs.Common.{◌≡◌, ◌≢◌, ◌⊎◌, inl, inr, ℕ, ◌+◌, ◌-◌, ◌^◌, ◌<◌, ◌≤◌, Bool, true, false, cond, eqb, ltb}
use Rattle.std.proofs.Common.{List, [], ◌∷◌, ◌++◌, Option, Some, None, Result, Ok, Err, drop, length, map, slice_get, take}
use Rattle.std.proofs.Common.{refl, sym, ap, subst, ◌∙◌, arith}
use Rattle.std.specs.Prelude.{◌||◌, IfErr, OnOk, option_map}
use Rattle.std.specs.List.{list_any}
use Rattle.std.specs.Str.{bytes_eq}
use Rattle.std.proofs.lemmas.List.Folds.{list_any-append}
use Rattle.std.proofs.lemmas.Bool.{and_left, cases_eq, cases_lt, eq-eqb, eqb-true, eqb-false, false_from_ne_true, le-ltb, lt-ltb, ltb-false, ltb-true}
use Rattle.std.proofs.lemmas.List.{drop-append-le, length-drop, length-map, length-set, length_push}
use Rattle.std.proofs.lemmas.List.{map_push, take-append-le}
use Rattle.std.proofs.lemmas.Option.{slice_get_within}
use Rattle.payload.specs.declared.by.By.{By}
use Rattle.message.proofs.AcceptedLemmas.{slice_get-set}
use Rattle.message.proofs.Elements.{slice_get-some}
use Rattle.message.proofs.OfHartLemmas.{of_hart-next, of_hart-other}
use Rattle.message.specs.OfHart.{of_hart}
use Rattle.message.specs.declared.fault.DemuxFault.{DemuxFault}
use Rattle.message.specs.declared.fault.DemuxFault.TheVariants as demux
use Rattle.message.specs.declared.message.Message.{Message}
use Rattle.auditing.proofs.SentLemmas.{in_turn-next, next_of_hart}
use Rattle.auditing.proofs.Appending.{or_false}
use Rattle.auditing.proofs.KnownLemmas.{known-more}
use Rattle.auditing.specs.Audits.{capped, number_after}
use Rattle.auditing.specs.Fates.{has_number, is_numbered, is_same, is_true, true_ones}
use Rattle.auditing.specs.Findings.{greatest_number}
use Rattle.auditing.specs.Known.{known_all, known_one}
use Rattle.auditing.specs.Sent.{AreInTurn, misplaced, misplaced_at, next_number}
use Rattle.live.specs.Compared.{known_trues}
use Rattle.live.specs.Holding.{Holding}
use Rattle.live.specs.Holds.{AreNumbers, AreRead, Holds, IsReadFault}
use Rattle.live.specs.Live.{held}
use Rattle.live.specs.View.{given_up}
use Rattle.live.specs.declared.fault.ReadFault.{ReadFault}
use Rattle.live.specs.declared.fault.ReadFault.TheVariants as fault
use Rattle.live.specs.declared.numbers.Numbers.{Numbers}
use Rattle.live.specs.declared.held.SentMessage.{SentMessage}
use Rattle.live.specs.steps.Reading.{answered, harts_read, read_by, read_in, refusal_by}
use Rattle.live.proofs.Known.{known_hart, known_read}
use Rattle.live.proofs.Standings.{no_fewer, numbered_is}

-- A hart of which nothing is found is none of the known ones.
pub beyond_harts : (harts : List Numbers) (hart : ℕ) → slice_get harts hart ≡ None → length harts ≤ hart
beyond_harts harts hart is = go (cases_lt hart (length harts))
  where
    never : (own : Numbers) → Some own ≡ None → ⊥
    never own e = cc

    go : (hart < length harts) ⊎ (length harts ≤ hart) → length harts ≤ hart
    go (inr past) = past
    go (inl within) =
        let found = slice_get-some harts hart within in
        absurd (never found.0 (sym found.1 ∙ is))

-- Why a message is refused, by why it is misplaced.
abbrev also : Option DemuxFault → ℕ → Option ReadFault
also (Some why) number = Some (fault.Misplaced why)
also None number = cond (eqb number (2 ^ 64 - 1)) (Some fault.Full) None

as_misplaced : (own : Option Numbers) (number : ℕ)
    → refusal_by own number ≡ also (misplaced_at (option_map (λ (numbers : Numbers). numbers.read) own) number) number
as_misplaced None number = refl
as_misplaced (Some own) number = go (ltb number own.read) (ltb own.read number)
  where
    go : (low high : Bool)
        → cond low (Some (fault.Misplaced demux.Repeat))
        (cond high (Some (fault.Misplaced (demux.Gap own.read))) (cond (eqb number (2 ^ 64 - 1)) (Some fault.Full) None))
        ≡ also (cond low (Some demux.Repeat) (cond high (Some (demux.Gap own.read)) None)) number
    go true high = refl
    go false true = refl
    go false false = refl

-- One message more of a hart.
pub counts_more : (sent : List Message) (message : Message) → length (of_hart message.hart (sent ++ message ∷ []))
    ≡ length (of_hart message.hart sent) + 1
counts_more sent message = ap length (of_hart-next sent message) ∙ length_push (of_hart message.hart sent) message

-- A message with a number that was not read is none of those that were.
other_than : (sent : List Message) (hart number : ℕ) (one : Message) → one.number < length (of_hart one.hart sent)
    → length (of_hart hart sent) ≤ number → is_numbered hart number one ≡ false
other_than sent hart number one read past = false_from_ne_true (is_numbered hart number one) (λ is.
    let its = numbered_is hart number one is in
    let same = ap (λ h. length (of_hart h sent)) its.0 in
    let number_is = its.1 in
    omega (arith, read, past, same, number_is))

module _ (sent : List Message) (message : Message) (next_one : message.number ≡ length (of_hart message.hart sent)) where
  -- It makes no message true whose number was read.
  pub true_same : (one : Message) → one.number < length (of_hart one.hart sent)
      → is_true (sent ++ message ∷ []) one ≡ is_true sent one
  true_same one low =
      list_any-append (is_same one) sent (message ∷ [])
      ∙ ap (λ b. is_true sent one || b) other
      ∙ or_false (is_true sent one)
    where
      other : list_any (is_same one) (message ∷ []) ≡ false
      other =
          or_false (is_same one message)
          ∙ and_left (is_numbered one.hart one.number message) (bytes_eq one.payload message.payload)
          (false_from_ne_true (is_numbered one.hart one.number message) (λ is.
          let its = numbered_is one.hart one.number message is in
          let hart_is = ap (λ h. length (of_hart h sent)) its.0 in
          let number_is = its.1 in
          let next = next_one in
          omega (arith, hart_is, number_is, low, next)))

  -- It makes none of the messages that came true.
  pub trues_same : (came : List Message) → AreRead sent came
      → true_ones (sent ++ message ∷ []) came ≡ true_ones sent came
  trues_same [] read = refl
  trues_same (one ∷ came) read =
      (λ i. cond (true_same one read.0 i) (one ∷ trues_same came read.1 i) (trues_same came read.1 i))

  -- It did not come yet.
  pub not_come : (came : List Message) → AreRead sent came
      → has_number (true_ones sent came) message.hart message.number ≡ false
  not_come [] read = refl
  not_come (one ∷ came) read = go (is_true sent one) (not_come came read.1)
    where
      go : (known : Bool) → has_number (true_ones sent came) message.hart message.number ≡ false
          → has_number (cond known (one ∷ true_ones sent came) (true_ones sent came)) message.hart message.number ≡ false
      go false rest = rest
      go true rest =
          ap (λ b. b || has_number (true_ones sent came) message.hart message.number)
          (other_than sent message.hart message.number one read.0 (let next = next_one in omega (arith, next)))
          ∙ rest

  -- What was read stays read.
  pub still_read : (came : List Message) → AreRead sent came → AreRead (sent ++ message ∷ []) came
  still_read [] read = tt
  still_read (one ∷ came) read = (
    let low = read.0 in let more = no_fewer one.hart sent (message ∷ []) in omega (arith, low, more),
    still_read came read.1,
  )

-- The same, as payloads are compared.
module _ (how : By) (sent : List Message) (message : Message)
    (next_one : message.number ≡ length (of_hart message.hart sent)) (came : List Message) (read : AreRead sent came) where
  known_next : message.number ≡ length (of_hart message.hart (known_all how sent))
  known_next = next_one ∙ sym (known_hart how message.hart sent)

  pub known_same : known_trues how (sent ++ message ∷ []) came ≡ known_trues how sent came
  known_same =
      ap (λ l. true_ones l (known_all how came)) (known-more how sent message)
      ∙ trues_same (known_all how sent) (known_one how message) known_next (known_all how came)
      (known_read how sent came read)

  pub known_not_come : has_number (known_trues how sent came) message.hart message.number ≡ false
  known_not_come =
      not_come (known_all how sent) (known_one how message) known_next (known_all how came) (known_read how sent came read)

module _ (sent came : List Message) (front : ℕ) (own : Holding) (holds : Holds sent came front own) where
  abbrev trues : List Message
  trues = known_trues own.by sent came

  abbrev gone : ℕ
  gone = given_up own.window front

  -- How many messages are held.
  pub held_count : length own.slots ≡ length sent - gone
  held_count =
      ap length holds.slots ∙ length-map (drop gone sent) (held trues) ∙ length-drop gone sent

  module _ (message : Message) where
    abbrev its : Option Numbers
    its = slice_get own.harts message.hart

    abbrev next : Option ℕ
    next = option_map (λ (numbers : Numbers). numbers.read) its

    -- What is counted of a hart is its next number.
    next_read : next_number (length own.harts) sent message.hart ≡ next
    next_read = go its refl
      where
        go : (o : Option Numbers) → its ≡ o
            → next_number (length own.harts) sent message.hart ≡ option_map (λ (numbers : Numbers). numbers.read) o
        go None is =
            ap (λ b. cond b (Some (length (of_hart message.hart sent))) None)
            (le-ltb message.hart (length own.harts) (beyond_harts own.harts message.hart is))
        go (Some numbers) is =
            ap (λ b. cond b (Some (length (of_hart message.hart sent))) None)
            (lt-ltb message.hart (length own.harts) (slice_get_within own.harts message.hart numbers is))
            ∙ ap Some (sym (holds.harts message.hart numbers is).read)

    placed_as : misplaced (length own.harts) sent message ≡ misplaced_at next message.number
    placed_as = ap (λ o. misplaced_at o message.number) next_read

    -- Why it is refused, by why it is misplaced.
    refusal_as : refusal_by its message.number ≡ also (misplaced_at next message.number) message.number
    refusal_as = as_misplaced its message.number

    -- A message that is not refused is the next one of its hart.
    pub placed_if : refusal_by (slice_get own.harts message.hart) message.number ≡ None
        → misplaced (length own.harts) sent message ≡ None
    placed_if is = placed_as ∙ go (misplaced_at next message.number) (sym refusal_as ∙ is)
      where
        go : (o : Option DemuxFault) → also o message.number ≡ None → o ≡ None
        go None e = refl
        go (Some why) e = cc

    -- Why a message is refused.
    pub why_refused : (why : ReadFault) → refusal_by (slice_get own.harts message.hart) message.number ≡ Some why
        → ((cause : DemuxFault) × (why ≡ fault.Misplaced cause) × (misplaced (length own.harts) sent message ≡ Some cause))
        ⊎ ((why ≡ fault.Full) × (message.number ≡ 2 ^ 64 - 1) × (misplaced (length own.harts) sent message ≡ None))
    why_refused why is = go (misplaced_at next message.number) refl (sym refusal_as ∙ is)
      where
        last : (b : Bool) → eqb message.number (2 ^ 64 - 1) ≡ b → cond b (Some fault.Full) None ≡ Some why
            → (why ≡ fault.Full) × (message.number ≡ 2 ^ 64 - 1)
        last true test e = (cc, eqb-true message.number (2 ^ 64 - 1) test)
        last false test e = cc

        go : (o : Option DemuxFault) → misplaced_at next message.number ≡ o → also o message.number ≡ Some why
            → ((cause : DemuxFault) × (why ≡ fault.Misplaced cause) × (misplaced (length own.harts) sent message ≡ Some cause))
            ⊎ ((why ≡ fault.Full) × (message.number ≡ 2 ^ 64 - 1) × (misplaced (length own.harts) sent message ≡ None))
        go (Some cause) at e =
            let same : why ≡ fault.Misplaced cause = cc in
            inl (cause, same, placed_as ∙ at)
        go None at e =
            let both = last (eqb message.number (2 ^ 64 - 1)) refl e in
            inr (both.0, both.1, placed_as ∙ at)

    -- One that is not refused has not the last number.
    pub not_last : refusal_by (slice_get own.harts message.hart) message.number ≡ None → message.number ≡ 2 ^ 64 - 1 → ⊥
    not_last is last = go (misplaced_at next message.number) (sym refusal_as ∙ is)
      where
        go : (o : Option DemuxFault) → also o message.number ≡ None → ⊥
        go (Some cause) e = let never : Some (fault.Misplaced cause) ≡ None = e in cc
        go None e =
            let test = eq-eqb message.number (2 ^ 64 - 1) last in
            let never : Some fault.Full ≡ None = ap (λ b. cond b (Some fault.Full) None) (sym test) ∙ e in cc

    -- A message that is refused.
    pub refused : (why : ReadFault) → read_by own message ≡ Err why
        → IsReadFault (length own.harts) own.window sent front message why
    refused why is = go (ltb (length own.slots) (own.near + own.window)) refl is
      where
        counting : length sent < front + own.window → (o : Option DemuxFault) → misplaced_at next message.number ≡ o
            → answered (also o message.number) ≡ Err why
            → IsReadFault (length own.harts) own.window sent front message why
        counting space (Some cause) at e =
            subst (IsReadFault (length own.harts) own.window sent front message)
            (let same : fault.Misplaced cause ≡ why = cc in same) (placed_as ∙ at, space)
        counting space None at e = full (eqb message.number (2 ^ 64 - 1)) refl e
          where
            full : (last : Bool) → eqb message.number (2 ^ 64 - 1) ≡ last
                → answered (cond last (Some fault.Full) None) ≡ Err why
                → IsReadFault (length own.harts) own.window sent front message why
            full false test e = cc
            full true test e =
                subst (IsReadFault (length own.harts) own.window sent front message)
                (let same : fault.Full ≡ why = cc in same)
                (inr (eqb-true message.number (2 ^ 64 - 1) test, placed_as ∙ at))

        go : (space : Bool) → ltb (length own.slots) (own.near + own.window) ≡ space
            → cond space (answered (refusal_by its message.number)) (Err fault.Full) ≡ Err why
            → IsReadFault (length own.harts) own.window sent front message why
        go true space e =
            counting
            (let some = ltb-true (length own.slots) (own.near + own.window) space in
            let count = held_count in
            let near = holds.near in
            let read = holds.read in
            omega (arith, some, count, near, read))
            (misplaced_at next message.number) refl (ap answered (sym refusal_as) ∙ e)
        go false none e =
            subst (IsReadFault (length own.harts) own.window sent front message)
            (let same : fault.Full ≡ why = cc in same)
            (let all = ltb-false (length own.slots) (own.near + own.window) none in
            let count = held_count in
            let near = holds.near in
            let ahead = holds.ahead in
            let read = holds.read in
            inl (omega (arith, all, count, near, ahead, read)))

    abbrev slot : SentMessage
    slot = record { message = message; came = false }

    abbrev longer : Numbers → Numbers
    longer numbers = record numbers { read = capped (message.number + 1) }

    -- What is held after it is counted.
    build : (o : Option Numbers) → its ≡ o → misplaced (length own.harts) sent message ≡ None
        → message.number < 2 ^ 64 - 1 → length own.slots < own.near + own.window
        → Holds (sent ++ message ∷ []) came front (record own {
          slots = own.slots ++ slot ∷ [];
          harts = harts_read own.harts message.hart message.number o;
        })
    build None at placed few space =
        let known = (next_of_hart (length own.harts) sent message placed).0 in
        let past = beyond_harts own.harts message.hart at in
        absurd (omega (arith, known, past))
    build (Some numbers) at placed few space = record {
      slots =
          ap (λ l. l ++ slot ∷ []) holds.slots
          ∙ ap (λ l. map (held trues) (drop gone sent) ++ l ∷ []) new_slot
          ∙ sym (map_push (held trues) (drop gone sent) message)
          ∙ ap (λ l. map (held trues) l) (sym (drop-append-le gone sent (message ∷ []) low))
          ∙ ap (λ t. map (held t) (drop gone (sent ++ message ∷ []))) (sym same_trues);
      near = holds.near;
      read = let read = holds.read in let count = length_push sent message in omega (arith, read, count);
      ahead =
          let near = holds.near in
          let count = held_count in
          let read = holds.read in
          let more = length_push sent message in
          omega (arith, near, count, read, more, space);
      in_turn =
          subst (λ n. AreInTurn n [] (sent ++ message ∷ [])) (sym (length-set own.harts message.hart (longer numbers)))
          (in_turn-next (length own.harts) [] sent message holds.in_turn placed);
      came_read = still_read sent message next_one came holds.came_read;
      few = λ hart. fewer hart (cases_eq message.hart hart);
      harts = λ hart other is. counted_of hart other (slice_get-set own.harts message.hart (longer numbers) hart other is);
    }
      where
        next_one : message.number ≡ length (of_hart message.hart sent)
        next_one = (next_of_hart (length own.harts) sent message placed).1

        low : gone ≤ length sent
        low = let read = holds.read in omega (arith, read)

        same_given : take gone (sent ++ message ∷ []) ≡ take gone sent
        same_given = take-append-le gone sent (message ∷ []) low

        new_slot : slot ≡ held trues message
        new_slot =
            let P : Bool → SentMessage = λ b. record { message = message; came = b } in
            ap P (sym (known_not_come own.by sent message next_one came holds.came_read))

        same_trues : known_trues own.by (sent ++ message ∷ []) came ≡ trues
        same_trues = known_same own.by sent message next_one came holds.came_read

        fewer : (hart : ℕ) → (message.hart ≡ hart) ⊎ (message.hart ≡ hart → ⊥)
            → length (of_hart hart (sent ++ message ∷ [])) < 2 ^ 64
        fewer hart (inl same) =
            subst (λ h. length (of_hart h (sent ++ message ∷ [])) < 2 ^ 64) same
            (let more = counts_more sent message in let is = next_one in omega (arith, more, is, few))
        fewer hart (inr other) =
            let same = ap length (of_hart-other hart sent message other) in
            let bound = holds.few hart in
            omega (arith, same, bound)

        counted_of : (hart : ℕ) (other : Numbers)
            → ((message.hart ≡ hart) × (other ≡ longer numbers)) ⊎ ((message.hart ≢ hart) × (slice_get own.harts hart ≡ Some other))
            → AreNumbers (take gone (sent ++ message ∷ [])) (sent ++ message ∷ [])
            (known_trues own.by (sent ++ message ∷ []) came) hart other
        counted_of hart other (inl both) = record {
          gone =
              ap (λ (n : Numbers). n.gone) both.1
              ∙ (holds.harts message.hart numbers at).gone
              ∙ ap (λ l. length (of_hart message.hart l)) (sym same_given)
              ∙ ap (λ h. length (of_hart h (take gone (sent ++ message ∷ [])))) both.0;
          read =
              ap (λ (n : Numbers). n.read) both.1
              ∙ (let bound = few in let same : capped (message.number + 1) ≡ message.number + 1 = omega (arith, bound) in same)
              ∙ ap (λ n. n + 1) next_one
              ∙ sym (counts_more sent message)
              ∙ ap (λ h. length (of_hart h (sent ++ message ∷ []))) both.0;
          past =
              ap (λ (n : Numbers). n.past) both.1
              ∙ (holds.harts message.hart numbers at).past
              ∙ ap (λ t. number_after (greatest_number t message.hart)) (sym same_trues)
              ∙ ap (λ h. number_after (greatest_number (known_trues own.by (sent ++ message ∷ []) came) h)) both.0;
        }
        counted_of hart other (inr both) = record {
          gone = (holds.harts hart other both.1).gone ∙ ap (λ l. length (of_hart hart l)) (sym same_given);
          read = (holds.harts hart other both.1).read ∙ ap length (sym (of_hart-other hart sent message both.0));
          past =
              (holds.harts hart other both.1).past
              ∙ ap (λ t. number_after (greatest_number t hart)) (sym same_trues);
        }

    -- A message that is read.
    pub reads : read_by own message ≡ Ok tt → Holds (sent ++ message ∷ []) came front (read_in own message)
    reads is = go (ltb (length own.slots) (own.near + own.window)) refl is
      where
        counting : length own.slots < own.near + own.window → (o : Option DemuxFault)
            → misplaced_at next message.number ≡ o → answered (also o message.number) ≡ Ok tt
            → Holds (sent ++ message ∷ []) came front (read_in own message)
        counting space (Some cause) at e = cc
        counting space None at e = full (eqb message.number (2 ^ 64 - 1)) refl e
          where
            full : (last : Bool) → eqb message.number (2 ^ 64 - 1) ≡ last
                → answered (cond last (Some fault.Full) None) ≡ Ok tt
                → Holds (sent ++ message ∷ []) came front (read_in own message)
            full true test e = cc
            full false test e =
                let placed = placed_as ∙ at in
                let next_one = (next_of_hart (length own.harts) sent message placed).1 in
                let few = holds.few message.hart in
                let other = eqb-false message.number (2 ^ 64 - 1) test in
                build its refl placed (omega (arith, next_one, few, other)) space

        go : (space : Bool) → ltb (length own.slots) (own.near + own.window) ≡ space
            → cond space (answered (refusal_by its message.number)) (Err fault.Full) ≡ Ok tt
            → Holds (sent ++ message ∷ []) came front (read_in own message)
        go false none e = cc
        go true space e =
            counting (ltb-true (length own.slots) (own.near + own.window) space) (misplaced_at next message.number) refl
            (ap answered (sym refusal_as) ∙ e)

    -- The same of what is returned.
    pub reads_on : (result : Result (Unit {0}) ReadFault) (new : Holding) → result ≡ read_by own message
        → OnOk result (new ≡ read_in own message) → OnOk result (Holds (sent ++ message ∷ []) came front new)
    reads_on (Err why) new is read = tt
    reads_on (Ok done) new is read = subst (Holds (sent ++ message ∷ []) came front) (sym read) (reads (sym is))

    pub refused_if : (result : Result (Unit {0}) ReadFault) → result ≡ read_by own message
        → IfErr result (IsReadFault (length own.harts) own.window sent front message)
    refused_if (Ok done) is = tt
    refused_if (Err why) is = refused why (sym is)
