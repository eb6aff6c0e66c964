-- Rows of messages that are beyond the view, message by message.
use Rattle.std.proofs.Common.{◌≡◌, ◌<◌, ◌≤◌, ◌+◌, ◌-◌, ◌*◌, ◌==◌, ◌&&◌, ◌++◌, ◌∙◌, ℕ, zero, suc, Bool, true, false, if◌then◌else◌}
use Rattle.std.proofs.Common.{List, [], ◌∷◌, Option, Some, None, drop, length, option_map, take, refl, sym, ap, ap₂, arith}
use Rattle.std.proofs.lemmas.List.{drop-append-le, drop-drop, length-drop}
use Rattle.frames.proofs.FrameLemmas.{complete}
use Rattle.frames.specs.Frame.{frame_in, frame_size, is_complete, message_in, message_size}
use Rattle.message.specs.declared.message.Message.{Message}
use Rattle.live.specs.Live.{are_near}
use Rattle.live.specs.Received.{Rule, begins_row, ends_or_goes_on, is_row, is_seen_beyond, messages_after, messages_from, number_among}
use Rattle.live.specs.declared.received_seen.Seen.{Seen}
use Rattle.live.specs.steps.Receiving.{near_by, row_by, seen_first}
use Rattle.live.proofs.ReceivedBytes.{complete_more, frame_more, framed, its, none_begins, size_more, some_framed}

-- What belongs to a message is passed over at once.
messages_rest : (n : ℕ) (xs : List ℕ) → messages_after n xs ≡ messages_from (drop n xs)
messages_rest zero xs = refl
messages_rest (suc n) [] = refl
messages_rest (suc n) (b ∷ bytes) = messages_rest n bytes

-- A complete message, and those after it.
pub messages_next : (xs : List ℕ) → is_complete xs ≡ true
    → messages_from xs ≡ frame_in xs ∷ messages_from (drop (frame_size xs) xs)
messages_next [] is = let c = complete [] is in let fits = c.fits in absurd (omega (arith, fits))
messages_next (b ∷ bytes) is =
    let size = frame_size (b ∷ bytes) in
    let whole : suc (size - 1) ≡ size = omega arith in
    ap (λ (c : Bool). if c then frame_in (b ∷ bytes) ∷ messages_after (size - 1) bytes else []) is
    ∙ ap (λ (l : List Message). frame_in (b ∷ bytes) ∷ l)
    (messages_rest (size - 1) bytes ∙ ap (λ (n : ℕ). messages_from (drop n (b ∷ bytes))) whole)

-- Where none begins, there is none.
pub messages_none : (xs : List ℕ) → is_complete xs ≡ false → messages_from xs ≡ []
messages_none [] none = refl
messages_none (b ∷ bytes) none =
    ap (λ (c : Bool). if c then frame_in (b ∷ bytes) ∷ messages_after (frame_size (b ∷ bytes) - 1) bytes else []) none

-- The message that is held, and those after it in what is held and what follows.
pub messages_held : (xs more : List ℕ) (size : ℕ) → Some size ≡ message_size xs
    → messages_from (xs ++ more) ≡ frame_in xs ∷ messages_from (drop size xs ++ more)
messages_held xs more size begins =
    let own = its xs size begins in
    let there = complete_more xs more own.0 in
    let c = complete xs own.0 in
    let fits = c.fits in
    let same = own.1 in
    messages_next (xs ++ more) there
    ∙ ap₂ (λ (m : Message) (l : List ℕ). m ∷ messages_from l) (frame_more xs more own.0)
    (ap (λ n. drop n (xs ++ more)) (size_more xs more own.0 ∙ sym same)
    ∙ drop-append-le size xs more (omega (arith, fits, same)))

-- One element more of a list.
pub one_more : {X : Type 0} → (n : ℕ) (xs ys : List X) (y : X) → drop n xs ≡ y ∷ ys
    → (take (suc n) xs ≡ take n xs ++ y ∷ []) × (drop (suc n) xs ≡ ys)
one_more zero [] ys y is = cc
one_more zero (x ∷ xs) ys y is = (let e : x ≡ y = cc in ap (λ z. z ∷ []) e, cc)
one_more (suc n) [] ys y is = cc
one_more (suc n) (x ∷ xs) ys y is = let more = one_more n xs ys y is in (ap (λ l. x ∷ l) more.0, more.1)

-- What a row is, by whether it ends with the next message.
abbrev pub by_end : Option Bool → Bool → Bool
by_end (Some is) more = is
by_end None more = more

-- A row ends with a message, or goes on with those after it.
row_next : (rule : Rule) (before : List Message) (message : Message) (messages : List Message)
    → is_row rule before (message ∷ messages)
    ≡ by_end (row_by rule before (Some message)) (is_row rule (before ++ message ∷ []) messages)
row_next rule before message messages =
    by (is_seen_beyond (rule.sees message)) (number_among before message.hart)
    (is_row rule (before ++ message ∷ []) messages)
  where
    by : (beyond : Bool) (number : Option ℕ) (more : Bool)
        → (beyond && ends_or_goes_on rule.window message.number number more)
        ≡ by_end (if beyond then option_map (are_near rule.window message.number) number else Some false) more
    by true None more = refl
    by true (Some number) more = refl
    by false number more = refl

-- The same by what is held.
pub row_held : (rule : Rule) (before : List Message) (xs more : List ℕ) (size n : ℕ) → Some size ≡ message_size xs
    → is_row rule before (take (suc n) (messages_from (xs ++ more)))
    ≡ by_end (row_by rule before (message_in xs))
    (is_row rule (before ++ frame_in xs ∷ []) (take n (messages_from (drop size xs ++ more))))
row_held rule before xs more size n begins =
    ap (λ l. is_row rule before (take (suc n) l)) (messages_held xs more size begins)
    ∙ row_next rule before (frame_in xs) (take n (messages_from (drop size xs ++ more)))
    ∙ ap (λ m. by_end (row_by rule before m) (is_row rule (before ++ frame_in xs ∷ [])
    (take n (messages_from (drop size xs ++ more))))) (sym (framed xs (its xs size begins).0))

-- Where no message begins, no row does.
pub row_none : (rule : Rule) (before : List Message) (xs : List ℕ) (n : ℕ) → is_complete xs ≡ false
    → is_row rule before (take n (messages_from xs)) ≡ false
row_none rule before xs n none = ap (λ l. is_row rule before (take n l)) (messages_none xs none) ∙ empty n
  where
    empty : (n : ℕ) → is_row rule before (take n []) ≡ false
    empty zero = refl
    empty (suc n) = refl

-- So many messages follow one another up to this place.
pub record Placed (bytes : List ℕ) (at count : ℕ) : Type 0 where
  pub within : at ≤ length bytes
  pub few : at ≤ 29 * count
  pub rest : drop count (messages_from bytes) ≡ messages_from (drop at bytes)

-- So many are in a row so far, and the next one begins at this place.
abbrev pub RowGoes : Rule → List ℕ → ℕ → ℕ → Type 0
RowGoes rule bytes at count = (more : List ℕ) → begins_row rule (bytes ++ more)
    ≡ is_row rule (take count (messages_from bytes))
    (take (rule.harts + 1 - count) (messages_from (drop at bytes ++ more)))

pub placed_start : (bytes : List ℕ) → Placed bytes 0 0
placed_start bytes = record { within = omega arith; few = omega arith; rest = refl }

pub row_start : (rule : Rule) (bytes : List ℕ) → RowGoes rule bytes 0 0
row_start rule bytes more =
    let e : rule.harts + 1 ≡ rule.harts + 1 - 0 = omega arith in
    ap (λ n. is_row rule [] (take n (messages_from (bytes ++ more)))) e

module _ (bytes : List ℕ) (at count : ℕ) (placed : Placed bytes at count) where
  -- The next message follows those before it.
  next_message : (size : ℕ) → Some size ≡ message_size (drop at bytes)
      → (take (suc count) (messages_from bytes) ≡ take count (messages_from bytes) ++ frame_in (drop at bytes) ∷ [])
      × (drop (suc count) (messages_from bytes) ≡ messages_from (drop size (drop at bytes)))
  next_message size begins =
      let own = its (drop at bytes) size begins in
      one_more count (messages_from bytes) (messages_from (drop size (drop at bytes))) (frame_in (drop at bytes))
      (placed.rest ∙ messages_next (drop at bytes) own.0
      ∙ ap (λ n. frame_in (drop at bytes) ∷ messages_from (drop n (drop at bytes))) (sym own.1))

  pub placed_more : (size : ℕ) → Some size ≡ message_size (drop at bytes) → size ≤ length (drop at bytes) → Placed bytes (at + size) (count + 1)
  placed_more size begins fits =
      let own = its (drop at bytes) size begins in
      let c = complete (drop at bytes) own.0 in
      let most = c.few in
      let same = own.1 in
      let within = placed.within in
      let few = placed.few in
      let left = length-drop at bytes in
      let one : suc count ≡ count + 1 = omega arith in
      record {
        within = omega (arith, within, fits, left);
        few = omega (arith, few, most, same);
        rest =
            ap (λ n. drop n (messages_from bytes)) (sym one) ∙ (next_message size begins).1
            ∙ ap messages_from (drop-drop size at bytes);
      }

module _ (rule : Rule) (bytes : List ℕ) (at count : ℕ) (placed : Placed bytes at count)
    (goes : RowGoes rule bytes at count) where
  abbrev before : List Message
  before = take count (messages_from bytes)

  abbrev rest : List ℕ
  rest = drop at bytes

  -- The row with the next message, which is held.
  with_next : (more : List ℕ) (size : ℕ) → count < rule.harts + 1 → Some size ≡ message_size rest
      → begins_row rule (bytes ++ more)
      ≡ by_end (row_by rule before (message_in rest))
      (is_row rule (before ++ frame_in rest ∷ []) (take (rule.harts - count) (messages_from (drop size rest ++ more))))
  with_next more size less begins =
      let e : rule.harts + 1 - count ≡ suc (rule.harts - count) = omega (arith, less) in
      goes more ∙ ap (λ n. is_row rule before (take n (messages_from (rest ++ more)))) e
      ∙ row_held rule before rest more size (rule.harts - count) begins

  -- It ends there.
  pub row_ended : (size : ℕ) (is : Bool) (more : List ℕ) → count < rule.harts + 1 → Some size ≡ message_size rest
      → Some is ≡ row_by rule before (message_in rest) → is ≡ begins_row rule (bytes ++ more)
  row_ended size is more less begins ends =
      ap (λ b. by_end b (is_row rule (before ++ frame_in rest ∷ [])
      (take (rule.harts - count) (messages_from (drop size rest ++ more))))) ends
      ∙ sym (with_next more size less begins)

  -- It goes on.
  pub row_goes : (size : ℕ) → count < rule.harts + 1 → Some size ≡ message_size rest
      → None ≡ row_by rule before (message_in rest) → RowGoes rule bytes (at + size) (count + 1)
  row_goes size less begins none more =
      let next = next_message bytes at count placed size begins in
      let one : suc count ≡ count + 1 = omega arith in
      let left : rule.harts - count ≡ rule.harts + 1 - (count + 1) = omega arith in
      with_next more size less begins
      ∙ ap (λ b. by_end b (is_row rule (before ++ frame_in rest ∷ [])
      (take (rule.harts - count) (messages_from (drop size rest ++ more))))) (sym none)
      ∙ ap₂ (λ (l : List Message) (n : ℕ). is_row rule l (take n (messages_from (drop size rest ++ more))))
      (sym next.0 ∙ ap (λ n. take n (messages_from bytes)) one) left
      ∙ ap (λ l. is_row rule (take (count + 1) (messages_from bytes))
      (take (rule.harts + 1 - (count + 1)) (messages_from (l ++ more)))) (drop-drop size at bytes)

  -- No message begins there.
  pub row_stopped : (more : List ℕ) → None ≡ message_size (rest ++ more) → false ≡ begins_row rule (bytes ++ more)
  row_stopped more none =
      sym (goes more ∙ row_none rule before (rest ++ more) (rule.harts + 1 - count) (none_begins (rest ++ more) none))

  -- As many messages were looked at as harts are known, and one.
  pub row_over : (more : List ℕ) → rule.harts + 1 ≤ count → false ≡ begins_row rule (bytes ++ more)
  row_over more past =
      let e : rule.harts + 1 - count ≡ 0 = omega (arith, past) in
      sym (goes more ∙ ap (λ n. is_row rule before (take n (messages_from (rest ++ more)))) e)

-- What is among messages, by whether the first is of the hart.
abbrev pub by_first : Bool → ℕ → Option ℕ → Option ℕ
by_first is number more = if is then Some number else more

among_more : (n hart size : ℕ) (xs : List ℕ) → Some size ≡ message_size xs
    → number_among (take (suc n) (messages_from xs)) hart
    ≡ by_first ((frame_in xs).hart == hart) (frame_in xs).number (number_among (take n (messages_from (drop size xs))) hart)
among_more n hart size xs begins =
    let own = its xs size begins in
    ap (λ l. number_among (take (suc n) l) hart) (messages_next xs own.0)
    ∙ ap (λ k. by_first ((frame_in xs).hart == hart) (frame_in xs).number
    (number_among (take n (messages_from (drop k xs))) hart)) (sym own.1)

pub among_later : (n hart size : ℕ) (xs : List ℕ) (message : Message) → Some size ≡ message_size xs
    → Some message ≡ message_in xs → (message.hart == hart) ≡ false
    → number_among (take (suc n) (messages_from xs)) hart ≡ number_among (take n (messages_from (drop size xs))) hart
among_later n hart size xs message begins there is =
    let same = (some_framed xs message there).1 in
    let more = number_among (take n (messages_from (drop size xs))) hart in
    among_more n hart size xs begins
    ∙ ap (λ (m : Message). by_first (m.hart == hart) m.number more) (sym same)
    ∙ ap (λ b. by_first b message.number more) is

-- Whether a row ends, by what is seen of the message.
pub row_seen : (rule : Rule) (before : List Message) (message : Option Message) (found : Seen)
    → found ≡ seen_first rule.sees message → is_seen_beyond found ≡ true
    → row_by rule before message ≡ near_by rule.window before message
row_seen rule before message found seen is =
    ap (λ (b : Bool). if b then near_by rule.window before message else Some false)
    (ap is_seen_beyond (sym seen) ∙ is)

pub row_unseen : (rule : Rule) (before : List Message) (message : Option Message) (found : Seen)
    → found ≡ seen_first rule.sees message → is_seen_beyond found ≡ false → row_by rule before message ≡ Some false
row_unseen rule before message found seen is =
    ap (λ (b : Bool). if b then near_by rule.window before message else Some false)
    (ap is_seen_beyond (sym seen) ∙ is)
