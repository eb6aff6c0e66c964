-- The messages of a capture are treated one after the other.
use Rattle.std.proofs.Common.{◌≡◌, ◌<◌, ◌≤◌, inl, inr, ℕ, zero, suc, ◌+◌, ◌++◌, ◌&&◌, ◌==◌, Bool, true, false}
use Rattle.std.proofs.Common.{cond, List}
use Rattle.std.proofs.Common.{[], ◌∷◌, ◌^◌, Contains, Some, drop, length, replicate, slice_get, refl, sym, ap, subst, ◌∙◌, arith}
use Rattle.std.proofs.Common.{take}
use Rattle.std.proofs.Common.{slice_index_or, ⊎_elim}
use Rattle.std.specs.Prelude.{◌≢◌, nat_lt, not}
use Rattle.std.specs.List.{filter}
use Rattle.message.specs.OfHart.{of_hart}
use Rattle.std.proofs.lemmas.Bool.{lt-ltb, ltb-true}
use Rattle.std.proofs.lemmas.List.{append-nil, length-replicate, length-set, length_push, take_more}
use Rattle.std.proofs.lemmas.Option.{same_Some, slice_get_read, slice_get_within}
use Rattle.std.specs.declared.vec.Vec.{Vec}
use Rattle.rvclass.specs.Words.{Words}
use Rattle.payload.specs.declared.mode.Mode.{Mode}
use Rattle.message.specs.declared.message.Message.{Message}
use Rattle.message.proofs.AcceptedLemmas.{slice_get-set}
use Rattle.message.proofs.Elements.{slice_get-behind, slice_get-some}
use Rattle.salvaging.specs.Strangers.{has_number, is_stranger, own_messages}
use Rattle.salvaging.specs.Treatments.{AreTreated, hart_rows, own_place, stranger}
use Rattle.salvaging.specs.declared.received.ReceivedMessage.{ReceivedMessage}
use Rattle.salvaging.specs.declared.sorting_out.HartRows.{HartRows}
use Rattle.salvaging.specs.declared.treatment.Treated.{Treated}
use Rattle.salvaging.specs.steps.Distributing.{Distributes}
use Rattle.salvaging.specs.steps.SortedOut.{AreSortedOf, IsSortedOut, TakesPlace, TreatsBy, TreatsNext}
use Rattle.salvaging.proofs.Distributed.{own-append, own_none, own_one, own_other}
use Rattle.salvaging.proofs.Members.{IsIn, contains_of_in}
use Rattle.salvaging.proofs.SalvagedEach.{slice_get-push}

-- A stranger is of no hart; every other message is of one.
stranger_own : (harts hart : ℕ) (message : Message) → is_stranger harts message ≡ true → hart < harts
    → own_messages hart (message ∷ []) ≡ []
stranger_own harts hart message test below = by_number (has_number message) refl
  where
    by_number : (has : Bool) → has_number message ≡ has → own_messages hart (message ∷ []) ≡ []
    by_number false none = own_none hart message none
    by_number true has = own_other hart message (λ is.
        let here : nat_lt message.hart harts ≡ true = lt-ltb message.hart harts (omega (arith, is, below)) in
        let never : false ≡ true =
        sym (ap (λ b. not (b && has_number message)) here ∙ ap not has) ∙ test in
        cc)

pub others_own : (harts : ℕ) (message : Message) → is_stranger harts message ≡ false
    → (message.hart < harts) × (has_number message ≡ true)
others_own harts message test = by_tests (nat_lt message.hart harts) (has_number message) refl refl test
  where
    by_tests : (known has : Bool) → nat_lt message.hart harts ≡ known → has_number message ≡ has
        → not (known && has) ≡ false → (message.hart < harts) × (has_number message ≡ true)
    by_tests true true known has test = (ltb-true message.hart harts known, has)
    by_tests true false known has test = cc
    by_tests false has known is test = cc

-- So far the messages are treated.
pub record TreatedSo {A : Type 0} (harts : ℕ) (messages : List Message) (sorted : List (HartRows A)) (at : ℕ)
    (counts : List ℕ) (treated : List Treated) : Type 0 where
  pub counts_long : length counts ≡ harts
  pub counted : (hart n : ℕ) → slice_get counts hart ≡ Some n → n ≡ length (own_messages hart (take at messages))
  pub long : length treated ≡ at
  pub strangers : (k : ℕ) (message : Message) (one : Treated) → slice_get messages k ≡ Some message
      → slice_get treated k ≡ Some one → is_stranger harts message ≡ true → one ≡ stranger
  pub others : (k : ℕ) (message : Message) (one : Treated) (own : HartRows A) → slice_get messages k ≡ Some message
      → slice_get treated k ≡ Some one → is_stranger harts message ≡ false
      → slice_get sorted message.hart ≡ Some own → TreatsBy own (own_place messages k message) message one

zero_at : (long at n : ℕ) → slice_get (replicate long 0) at ≡ Some n → n ≡ 0
zero_at zero at n here = cc
zero_at (suc long) zero n here = sym (same_Some 0 n here)
zero_at (suc long) (suc at) n here = zero_at long at n here

-- A list is cut at an item.
cut : (messages : List Message) (k : ℕ) (message : Message) → slice_get messages k ≡ Some message
    → messages ≡ take k messages ++ message ∷ drop (suc k) messages
cut [] k message here = cc
cut (first ∷ messages) zero message here = ap (λ m. m ∷ messages) (same_Some first message here)
cut (first ∷ messages) (suc k) message here = ap (λ l. first ∷ l) (cut messages k message here)

contains_at : (messages : List Message) (k : ℕ) (message : Message) → slice_get messages k ≡ Some message
    → Contains messages message
contains_at messages k message here = contains_of_in messages message (by_place messages k here)
  where
    by_place : (ms : List Message) (k : ℕ) → slice_get ms k ≡ Some message → IsIn message ms
    by_place [] k here = cc
    by_place (m ∷ ms) zero here = inl (sym (same_Some m message here))
    by_place (m ∷ ms) (suc k) here = inr (by_place ms k here)

-- A hart has no more messages than there are.
filter_few : (p : Message → Bool) (messages : List Message) → length (filter p messages) ≤ length messages
filter_few p [] = omega arith
filter_few p (message ∷ messages) = by_test (p message) (filter_few p messages)
  where
    by_test : (b : Bool) → length (filter p messages) ≤ length messages
        → length (cond b (message ∷ filter p messages) (filter p messages)) ≤ length (message ∷ messages)
    by_test true few = omega (arith, few)
    by_test false few = omega (arith, few)

own_few : (hart : ℕ) (messages : List Message) → length (own_messages hart messages) ≤ length messages
own_few hart messages =
    let one = filter_few has_number (of_hart hart messages) in
    let other = filter_few (λ (message : Message). message.hart == hart) messages in
    omega (arith, one, other)

length-take_le : (k : ℕ) (messages : List Message) → length (take k messages) ≤ k
length-take_le zero [] = omega arith
length-take_le zero (message ∷ messages) = omega arith
length-take_le (suc k) [] = omega arith
length-take_le (suc k) (message ∷ messages) =
    let few = length-take_le k messages in omega (arith, few)

module _ {A : Type 0} (harts : ℕ) (messages : List Message) (sorted : List (HartRows A)) where
  pub treated_start : (counts : List ℕ) (treated : List Treated) → counts ≡ replicate harts 0 → treated ≡ []
      → TreatedSo harts messages sorted 0 counts treated
  treated_start counts treated zeros none = record {
    counts_long = ap length zeros ∙ length-replicate harts 0;
    counted = λ hart n at. zero_at harts hart n (subst (λ l. slice_get l hart ≡ Some n) zeros at) ∙ nothing hart;
    long = ap length none;
    strangers = λ k message one at_message at_one. nothing_there treated k one none at_one;
    others = λ k message one own at_message at_one. nothing_there treated k one none at_one;
  }
    where
      nothing : (hart : ℕ) → 0 ≡ length (own_messages hart (take 0 messages))
      nothing hart = by_messages messages
        where
          by_messages : (ms : List Message) → 0 ≡ length (own_messages hart (take 0 ms))
          by_messages [] = refl
          by_messages (m ∷ ms) = refl

      nothing_there : {P : Type 0} (treated : List Treated) (k : ℕ) (one : Treated) → treated ≡ []
          → slice_get treated k ≡ Some one → P
      nothing_there [] k one none at = cc
      nothing_there (other ∷ treated) k one none at = cc

  -- The next one, whichever it is.
  module _ (at : ℕ) (counts : List ℕ) (treated : List Treated) (t : TreatedSo harts messages sorted at counts treated)
      (message : Message) (within : at < length messages) (is : message ≡ slice_index_or messages at message) where
    whole : take (at + 1) messages ≡ take at messages ++ message ∷ []
    whole = take_more messages at message within ∙ ap (λ m. take at messages ++ m ∷ []) (sym is)

    here : slice_get messages at ≡ Some message
    here = slice_get_read messages (length messages) at message refl within is

    own_more : (hart : ℕ) → own_messages hart (take (at + 1) messages)
        ≡ own_messages hart (take at messages) ++ own_messages hart (message ∷ [])
    own_more hart = ap (own_messages hart) whole ∙ own-append hart (take at messages) (message ∷ [])

    -- The next one is a stranger.
    pub stranger_next : (more : List Treated) → is_stranger harts message ≡ true → more ≡ treated ++ stranger ∷ []
        → TreatedSo harts messages sorted (at + 1) counts more
    stranger_next more test pushed = record {
      counts_long = t.counts_long;
      counted = λ hart n at_n.
          let known = slice_get_within counts hart n at_n in
          let all = t.counts_long in
          t.counted hart n at_n
          ∙ sym (ap length (own_more hart ∙ ap (λ l. own_messages hart (take at messages) ++ l)
          (stranger_own harts hart message test (omega (arith, known, all)))
          ∙ append-nil (own_messages hart (take at messages))));
      long = ap length pushed ∙ length_push treated stranger ∙ ap (λ n. n + 1) t.long;
      strangers = λ k other one at_other at_one is_one.
          ⊎_elim
          (λ (front : slice_get treated k ≡ Some one). t.strangers k other one at_other front is_one)
          (λ (last : (k ≡ length treated) × (one ≡ stranger)). last.1)
          (slice_get-push treated stranger k one (subst (λ l. slice_get l k ≡ Some one) pushed at_one));
      others = λ k other one own at_other at_one is_one at_own.
          ⊎_elim
          (λ (front : slice_get treated k ≡ Some one). t.others k other one own at_other front is_one at_own)
          (λ (last : (k ≡ length treated) × (one ≡ stranger)).
          let same : other ≡ message = same_Some other message
          (sym at_other ∙ subst (λ n. slice_get messages n ≡ Some message) (sym (last.0 ∙ t.long)) here) in
          let never : true ≡ false = sym test ∙ ap (is_stranger harts) (sym same) ∙ is_one in
          cc)
          (slice_get-push treated stranger k one (subst (λ l. slice_get l k ≡ Some one) pushed at_one));
    }

    -- The next one is a hart's own.
    pub own_next : (new : List ℕ) (one : Treated) (more : List Treated) → is_stranger harts message ≡ false
        → TakesPlace sorted counts new message one → more ≡ treated ++ one ∷ []
        → TreatedSo harts messages sorted (at + 1) new more
    own_next new one more test k pushed =
        let own = others_own harts message test in record {
          counts_long = ap length k.counted ∙ length-set counts message.hart (k.place + 1) ∙ t.counts_long;
          counted = λ hart n at_n.
              ⊎_elim
              (λ (same : (message.hart ≡ hart) × (n ≡ k.place + 1)).
              let so_far = t.counted message.hart k.place k.place_is in
              let parts = ap length (own_more message.hart ∙ ap (λ l. own_messages message.hart (take at messages) ++ l)
              (own_one message.hart message refl own.1)) ∙ length_push (own_messages message.hart (take at messages))
              message in
              let last = same.1 in
              subst (λ h. n ≡ length (own_messages h (take (at + 1) messages))) same.0 (omega
              (arith, so_far, parts, last)))
              (λ (other : (message.hart ≢ hart) × (slice_get counts hart ≡ Some n)).
              t.counted hart n other.1
              ∙ sym (ap length (own_more hart ∙ ap (λ l. own_messages hart (take at messages) ++ l)
              (own_other hart message other.0) ∙ append-nil (own_messages hart (take at messages)))))
              (slice_get-set counts message.hart (k.place + 1) hart n
              (subst (λ l. slice_get l hart ≡ Some n) k.counted at_n));
          long = ap length pushed ∙ length_push treated one ∙ ap (λ n. n + 1) t.long;
          strangers = λ j other it at_other at_it is_it.
              ⊎_elim
              (λ (front : slice_get treated j ≡ Some it). t.strangers j other it at_other front is_it)
              (λ (last : (j ≡ length treated) × (it ≡ one)).
              let same : other ≡ message = same_Some other message
              (sym at_other ∙ subst (λ n. slice_get messages n ≡ Some message) (sym (last.0 ∙ t.long)) here) in
              let never : false ≡ true = sym test ∙ ap (is_stranger harts) (sym same) ∙ is_it in
              cc)
              (slice_get-push treated one j it (subst (λ l. slice_get l j ≡ Some it) pushed at_it));
          others = λ j other it own at_other at_it is_it at_own.
              ⊎_elim
              (λ (front : slice_get treated j ≡ Some it). t.others j other it own at_other front is_it at_own)
              (λ (last : (j ≡ length treated) × (it ≡ one)).
              let same : other ≡ message = same_Some other message
              (sym at_other ∙ subst (λ n. slice_get messages n ≡ Some message) (sym (last.0 ∙ t.long)) here) in
              let owner : own ≡ k.own = same_Some own k.own
              (sym at_own ∙ ap (λ (m : Message). slice_get sorted m.hart) same ∙ k.own_is) in
              let place : k.place ≡ own_place messages j message =
              t.counted message.hart k.place k.place_is
              ∙ ap (λ n. length (own_messages message.hart (take n messages))) (sym (last.0 ∙ t.long)) in
              subst (λ m. TreatsBy own (own_place messages j m) m it) (sym same)
              (subst (λ o. TreatsBy o (own_place messages j message) message it) (sym owner)
              (subst (λ n. TreatsBy k.own n message it) place (subst (TreatsBy k.own k.place message) (sym last.1)
              k.treats))))
              (slice_get-push treated one j it (subst (λ l. slice_get l j ≡ Some it) pushed at_it));
        }

    pub treated_next : (new : List ℕ) (one : Treated) (more : List Treated)
        → TreatsNext harts sorted counts new message one → more ≡ treated ++ one ∷ []
        → TreatedSo harts messages sorted (at + 1) new more
    treated_next new one more (inl (test, is_one, same)) pushed =
        subst (λ l. TreatedSo harts messages sorted (at + 1) l more) (sym same)
        (stranger_next more test (pushed ∙ ap (λ o. treated ++ o ∷ []) is_one))
    treated_next new one more (inr (test, takes)) pushed = own_next new one more test takes pushed

    -- No hart has more messages than came.
    pub few_counted : length messages < 2 ^ 64 → (count : ℕ) → slice_get counts message.hart ≡ Some count
        → count + 1 < 2 ^ 64
    few_counted small count here_count =
        let is = t.counted message.hart count here_count in
        let few = own_few message.hart (take at messages) in
        let front = length-take_le at messages in
        omega (arith, small, is, few, front, within)

  -- All are treated.
  pub treated_end : (words : Words) (mode : Mode) (at : ℕ) (counts : List ℕ) (treated : List Treated)
      → TreatedSo harts messages sorted at counts treated → at ≡ length messages → length sorted ≡ harts
      → ((hart : ℕ) (own : HartRows A) → slice_get sorted hart ≡ Some own
      → IsSortedOut words mode (own_messages hart messages) own)
      → AreTreated words mode harts messages treated
  treated_end words mode at counts treated t end many each = record {
    count = t.long ∙ end;
    each_hart = λ hart known. (each hart (some hart known).0 (some hart known).1).treats;
    strangers = t.strangers;
    others = λ k message one at_message at_one test known.
        let own = some message.hart known in
        let is = each message.hart own.0 own.1 in
        let here = own_at k message at_message (others_own harts message test) in
        t.others k message one own.0 at_message at_one test own.1 (own_messages message.hart messages)
        (hart_rows is.treats) is.permuted is.ordered is.back is.rising
        (is.among message (contains_at (own_messages message.hart messages)
        (own_place messages k message) message here))
        here;
  }
    where
      some : (hart : ℕ) → hart < harts → (own : HartRows A) × (slice_get sorted hart ≡ Some own)
      some hart known = slice_get-some sorted hart (omega (arith, known, many))

      own_at : (k : ℕ) (message : Message) → slice_get messages k ≡ Some message
          → (message.hart < harts) × (has_number message ≡ true)
          → slice_get (own_messages message.hart messages) (own_place messages k message) ≡ Some message
      own_at k message here own =
          subst (λ l. slice_get l (own_place messages k message) ≡ Some message) (sym parted)
          (slice_get-behind (own_messages message.hart (take k messages)) message
          (own_messages message.hart (drop (suc k) messages)))
        where
          parted : own_messages message.hart messages
              ≡ own_messages message.hart (take k messages) ++ message
              ∷ own_messages message.hart (drop (suc k) messages)
          parted =
              ap (own_messages message.hart) (cut messages k message here)
              ∙ own-append message.hart (take k messages) (message ∷ drop (suc k) messages)
              ∙ ap (λ l. own_messages message.hart (take k messages) ++ l)
              (own-append message.hart (message ∷ []) (drop (suc k) messages)
              ∙ ap (λ l. l ++ own_messages message.hart (drop (suc k) messages))
              (own_one message.hart message refl own.1))

-- Each hart is sorted out by its own messages.
pub all_sorted : {A : Type 0} (words : Words) (mode : Mode) (messages : List Message) (lists : List
    (Vec ReceivedMessage A))
    (sorted : List (HartRows A)) → Distributes messages lists → AreSortedOf words mode lists sorted → (hart : ℕ)
    (own : HartRows A) → slice_get sorted hart ≡ Some own → IsSortedOut words mode (own_messages hart messages) own
all_sorted words mode messages lists sorted d each hart own at =
    let known = slice_get_within sorted hart own at in
    let many = each.count in
    let list = slice_get-some lists hart (omega (arith, known, many)) in
    each.each hart list.0 own (own_messages hart messages) list.1 at (d.each hart list.0 list.1)
