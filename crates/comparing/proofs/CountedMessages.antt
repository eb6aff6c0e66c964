-- Messages that are counted one by one.
use Rattle.std.proofs.Common.{◌≡◌, ◌≢◌, ◌∙◌, ◌⊎◌, ◌≤◌, ◌+◌, ◌++◌, ℕ, zero, suc, true, false, List, [], ◌∷◌, Option, Some, None}
use Rattle.std.proofs.Common.{ap, arith, inl, inr, length, refl, replicate, slice_get, subst, sym, take}
use Rattle.std.proofs.Math.Nat.{min-eq_left}
use Rattle.std.proofs.lemmas.Bool.Decides.{eqb_tells, nat_tests}
use Rattle.std.proofs.lemmas.List.{length-append, take_all}
use Rattle.std.proofs.lemmas.Option.{same_Some, slice_get_within}
use Rattle.std.specs.Prelude.{◌==◌, min, nat_lt}
use Rattle.captures.specs.declared.outcome.CaptureFault.{CaptureFault}
use Rattle.message.proofs.Elements.{slice_get-some}
use Rattle.message.proofs.OfHartLemmas.{of_hart-next, of_hart-other}
use Rattle.message.specs.OfHart.{of_hart}
use Rattle.message.specs.declared.message.Message.{Message}
use Rattle.comparing.specs.Counts.{AreCounts, before_stop, count_of, payload_bytes}
use Rattle.comparing.specs.declared.hart_count.HartCount.{HartCount}
use Rattle.comparing.specs.steps.Counting.{AreCountedOn, comes_before, most, one_more}
use Rattle.comparing.proofs.MessageBounds.{hart_fewer, payload_bytes-append}

-- No message.
abbrev pub nothing : HartCount
nothing = record { taken = 0; bytes = 0 }

replicated : (n hart : ℕ) (x : HartCount) → slice_get (replicate n nothing) hart ≡ Some x → x ≡ nothing
replicated zero hart x is = cc
replicated (suc n) zero x is = sym (same_Some nothing x is)
replicated (suc n) (suc hart) x is = replicated n hart x is

long : (n : ℕ) → length (replicate n nothing) ≡ n
long zero = refl
long (suc n) = ap (λ n. suc n) (long n)

-- At first no message is counted.
pub none_counted : (harts : ℕ) (counts : List HartCount) → counts ≡ replicate harts nothing → AreCounts harts [] counts
none_counted harts counts is = record {
  many = ap length is ∙ long harts;
  each = λ hart count there.
      replicated harts hart count (subst (λ counts. slice_get counts hart ≡ Some count) is there);
}

pub all_none : (harts : ℕ) (counts : List HartCount) → counts ≡ replicate harts nothing
    → AreCounts (length counts) [] counts
all_none harts counts is = record { many = refl; each = (none_counted harts counts is).each }

-- The count of its hart with one message more is that of all.
own : (messages : List Message) (message : Message) → payload_bytes (messages ++ message ∷ []) ≤ most
    → length (messages ++ message ∷ []) ≤ most
    → one_more message (count_of messages message.hart) ≡ count_of (messages ++ message ∷ []) message.hart
own messages message small few =
    let all = messages ++ message ∷ [] in
    let hart = message.hart in
    let next = of_hart-next messages message in
    let fewer = hart_fewer hart all in
    let less = fewer.0 in
    let fewer_still = fewer.1 in
    let taken_is : length (of_hart hart all) ≡ length (of_hart hart messages) + 1 =
    ap length next ∙ length-append (of_hart hart messages) (message ∷ []) in
    let bytes_are : payload_bytes (of_hart hart all) ≡ payload_bytes (of_hart hart messages) + (length message.payload + 0) =
    ap payload_bytes next ∙ payload_bytes-append (of_hart hart messages) (message ∷ []) in
    let taken : min (length (of_hart hart messages) + 1) most ≡ length (of_hart hart all) =
    min-eq_left (omega (arith, taken_is, fewer_still, few)) ∙ sym taken_is in
    let bytes : min (payload_bytes (of_hart hart messages) + length message.payload) most ≡ payload_bytes (of_hart hart all) =
    min-eq_left (omega (arith, bytes_are, less, small)) ∙ omega (arith, bytes_are) in
    ap (λ taken. record {
      taken = taken;
      bytes = min (payload_bytes (of_hart hart messages) + length message.payload) most;
    }) taken
    ∙ ap (λ bytes. record { taken = length (of_hart hart all); bytes = bytes }) bytes

-- That of another hart stays.
other : (messages : List Message) (message : Message) (hart : ℕ) → message.hart ≢ hart
    → count_of messages hart ≡ count_of (messages ++ message ∷ []) hart
other messages message hart differs =
    let same = sym (of_hart-other hart messages message differs) in
    ap (λ own. record { taken = length own; bytes = payload_bytes own }) same

-- One message more is counted.
pub counted_on : (harts : ℕ) (messages : List Message) (message : Message) (old new : List HartCount)
    → payload_bytes (messages ++ message ∷ []) ≤ most → length (messages ++ message ∷ []) ≤ most
    → AreCounts harts messages old → AreCountedOn message old new → AreCounts harts (messages ++ message ∷ []) new
counted_on harts messages message old new small few are counted = record {
  many = counted.many ∙ are.many;
  each = λ hart count there. go hart count there (eqb_tells hart message.hart);
}
  where
    go : (hart : ℕ) (count : HartCount) → slice_get new hart ≡ Some count
        → ((hart == message.hart) ≡ true) × (hart ≡ message.hart) ⊎ ((hart == message.hart) ≡ false) × (hart ≢ message.hart)
        → count ≡ count_of (messages ++ message ∷ []) hart
    go hart count there (inl same) =
        let at = subst (λ hart. slice_get new hart ≡ Some count) same.1 there in
        let within = slice_get_within new message.hart count at in
        let many = counted.many in
        let before = slice_get-some old message.hart (omega (arith, within, many)) in
        same_Some count (one_more message before.0) (sym at ∙ counted.own before.0 before.1)
        ∙ ap (one_more message) (are.each message.hart before.0 before.1) ∙ own messages message small few
        ∙ ap (count_of (messages ++ message ∷ [])) (sym same.1)
    go hart count there (inr differs) =
        are.each hart count (sym (counted.others hart differs.1) ∙ there)
        ∙ other messages message hart (λ is. differs.1 (sym is))

take_before : {X : Type 0} (count : ℕ) (items : List X) (item : X) → nat_lt (length items) count ≡ true
    → take count (items ++ item ∷ []) ≡ items ++ item ∷ []
take_before count items item is =
    take_all count (items ++ item ∷ []) (grind (arith, nat_tests, is, length-append items (item ∷ [])))

-- A message before the one at which decoding stops comes after all before it.
pub before_more : (stop : Option (ℕ × CaptureFault)) (messages : List Message) (message : Message)
    → comes_before stop (length messages) ≡ true
    → (before_stop stop messages ≡ messages) × (before_stop stop (messages ++ message ∷ []) ≡ messages ++ message ∷ [])
before_more None messages message is = (refl, refl)
before_more (Some stop) messages message is = (
  take_all stop.0 messages (grind (arith, nat_tests, is)),
  take_before stop.0 messages message is,
)

-- One that does not is not among them.
pub before_same : (stop : Option (ℕ × CaptureFault)) (messages : List Message) (message : Message)
    → comes_before stop (length messages) ≡ false
    → before_stop stop (messages ++ message ∷ []) ≡ before_stop stop messages
before_same None messages message is = cc
before_same (Some stop) messages message is = go stop.0 messages (grind (arith, nat_tests, is))
  where
    go : (count : ℕ) (messages : List Message) → count ≤ length messages
        → take count (messages ++ message ∷ []) ≡ take count messages
    go zero messages over = refl
    go (suc count) [] over = absurd (omega (arith, over))
    go (suc count) (first ∷ messages) over = ap (λ l. first ∷ l) (go count messages (omega (arith, over)))
