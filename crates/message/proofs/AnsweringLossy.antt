-- What is answered to a message where messages before it may be lost, by the tests in their order.
use Rattle.std.proofs.Common.{◌≡◌, ◌+◌, ◌-◌, ◌<◌, ◌≤◌, ◌^◌, ◌↔◌, ℕ, Bool, true, false, Option, Some, None, Result}
use Rattle.std.proofs.Common.{Ok, Err, arith, nat_lt, refl, inl, inr, length, slice_get, ap, if◌then◌else◌, ◌∙◌}
use Rattle.std.specs.Prelude.{IsSomeAnd, not, ◌||◌}
use Rattle.std.proofs.lemmas.Bool.{ltb-true, ltb-false, lt-ltb, le-ltb}
use Rattle.payload.specs.Reading.{reading}
use Rattle.payload.specs.declared.packet.Packet.{Packet}
use Rattle.payload.specs.declared.fault.PackFault.{PackFault}
use Rattle.message.proofs.Answering.{Going, answer-unknown, not_both, kind, apart, gap_of}
use Rattle.message.specs.Harts.{Harts, is_over}
use Rattle.message.specs.Lossy.{answer_lossy, answer_lossy_of, packet_after_loss}
use Rattle.message.specs.declared.hart.Hart.{Hart}
use Rattle.message.specs.declared.message.Message.{Message}
use Rattle.message.specs.declared.fault.DemuxFault.{DemuxFault}
use Rattle.message.specs.declared.fault.DemuxFault.TheVariants as fault

-- A number that is not below the next one of an open hart, nor 2^63 or more, answers its packet.
pub answer_lossy-next : (h : Hart) (m : Message) (packet : Packet) → is_over h ≡ false → h.expected ≤ m.number
    → m.number < 2 ^ 63
    → reading m.payload ≡ Ok packet
    → answer_lossy h m ≡ Ok (packet, m.number - h.expected)
answer_lossy-next h m packet going high near read =
    let low = le-ltb m.number h.expected high in
    let few = lt-ltb m.number (2 ^ 63) near in
    rw (going, low, few, read) refl

abbrev Answer : Type 0
Answer = Result (Packet × ℕ) DemuxFault

-- What holds of the answer of each test holds of the answer.
pub by_tests_lossy : (h : Hart) (m : Message) (P : Answer → Type 0)
    → (is_over h ≡ true → P (Err fault.AfterClose))
    → (is_over h ≡ false → m.number < h.expected → P (Err fault.Repeat))
    → (is_over h ≡ false → h.expected ≤ m.number → 2 ^ 63 ≤ m.number → P (Err (fault.Gap h.expected)))
    → (is_over h ≡ false → h.expected ≤ m.number → m.number < 2 ^ 63
    → P (packet_after_loss (m.number - h.expected) (reading m.payload)))
    → P (answer_lossy h m)
by_tests_lossy h m P over low high taken =
    go (is_over h) (nat_lt m.number h.expected) (nat_lt m.number (2 ^ 63)) refl refl refl
  where
    go : (o l g : Bool) → is_over h ≡ o → nat_lt m.number h.expected ≡ l → nat_lt m.number (2 ^ 63) ≡ g
        → P
        (if o then Err fault.AfterClose else if l then Err fault.Repeat else if g
        then packet_after_loss (m.number - h.expected) (reading m.payload) else Err (fault.Gap h.expected))
    go true l g p q r = over p
    go false true g p q r = low p (ltb-true m.number h.expected q)
    go false false true p q r = taken p (ltb-false m.number h.expected q) (ltb-true m.number (2 ^ 63) r)
    go false false false p q r = high p (ltb-false m.number h.expected q) (ltb-false m.number (2 ^ 63) r)

-- What a payload gives is none of the refusals that come before it.
unpacked_apart : (missing : ℕ) (r : Result Packet PackFault) (a : Answer) → (1 ≤ kind a) × (kind a ≤ 4)
    → packet_after_loss missing r ≡ a → ⊥
unpacked_apart missing (Ok packet) a w e = let low = w.0 in let same = ap kind e in omega (arith, low, same)
unpacked_apart missing (Err why) a w e = let high = w.1 in let same = ap kind e in omega (arith, high, same)

-- What was taken by an answer, or else this.
abbrev taken_of : Packet × ℕ → Answer → Packet × ℕ
taken_of other (Ok taken) = taken
taken_of other (Err why) = other

taken_back : (missing : ℕ) (r : Result Packet PackFault) (packet : Packet) (n : ℕ)
    → packet_after_loss missing r ≡ Ok (packet, n) → (missing ≡ n) × (r ≡ Ok packet)
taken_back missing (Ok p) packet n e =
    let same = ap (taken_of (p, missing)) e in
    (ap (λ (t : Packet × ℕ). t.1) same, ap (λ (t : Packet × ℕ). Ok t.0) same)
taken_back missing (Err why) packet n e = cc

-- Why a payload is no packet by an answer, or else this.
abbrev why_of : PackFault → Answer → PackFault
why_of other (Ok taken) = other
why_of other (Err fault.Stranger) = other
why_of other (Err fault.AfterClose) = other
why_of other (Err fault.Repeat) = other
why_of other (Err (fault.Gap expected)) = other
why_of other (Err (fault.Packet why)) = why

bad_back : (missing : ℕ) (r : Result Packet PackFault) (why : PackFault)
    → packet_after_loss missing r ≡ Err (fault.Packet why) → r ≡ Err why
bad_back missing (Ok p) why e = cc
bad_back missing (Err other) why e = ap (λ a. Err (why_of other a)) e

-- An open hart expects a number below 2^63, so a number that is lower is no such high one.
far_is_open : (h : Hart) (m : Message) → Going h → m.number < h.expected → 2 ^ 63 ≤ m.number → ⊥
far_is_open h m going low far = go h.closed (nat_lt h.expected (2 ^ 63)) refl going
  where
    go : (closed few : Bool) → nat_lt h.expected (2 ^ 63) ≡ few → closed || not few ≡ false → ⊥
    go true few is going = cc
    go false false is going = cc
    go false true is going = let near = ltb-true h.expected (2 ^ 63) is in omega (arith, near, low, far)

after_close_lossy : (h : Hart) (m : Message) → (answer_lossy h m ≡ Err fault.AfterClose) ↔ (is_over h ≡ true)
after_close_lossy h m = by_tests_lossy h m (λ r. (r ≡ Err fault.AfterClose) ↔ (is_over h ≡ true))
    (λ over. (λ e. over, λ w. refl))
    (λ going low. (λ e. absurd (apart _ _ (inr (omega arith)) e), λ w. absurd (not_both _ w going)))
    (λ going high far. (λ e. absurd (apart _ _ (inr (omega arith)) e), λ w. absurd (not_both _ w going)))
    (λ going high near. (
      λ e. absurd (unpacked_apart _ (reading m.payload) _ (omega arith, omega arith) e),
      λ w. absurd (not_both _ w going),
    ))

repeat_lossy : (h : Hart) (m : Message) → (answer_lossy h m ≡ Err fault.Repeat) ↔ (Going h × (m.number < h.expected))
repeat_lossy h m = by_tests_lossy h m (λ r. (r ≡ Err fault.Repeat) ↔ (Going h × (m.number < h.expected)))
    (λ over. (λ e. absurd (apart _ _ (inl (omega arith)) e), λ w. absurd (not_both _ over w.0)))
    (λ going low. (λ e. (going, low), λ w. refl))
    (λ going high far. (
      λ e. absurd (apart _ _ (inr (omega arith)) e),
      λ w. absurd (let l = w.1 in omega (arith, l, high)),
    ))
    (λ going high near. (
      λ e. absurd (unpacked_apart _ (reading m.payload) _ (omega arith, omega arith) e),
      λ w. absurd (let l = w.1 in omega (arith, l, high)),
    ))

gap_lossy : (h : Hart) (m : Message) (k : ℕ)
    → (answer_lossy h m ≡ Err (fault.Gap k)) ↔ (Going h × ((h.expected ≡ k) × (2 ^ 63 ≤ m.number)))
gap_lossy h m k = by_tests_lossy h m
    (λ r. (r ≡ Err (fault.Gap k)) ↔ (Going h × ((h.expected ≡ k) × (2 ^ 63 ≤ m.number))))
    (λ over. (λ e. absurd (apart _ _ (inl (omega arith)) e), λ w. absurd (not_both _ over w.0)))
    (λ going low. (
      λ e. absurd (apart _ _ (inl (omega arith)) e),
      λ w. absurd (far_is_open h m going low w.1.1),
    ))
    (λ going high far. (λ e. (going, (ap gap_of e, far)), λ w. ap (λ n. Err (fault.Gap n)) w.1.0))
    (λ going high near. (
      λ e. absurd (unpacked_apart _ (reading m.payload) _ (omega arith, omega arith) e),
      λ w. absurd (let far = w.1.1 in omega (arith, far, near)),
    ))

taken_lossy : (h : Hart) (m : Message) (packet : Packet) (missing : ℕ) → (answer_lossy h m ≡ Ok (packet, missing))
    ↔ ((Going h × ((h.expected + missing ≡ m.number) × (m.number < 2 ^ 63))) × (reading m.payload ≡ Ok packet))
taken_lossy h m packet missing = by_tests_lossy h m (λ r. (r ≡ Ok (packet, missing))
    ↔ ((Going h × ((h.expected + missing ≡ m.number) × (m.number < 2 ^ 63))) × (reading m.payload ≡ Ok packet)))
    (λ over. (λ e. absurd (apart _ _ (inr (omega arith)) e), λ w. absurd (not_both _ over w.0.0)))
    (λ going low. (
      λ e. absurd (apart _ _ (inr (omega arith)) e),
      λ w. absurd (let n = w.0.1.0 in omega (arith, n, low)),
    ))
    (λ going high far. (
      λ e. absurd (apart _ _ (inr (omega arith)) e),
      λ w. absurd (let near = w.0.1.1 in omega (arith, near, far)),
    ))
    (λ going high near. (
      λ e. let back = taken_back (m.number - h.expected) (reading m.payload) packet missing e in
          let n = back.0 in
          ((going, (omega (arith, n, high), near)), back.1),
      λ w. let n = w.0.1.0 in
          let missing_is : m.number - h.expected ≡ missing = omega (arith, n) in
          ap (packet_after_loss (m.number - h.expected)) w.1 ∙ ap (λ k. Ok (packet, k)) missing_is,
    ))

bad_lossy : (h : Hart) (m : Message) (why : PackFault) → (answer_lossy h m ≡ Err (fault.Packet why))
    ↔ ((Going h × ((h.expected ≤ m.number) × (m.number < 2 ^ 63))) × (reading m.payload ≡ Err why))
bad_lossy h m why = by_tests_lossy h m (λ r. (r ≡ Err (fault.Packet why))
    ↔ ((Going h × ((h.expected ≤ m.number) × (m.number < 2 ^ 63))) × (reading m.payload ≡ Err why)))
    (λ over. (λ e. absurd (apart _ _ (inl (omega arith)) e), λ w. absurd (not_both _ over w.0.0)))
    (λ going low. (
      λ e. absurd (apart _ _ (inl (omega arith)) e),
      λ w. absurd (let n = w.0.1.0 in omega (arith, n, low)),
    ))
    (λ going high far. (
      λ e. absurd (apart _ _ (inl (omega arith)) e),
      λ w. absurd (let near = w.0.1.1 in omega (arith, near, far)),
    ))
    (λ going high near. (
      λ e. ((going, (high, near)), bad_back (m.number - h.expected) (reading m.payload) why e),
      λ w. ap (packet_after_loss (m.number - h.expected)) w.1,
    ))

-- AfterClose is answered exactly where the hart is known and over.
pub answer_lossy-after_close : (o : Option Hart) (m : Message)
    → (answer_lossy_of o m ≡ Err fault.AfterClose) ↔ IsSomeAnd o (λ h. is_over h ≡ true)
answer_lossy-after_close None m = (λ e. absurd (apart _ _ (inl (omega arith)) e), λ w. absurd w)
answer_lossy-after_close (Some h) m = after_close_lossy h m

-- Repeat is answered exactly where the hart is known and open, and the number below the expected one.
pub answer_lossy-repeat : (o : Option Hart) (m : Message)
    → (answer_lossy_of o m ≡ Err fault.Repeat) ↔ IsSomeAnd o (λ h. Going h × (m.number < h.expected))
answer_lossy-repeat None m = (λ e. absurd (apart _ _ (inl (omega arith)) e), λ w. absurd w)
answer_lossy-repeat (Some h) m = repeat_lossy h m

-- Gap is answered exactly where the hart is known and open, and the number 2^63 or more.
pub answer_lossy-gap : (o : Option Hart) (m : Message) (k : ℕ) → (answer_lossy_of o m ≡ Err (fault.Gap k))
    ↔ IsSomeAnd o (λ h. Going h × ((h.expected ≡ k) × (2 ^ 63 ≤ m.number)))
answer_lossy-gap None m k = (λ e. absurd (apart _ _ (inl (omega arith)) e), λ w. absurd w)
answer_lossy-gap (Some h) m k = gap_lossy h m k

-- A packet is answered exactly where the hart is known and open, the number is below 2^63, so many above the expected
-- one, and the payload unpacks to it.
pub answer_lossy-taken : (o : Option Hart) (m : Message) (packet : Packet) (missing : ℕ)
    → (answer_lossy_of o m ≡ Ok (packet, missing)) ↔
    (IsSomeAnd o (λ h. Going h × ((h.expected + missing ≡ m.number) × (m.number < 2 ^ 63)))
    × (reading m.payload ≡ Ok packet))
answer_lossy-taken None m packet missing = (λ e. absurd (apart _ _ (inr (omega arith)) e), λ w. absurd w.0)
answer_lossy-taken (Some h) m packet missing = taken_lossy h m packet missing

-- A payload that is no packet is the fault exactly where a packet would be taken.
pub answer_lossy-bad : (o : Option Hart) (m : Message) (why : PackFault)
    → (answer_lossy_of o m ≡ Err (fault.Packet why)) ↔
    (IsSomeAnd o (λ h. Going h × ((h.expected ≤ m.number) × (m.number < 2 ^ 63))) × (reading m.payload ≡ Err why))
answer_lossy-bad None m why = (λ e. absurd (apart _ _ (inl (omega arith)) e), λ w. absurd w.0)
answer_lossy-bad (Some h) m why = bad_lossy h m why

-- Stranger is answered exactly where the hart is not known.
pub answer_lossy-stranger : (harts : Harts) (m : Message)
    → (answer_lossy_of (slice_get harts m.hart) m ≡ Err fault.Stranger) ↔ (length harts ≤ m.hart)
answer_lossy-stranger harts m =
    answer-unknown harts m (λ o. answer_lossy_of o m) (Err fault.Stranger) refl (λ h. known_hart h m)
  where
    known_hart : (h : Hart) (m : Message) → answer_lossy h m ≡ Err fault.Stranger → ⊥
    known_hart h m = by_tests_lossy h m (λ r. r ≡ Err fault.Stranger → ⊥)
        (λ over. apart _ _ (inr (omega arith)))
        (λ going low. apart _ _ (inr (omega arith)))
        (λ going high far. apart _ _ (inr (omega arith)))
        (λ going high near. unpacked_apart _ (reading m.payload) _ (omega arith, omega arith))
