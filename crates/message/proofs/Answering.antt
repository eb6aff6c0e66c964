-- What is answered to a message, by the tests in their order.
use Rattle.std.proofs.Common.{◌≡◌, ◌<◌, ◌≤◌, ◌^◌, ◌⊎◌, ◌↔◌, ℕ, Bool, true, false, Option, Some, None, Result, Ok, Err}
use Rattle.std.proofs.Common.{arith, nat_lt, refl, sym, inl, inr, length, slice_get, ap, if◌then◌else◌}
use Rattle.std.specs.Prelude.{IsSomeAnd}
use Rattle.std.proofs.lemmas.Bool.{ltb-true, ltb-false, lt-ltb, le-ltb}
use Rattle.std.proofs.lemmas.Option.{slice_get_cases}
use Rattle.payload.specs.Reading.{reading}
use Rattle.payload.specs.declared.packet.Packet.{Packet}
use Rattle.payload.specs.declared.fault.PackFault.{PackFault}
use Rattle.message.specs.Accepting.{answer, answer_of, packet_or_fault}
use Rattle.message.specs.Harts.{Harts, is_over}
use Rattle.message.specs.declared.hart.Hart.{Hart}
use Rattle.message.specs.declared.message.Message.{Message}
use Rattle.message.specs.declared.fault.DemuxFault.{DemuxFault}
use Rattle.message.specs.declared.fault.DemuxFault.TheVariants as fault

-- The next number of an open hart answers its packet.
pub answer-open : (h : Hart) (m : Message) (packet : Packet) → is_over h ≡ false → m.number ≡ h.expected
    → reading m.payload ≡ Ok packet
    → answer h m ≡ Ok packet
answer-open h m packet going next read =
    let low = le-ltb m.number h.expected (omega (arith, next)) in
    let high = le-ltb h.expected m.number (omega (arith, next)) in
    rw (going, low, high, read) refl

pub answer-next : (h : Hart) (m : Message) (packet : Packet) → h.closed ≡ false → h.expected < 2 ^ 63
    → m.number ≡ h.expected → reading m.payload ≡ Ok packet
    → answer h m ≡ Ok packet
answer-next h m packet going few next read =
    let few_yet = lt-ltb h.expected (2 ^ 63) few in
    answer-open h m packet (rw (going, few_yet) refl) next read

abbrev Answer : Type 0
Answer = Result Packet DemuxFault

-- What holds of the answer of each test holds of the answer.
by_tests : (h : Hart) (m : Message) (P : Answer → Type 0)
    → (is_over h ≡ true → P (Err fault.AfterClose))
    → (is_over h ≡ false → m.number < h.expected → P (Err fault.Repeat))
    → (is_over h ≡ false → h.expected < m.number → P (Err (fault.Gap h.expected)))
    → (is_over h ≡ false → h.expected ≡ m.number → P (packet_or_fault (reading m.payload)))
    → P (answer h m)
by_tests h m P over low high next =
    go (is_over h) (nat_lt m.number h.expected) (nat_lt h.expected m.number) refl refl refl
  where
    go : (o l g : Bool) → is_over h ≡ o → nat_lt m.number h.expected ≡ l → nat_lt h.expected m.number ≡ g
        → P
        (if o then Err fault.AfterClose else if l then Err fault.Repeat else if g then Err (fault.Gap h.expected)
        else packet_or_fault (reading m.payload))
    go true l g p q r = over p
    go false true g p q r = low p (ltb-true m.number h.expected q)
    go false false true p q r = high p (ltb-true h.expected m.number r)
    go false false false p q r =
        let up = ltb-false m.number h.expected q in
        let down = ltb-false h.expected m.number r in
        next p (omega (arith, up, down))

pub not_both : (b : Bool) → b ≡ true → b ≡ false → ⊥
not_both b p q = cc

-- The place of an answer among its kinds.
abbrev pub kind : {T : Type 0} → Result T DemuxFault → ℕ
kind (Ok packet) = 0
kind (Err fault.Stranger) = 1
kind (Err fault.AfterClose) = 2
kind (Err fault.Repeat) = 3
kind (Err (fault.Gap expected)) = 4
kind (Err (fault.Packet why)) = 5

pub apart : {T : Type 0} (a b : Result T DemuxFault) → (kind a < kind b) ⊎ (kind b < kind a) → a ≡ b → ⊥
apart a b less e = let same = ap kind e in omega (arith, same, less)

-- What a payload gives is no answer of another kind.
unpacked_apart : (a : Answer) (r : Result Packet PackFault) → (kind a ≡ 0 → ⊥) → (kind a ≡ 5 → ⊥)
    → packet_or_fault r ≡ a → ⊥
unpacked_apart a (Ok packet) p q e = p (sym (ap kind e))
unpacked_apart a (Err why) p q e = q (sym (ap kind e))

-- The hart is open.
abbrev pub Going : Hart → Type 0
Going h = is_over h ≡ false

after_close : (h : Hart) (m : Message) → (answer h m ≡ Err fault.AfterClose) ↔ (is_over h ≡ true)
after_close h m = by_tests h m (λ r. (r ≡ Err fault.AfterClose) ↔ (is_over h ≡ true))
    (λ over. (λ e. over, λ w. refl))
    (λ going low. (λ e. absurd (apart _ _ (inr (omega arith)) e), λ w. absurd (not_both _ w going)))
    (λ going high. (λ e. absurd (apart _ _ (inr (omega arith)) e), λ w. absurd (not_both _ w going)))
    (λ going next. (
      λ e. absurd (unpacked_apart _ (reading m.payload) (λ k. omega (arith, k)) (λ k. omega (arith, k)) e),
      λ w. absurd (not_both _ w going),
    ))

repeat : (h : Hart) (m : Message) → (answer h m ≡ Err fault.Repeat) ↔ (Going h × (m.number < h.expected))
repeat h m = by_tests h m (λ r. (r ≡ Err fault.Repeat) ↔ (Going h × (m.number < h.expected)))
    (λ over. (λ e. absurd (apart _ _ (inl (omega arith)) e), λ w. absurd (not_both _ over w.0)))
    (λ going low. (λ e. (going, low), λ w. refl))
    (λ going high. (λ e. absurd (apart _ _ (inr (omega arith)) e), λ w. absurd (let l = w.1 in omega (arith, l, high))))
    (λ going next. (
      λ e. absurd (unpacked_apart _ (reading m.payload) (λ k. omega (arith, k)) (λ k. omega (arith, k)) e),
      λ w. absurd (let l = w.1 in omega (arith, l, next)),
    ))

-- The number that a gap names.
abbrev pub gap_of : {T : Type 0} → Result T DemuxFault → ℕ
gap_of (Ok packet) = 0
gap_of (Err fault.Stranger) = 0
gap_of (Err fault.AfterClose) = 0
gap_of (Err fault.Repeat) = 0
gap_of (Err (fault.Gap expected)) = expected
gap_of (Err (fault.Packet why)) = 0

gap : (h : Hart) (m : Message) (k : ℕ)
    → (answer h m ≡ Err (fault.Gap k)) ↔ (Going h × ((h.expected ≡ k) × (k < m.number)))
gap h m k = by_tests h m (λ r. (r ≡ Err (fault.Gap k)) ↔ (Going h × ((h.expected ≡ k) × (k < m.number))))
    (λ over. (λ e. absurd (apart _ _ (inl (omega arith)) e), λ w. absurd (not_both _ over w.0)))
    (λ going low. (
      λ e. absurd (apart _ _ (inl (omega arith)) e),
      λ w. absurd (let a = w.1.0 in let b = w.1.1 in omega (arith, a, b, low)),
    ))
    (λ going high. (
      λ e. let same : h.expected ≡ k = ap gap_of e in
          (going, (same, omega (arith, same, high))),
      λ w. ap (λ n. Err (fault.Gap n)) w.1.0,
    ))
    (λ going next. (
      λ e. absurd (unpacked_apart _ (reading m.payload) (λ n. omega (arith, n)) (λ n. omega (arith, n)) e),
      λ w. absurd (let a = w.1.0 in let b = w.1.1 in omega (arith, a, b, next)),
    ))

-- What a payload gave to an answer, or else this.
abbrev reading_of : Result Packet PackFault → Answer → Result Packet PackFault
reading_of r (Ok packet) = Ok packet
reading_of r (Err fault.Stranger) = r
reading_of r (Err fault.AfterClose) = r
reading_of r (Err fault.Repeat) = r
reading_of r (Err (fault.Gap expected)) = r
reading_of r (Err (fault.Packet why)) = Err why

packet_or_fault-back : (r s : Result Packet PackFault) → packet_or_fault r ≡ packet_or_fault s → r ≡ s
packet_or_fault-back (Ok a) (Ok b) e = ap (reading_of (Ok a)) e
packet_or_fault-back (Ok a) (Err g) e = ap (reading_of (Ok a)) e
packet_or_fault-back (Err f) (Ok b) e = ap (reading_of (Ok b)) e
packet_or_fault-back (Err f) (Err g) e = ap (reading_of (Err f)) e

-- What a payload gives is none of the refusals that come before it.
unpacked_kind : (r : Result Packet PackFault) (a : Answer) → (1 ≤ kind a) × (kind a ≤ 4) → a ≡ packet_or_fault r → ⊥
unpacked_kind r a w e =
    let low = w.0 in
    let high = w.1 in
    unpacked_apart a r (λ k. omega (arith, k, low)) (λ k. omega (arith, k, high)) (sym e)

unpacked : (h : Hart) (m : Message) (r : Result Packet PackFault)
    → (answer h m ≡ packet_or_fault r) ↔ (Going h × (h.expected ≡ m.number) × (reading m.payload ≡ r))
unpacked h m r =
    by_tests h m (λ a. (a ≡ packet_or_fault r) ↔ (Going h × (h.expected ≡ m.number) × (reading m.payload ≡ r)))
    (λ over. (λ e. absurd (unpacked_kind r _ (omega arith, omega arith) e), λ w. absurd (not_both _ over w.0)))
    (λ going low. (
      λ e. absurd (unpacked_kind r _ (omega arith, omega arith) e),
      λ w. absurd (let n = w.1 in omega (arith, n, low)),
    ))
    (λ going high. (
      λ e. absurd (unpacked_kind r _ (omega arith, omega arith) e),
      λ w. absurd (let n = w.1 in omega (arith, n, high)),
    ))
    (λ going next. (λ e. (going, next, packet_or_fault-back (reading m.payload) r e), λ w. ap packet_or_fault w.2))

-- AfterClose is answered exactly where the hart is known and over.
pub answer-after_close : (o : Option Hart) (m : Message)
    → (answer_of o m ≡ Err fault.AfterClose) ↔ IsSomeAnd o (λ h. is_over h ≡ true)
answer-after_close None m = (λ e. absurd (apart _ _ (inl (omega arith)) e), λ w. absurd w)
answer-after_close (Some h) m = after_close h m

-- Repeat is answered exactly where the hart is known and open, and the number below the expected one.
pub answer-repeat : (o : Option Hart) (m : Message)
    → (answer_of o m ≡ Err fault.Repeat) ↔ IsSomeAnd o (λ h. Going h × (m.number < h.expected))
answer-repeat None m = (λ e. absurd (apart _ _ (inl (omega arith)) e), λ w. absurd w)
answer-repeat (Some h) m = repeat h m

-- Gap is answered exactly where the hart is known and open, and the number above the expected one, which it names.
pub answer-gap : (o : Option Hart) (m : Message) (k : ℕ)
    → (answer_of o m ≡ Err (fault.Gap k)) ↔ IsSomeAnd o (λ h. Going h × ((h.expected ≡ k) × (k < m.number)))
answer-gap None m k = (λ e. absurd (apart _ _ (inl (omega arith)) e), λ w. absurd w)
answer-gap (Some h) m k = gap h m k

-- What the payload gives is answered exactly where the hart is known and open, and the number is the expected one.
pub answer-unpacked : (o : Option Hart) (m : Message) (r : Result Packet PackFault)
    → (answer_of o m ≡ packet_or_fault r) ↔
    (IsSomeAnd o (λ h. Going h × (h.expected ≡ m.number)) × (reading m.payload ≡ r))
answer-unpacked None m r = (λ e. absurd (unpacked_kind r _ (omega arith, omega arith) e), λ w. absurd w.0)
answer-unpacked (Some h) m r = let law = unpacked h m r in
    (λ e. let w = law.0 e in ((w.0, w.1), w.2), λ w. law.1 (w.0.0, w.0.1, w.1))

-- What no known hart answers is answered exactly where the hart is not known.
pub answer-unknown : {R : Type 0} (harts : Harts) (m : Message) (answered : Option Hart → R) (stranger : R)
    → answered None ≡ stranger → ((h : Hart) → answered (Some h) ≡ stranger → ⊥)
    → (answered (slice_get harts m.hart) ≡ stranger) ↔ (length harts ≤ m.hart)
answer-unknown harts m answered stranger none known_hart = elim (slice_get_cases harts m.hart).1 [
  | inl known ↦
      rw known.2 (
        λ e. absurd (known_hart known.0 e),
        λ past. absurd (let within = known.1 in omega (arith, within, past)),
      )
  | inr past ↦ rw past.1 (λ e. past.0, λ w. none)
]

-- Stranger is answered exactly where the hart is not known.
pub answer-stranger : (harts : Harts) (m : Message)
    → (answer_of (slice_get harts m.hart) m ≡ Err fault.Stranger) ↔ (length harts ≤ m.hart)
answer-stranger harts m =
    answer-unknown harts m (λ o. answer_of o m) (Err fault.Stranger) refl (λ h. known_hart h m)
  where
    known_hart : (h : Hart) (m : Message) → answer h m ≡ Err fault.Stranger → ⊥
    known_hart h m = by_tests h m (λ r. r ≡ Err fault.Stranger → ⊥)
        (λ over. apart _ _ (inr (omega arith)))
        (λ going low. apart _ _ (inr (omega arith)))
        (λ going high. apart _ _ (inr (omega arith)))
        (λ going next. unpacked_apart _ (reading m.payload) (λ k. omega (arith, k)) (λ k. omega (arith, k)))
