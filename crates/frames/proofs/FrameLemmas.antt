-- The frame that bytes begin with.
use Rattle.std.proofs.Common.{◌≡◌, ◌↔◌, ◌<◌, ◌≤◌, ◌+◌, ◌==◌, if◌then◌else◌, None, Some, Ok, ◌++◌, ℕ, Bool, true, false}
use Rattle.std.proofs.Common.{not, nat_lt, List}
use Rattle.std.proofs.Common.{IsTrue, length, take, drop, refl, sym, ap, ap₂, subst, ◌∙◌, arith, length-take-le}
use Rattle.std.proofs.lemmas.Bool.{and_parts, and_from, ne_eqb, ltb-true, ltb-false, lt-ltb, le-ltb, not-true}
use Rattle.std.proofs.lemmas.List.{drop-take, length-append, length-drop}
use Rattle.std.proofs.lemmas.Option.{same_Some}
use lib.Seq.{take-append_seam}
use Rattle.byteorder.specs.Endian.{little_number}
use Rattle.byteorder.specs.Numbers.{little_from-take, little_number-reads_back}
use Rattle.message.specs.Capture.{head_bytes, message_bytes}
use Rattle.message.specs.Cut.{IsMessage}
use Rattle.message.specs.steps.Filling.{AreBytes}
use Rattle.message.specs.steps.Front.{first_message, message_of}
use Rattle.message.specs.declared.message.Message.{Message}
use Rattle.message.proofs.Cuts.{message_of-ranges}
use Rattle.message.proofs.Fronts.{AreBytes-take, Stands, first_message-stands}
use Rattle.message.proofs.Heads.{AreBytes-drop}
use Rattle.frames.specs.Frame.{BeginsFrame, BeginsMessage, IsFrame, message_in, payload_in, frame_in, frame_size}
use Rattle.frames.specs.Frame.{hart_in, is_complete, is_frame, length_in, number_in, end_of_frames}

-- What a complete message has.
pub record Complete (bytes : List ℕ) : Type 0 where
  pub some : 1 ≤ length_in bytes
  pub few : length_in bytes ≤ 18
  pub fits : 11 + length_in bytes ≤ length bytes

pub complete : (bytes : List ℕ) → is_complete bytes ≡ true → Complete bytes
complete bytes e =
    let parts = and_parts (nat_lt 0 (length_in bytes)) _ e in
    let others = and_parts (not (nat_lt 18 (length_in bytes))) (not (nat_lt (length bytes) (frame_size bytes))) parts.1
    in
    record {
      some = ltb-true 0 (length_in bytes) parts.0;
      few = ltb-false 18 (length_in bytes) (not-true _ others.0);
      fits = ltb-false (length bytes) (frame_size bytes) (not-true _ others.1);
    }

pub is_complete-from : (bytes : List ℕ) → Complete bytes → is_complete bytes ≡ true
is_complete-from bytes c =
    let some : nat_lt 0 (length_in bytes) ≡ true = lt-ltb 0 (length_in bytes) c.some in
    let few : nat_lt 18 (length_in bytes) ≡ false = le-ltb 18 (length_in bytes) c.few in
    let fits : nat_lt (length bytes) (frame_size bytes) ≡ false = le-ltb (length bytes) (frame_size bytes) c.fits in
    and_from _ _ some (and_from _ _ (ap not few) (ap not fits))

-- What a frame has.
pub record Parts (known : ℕ) (bytes : List ℕ) : Type 0 where
  pub complete : Complete bytes
  pub hart : hart_in bytes < known
  pub number : number_in bytes < end_of_frames

pub parts : (known : ℕ) (bytes : List ℕ) → is_frame known bytes ≡ true → Parts known bytes
parts known bytes e =
    let both = and_parts (is_complete bytes) _ e in
    let others = and_parts (nat_lt (hart_in bytes) known) (nat_lt (number_in bytes) end_of_frames) both.1 in
    record {
      complete = complete bytes both.0;
      hart = ltb-true (hart_in bytes) known others.0;
      number = ltb-true (number_in bytes) end_of_frames others.1;
    }

-- The bytes of a complete message are in front.
stands : (bytes : List ℕ) → AreBytes bytes → Complete bytes
    → bytes ≡ message_bytes (message_of (take 11 bytes) (take (length_in bytes) (drop 11 bytes)))
    ++ drop (11 + length (take (length_in bytes) (drop 11 bytes))) bytes
stands bytes are c =
    let count = length_in bytes in
    let some = c.some in
    let few = c.few in
    let fits = c.fits in
    let left = length-drop 11 bytes in
    let begun : (length bytes == 0) ≡ false = ne_eqb (length bytes) 0 (λ e. omega (arith, e, fits)) in
    let whole : nat_lt (length bytes) 11 ≡ false = le-ltb (length bytes) 11 (omega (arith, fits)) in
    let none : (count == 0) ≡ false = ne_eqb count 0 (λ e. omega (arith, e, some)) in
    let high : nat_lt 18 count ≡ false = le-ltb 18 count few in
    let here : nat_lt (length (drop 11 bytes)) count ≡ false =
    le-ltb (length (drop 11 bytes)) count (omega (arith, left, fits)) in
    let first : first_message bytes ≡ Ok (Some (message_of (take 11 bytes) (take count (drop 11 bytes)))) =
    rw (begun, whole, none, high, here) refl in
    (subst (Stands bytes) first (first_message-stands bytes are)).0

-- The message of complete bytes is what they begin with.
pub begins_complete : (bytes : List ℕ) → AreBytes bytes → is_complete bytes ≡ true
    → BeginsMessage (frame_in bytes) bytes
begins_complete bytes are e =
    let c = complete bytes e in
    let count = length_in bytes in
    let some = c.some in
    let few = c.few in
    let fits = c.fits in
    let head = take 11 bytes in
    let left = length-drop 11 bytes in
    let long : length (take count (drop 11 bytes)) ≡ count = length-take-le count (drop 11 bytes)
    (omega (arith, left, fits)) in
    let m = message_of head (take count (drop 11 bytes)) in
    let ranges : IsMessage m =
    message_of-ranges head (take count (drop 11 bytes)) (AreBytes-take 11 bytes are)
    (AreBytes-take count (drop 11 bytes) (AreBytes-drop 11 bytes are)) (omega (arith, long, some))
    (omega (arith, long, few)) in
    let hart : m.hart ≡ hart_in bytes = little_from-take 0 2 11 bytes (omega arith) in
    let number : m.number ≡ number_in bytes = ap (little_number 8) (drop-take 2 9 bytes)
    ∙ little_from-take 0 8 9 (drop 2 bytes) (omega arith) in
    let same : m ≡ frame_in bytes =
    ap₂ (λ (h n : ℕ). record { hart = h; number = n; payload = payload_in bytes }) hart number in
    subst (λ (message : Message). BeginsMessage message bytes) same
    (record { rest = drop (11 + length m.payload) bytes; ranges = ranges; whole = stands bytes are c })

-- The message of a frame is what the bytes begin with.
pub begins : (known : ℕ) (bytes : List ℕ) → AreBytes bytes → is_frame known bytes ≡ true → BeginsFrame known bytes
begins known bytes are e =
    let p = parts known bytes e in
    let both = and_parts (is_complete bytes) _ e in
    let b = begins_complete bytes are both.0 in
    record {
      message = frame_in bytes;
      rest = b.rest;
      frame = record { ranges = b.ranges; hart = p.hart; number = p.number };
      whole = b.whole;
    }

-- Bytes that begin with a message begin with a complete one.
pub is_complete-message : (m : Message) (rest : List ℕ) → IsMessage m → is_complete (message_bytes m ++ rest) ≡ true
is_complete-message m rest is =
    let some = is.some in
    let few = is.few in
    let long = length-append m.payload rest in
    is_complete-from (message_bytes m ++ rest) (record { some = some; few = few; fits = omega (arith, long) })

-- Bytes that begin with a message that is known again begin with a frame.
pub is_frame-message : (known : ℕ) (m : Message) (rest : List ℕ) → IsFrame known m
    → is_frame known (message_bytes m ++ rest) ≡ true
is_frame-message known m rest is =
    let bytes = message_bytes m ++ rest in
    let hart : hart_in bytes ≡ m.hart = little_number-reads_back 2 m.hart (drop 2 (head_bytes m)) is.ranges.hart in
    let number : number_in bytes ≡ m.number =
    little_number-reads_back 8 m.number (drop 10 (head_bytes m)) is.ranges.number in
    and_from (is_complete bytes) _ (is_complete-message m rest is.ranges)
    (and_from _ _ (lt-ltb (hart_in bytes) known (subst (λ (h : ℕ). h < known) (sym hart) is.hart))
    (lt-ltb (number_in bytes) end_of_frames (subst (λ (n : ℕ). n < end_of_frames) (sym number) is.number)))

-- And the frame's message is that one.
pub frame_in-message : (m : Message) (rest : List ℕ) → IsMessage m → frame_in (message_bytes m ++ rest) ≡ m
frame_in-message m rest is =
    let hart = little_number-reads_back 2 m.hart (drop 2 (head_bytes m)) is.hart in
    let number = little_number-reads_back 8 m.number (drop 10 (head_bytes m)) is.number in
    let payload = take-append_seam m.payload rest in
    rw (hart, number, payload) refl

-- The two ways to say that a frame begins bytes are one.
pub is_frame-begins : (known : ℕ) (bytes : List ℕ) → AreBytes bytes
    → IsTrue (is_frame known bytes) ↔ BeginsFrame known bytes
is_frame-begins known bytes are = (
  begins known bytes are,
  λ b. subst (λ (l : List ℕ). is_frame known l ≡ true) (sym b.whole) (is_frame-message known b.message b.rest b.frame),
)

-- The message that bytes begin with is one and only one.
pub message_in-begins : (m : Message) (bytes : List ℕ) → AreBytes bytes
    → (message_in bytes ≡ Some m) ↔ BeginsMessage m bytes
message_in-begins m bytes are = (λ e. found (is_complete bytes) refl e, λ b. only b)
  where
    found : (c : Bool) → is_complete bytes ≡ c → (if c then Some (frame_in bytes) else None) ≡ Some m
        → BeginsMessage m bytes
    found true is e =
        subst (λ (message : Message). BeginsMessage message bytes) (same_Some _ _ e) (begins_complete bytes are is)
    found false is e = cc

    only : BeginsMessage m bytes → message_in bytes ≡ Some m
    only b =
        let there : is_complete bytes ≡ true =
        ap is_complete b.whole ∙ is_complete-message m b.rest b.ranges in
        let is : frame_in bytes ≡ m = ap frame_in b.whole ∙ frame_in-message m b.rest b.ranges in
        rw there (ap Some is)
