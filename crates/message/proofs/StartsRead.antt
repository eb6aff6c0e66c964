-- What a capture begins with is read.
use Rattle.std.proofs.Common.{◌≡◌, ◌≢◌, ◌⊎◌, ◌++◌, ℕ, List, [], Option, Some, None, Result, Ok, Err, IfOk, IfErr}
use Rattle.std.proofs.Common.{IfSome, length, drop, slice_index, refl, sym, ap, ◌∙◌, arith, inl, inr, append-nil}
use Rattle.byteorder.specs.Endian.{little_number}
use Rattle.byteorder.specs.Numbers.{little_number-reads_back}
use Rattle.payload.specs.declared.mode.Mode.{Mode}
use Rattle.payload.specs.declared.mode.Mode.TheVariants.{Differential, Full}
use Rattle.message.specs.Capture.{message_bytes}
use Rattle.message.specs.Cut.{IsCut, IsMessage, HasBadLength}
use Rattle.message.specs.Header.{HasBadHeader, IsCutHeader, IsHeader, IsMarked, header_bytes, mark, mode_byte}
use Rattle.message.specs.Header.{setting_bytes}
use Rattle.message.specs.Started.{IsStart}
use Rattle.message.specs.declared.fault.MessageFault.{MessageFault}
use Rattle.message.specs.declared.fault.MessageFault.TheVariants as fault
use Rattle.message.specs.declared.header.Header.{Header}
use Rattle.message.specs.declared.header.Start.{Start}
use Rattle.message.specs.declared.header.Start.TheVariants.{Version2, Version1}
use Rattle.message.specs.declared.message.Message.{Message}
use Rattle.message.proofs.ReadBack.{message_only, not_bad, not_cut}

-- No bytes begin with a message and with the mark.
pub never_both : (m : Message) (xs ys : List ℕ) → IsMessage m → message_bytes m ++ xs ≡ mark ++ ys → ⊥
never_both m xs ys is same =
    let some = is.some in
    let none : length m.payload ≡ 0 = ap (λ l. slice_index l 10) same in
    omega (arith, some, none)

-- The byte of a mode is that of no other.
same_mode : (a b : Mode) → mode_byte a ≡ mode_byte b → a ≡ b
same_mode Differential Differential e = refl
same_mode Differential Full e = absurd (omega (arith, e))
same_mode Full Differential e = absurd (omega (arith, e))
same_mode Full Full e = refl

-- Bytes that begin with a header begin with no other.
pub header_only : (h k : Header) (xs ys : List ℕ) → IsHeader h → IsHeader k
    → header_bytes h ++ xs ≡ header_bytes k ++ ys → h ≡ k
header_only h k xs ys is also same =
    let few = is.harts in
    let few_too = also.harts in
    let mode = same_mode h.mode k.mode (ap (λ l. slice_index l 11) same) in
    let period : h.period ≡ k.period = sym (little_number-reads_back 2 h.period (drop 14 (header_bytes h ++ xs))
    is.period)
    ∙ ap (λ l. little_number 2 (drop 12 l)) same
    ∙ little_number-reads_back 2 k.period (drop 14 (header_bytes k ++ ys)) also.period in
    let harts : h.harts ≡ k.harts = sym (little_number-reads_back 2 h.harts xs (omega (arith, few)))
    ∙ ap (λ l. little_number 2 (drop 14 l)) same ∙ little_number-reads_back 2 k.harts ys (omega (arith, few_too)) in
    rw (mode, period, harts) refl

-- What is known of what was read.
pub record Known (old new : Option (List ℕ)) (r : Result Start MessageFault) : Type 0 where
  pub start : IfOk r (λ start. IsStart old new start)
  pub short : r ≡ Err fault.Short → IfSome old (λ bytes. IsCut bytes ⊎ IsCutHeader bytes)
  pub bad_length : r ≡ Err fault.BadLength → IfSome old (λ bytes. HasBadLength bytes × ¬ IsMarked bytes)
  pub bad_header : r ≡ Err fault.BadHeader → IfSome old HasBadHeader
  pub never_write : IfErr r (λ why. why ≢ fault.Write)

-- A header that the input begins with is read.
pub header_reads_back : (h : Header) (rest : List ℕ) (r : Result Start MessageFault) (new : Option (List ℕ))
    → IsHeader h → Known (Some (header_bytes h ++ rest)) new r → (r ≡ Ok (Version2 h)) ⊎ (r ≡ Err fault.Read)
header_reads_back h rest (Ok (Version2 k)) None is known = absurd (known.start.1)
header_reads_back h rest (Ok (Version2 k)) (Some ys) is known =
    inl (ap (λ k. Ok (Version2 k)) (sym (header_only h k rest ys is known.start.0 known.start.1)))
header_reads_back h rest (Ok (Version1 (Some m))) None is known = absurd (known.start.1)
header_reads_back h rest (Ok (Version1 (Some m))) (Some ys) is known =
    absurd (never_both m ys (setting_bytes h ++ rest) known.start.0 (sym known.start.1))
header_reads_back h rest (Ok (Version1 None)) new is known =
    absurd (let none = ap length known.start.0 in omega (arith, none))
header_reads_back h rest (Err fault.Short) new is known = elim (known.short refl) [
  | inl cut ↦
      let whole = append-nil (message_bytes cut.message) ∙ sym cut.whole in
      absurd (never_both cut.message [] ((setting_bytes h ++ rest) ++ cut.rest) cut.ranges whole)
  | inr cut ↦ absurd (let few = cut.few in omega (arith, few))
]
header_reads_back h rest (Err fault.BadLength) new is known =
    absurd ((known.bad_length refl).1 (setting_bytes h ++ rest, refl))
header_reads_back h rest (Err fault.BadHeader) new is known = absurd ((known.bad_header refl).none h rest is refl)
header_reads_back h rest (Err fault.Read) new is known = inr refl
header_reads_back h rest (Err fault.Write) new is known = absurd (known.never_write refl)

-- A message that the input begins with is read.
pub message_reads_back : (m : Message) (rest : List ℕ) (r : Result Start MessageFault) (new : Option (List ℕ))
    → IsMessage m → Known (Some (message_bytes m ++ rest)) new r
    → (r ≡ Ok (Version1 (Some m))) ⊎ (r ≡ Err fault.Read)
message_reads_back m rest (Ok (Version2 k)) None is known = absurd (known.start.1)
message_reads_back m rest (Ok (Version2 k)) (Some ys) is known =
    absurd (never_both m rest (setting_bytes k ++ ys) is known.start.1)
message_reads_back m rest (Ok (Version1 (Some n))) None is known = absurd (known.start.1)
message_reads_back m rest (Ok (Version1 (Some n))) (Some ys) is known =
    inl (ap (λ n. Ok (Version1 (Some n))) (sym (message_only m n rest ys is known.start.0 known.start.1)))
message_reads_back m rest (Ok (Version1 None)) new is known =
    absurd (let none = ap length known.start.0 in omega (arith, none))
message_reads_back m rest (Err fault.Short) new is known = elim (known.short refl) [
  | inl cut ↦ absurd (not_cut m rest is cut)
  | inr cut ↦ absurd (never_both m rest cut.marked.0 is cut.marked.1)
]
message_reads_back m rest (Err fault.BadLength) new is known = absurd (not_bad m rest is (known.bad_length refl).0)
message_reads_back m rest (Err fault.BadHeader) new is known =
    absurd (never_both m rest (known.bad_header refl).marked.0 is (known.bad_header refl).marked.1)
message_reads_back m rest (Err fault.Read) new is known = inr refl
message_reads_back m rest (Err fault.Write) new is known = absurd (known.never_write refl)
