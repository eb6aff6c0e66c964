-- The message that bytes begin with.
use Rattle.std.proofs.Common.{◌≡◌, ◌⊎◌, ◌++◌, ℕ, List, [], Option, Some, None, Result, Ok, Err, IfOk, IfErr, IfSome}
use Rattle.std.proofs.Common.{◌≢◌, length, take, drop, slice_index, refl, sym, ap, ◌∙◌, arith, inl, inr, subst}
use Rattle.std.proofs.Common.{append_assoc, append-nil}
use Rattle.std.proofs.lemmas.List.{length-append}
use Rattle.std.specs.Io.KnownBytes.{Consumes, IsAtEnd}
use lib.Seq.{take-append_seam}
use Rattle.byteorder.specs.Numbers.{little_number-reads_back}
use Rattle.message.specs.Capture.{head_bytes, message_bytes}
use Rattle.message.specs.Cut.{IsCut, IsMessage, HasBadLength}
use Rattle.message.specs.steps.Front.{message_of}
use Rattle.message.specs.declared.message.Message.{Message}
use Rattle.message.specs.declared.fault.MessageFault.{MessageFault}
use Rattle.message.specs.declared.fault.MessageFault.TheVariants as fault

-- The message of the numbers that bytes begin with.
abbrev pub message_in : List ℕ → Message
message_in bytes = message_of (take 11 bytes) (take (slice_index bytes 10) (drop 11 bytes))

-- Bytes that begin with a message begin with no other.
pub message_in-message_bytes : (m : Message) (rest : List ℕ) → IsMessage m → message_in (message_bytes m ++ rest) ≡ m
message_in-message_bytes m rest is =
    let hart = little_number-reads_back 2 m.hart (drop 2 (head_bytes m)) is.hart in
    let number = little_number-reads_back 8 m.number (drop 10 (head_bytes m)) is.number in
    let payload = take-append_seam m.payload rest in
    rw (hart, number, payload) refl

pub message_only : (m n : Message) (xs ys : List ℕ) → IsMessage m → IsMessage n
    → message_bytes m ++ xs ≡ message_bytes n ++ ys → m ≡ n
message_only m n xs ys is also e = sym (message_in-message_bytes m xs is) ∙ ap message_in e
    ∙ message_in-message_bytes n ys also

-- Bytes that begin with a message are no cut one.
pub not_cut : (m : Message) (rest : List ℕ) → IsMessage m → IsCut (message_bytes m ++ rest) → ⊥
not_cut m rest is cut =
    let long : message_bytes m ++ (rest ++ cut.rest) ≡ message_bytes cut.message ++ [] =
    sym (append_assoc (message_bytes m) rest cut.rest) ∙ cut.whole ∙ sym (append-nil (message_bytes cut.message)) in
    let same : m ≡ cut.message = message_only m cut.message (rest ++ cut.rest) [] is cut.ranges long in
    let lengths : length (message_bytes m ++ (rest ++ cut.rest)) ≡ length (message_bytes m) =
    ap length (long ∙ append-nil (message_bytes cut.message)) ∙ ap (λ n. length (message_bytes n)) (sym same) in
    let left = length-append (message_bytes m) (rest ++ cut.rest) in
    let right = length-append rest cut.rest in
    let more = cut.more in
    omega (arith, lengths, left, right, more)

-- Nor have they a bad length.
pub not_bad : (m : Message) (rest : List ℕ) → IsMessage m → HasBadLength (message_bytes m ++ rest) → ⊥
not_bad m rest is bad =
    let some = is.some in
    let few = is.few in
    let wrong = bad.1 in
    omega (arith, some, few, wrong)

-- From bytes that begin with a message that message is read, unless the reader fails.
pub reads_back : (m : Message) (rest : List ℕ) (r : Result (Option Message) MessageFault) (old new : Option (List ℕ))
    → IsMessage m → old ≡ Some (message_bytes m ++ rest)
    → IfOk r (λ found. IfSome found (λ n. IsMessage n))
    → IfOk r (λ found. IfSome found (λ n. Consumes old new (message_bytes n)))
    → (r ≡ Ok None → IsAtEnd old) → (r ≡ Err fault.Short → IfSome old IsCut)
    → (r ≡ Err fault.BadLength → IfSome old HasBadLength) → IfErr r (λ why. why ≢ fault.Write)
    → IfErr r (λ why. why ≢ fault.BadHeader)
    → (r ≡ Ok (Some m)) ⊎ (r ≡ Err fault.Read)
reads_back m rest (Ok None) old new is from ranges bytes end short bad write header =
    absurd (at_end (subst IsAtEnd from (end refl)))
  where
    at_end : message_bytes m ++ rest ≡ [] → ⊥
    at_end e = let none = ap length e in omega (arith, none)
reads_back m rest (Ok (Some n)) old new is from ranges bytes end short bad write header =
    inl (ap (λ l. Ok (Some l)) (sym (same new (subst (λ o. Consumes o new (message_bytes n)) from bytes))))
  where
    same : (o : Option (List ℕ)) → Consumes (Some (message_bytes m ++ rest)) o (message_bytes n) → m ≡ n
    same None e = absurd e
    same (Some ys) e = message_only m n rest ys is ranges e
reads_back m rest (Err fault.Short) old new is from ranges bytes end short bad write header =
    absurd (not_cut m rest is (subst (λ o. IfSome o IsCut) from (short refl)))
reads_back m rest (Err fault.BadLength) old new is from ranges bytes end short bad write header =
    absurd (not_bad m rest is (subst (λ o. IfSome o HasBadLength) from (bad refl)))
reads_back m rest (Err fault.Read) old new is from ranges bytes end short bad write header = inr refl
reads_back m rest (Err fault.Write) old new is from ranges bytes end short bad write header = absurd (write refl)
reads_back m rest (Err fault.BadHeader) old new is from ranges bytes end short bad write header =
    absurd (header refl)
