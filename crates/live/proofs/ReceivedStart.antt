-- How bytes begin, whatever follows as many of them as a header has.
use Rattle.std.proofs.Common.{◌≡◌, ◌≤◌, ◌++◌, ◌∙◌, ℕ, Bool, true, false, List, Option, Some, None, Ok, Err, drop, length, take, refl, sym, ap, subst, arith}
use Rattle.std.proofs.lemmas.List.{append-nil, append_assoc, length-append, take-append-drop, take-append-le}
use lib.Seq.{take-append_seam}
use Rattle.frames.specs.Start.{IsStart, first_place}
use Rattle.frames.specs.declared.start.CaptureStart.{CaptureStart}
use Rattle.message.specs.Header.{HasBadHeader, IsMarked, header_bytes, mark}
use Rattle.message.specs.declared.fault.MessageFault.{MessageFault}
use Rattle.message.specs.declared.fault.MessageFault.TheVariants as fault
use Rattle.message.specs.declared.header.Header.{Header}
use Rattle.live.specs.ReceivedLeft.{IsBegun, IsLeft, MayFollow, ReceivedHeld}
use Rattle.live.specs.declared.fault.ReceivedFault.{ReceivedFault}
use Rattle.live.specs.declared.fault.ReceivedFault.TheVariants as received
use Rattle.live.specs.steps.Receiving.{ReadsSome}
use Rattle.live.proofs.ReceivedBuffer.{left_passed}

-- What bytes begin with is in the first of them, if they are as many.
begins : (first bytes more rest : List ℕ) → length first ≤ length bytes → bytes ++ more ≡ first ++ rest
    → bytes ≡ first ++ drop (length first) bytes
begins first bytes more rest long same =
    let n = length first in
    let there : take n bytes ≡ first =
    sym (take-append-le n bytes more long) ∙ ap (take n) same ∙ take-append_seam first rest in
    sym (take-append-drop n bytes) ∙ ap (λ l. l ++ drop n bytes) there

marked : (bytes more : List ℕ) → 16 ≤ length bytes → IsMarked (bytes ++ more) → IsMarked bytes
marked bytes more long (rest, same) = (drop 11 bytes, begins mark bytes more rest (omega (arith, long)) same)

marked_more : (bytes more : List ℕ) → IsMarked bytes → IsMarked (bytes ++ more)
marked_more bytes more (rest, same) = (rest ++ more, ap (λ l. l ++ more) same ∙ append_assoc mark rest more)

bad_more : (bytes more : List ℕ) → HasBadHeader bytes → HasBadHeader (bytes ++ more)
bad_more bytes more bad =
    let enough = bad.enough in
    let all = length-append bytes more in
    record {
      marked = marked_more bytes more bad.marked;
      enough = omega (arith, enough, all);
      none =
          λ header rest is same. bad.none header (drop (length (header_bytes header)) bytes) is
          (begins (header_bytes header) bytes more rest (omega (arith, enough)) same);
    }

pub start_more : (bytes more : List ℕ) (header : Option Header) (why : Option MessageFault) → 16 ≤ length bytes
    → IsStart bytes header why → IsStart (bytes ++ more) header why
start_more bytes more None None long (rest, (none, same)) =
    (bytes ++ more, (λ is. none (marked bytes more long is), refl))
start_more bytes more (Some header) None long (rest, (is, same)) =
    (rest ++ more, (is, ap (λ l. l ++ more) same ∙ append_assoc (header_bytes header) rest more))
start_more bytes more header (Some fault.Short) long (none, cut) = let few = cut.few in absurd (omega (arith, long, few))
start_more bytes more header (Some fault.BadHeader) long (none, bad) = (none, bad_more bytes more bad)
start_more bytes more header (Some other) long (none, never) = absurd never

-- The header is within the bytes.
pub header_within : (bytes : List ℕ) (header : Option Header) (why : Option MessageFault) → IsStart bytes header why
    → first_place header ≤ length bytes
header_within bytes None why is = omega arith
header_within bytes (Some header) None (rest, (is, same)) =
    let all = ap length same in
    let parts = length-append (header_bytes header) rest in
    omega (arith, all, parts)
header_within bytes (Some header) (Some why) (none, more) = absurd (let e : Some header ≡ None = none in cc)

-- How what is left begins is how what is held does: that is all that is left, or as many bytes as a header has.
pub begun : (own new : ReceivedHeld) (file : Option (List ℕ)) (rest : List ℕ) (start : CaptureStart) → IsLeft own file rest
    → IsStart own.bytes start.header start.fault → (own.ended ≡ false → 16 ≤ length own.bytes)
    → new.bytes ≡ drop (first_place start.header) own.bytes → new.ended ≡ own.ended → IsBegun rest (Ok start) new file
begun own new None rest start left is long bytes ended = absurd left
begun own new (Some xs) rest start left is long bytes ended = (
  subst (λ l. IsStart l start.header start.fault) (sym left.1) (whole own.ended refl left.0),
  left_passed own new (Some xs) rest (first_place start.header) left
      (header_within own.bytes start.header start.fault is) bytes ended,
)
  where
    whole : (over : Bool) → own.ended ≡ over → MayFollow over xs → IsStart (own.bytes ++ xs) start.header start.fault
    whole true over none =
        subst (λ l. IsStart l start.header start.fault)
        (sym (append-nil own.bytes) ∙ ap (λ l. own.bytes ++ l) (sym none)) is
    whole false over none = start_more own.bytes xs start.header start.fault (long over) is

-- Why as many bytes are not read is why it is not known how RECEIVED begins.
pub begun_lacks : (rest : List ℕ) (why : ReceivedFault) (new : ReceivedHeld) (file : Option (List ℕ))
    → ReadsSome {X = Unit {0}} rest (Err why) new file → IsBegun rest (Err why) new file
begun_lacks rest (received.File why) new file lacks = lacks
begun_lacks rest (received.Sent why) new file lacks = lacks
