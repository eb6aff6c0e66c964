-- What spans have, with one span more.
use Rattle.std.proofs.Common.{◌≡◌, ◌≤◌, ◌+◌, List, [], ◌∷◌, ◌++◌, refl, ap, arith}
use Rattle.message.specs.declared.message.Message.{Message}
use Rattle.frames.specs.Counted.{bytes_in, messages_in, span_size}
use Rattle.frames.specs.declared.span.Span.{Span}
use Rattle.frames.specs.declared.span.Span.TheVariants.{Frame, Bytes}

pub messages-more : (front : List Span) (span : Span)
    → messages_in (front ++ span ∷ []) ≡ messages_in front ++ messages_in (span ∷ [])
messages-more [] span = refl
messages-more (Frame offset message ∷ front) span = ap (λ (l : List Message). message ∷ l) (messages-more front span)
messages-more (Bytes offset count ∷ front) span = messages-more front span

pub bytes-more : (front : List Span) (span : Span)
    → bytes_in (front ++ span ∷ []) ≡ bytes_in front + bytes_in (span ∷ [])
bytes-more [] span = omega arith
bytes-more (Frame offset message ∷ front) span = bytes-more front span
bytes-more (Bytes offset count ∷ front) span = let more = bytes-more front span in omega (arith, more)

-- Of one span no more bytes are of no message than it has.
pub span_bytes : (span : Span) → bytes_in (span ∷ []) ≤ span_size span
span_bytes (Frame offset message) = omega arith
span_bytes (Bytes offset count) = omega arith
