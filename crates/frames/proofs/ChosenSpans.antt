-- The spans of all harts are all spans.
use Rattle.std.proofs.Common.{◌≡◌, ◌≤◌, ◌^◌, ℕ, List, [], ◌∷◌, Option, Some, None, refl, ap, arith, drop}
use Rattle.std.specs.Prelude.{IfSome}
use Rattle.frames.specs.declared.span.Span.{Span}
use Rattle.frames.specs.declared.span.Span.TheVariants.{Frame, Bytes}
use Rattle.message.proofs.Selecting.{every_hart_selects}
use Rattle.message.specs.Range.{every_hart}
use Rattle.message.specs.Header.{IsHeader}
use Rattle.message.specs.declared.header.Header.{Header}
use Rattle.frames.proofs.KnownHarts.{AreBelow, below}
use Rattle.frames.specs.Search.{chosen}
use Rattle.frames.specs.Start.{first_place, known_harts, spans_of}

-- Of spans whose harts are below a count, none is passed over.
all_below : (known : ℕ) (spans : List Span) → known ≤ 2 ^ 16 → AreBelow known spans
    → chosen every_hart spans ≡ spans
all_below known [] few are = refl
all_below known (Frame place message ∷ spans) few are =
    let own = are.0 in
    rw (every_hart_selects message.hart (omega (arith, few, own)))
    (ap (λ (l : List Span). Frame place message ∷ l) (all_below known spans few are.1))
all_below known (Bytes place count ∷ spans) few are =
    ap (λ (l : List Span). Bytes place count ∷ l) (all_below known spans few are)

few_known : (header : Option Header) → IfSome header IsHeader → known_harts header ≤ 2 ^ 16
few_known None is = omega arith
few_known (Some header) is = let most = is.harts in omega (arith, most)

pub all_chosen : (header : Option Header) (bytes : List ℕ) → IfSome header IsHeader
    → chosen every_hart (spans_of header bytes) ≡ spans_of header bytes
all_chosen header bytes is =
    all_below (known_harts header) (spans_of header bytes) (few_known header is)
    (below (known_harts header) (first_place header) (drop (first_place header) bytes))
