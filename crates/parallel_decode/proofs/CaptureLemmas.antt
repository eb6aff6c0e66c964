-- What the first pass over a capture finds, by what it finds in its messages.
use Rattle.std.proofs.Common.{◌≡◌, ◌++◌, ◌-◌, ◌∙◌, ℕ, Bool, List, [], Option, None, Some, ap, arith, drop, false, length, refl, replicate, subst, sym, take}
use Rattle.std.proofs.lemmas.List.{drop_at, length-append, nil_from_length, take_rest}
use Rattle.message.specs.Range.{selected}
use Rattle.message.specs.declared.range.HartRange.{HartRange}
use Rattle.retire.specs.declared.event.Event.{Event}
use Rattle.rvclass.specs.Words.{Words}
use Rattle.payload.specs.declared.mode.Mode.{Mode}
use Rattle.message.specs.Capture.{capture}
use Rattle.message.specs.Header.{header_bytes}
use Rattle.message.specs.OfHart.{of_hart}
use Rattle.message.specs.declared.fault.MessageFault.{MessageFault}
use Rattle.message.specs.declared.header.Header.{Header}
use Rattle.receiver.specs.Holds.{AreDecoded}
use Rattle.captures.proofs.CapturesSplit.{capture_none}
use Rattle.captures.proofs.NothingDecoded.{no_lists, none_closed}
use Rattle.captures.specs.declared.outcome.CaptureFault.{CaptureFault}
use Rattle.captures.specs.Decoded.{AreHartsDecoded}
use Rattle.parallel_decode.specs.Body.{end_of}
use Rattle.parallel_decode.specs.Placed.{ArePlacedLogs}
use Rattle.parallel_decode.specs.Surveyed.{IsSurvey, NeverMemory}
use Rattle.parallel_decode.specs.declared.indexing.Survey.{Survey}

-- The messages of each hart are at the places that a survey found.
pub placed_logs : {A : Type 0} (range : HartRange) (words : Words) (harts : ℕ) (announced : Option Mode)
    (bytes : List ℕ) (survey : Survey A) → (s : IsSurvey range words harts announced bytes survey)
    → ArePlacedLogs words bytes survey.places.items s.lists
placed_logs range words harts announced bytes survey s = record {
  count = s.decoded.decoded.lists_count ∙ sym s.count;
  each = λ hart own log is is_log. record {
    messages = of_hart hart (selected range s.decoded.messages);
    placed = s.placed hart own is;
    described = s.decoded.decoded.described hart log is_log;
  };
}

-- Of no bytes nothing is decoded.
pub nothing_decoded : (range : HartRange) (words : Words) (harts : ℕ) (lists : List (List Event)) (closed : List Bool)
    (stop : Option (ℕ × CaptureFault)) → AreHartsDecoded range words harts None [] lists closed stop
    → (lists ≡ replicate harts []) × (closed ≡ replicate harts false)
nothing_decoded range words harts lists closed stop are =
    let counted = ap length are.whole ∙ length-append (capture are.messages) are.rest in
    let none = capture_none are.messages (nil_from_length (capture are.messages) (omega (arith, counted))) in
    let decoded = subst (λ ms. AreDecoded (λ hart. words) harts (selected range ms) lists closed) none are.decoded in
    (no_lists words harts lists closed decoded, none_closed words harts lists closed decoded)

-- A header that is cut short or bad is no want of memory.
pub never_memory_at : (why : Option MessageFault) (stop : Option (ℕ × CaptureFault)) → NeverMemory stop
    → NeverMemory (end_of why stop)
never_memory_at None stop never = never
never_memory_at (Some why) stop never = λ is. is

-- Bytes behind a header.
abbrev pub body : List ℕ → List ℕ
body bytes = take (length bytes - 16) (drop 16 bytes)

pub behind : (bytes rest : List ℕ) (header : Header) → bytes ≡ header_bytes header ++ rest → rest ≡ body bytes
behind bytes rest header is =
    sym (take_rest bytes 16 ∙ ap (drop 16) is ∙ drop_at (header_bytes header) rest 16 refl)
