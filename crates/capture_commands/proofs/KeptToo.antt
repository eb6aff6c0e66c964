-- What is collected of a capture is salvaged of it, since its frames are its messages.
use Rattle.std.proofs.Common.{◌≡◌, ℕ, zero, suc, ◌+◌, ◌≤◌, ◌<◌, ◌++◌, ◌||◌, All, Bool, true, false, List, [], ◌∷◌, max}
use Rattle.std.proofs.Common.{Option, Some, None, Result, Ok, Err, drop, drop_at, length, slice_get, refl, sym, ap}
use Rattle.std.proofs.Common.{subst, ◌∙◌, ◌==◌, not, arith}
use Rattle.std.proofs.lemmas.List.{length-replicate}
use Rattle.std.proofs.lemmas.List.Elements.{All-cons, All-head, All-nil, All-tail}
use Rattle.std.specs.List.{list_any}
use Rattle.std.specs.declared.alloc.Global.{Global}
use Rattle.captures.proofs.WholeCaptures.{never_both, whole_only}
use Rattle.captures.specs.Whole.{AtHeader, BeginsWith, IsWhole}
use Rattle.captures.specs.declared.capture_reading.ReadFault.{ReadFault}
use Rattle.captures.specs.declared.capture_reading.ReadFault.TheVariants as reading
use Rattle.frames.proofs.ScatteredLemmas.{written}
use Rattle.frames.specs.Frame.{IsFrame, end_of_frames}
use Rattle.frames.specs.Spans.{spans_from}
use Rattle.frames.specs.Written.{frames_from}
use Rattle.message.proofs.Selecting.{all_selected}
use Rattle.message.specs.Range.{every_hart, selected}
use Rattle.losses.specs.Collects.{GivesPieces}
use Rattle.losses.specs.Parts.{LogPart}
use Rattle.losses.specs.Parts.{Missing as LogMissing, Events as LogEvents}
use Rattle.losses.specs.PartsIn.{parts_in as collected_parts}
use Rattle.losses.specs.declared.part.HartPieces.{HartPieces}
use Rattle.message.proofs.StartsRead.{header_only}
use Rattle.message.specs.Accepted.{newcomers}
use Rattle.message.specs.Capture.{capture, message_bytes}
use Rattle.message.specs.Cut.{IsMessage}
use Rattle.message.specs.Harts.{newcomer}
use Rattle.message.specs.Header.{header_bytes, setting_bytes}
use Rattle.message.specs.declared.fault.MessageFault.{MessageFault}
use Rattle.message.specs.declared.header.Header.{Header}
use Rattle.message.specs.declared.message.Message.{Message}
use Rattle.rvclass.specs.Image.{Image}
use Rattle.salvaging.proofs.TakenInTurn.{AreKnown, known_all}
use Rattle.salvaging.specs.LeftParts.{LeftPart, Missing, Events}
use Rattle.salvaging.specs.LogsSalvaged.{AreLogParts}
use Rattle.salvaging.specs.LossyParts.{AreCollectedToo, IsCollected}
use Rattle.salvaging.specs.PartsIn.{parts_in}
use Rattle.salvaging.specs.Salvages.{GivesSalvaged}
use Rattle.salvaging.specs.declared.salvaged.Salvaged.{Salvaged}
use Rattle.salvaging.specs.declared.salvaged.SalvagedHart.{SalvagedHart}
use Rattle.frames.specs.Harts.{harts_counted, harts_in}
use Rattle.frames.specs.Search.{mode_of}
use Rattle.frames.specs.Start.{IsStart, first_place, known_harts, spans_of}
use Rattle.salvage_reports.specs.Damage.{closed_harts, has_loss, is_damaged, is_no_stretch}
use Rattle.salvage_reports.specs.Found.{IsSalvagedCapture}
use Rattle.salvage_reports.specs.Frames.{is_run, messages_in}
use Rattle.capture_commands.specs.Decoding.{end_of_harts}
use Rattle.capture_commands.specs.Faults.{reading_fault}
use Rattle.capture_commands.specs.KeptToo.{AreReadAlike, CountAlike, HaveSmallNumbers, IsKeptToo, IsOfFrames}
use Rattle.capture_commands.specs.Pieces.{AreCollectedFrom, ArePieces, IsReadWhole, closed_of, end_of_pieces}
use Rattle.capture_commands.specs.Pieces.{end_with_gaps}
use Rattle.capture_commands.specs.Pieces.{harts_counted as pieces_counted, have_gaps, is_gap, parts_of}
use Rattle.capture_commands.specs.Salvaging.{end_of_salvage}

-- Messages whose harts and numbers are known are frames.
all_frames : (known : ℕ) (messages : List Message) → All IsMessage messages
    → All (λ (m : Message). m.hart < known) messages → HaveSmallNumbers messages → All (IsFrame known) messages
all_frames known [] ranges harts numbers = All-nil (IsFrame known)
all_frames known (m ∷ ms) ranges harts numbers =
    All-cons (IsFrame known) m ms
    (record {
      ranges = All-head IsMessage m ms ranges;
      hart = All-head (λ (n : Message). n.hart < known) m ms harts;
      number = All-head (λ (n : Message). n.number < end_of_frames) m ms numbers;
    })
    (all_frames known ms (All-tail IsMessage m ms ranges) (All-tail (λ (n : Message). n.hart < known) m ms harts)
    (All-tail (λ (n : Message). n.number < end_of_frames) m ms numbers))

-- The messages of frames one after the other.
messages_written : (offset : ℕ) (messages : List Message) → messages_in (frames_from offset messages) ≡ messages
messages_written offset [] = refl
messages_written offset (m ∷ ms) =
    ap (λ l. m ∷ l) (messages_written (offset + length (message_bytes m)) ms)

nothing_between : (offset : ℕ) (messages : List Message) → list_any is_run (frames_from offset messages) ≡ false
nothing_between offset [] = refl
nothing_between offset (m ∷ ms) = nothing_between (offset + length (message_bytes m)) ms

-- Messages of hart 0 are of one hart.
one_hart : (offset : ℕ) (messages : List Message) → AreKnown 1 messages → harts_in (frames_from offset messages) ≡ 1
one_hart offset [] known = refl
one_hart offset (m ∷ ms) ((hart, number), known) =
    let rest = one_hart (offset + length (message_bytes m)) ms known in
    ap (λ n. max (m.hart + 1) n) rest ∙ max-one m.hart hart
  where
    max-one : (hart : ℕ) → hart < 1 → max (hart + 1) 1 ≡ 1
    max-one zero below = refl
    max-one (suc hart) below = absurd (omega (arith, below))

-- A capture begins in one way.
one_start : (bytes xs ys : List ℕ) (h k : Option Header) → BeginsWith h bytes xs → BeginsWith k bytes ys → h ≡ k
one_start bytes xs ys None None one other = refl
one_start bytes xs ys None (Some k) one other = absurd (one.0 (setting_bytes k ++ ys, other.1))
one_start bytes xs ys (Some h) None one other = absurd (other.0 (setting_bytes h ++ xs, one.1))
one_start bytes xs ys (Some h) (Some k) one other =
    ap (λ h. Some h) (header_only h k xs ys one.0 other.0 (sym one.1 ∙ other.1))

starts : (bytes : List ℕ) (header : Option Header) (messages : List Message) → IsWhole bytes header messages
    → (found : Option Header) (why : Option MessageFault) → IsStart bytes found why → (found ≡ header) × (why ≡ None)
starts bytes header messages is found None (rest, begins) =
    (one_start bytes rest (capture messages) found header begins is.whole, refl)
starts bytes header messages is found (Some why) (none, bad) =
    absurd (apart (never_both bytes header messages (reading.Message 0 why) is
    (AtHeader (record { first = refl; none = bad }))))
  where
    apart : reading.Message 0 why ≡ reading.Memory → ⊥
    apart is = cc

-- After its header a capture is the bytes of its messages.
after_header : (bytes : List ℕ) (header : Option Header) (messages : List Message)
    → BeginsWith header bytes (capture messages) → drop (first_place header) bytes ≡ capture messages
after_header bytes None messages begins = begins.1
after_header bytes (Some header) messages begins =
    ap (drop (length (header_bytes header))) begins.1
    ∙ drop_at (header_bytes header) (capture messages) (length (header_bytes header)) refl

spans_are : (bytes : List ℕ) (header : Option Header) (messages : List Message) → IsOfFrames bytes header messages
    → spans_of header bytes ≡ frames_from (first_place header) messages
spans_are bytes header messages is =
    let known = known_harts header in
    let place = first_place header in
    ap (spans_from known place) (after_header bytes header messages is.whole.whole)
    ∙ written known place messages (all_frames known messages is.whole.ranges is.harts is.numbers)

pub read_alike : (bytes : List ℕ) (header : Option Header) (messages : List Message)
    → IsOfFrames bytes header messages → AreReadAlike bytes header messages
read_alike bytes header messages is =
    let spans = spans_are bytes header messages is in
    record {
      read = λ whole read. whole_only bytes whole.0 header whole.1 messages read is.whole;
      start = starts bytes header messages is.whole;
      frames = ap messages_in spans ∙ messages_written (first_place header) messages;
      no_bytes = ap (list_any is_run) spans ∙ nothing_between (first_place header) messages;
    }

-- The parts of a hart have a loss in both or in neither.
loss_alike : (left : List LeftPart) (parts : List LogPart) → AreLogParts left parts
    → list_any is_no_stretch left ≡ list_any is_gap parts
loss_alike [] [] are = refl
loss_alike (Missing count ∷ left) (LogMissing missing ∷ parts) are = refl
loss_alike (Events first last events ∷ left) (LogEvents stretch ∷ parts) are = loss_alike left parts are.1
loss_alike left parts are = absurd are

-- Harts of which the same is kept end alike.
pub record EndAlike (pieces : List (HartPieces Global)) (harts : List (SalvagedHart Global)) : Type 0 where
  pub closed : closed_harts harts ≡ closed_of pieces
  pub losses : list_any has_loss harts ≡ have_gaps (parts_of pieces)

end_alike : (pieces : List (HartPieces Global)) (harts : List (SalvagedHart Global)) → length harts ≡ length pieces
    → ((hart : ℕ) (collected : HartPieces Global) (own : SalvagedHart Global) → slice_get pieces hart ≡ Some collected
    → slice_get harts hart ≡ Some own → IsCollected collected own) → EndAlike pieces harts
end_alike [] [] count each = record { closed = refl; losses = refl }
end_alike [] (own ∷ harts) count each = absurd (omega (arith, count))
end_alike (one ∷ pieces) [] count each = absurd (omega (arith, count))
end_alike (one ∷ pieces) (own ∷ harts) count each =
    let rest = end_alike pieces harts (omega (arith, count)) (λ hart. each (suc hart)) in
    let here = each 0 one own refl refl in
    record {
      closed = ap (λ b. b ∷ closed_harts harts) here.closed ∙ ap (λ l. one.closed ∷ l) rest.closed;
      losses = ap (λ b. b || list_any has_loss harts)
          (loss_alike (parts_in own.parts.items) (collected_parts one.parts.items) here.parts)
          ∙ ap (λ b. list_any is_gap (collected_parts one.parts.items) || b) rest.losses;
    }

-- Known messages are of harts below any greater count.
known_below : (count known : ℕ) (messages : List Message) → AreKnown count messages → count ≤ known
    → All (λ (m : Message). m.hart < known) messages
known_below count known [] are below = All-nil (λ (m : Message). m.hart < known)
known_below count known (m ∷ ms) ((hart, number), are) below =
    All-cons (λ (n : Message). n.hart < known) m ms (omega (arith, hart, below)) (known_below count known ms are below)

known_alike : (harts : ℕ) (asked : Option ℕ) (header : Option Header) → CountAlike harts asked header
    → pieces_counted harts header ≤ known_harts header
known_alike harts asked (Some header) alike = omega arith
known_alike harts (Some count) None alike = let few = alike.1 in omega (arith, few)
known_alike harts None None alike = omega (arith, alike)

-- Both count the same harts.
counted_alike : (harts : ℕ) (asked : Option ℕ) (bytes : List ℕ) (header : Option Header) (messages : List Message)
    → CountAlike harts asked header → IsOfFrames bytes header messages
    → AreKnown (pieces_counted harts header) messages → harts_counted asked header bytes ≡ pieces_counted harts header
counted_alike harts (Some count) bytes (Some header) messages alike is known = refl
counted_alike harts None bytes (Some header) messages alike is known = refl
counted_alike harts (Some count) bytes None messages alike is known = alike.0
counted_alike harts None bytes None messages alike is known =
    ap harts_in (spans_are bytes None messages is)
    ∙ one_hart 0 messages (subst (λ n. AreKnown n messages) alike known) ∙ sym alike

module _ (harts : ℕ) (asked : Option ℕ) (program : Image) (bytes : List ℕ) (header : Option Header)
    (messages : List Message) (whole : IsWhole bytes header messages) (numbers : HaveSmallNumbers messages)
    (alike : CountAlike harts asked header) (pieces : List (HartPieces Global)) where
  -- What is collected is collected of this header and these messages.
  collected_of : (read : Result (Option Header × List Message) ReadFault) → IsReadWhole bytes read
      → AreCollectedFrom harts every_hart program read (Ok pieces)
      → GivesPieces program (pieces_counted harts header) (mode_of header) messages pieces
  collected_of (Err why) is from = let never : Ok pieces ≡ Err (reading_fault why) = from in cc
  collected_of (Ok read) is from =
      let same = whole_only bytes read.0 header read.1 messages is whole in
      subst (λ ms. GivesPieces program (pieces_counted harts header) (mode_of header) ms pieces)
      (ap (selected every_hart) same.1 ∙ all_selected messages whole.ranges)
      (subst (λ h. GivesPieces program (pieces_counted harts h) (mode_of h) (selected every_hart read.1) pieces)
      same.0 from)

  pub kept_too : (found : Option Header) (why : Option MessageFault) (salvaged : Salvaged Global)
      → ArePieces harts program bytes (Ok pieces) → IsSalvagedCapture asked program bytes found why salvaged
      → IsKeptToo bytes found why pieces salvaged
  kept_too found why salvaged are is =
      let gives = collected_of are.whole are.read are.collected in
      let many : length (newcomers (pieces_counted harts header)) ≡ pieces_counted harts header =
      length-replicate (pieces_counted harts header) newcomer in
      let known : AreKnown (pieces_counted harts header) messages =
      subst (λ n. AreKnown n messages) many
      (known_all messages (newcomers (pieces_counted harts header)) gives.taken) in
      let frames : IsOfFrames bytes header messages = record {
        whole = whole;
        harts = known_below (pieces_counted harts header) (known_harts header) messages known
            (known_alike harts asked header alike);
        numbers = numbers;
      } in
      let reads = read_alike bytes header messages frames in
      let start = reads.start found why is.start in
      let counted = counted_alike harts asked bytes header messages alike frames known in
      let of_header : GivesSalvaged program (harts_counted asked header bytes) (mode_of header)
      (selected every_hart (messages_in (spans_of header bytes))) salvaged =
      subst (λ h. GivesSalvaged program (harts_counted asked h bytes) (mode_of h)
      (selected every_hart (messages_in (spans_of h bytes))) salvaged) start.0 is.left in
      let left : GivesSalvaged program (pieces_counted harts header) (mode_of header) messages salvaged =
      subst (λ n. GivesSalvaged program n (mode_of header) messages salvaged) counted
      (subst (λ ms. GivesSalvaged program (harts_counted asked header bytes) (mode_of header) ms salvaged)
      (ap (selected every_hart) reads.frames ∙ all_selected messages whole.ranges) of_header) in
      let count : length salvaged.harts.items ≡ length pieces = left.left.count ∙ sym gives.count in
      let both = left.collected pieces gives in
      let ends = end_alike pieces salvaged.harts.items count both.each in
      record {
        count = count;
        collected = both;
        ended = ended start.1 (ap (λ h. list_any is_run (spans_of h bytes)) start.0 ∙ reads.no_bytes) both ends;
      }
    where
      ended : why ≡ None → list_any is_run (spans_of found bytes) ≡ false → AreCollectedToo pieces salvaged
          → EndAlike pieces salvaged.harts.items
          → end_of_salvage why (list_any is_run (spans_of found bytes)) salvaged ≡ end_of_pieces pieces
      ended no_fault no_bytes both ends =
          ap (λ w. end_of_salvage w (list_any is_run (spans_of found bytes)) salvaged) no_fault
          ∙ ap (λ b. end_of_salvage None b salvaged) no_bytes
          ∙ ap (λ b. end_with_gaps b (end_of_harts 0 (closed_harts salvaged.harts.items))) (damage both ends)
          ∙ ap (λ l. end_with_gaps (have_gaps (parts_of pieces)) (end_of_harts 0 l)) ends.closed
        where
          or_false : (b : Bool) → ((b || false) || false) ≡ b
          or_false true = refl
          or_false false = refl

          damage : AreCollectedToo pieces salvaged → EndAlike pieces salvaged.harts.items
              → (is_damaged salvaged.harts.items salvaged.strangers || false) ≡ have_gaps (parts_of pieces)
          damage both ends =
              ap (λ n. (list_any has_loss salvaged.harts.items || not (n == 0)) || false) both.strangers
              ∙ or_false (list_any has_loss salvaged.harts.items) ∙ ends.losses
