-- An undamaged capture is listed alike with what salvaging does and without it.
use Rattle.std.proofs.Common.{◌≡◌, ◌++◌, ◌+◌, ℕ, All, Bool, true, false, List, [], ◌∷◌, Option, Some, None, codes, drop}
use Rattle.std.proofs.Common.{drop_at, length, map, refl, sym, ap, subst, ◌∙◌}
use Rattle.std.specs.List.{last_or, zip}
use Rattle.std.proofs.lemmas.List.{append-nil}
use Rattle.rvclass.specs.Words.{Words, IsProgram}
use Rattle.payload.specs.ClosedTrace.{last_is_closing}
use Rattle.payload.specs.Reading.{reading}
use Rattle.payload.specs.declared.mode.Mode.{Mode}
use Rattle.payload.specs.declared.packet.Packet.{Packet}
use Rattle.frames.proofs.ScatteredLemmas.{written}
use Rattle.frames.specs.Frame.{IsFrame}
use Rattle.frames.specs.Spans.{spans_from}
use Rattle.frames.specs.declared.span.Span.{Span}
use Rattle.frames.specs.Written.{frames_from}
use Rattle.message.proofs.HartMessages.{last_is_closing-next, packets_of-next}
use Rattle.message.specs.Accepted.{AreAccepted, expected_after, newcomers}
use Rattle.message.specs.Capture.{capture, message_bytes}
use Rattle.message.proofs.Selecting.{all_selected}
use Rattle.message.specs.Header.{header_bytes}
use Rattle.message.specs.OfHart.{packets_of}
use Rattle.message.specs.Range.{every_hart, selected}
use Rattle.message.specs.declared.header.Header.{Header}
use Rattle.message.specs.declared.message.Message.{Message}
use Rattle.captures.proofs.WholeCaptures.{whole_only}
use Rattle.captures.specs.Whole.{BeginsWith, IsWhole}
use Rattle.frames.specs.Harts.{harts_counted}
use Rattle.frames.specs.Search.{mode_of, start_line}
use Rattle.frames.specs.Start.{first_place, known_harts, spans_of}
use Rattle.listing.specs.Effect.{Effect, HasEffect, HaveEffects, does_wait, last_is_waiting}
use Rattle.listing.specs.EffectText.{effect_text}
use Rattle.listing.proofs.PlacedMessages.{all_placed}
use Rattle.listing.specs.Entries.{placed_entries}
use Rattle.listing.specs.Lines.{effect_line, message_text}
use Rattle.listing.specs.Listing.{AreMessagesListed, NoHeader, Version1, Version2, naming_mode}
use Rattle.listing.specs.Placed.{placed, placed_of}
use Rattle.listing.specs.declared.form.Form.TheVariants.{Lines}
use Rattle.listing.specs.PacketEnding.{read_closes, read_waits}
use Rattle.salvaging.specs.Treatments.{AreTreated}
use Rattle.salvaging.specs.declared.treatment.Treated.{Treated}
use Rattle.salvage_reports.specs.HartRows.{in_form, in_rows}
use Rattle.salvage_reports.specs.Lines.{treated_line}
use Rattle.salvage_reports.specs.TreatedText.{spans_text, treated_text}
use Rattle.salvage_reports.specs.ListedAlike.{CapturesAreListedAlike, taken_with}
use Rattle.salvage_reports.specs.declared.hart_rows.TreatedInRows.{TreatedInRows}
use Rattle.salvage_reports.proofs.AcceptedInTurn.{IsNext, accepted_next, accepted_rest, is_next}
use Rattle.salvage_reports.proofs.AcceptedTaken.{accepted_taken}
use Rattle.salvage_reports.proofs.TakenMessages.{taken_have_their_effect}

-- The last of packets with one more is that one.
last_more : (before : Option Packet) (packets : List Packet) (packet : Packet)
    → last_or before (packets ++ packet ∷ []) ≡ Some packet
last_more before [] packet = refl
last_more before (first ∷ packets) packet = last_more (Some first) packets packet

-- The lines of all of these spans.
abbrev lines_of : Option (List ℕ) → Mode → ℕ → List Span → List TreatedInRows → List ℕ
lines_of symbols named at spans treated = spans_text (Lines false) (λ span. true) symbols named at spans treated

module _ (symbols : Option (List ℕ)) (named : Mode) (words : Words) (harts : ℕ) where
  -- The line of a message that is taken with its effect is the one that a listing has, whichever rows it settles.
  line_alike : (offset rows : ℕ) (front : List Message) (message : Message) (effect : Effect)
      → IsNext harts front message → HasEffect words front message effect
      → treated_line false symbols named offset message (record { treated = taken_with effect; rows = rows })
      ≡ effect_line false symbols named offset message effect
  line_alike offset rows front message effect next has =
      let packets = packets_of message.hart front in
      let more = packets_of-next front message next.packet next.read in
      let waits_too : read_waits (reading message.payload) ≡ effect.waits =
      ap read_waits next.read ∙ sym (has.waiting ∙ ap last_is_waiting more ∙ ap does_wait (last_more None packets
      next.packet)) in
      let closes_too : read_closes (reading message.payload) ≡ effect.closes =
      ap read_closes next.read ∙ sym (has.closing ∙ ap last_is_closing more ∙ last_is_closing-next packets next.packet)
      in
      let text = taken_have_their_effect false symbols (reading message.payload) effect.rows effect.added
      ∙ ap (λ w. effect_text false symbols (record {
        added = effect.added;
        rows = effect.rows;
        waits = w;
        closes = read_closes (reading message.payload);
      })) waits_too
      ∙ ap (λ c. effect_text false symbols (record {
        added = effect.added;
        rows = effect.rows;
        waits = effect.waits;
        closes = c;
      })) closes_too in
      ap (λ l. message_text named offset message ++ (codes " => " ++ (l ++ codes "\n"))) text

  lines_alike : (every : List (Message × Treated)) (at offset : ℕ) (front messages : List Message)
      (effects : List Effect) → AreAccepted (newcomers harts) front → AreAccepted (expected_after (newcomers harts) front) messages
      → HaveEffects words front messages effects
      → lines_of symbols named at (frames_from offset messages)
      (map (in_form (Lines false) every) (zip messages (map taken_with effects)))
      ≡ placed_entries (Lines false) symbols named (placed at offset messages) effects
  lines_alike every at offset front [] effects before all have = refl
  lines_alike every at offset front (message ∷ messages) [] before all have = absurd have
  lines_alike every at offset front (message ∷ messages) (effect ∷ effects) before all have =
      let here = offset + length (message_bytes message) in
      let own = in_form (Lines false) every (message, taken_with effect) in
      let rest = map (in_form (Lines false) every) (zip messages (map taken_with effects)) in
      let later = lines_alike every (at + 1) here (front ++ message ∷ []) messages effects
      (accepted_next harts front before message all.0) (accepted_rest harts front message messages all) have.1 in
      ap (λ l. l ++ lines_of symbols named (at + 1) (frames_from here messages) rest)
      (line_alike offset own.rows front message effect (is_next harts front before message all.0) have.0)
      ∙ ap (λ l. effect_line false symbols named offset message effect ++ l) later

-- After its header a capture is the bytes of its messages.
pub after_header : (bytes : List ℕ) (header : Option Header) (messages : List Message)
    → BeginsWith header bytes (capture messages) → drop (first_place header) bytes ≡ capture messages
after_header bytes None messages begins = begins.1
after_header bytes (Some header) messages begins =
    ap (drop (length (header_bytes header))) begins.1
    ∙ drop_at (header_bytes header) (capture messages) (length (header_bytes header)) refl

-- So its frames are its messages, one after the other.
pub spans_are : (bytes : List ℕ) (header : Option Header) (messages : List Message)
    → BeginsWith header bytes (capture messages) → All (IsFrame (known_harts header)) messages
    → spans_of header bytes ≡ frames_from (first_place header) messages
spans_are bytes header messages begins frames =
    ap (spans_from (known_harts header) (first_place header)) (after_header bytes header messages begins)
    ∙ written (known_harts header) (first_place header) messages frames

module _ (words : Words) (mode : Mode) (symbols : Option (List ℕ)) (bytes : List ℕ)
    (messages : List Message) (treated : List Treated) (program : IsProgram words) where
  -- What is listed of messages of all harts.
  abbrev Listed : ℕ → Option Mode → ℕ → List ℕ → List ℕ → List Bool → Type 0
  Listed harts announced offset rest text closed =
      AreMessagesListed words (Lines false) every_hart harts announced symbols offset rest closed None text

  -- The text of what is listed up to the end of the bytes.
  whole_lines : (harts : ℕ) (announced : Option Mode) (offset : ℕ) (rest text : List ℕ) (closed : List Bool)
      → (listed : Listed harts announced offset rest text closed)
      → listed.messages ≡ messages → AreTreated words mode harts messages treated
      → lines_of symbols (naming_mode announced) 0 (frames_from offset messages) (in_rows (Lines false) messages treated) ≡ text
  whole_lines harts announced offset rest text closed listed same are =
      let effects = listed.effects in
      let all : selected every_hart listed.messages ≡ messages =
      all_selected listed.messages listed.ranges ∙ same in
      let accepted = subst (AreAccepted (newcomers harts)) all listed.accepted in
      let have = subst (λ ms. HaveEffects words [] ms effects) all listed.have in
      let taken = accepted_taken words mode harts messages effects treated program accepted have are in
      let named = naming_mode announced in
      let lines = placed_entries (Lines false) symbols named (placed_of every_hart 0 offset listed.messages) effects in
      ap (λ done. lines_of symbols named 0 (frames_from offset messages) (in_rows (Lines false) messages done)) taken
      ∙ lines_alike symbols named words harts (zip messages (map taken_with effects)) 0 offset [] messages effects tt accepted have
      ∙ ap (λ ms. placed_entries (Lines false) symbols named (placed 0 offset ms) effects) (sym same)
      ∙ ap (λ shown. placed_entries (Lines false) symbols named shown effects)
      (sym (all_placed 0 offset listed.messages listed.ranges))
      ∙ sym (append-nil lines)
      ∙ ap (λ l. lines ++ l) (sym listed.last_entry)
      ∙ sym listed.entries

  -- The messages that are listed up to the end of the bytes are all.
  all_listed : (harts : ℕ) (announced : Option Mode) (offset : ℕ) (rest text : List ℕ) (closed : List Bool)
      (found header : Option Header)
      → (listed : Listed harts announced offset rest text closed)
      → BeginsWith found bytes rest → IsWhole bytes header messages
      → (found ≡ header) × (listed.messages ≡ messages)
  all_listed harts announced offset rest text closed found header listed begins whole =
      let end : rest ≡ capture listed.messages =
      listed.whole ∙ ap (λ l. capture listed.messages ++ l) listed.stops ∙ append-nil (capture listed.messages) in
      whole_only bytes found header listed.messages messages
      (record { ranges = listed.ranges; whole = subst (BeginsWith found bytes) end begins }) whole

module _ (words : Words) (mode : Mode) (harts : ℕ) (symbols : Option (List ℕ)) (bytes text : List ℕ)
    (closed : List Bool) (messages : List Message) (treated : List Treated) (program : IsProgram words) where
  -- Where it is said of the header that the listing finds.
  abbrev AlikeWith : Option Header → Type 0
  AlikeWith header =
      IsWhole bytes header messages → All (IsFrame (known_harts header)) messages
      → AreTreated words mode (harts_counted (Some harts) header bytes) messages treated
      → treated_text (Lines false) symbols header (spans_of header bytes) (in_rows (Lines false) messages treated) ≡ text

  alike_with : (announced : Option Mode) (rest lines : List ℕ) (found header : Option Header)
      → (listed : AreMessagesListed words (Lines false) every_hart (harts_counted (Some harts) found bytes) announced symbols
      (first_place found) rest closed None lines)
      → naming_mode announced ≡ mode_of found → BeginsWith found bytes rest → text ≡ start_line found ++ lines
      → AlikeWith header
  alike_with announced rest lines found header listed named begins text_is whole frames are =
      let both = all_listed words mode symbols bytes messages treated program (harts_counted (Some harts) found bytes)
      announced (first_place found) rest lines closed found header listed begins whole in
      subst AlikeWith both.0 (λ whole frames are.
      ap (λ (m : Mode). start_line found ++ lines_of symbols m 0 (spans_of found bytes) (in_rows (Lines false) messages treated))
      (sym named)
      ∙ ap (λ spans. start_line found ++ lines_of symbols (naming_mode announced) 0 spans (in_rows (Lines false) messages treated))
      (spans_are bytes found messages whole.whole frames)
      ∙ ap (λ l. start_line found ++ l) (whole_lines words mode symbols bytes messages treated program
      (harts_counted (Some harts) found bytes) announced (first_place found) rest lines closed listed both.1 are)
      ∙ sym text_is) whole frames are

pub listed_alike : CapturesAreListedAlike
listed_alike words mode harts symbols bytes text closed header messages treated program
    (Version1 lines unmarked listed text_is) =
    alike_with words mode harts symbols bytes text closed messages treated program None bytes lines None header listed
    refl (unmarked, refl) text_is
listed_alike words mode harts symbols bytes text closed header messages treated program
    (Version2 found rest lines is begins listed text_is) =
    alike_with words mode harts symbols bytes text closed messages treated program (Some found.mode) rest lines
    (Some found) header listed refl (is, begins) text_is
listed_alike words mode harts symbols bytes text closed header messages treated program
    (NoHeader why begins stop none empty) =
    absurd (never stop)
  where
    never : {X : Type 0} {x : X} → None ≡ Some x → ⊥
    never is = cc
