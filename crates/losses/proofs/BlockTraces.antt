-- The trace that the packets of a block make up describes the block's stretch.
use Rattle.std.proofs.Common.{◌≡◌, ℕ, zero, suc, List, [], ◌∷◌, ◌++◌, drop, take, Option, None, refl, sym, subst}
use Rattle.std.proofs.lemmas.List.{take-append-drop}
use Rattle.std.specs.List.{last_or}
use Rattle.retire.specs.declared.event.Event.{Event}
use Rattle.rvclass.specs.Words.{Words, IsProgram}
use Rattle.legalpath.specs.Legal.{Legal}
use Rattle.payload.specs.declared.mode.Mode.{Mode}
use Rattle.payload.specs.declared.packet.Packet.{Packet}
use Rattle.payload.specs.declared.packet.Packet.TheVariants as packet
use Rattle.payload.specs.declared.packet.Support.TheVariants as support
use Rattle.encoder.specs.Packets.{packets}
use Rattle.decoder.specs.Describes.{Describes}
use Rattle.decoder.specs.Order.{IsOpen}
use Rattle.decoder.specs.Pieces.{Pieces, reported_after}
use Rattle.roundtrip.proofs.FirstPackets.{packets_have_stretches}
use Rattle.roundtrip.specs.Reach.{stretches}
use Rattle.losses.specs.Parts.{stretch_of, stretch_of_block}
use Rattle.losses.specs.Runs.{from_sync, opened, trace_after}
use Rattle.losses.proofs.BlockDescribed.{Rest, open_described, rest_behind, rest_drop, rest_of_log, sync_described}
use Rattle.losses.proofs.BlockLemmas.{block_of}
use Rattle.losses.proofs.RunLemmas.{describes_nothing}
use Rattle.losses.proofs.TraceLemmas.{none_opens_behind}

-- No packet of these opens a trace.
abbrev pub NoneOpens : List Packet → Type 0
NoneOpens [] = Unit {0}
NoneOpens (p ∷ ps) = (¬ IsOpen p) × NoneOpens ps

none_opens-drop : (count : ℕ) (ps : List Packet) → NoneOpens ps → NoneOpens (drop count ps)
none_opens-drop zero ps none = none
none_opens-drop (suc count) [] none = tt
none_opens-drop (suc count) (p ∷ ps) none = none_opens-drop count ps none.1

none_opens-take : (count : ℕ) (ps : List Packet) → NoneOpens ps → NoneOpens (take count ps)
none_opens-take zero ps none = tt
none_opens-take (suc count) [] none = tt
none_opens-take (suc count) (p ∷ ps) none = (none.0, none_opens-take count ps none.1)

-- Behind a first packet none opens the trace.
none_opens : (words : Words) (mode : Mode) (before : Option Event) (reported : ℕ) (p : Packet) (ps : List Packet)
    (pieces : List (List Event)) → Pieces words mode before reported (p ∷ ps) None pieces → NoneOpens ps
none_opens words mode before reported p [] pieces each = tt
none_opens words mode before reported p (q ∷ ps) [] each = absurd each
none_opens words mode before reported p (q ∷ ps) (piece ∷ pieces) each = (
  none_opens_behind words mode before reported p (q ∷ ps) (piece ∷ pieces) each 0 q ps refl,
  none_opens words mode (last_or before piece) (reported_after p reported piece) q ps pieces each.2,
)

behind_first : (words : Words) (mode : Mode) (ps : List Packet) (pieces : List (List Event))
    → Pieces words mode None 0 ps None pieces → NoneOpens (drop 1 ps)
behind_first words mode [] pieces each = tt
behind_first words mode (p ∷ ps) pieces each = none_opens words mode None 0 p ps pieces each

-- Where none of some packets opens a trace, a stretch begins at a synchronisation alone.
stretch_behind : (words : Words) (mode : Mode) (ps more : List Packet) (pieces : List (List Event))
    → Rest words mode (ps ++ more) pieces → NoneOpens ps
    → Describes words (opened mode (from_sync ps)) (stretch_of ps pieces)
stretch_behind words mode [] more pieces r none = describes_nothing words
stretch_behind words mode (p ∷ ps) more [] r none = absurd r.each
stretch_behind words mode (packet.Sync taken priv address ∷ ps) more (piece ∷ pieces) r none =
    sync_described words mode taken priv address ps more piece pieces r
stretch_behind words mode (packet.Trap taken priv cause interrupt handler address tval ∷ ps) more (piece ∷ pieces) r
    none =
    stretch_behind words mode ps more pieces (rest_behind words mode _ (ps ++ more) piece pieces r) none.1
stretch_behind words mode (packet.Support (support.Open announced) ∷ ps) more (piece ∷ pieces) r none =
    absurd (none.0 tt)
stretch_behind words mode (packet.Support support.EndedRep ∷ ps) more (piece ∷ pieces) r none =
    stretch_behind words mode ps more pieces (rest_behind words mode _ (ps ++ more) piece pieces r) none.1
stretch_behind words mode (packet.Support support.EndedNtr ∷ ps) more (piece ∷ pieces) r none =
    stretch_behind words mode ps more pieces (rest_behind words mode _ (ps ++ more) piece pieces r) none.1
stretch_behind words mode (packet.Address taken delta report ∷ ps) more (piece ∷ pieces) r none =
    stretch_behind words mode ps more pieces (rest_behind words mode _ (ps ++ more) piece pieces r) none.1
stretch_behind words mode (packet.Map taken ∷ ps) more (piece ∷ pieces) r none =
    stretch_behind words mode ps more pieces (rest_behind words mode _ (ps ++ more) piece pieces r) none.1

module _ (words : Words) (program : IsProgram words) (period : ℕ) (mode : Mode) (log : List Event)
    (legal : Legal words log) where
  abbrev pub packets_of_log : List Packet
  packets_of_log = packets words period mode log

  abbrev pub events_of_block : ℕ → ℕ → List Event
  events_of_block first count =
      stretch_of_block packets_of_log (stretches words period log) (block_of 0 first count)

  abbrev stretches_of_log : List (List Event)
  stretches_of_log = stretches words period log

  abbrev behind : List Packet
  behind = drop 1 packets_of_log

  rest : Rest words mode packets_of_log stretches_of_log
  rest = rest_of_log words program period mode log legal

  -- The first packets of a log.
  from_zero : (count : ℕ) → Describes words (take count packets_of_log) (events_of_block 0 count)
  from_zero zero = describes_nothing words
  from_zero (suc count) = by_pieces stretches_of_log rest
    where
      by_pieces : (pieces : List (List Event)) → Rest words mode packets_of_log pieces
          → Describes words (take (suc count) packets_of_log) (stretch_of (take (suc count) packets_of_log) pieces)
      by_pieces [] r = absurd r.each
      by_pieces (piece ∷ pieces) r =
          open_described words mode mode (take count behind) (drop count behind) piece pieces
          (subst (λ l. Rest words mode (packet.Support (support.Open mode) ∷ l) (piece ∷ pieces))
          (sym (take-append-drop count behind)) r)

  -- Packets behind the first.
  from_later : (first count : ℕ)
      → Describes words (opened mode (from_sync (take count (drop (suc first) packets_of_log))))
      (events_of_block (suc first) count)
  from_later first count =
      let all = drop (suc first) packets_of_log in
      let pieces = drop (suc first) stretches_of_log in
      let none : NoneOpens behind = behind_first words mode packets_of_log stretches_of_log
      (packets_have_stretches words program period mode log legal) in
      stretch_behind words mode (take count all) (drop count all) pieces
      (subst (λ l. Rest words mode l pieces) (sym (take-append-drop count all))
      (rest_drop words mode (suc first) packets_of_log stretches_of_log rest))
      (none_opens-take count all (none_opens-drop first behind none))

  -- The packets of a block, before which numbers are missing exactly where it does not begin at 0.
  pub block_trace : (missing first count : ℕ) → (missing ≡ 0 → first ≡ 0) → (first ≡ 0 → missing ≡ 0)
      → Describes words (trace_after missing mode (take count (drop first packets_of_log)))
      (events_of_block first count)
  block_trace zero first count at missed =
      subst (λ f. Describes words (take count (drop f packets_of_log)) (events_of_block f count)) (sym (at refl))
      (from_zero count)
  block_trace (suc missing) zero count at missed = let none = missed refl in cc
  block_trace (suc missing) (suc first) count at missed = from_later first count
