-- Runs of packets, and one packet more.
use Rattle.std.proofs.Common.{◌≡◌, ℕ, zero, suc, ◌+◌, ◌-◌, true, false, List, [], ◌∷◌, ◌++◌, drop, length, None, refl, sym, ap}
use Rattle.std.proofs.Common.{◌∙◌, append_assoc}
use Rattle.std.proofs.lemmas.List.{append-nil}
use Rattle.retire.specs.declared.event.Event.{Event}
use Rattle.rvclass.specs.Words.{Words}
use Rattle.legalpath.specs.Join.{join}
use Rattle.payload.specs.Closing.{is_closing_packet}
use Rattle.payload.specs.Reading.{reading}
use Rattle.payload.specs.declared.mode.Mode.{Mode}
use Rattle.payload.specs.declared.packet.Packet.{Packet}
use Rattle.payload.specs.declared.packet.Packet.TheVariants as packet
use Rattle.payload.specs.declared.packet.Support.TheVariants as support
use Rattle.decoder.specs.Describes.{Describes}
use Rattle.decoder.specs.ModeOf.{mode_of}
use Rattle.decoder.specs.Order.{IsOpen}
use Rattle.decoder.specs.Pieces.{Pieces}
use Rattle.decoder.specs.Resuming.{IsSync}
use Rattle.message.specs.OfHart.{packet_or_none}
use Rattle.message.specs.declared.message.Message.{Message}
use Rattle.losses.specs.Parts.{LogPart, gap, stretch}
use Rattle.losses.specs.Runs.{Run, from_sync, longer, mode_in, mode_or, over_before, run_behind, run_of, runs_on}
use Rattle.losses.specs.Runs.{trace_of_run}
use Rattle.losses.specs.DescribedParts.{RunsDescribe}
use Rattle.losses.proofs.TraceLemmas.{none_opens_behind}

-- Behind a synchronisation comes one packet more.
pub from_sync-begun : (ps : List Packet) (p q : Packet) (qs : List Packet) → from_sync ps ≡ q ∷ qs
    → from_sync (ps ++ p ∷ []) ≡ (q ∷ qs) ++ p ∷ []
from_sync-begun [] p q qs is = cc
from_sync-begun (packet.Sync taken priv address ∷ ps) p q qs is = ap (λ l. l ++ p ∷ []) is
from_sync-begun (packet.Trap taken priv cause interrupt handler address tval ∷ ps) p q qs is =
    from_sync-begun ps p q qs is
from_sync-begun (packet.Support support ∷ ps) p q qs is = from_sync-begun ps p q qs is
from_sync-begun (packet.Address taken delta report ∷ ps) p q qs is = from_sync-begun ps p q qs is
from_sync-begun (packet.Map taken ∷ ps) p q qs is = from_sync-begun ps p q qs is

-- Where none came, this packet may be the first.
pub from_sync-none : (ps : List Packet) (p : Packet) → from_sync ps ≡ []
    → from_sync (ps ++ p ∷ []) ≡ from_sync (p ∷ [])
from_sync-none [] p is = refl
from_sync-none (packet.Sync taken priv address ∷ ps) p is = cc
from_sync-none (packet.Trap taken priv cause interrupt handler address tval ∷ ps) p is = from_sync-none ps p is
from_sync-none (packet.Support support ∷ ps) p is = from_sync-none ps p is
from_sync-none (packet.Address taken delta report ∷ ps) p is = from_sync-none ps p is
from_sync-none (packet.Map taken ∷ ps) p is = from_sync-none ps p is

-- What a decoder does with a packet that it passes over, or begins a stretch with.
pub data Kind (p : Packet) : Type 0 where
  Syncs : from_sync (p ∷ []) ≡ p ∷ [] → IsSync p → ¬ IsOpen p → Kind p
  Closes : from_sync (p ∷ []) ≡ [] → is_closing_packet p ≡ true → ¬ IsOpen p → Kind p
  Passed : from_sync (p ∷ []) ≡ [] → is_closing_packet p ≡ false → ¬ IsSync p → Kind p

pub kind_of : (p : Packet) → Kind p
kind_of (packet.Sync taken priv address) = Syncs refl tt (λ is. is)
kind_of (packet.Trap taken priv cause interrupt handler address tval) = Passed refl refl (λ is. is)
kind_of (packet.Support (support.Open mode)) = Passed refl refl (λ is. is)
kind_of (packet.Support support.EndedRep) = Closes refl refl (λ is. is)
kind_of (packet.Support support.EndedNtr) = Closes refl refl (λ is. is)
kind_of (packet.Address taken delta report) = Passed refl refl (λ is. is)
kind_of (packet.Map taken) = Passed refl refl (λ is. is)

drop-front : (xs ys : List Packet) → drop (length xs) (xs ++ ys) ≡ ys
drop-front [] ys = refl
drop-front (x ∷ xs) ys = drop-front xs ys

-- The last of several packets that describe a log opens no trace.
pub open_last : (words : Words) (q : Packet) (qs : List Packet) (p : Packet) (events : List Event)
    → Describes words ((q ∷ qs) ++ p ∷ []) events → ¬ IsOpen p
open_last words q qs p events d =
    none_opens_behind words (mode_of ((q ∷ qs) ++ p ∷ [])) None 0 q (qs ++ p ∷ []) d.pieces d.each (length qs) p []
    (drop-front qs (p ∷ []))

-- No packets describe no event.
pub describes_nothing : (words : Words) → Describes words [] []
describes_nothing words = record { begins = tt; pieces = []; whole = refl; legal = tt; each = tt }

pub describes_none : (words : Words) (events : List Event) → Describes words [] events → events ≡ []
describes_none words events d = by_pieces d.pieces d.each d.whole
  where
    by_pieces : (pieces : List (List Event)) → Pieces words (mode_of []) None 0 [] None pieces → events ≡ join pieces
        → events ≡ []
    by_pieces [] each whole = whole
    by_pieces (piece ∷ pieces) each whole = absurd each

-- The first run alone announces the mode.
pub mode_later : (mode : Mode) (done : List Run) (missing : ℕ) (ps qs : List Packet)
    → mode_in mode (done ++ run_of (suc missing) ps ∷ []) ≡ mode_in mode (done ++ run_of (suc missing) qs ∷ [])
mode_later mode [] missing ps qs = refl
mode_later mode (run ∷ done) missing ps qs = refl

pub mode_behind : (mode : Mode) (done : List Run) (run next : Run)
    → mode_in mode ((done ++ run ∷ []) ++ next ∷ []) ≡ mode_in mode (done ++ run ∷ [])
mode_behind mode [] run next = refl
mode_behind mode (first ∷ done) run next = refl

-- The first run announces the mode.
pub mode_kept : (mode : Mode) (packet : Packet) (packets : List Packet) (next : ℕ) (messages : List Message)
    → mode_in mode (runs_on (run_of 0 (packet ∷ packets)) next messages) ≡ mode_or mode packet
mode_kept mode packet packets next [] = refl
mode_kept mode packet packets next (message ∷ messages) =
    by_missed (message.number - next) (mode_kept mode packet (packets ++ packet_or_none (reading message.payload))
    (message.number + 1) messages)
  where
    by_missed : (missed : ℕ)
        → mode_in mode (runs_on (run_of 0 (packet ∷ (packets ++ packet_or_none (reading message.payload))))
        (message.number + 1) messages) ≡ mode_or mode packet
        → mode_in mode (over_before missed (run_of 0 (packet ∷ packets))
        ++ runs_on (longer (run_behind missed (run_of 0 (packet ∷ packets)))
        (packet_or_none (reading message.payload))) (message.number + 1) messages) ≡ mode_or mode packet
    by_missed zero later = later
    by_missed (suc missed) later = refl

-- The parts of a run that is over stand behind those of the runs before it.
pub describe_push : (words : Words) (mode : Mode) (done : List Run) (run : Run) (front : List LogPart)
    (events : List Event)
    → RunsDescribe words mode done front → Describes words (trace_of_run mode run) events
    → RunsDescribe words mode (done ++ run ∷ []) ((front ++ gap run.missing) ++ stretch events)
describe_push words mode [] run front events none described = (
  events,
  [],
  ap (λ l. (l ++ gap run.missing) ++ stretch events) none
      ∙ ap (λ l. gap run.missing ++ l) (sym (append-nil (stretch events))),
  described,
  refl,
)
describe_push words mode (first ∷ done) run front events (own, rest, is, own_described, rest_described) described =
    let here = gap first.missing in
    let mine = stretch own in
    let missing = gap run.missing in
    let last = stretch events in (
      own,
      (rest ++ missing) ++ last,
      ap (λ l. (l ++ missing) ++ last) is
          ∙ ap (λ l. l ++ last) (append_assoc here (mine ++ rest) missing)
          ∙ append_assoc here ((mine ++ rest) ++ missing) last
          ∙ ap (λ l. here ++ l) (ap (λ l. l ++ last) (append_assoc mine rest missing)
          ∙ append_assoc mine (rest ++ missing) last),
      own_described,
      describe_push words mode done run rest events rest_described described,
    )
