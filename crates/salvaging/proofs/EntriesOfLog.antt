-- The entries of a legal log's messages, and the parts that they leave.
use Rattle.std.proofs.Common.{◌≡◌, ℕ, zero, suc, ◌+◌, true, List, [], ◌∷◌, ◌++◌, drop}
use Rattle.std.proofs.Common.{length, refl, ap, subst, arith}
use Rattle.std.specs.Prelude.{Ok}
use Rattle.retire.specs.declared.event.Event.{Event}
use Rattle.rvclass.specs.Words.{Words, IsProgram}
use Rattle.legalpath.specs.Legal.{Legal}
use Rattle.payload.specs.Closing.{is_closing_packet}
use Rattle.payload.specs.Reading.{reading}
use Rattle.payload.specs.declared.mode.Mode.{Mode}
use Rattle.payload.specs.declared.packet.Packet.{Packet}
use Rattle.roundtrip.specs.Reach.{stretches}
use Rattle.losses.specs.Parts.{LogPart}
use Rattle.losses.specs.Parts.{Missing as LogMissing, Events as LogEvents, gap as log_gap, stretch as log_stretch}
use Rattle.losses.proofs.BlockDescribed.{Rest, rest_drop, rest_of_log}
use Rattle.losses.proofs.TraceLemmas.{before_another}
use Rattle.salvaging.specs.Entries.{Entry, Used, Doubtful}
use Rattle.salvaging.specs.LeftParts.{LeftPart, Missing, Events, BadNumber, DoubtfulNumber, AloneNumber, gap, stretch}
use Rattle.salvaging.specs.LogsSalvaged.{AreLogParts}
use Rattle.losses.proofs.RunsOfLog.{ps}

-- A payload that came with a number unpacks to the packet with this number.
pub record HasPacketOf (packets : List Packet) (number : ℕ) (payload : List ℕ) : Type 0 where
  pub packet : Packet
  pub later : List Packet
  pub here : drop number packets ≡ packet ∷ later
  pub read : reading payload ≡ Ok packet

-- The entries are used, and each has the packet of its number.
abbrev pub AreOfPackets : List Packet → List Entry → Type 0
AreOfPackets packets [] = Unit {0}
AreOfPackets packets (Used number place payload ∷ entries) =
    HasPacketOf packets number payload × AreOfPackets packets entries
AreOfPackets packets (Doubtful number one other ∷ entries) = ⊥

-- Parts behind one another are those of a log behind one another.
pub parts_append : (left more : List LeftPart) (parts others : List LogPart) → AreLogParts left parts
    → AreLogParts more others → AreLogParts (left ++ more) (parts ++ others)
parts_append [] more [] others are further = further
parts_append [] more (part ∷ parts) others are further = absurd are
parts_append (Missing count ∷ left) more [] others are further = absurd are
parts_append (Missing count ∷ left) more (LogMissing missing ∷ parts) others are further =
    (are.0, parts_append left more parts others are.1 further)
parts_append (Missing count ∷ left) more (LogEvents events ∷ parts) others are further = absurd are
parts_append (Events first last events ∷ left) more [] others are further = absurd are
parts_append (Events first last events ∷ left) more (LogMissing missing ∷ parts) others are further = absurd are
parts_append (Events first last events ∷ left) more (LogEvents stretch ∷ parts) others are further =
    (are.0, parts_append left more parts others are.1 further)
parts_append (BadNumber first last why ∷ left) more [] others are further = absurd are
parts_append (BadNumber first last why ∷ left) more (part ∷ parts) others are further = absurd are
parts_append (DoubtfulNumber number one other ∷ left) more [] others are further = absurd are
parts_append (DoubtfulNumber number one other ∷ left) more (part ∷ parts) others are further = absurd are
parts_append (AloneNumber number place ∷ left) more [] others are further = absurd are
parts_append (AloneNumber number place ∷ left) more (part ∷ parts) others are further = absurd are

pub parts_gap : (missing : ℕ) → AreLogParts (gap missing) (log_gap missing)
parts_gap zero = tt
parts_gap (suc missing) = (refl, tt)

pub parts_stretch : (next count : ℕ) (events : List Event) → AreLogParts (stretch next count events) (log_stretch
    events)
parts_stretch next count [] = tt
parts_stretch next count (event ∷ events) = (refl, tt)

-- A payload is read as one packet.
pub same_packet : (payload : List ℕ) (p q : Packet) → reading payload ≡ Ok p → reading payload ≡ Ok q → p ≡ q
same_packet payload p q one other = cc

-- The last item of a list stands at its end.
pub at_end : {X : Type 0} (count : ℕ) (xs : List X) (x : X) → drop count xs ≡ x ∷ [] → length xs ≡ count + 1
at_end zero [] x is = cc
at_end zero (y ∷ xs) x is = let none : xs ≡ [] = cc in ap (λ l. length (y ∷ l)) none
at_end (suc count) [] x is = cc
at_end (suc count) (y ∷ xs) x is = let rest = at_end count xs x is in omega (arith, rest)

module _ (words : Words) (program : IsProgram words) (period : ℕ) (mode : Mode) (log : List Event)
    (legal : Legal words log) where
  abbrev all : List Packet
  all = ps words program period mode log legal

  -- The packet that closes the log is its last one.
  pub closing_is_last : (number : ℕ) (p : Packet) (later : List Packet) → drop number all ≡ p ∷ later
      → is_closing_packet p ≡ true → length all ≡ number + 1
  closing_is_last number p later here closes = by_later later here
    where
      by_later : (later : List Packet) → drop number all ≡ p ∷ later → length all ≡ number + 1
      by_later [] here = at_end number all p here
      by_later (q ∷ behind) here =
          let rest = rest_drop words mode number all (stretches words period log)
          (rest_of_log words program period mode log legal) in
          let goes_on = before_another words mode p q behind (drop number (stretches words period log))
          (subst (λ l. Rest words mode l (drop number (stretches words period log))) here rest) in
          cc
