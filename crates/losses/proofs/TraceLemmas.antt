-- One packet more of a block.
use Rattle.std.proofs.Common.{◌≡◌, ℕ, zero, suc, ◌+◌, false, List, [], ◌∷◌, ◌++◌, drop, take, Option, Some}
use Rattle.std.proofs.Common.{None, ap, subst, ◌∙◌, arith}
use Rattle.retire.specs.declared.event.Event.{Event}
use Rattle.rvclass.specs.Words.{Words}
use Rattle.payload.specs.declared.mode.Mode.{Mode}
use Rattle.payload.specs.declared.packet.Packet.{Packet}
use Rattle.payload.specs.declared.packet.Packet.TheVariants as packet
use Rattle.payload.specs.declared.packet.Support.TheVariants as support
use Rattle.payload.specs.Closing.{is_closing_packet}
use Rattle.std.specs.List.{last_or}
use Rattle.decoder.specs.Order.{IsOpen, MayPrecede}
use Rattle.decoder.specs.Pieces.{Pieces, reported_after}
use Rattle.losses.proofs.BlockDescribed.{Rest}

-- One item more is taken.
take_one_more-suc : {X : Type 0} (count : ℕ) (xs : List X) (x : X) (later : List X) → drop count xs ≡ x ∷ later
    → take (suc count) xs ≡ take count xs ++ x ∷ []
take_one_more-suc zero [] x later is = cc
take_one_more-suc zero (y ∷ xs) x later is = let same : y ≡ x = cc in ap (λ z. z ∷ []) same
take_one_more-suc (suc count) [] x later is = cc
take_one_more-suc (suc count) (y ∷ xs) x later is = ap (λ l. y ∷ l) (take_one_more-suc count xs x later is)

pub take_one_more : {X : Type 0} (count : ℕ) (xs : List X) (x : X) (later : List X) → drop count xs ≡ x ∷ later
    → take (count + 1) xs ≡ take count xs ++ x ∷ []
take_one_more count xs x later is =
    let next : count + 1 ≡ suc count = omega arith in
    ap (λ n. take n xs) next ∙ take_one_more-suc count xs x later is

-- And what is left is the rest.
drop_one_more-suc : {X : Type 0} (count : ℕ) (xs : List X) (x : X) (later : List X) → drop count xs ≡ x ∷ later
    → drop (suc count) xs ≡ later
drop_one_more-suc zero [] x later is = cc
drop_one_more-suc zero (y ∷ xs) x later is = cc
drop_one_more-suc (suc count) [] x later is = cc
drop_one_more-suc (suc count) (y ∷ xs) x later is = drop_one_more-suc count xs x later is

pub drop_one_more : {X : Type 0} (count : ℕ) (xs : List X) (x : X) (later : List X) → drop count xs ≡ x ∷ later
    → drop (count + 1) xs ≡ later
drop_one_more count xs x later is =
    let next : count + 1 ≡ suc count = omega arith in
    ap (λ n. drop n xs) next ∙ drop_one_more-suc count xs x later is

-- A packet before another closes nothing.
pub before_another : (words : Words) (mode : Mode) (p q : Packet) (ps : List Packet) (pieces : List (List Event))
    → Rest words mode (p ∷ q ∷ ps) pieces → is_closing_packet p ≡ false
before_another words mode p q ps [] r = absurd r.each
before_another words mode p q ps (piece ∷ pieces) r = r.each.0.0

open_behind : (p q : Packet) → MayPrecede p (Some q) → ¬ IsOpen q
open_behind p (packet.Sync taken priv address) may = λ is. is
open_behind p (packet.Trap taken priv cause interrupt handler address tval) may = λ is. is
open_behind p (packet.Support (support.Open mode)) may = λ is. may.1
open_behind p (packet.Support support.EndedRep) may = λ is. is
open_behind p (packet.Support support.EndedNtr) may = λ is. is
open_behind p (packet.Address taken delta report) may = λ is. is
open_behind p (packet.Map taken) may = λ is. is

-- No packet but the first opens the trace.
pub none_opens_behind : (words : Words) (mode : Mode) (before : Option Event) (reported : ℕ) (p : Packet)
    (ps : List Packet) (pieces : List (List Event)) → Pieces words mode before reported (p ∷ ps) None pieces
    → (count : ℕ) (q : Packet) (later : List Packet) → drop count ps ≡ q ∷ later → ¬ IsOpen q
none_opens_behind words mode before reported p ps [] each count q later is = absurd each
none_opens_behind words mode before reported p [] (piece ∷ pieces) each zero q later is = cc
none_opens_behind words mode before reported p [] (piece ∷ pieces) each (suc count) q later is = cc
none_opens_behind words mode before reported p (next ∷ ps) (piece ∷ pieces) each zero q later is =
    let same : next ≡ q = cc in subst (λ n. ¬ IsOpen n) same (open_behind p next each.0)
none_opens_behind words mode before reported p (next ∷ ps) (piece ∷ pieces) each (suc count) q later is =
    none_opens_behind words mode (last_or before piece) (reported_after p reported piece) next ps pieces each.2 count q
    later is
