-- What a demultiplexer expects after a message where messages before it may be lost.
use Rattle.std.proofs.Common.{◌≡◌, ℕ, Option, Some, None, Result, Ok, Err, refl, sym, ap, ◌∙◌, slice_get, slice_set}
use Rattle.std.proofs.Common.{OnErr, IfOk}
use Rattle.std.proofs.lemmas.List.{set-get_or}
use Rattle.std.proofs.lemmas.Option.{get_or_from_slice_get}
use Rattle.payload.specs.declared.packet.Packet.{Packet}
use Rattle.message.specs.Accepting.{next_of}
use Rattle.message.specs.Harts.{Harts}
use Rattle.message.specs.Lossy.{answer_lossy_of, accepting_lossy, harts_after_found_lossy, harts_after_lossy}
use Rattle.message.specs.Lossy.{state_by_lossy}
use Rattle.message.specs.declared.hart.Hart.{Hart}
use Rattle.message.specs.declared.message.Message.{Message}
use Rattle.message.specs.declared.fault.DemuxFault.{DemuxFault}
use Rattle.message.proofs.AnsweringLossy.{answer_lossy-taken}

-- A message that is taken moves its hart on to the number behind its own.
moved : (harts : Harts) (m : Message) (taken : Packet × ℕ) (o : Option Hart) → answer_lossy_of o m ≡ Ok taken
    → harts_after_found_lossy harts m o ≡ slice_set harts m.hart (next_of m.number taken.0)
moved harts m taken None e = absurd ((answer_lossy-taken None m taken.0 taken.1).0 e).0
moved harts m taken (Some h) e = ap (λ a. slice_set harts m.hart (state_by_lossy h m.number a)) e

-- A refusal changes nothing.
kept : (harts : Harts) (m : Message) (why : DemuxFault) (o : Option Hart) → slice_get harts m.hart ≡ o
    → answer_lossy_of o m ≡ Err why → harts_after_found_lossy harts m o ≡ harts
kept harts m why None is e = refl
kept harts m why (Some h) is e =
    let here = get_or_from_slice_get harts m.hart h h is in
    ap (λ s. slice_set harts m.hart (state_by_lossy h m.number s)) e ∙ ap (λ s. slice_set harts m.hart s) (sym here)
    ∙ set-get_or harts m.hart h

pub harts_after_lossy-ok : (harts : Harts) (m : Message) (r : Result (Packet × ℕ) DemuxFault)
    → r ≡ accepting_lossy harts m
    → IfOk r (λ taken. harts_after_lossy harts m ≡ slice_set harts m.hart (next_of m.number taken.0))
harts_after_lossy-ok harts m (Ok taken) e = moved harts m taken (slice_get harts m.hart) (sym e)
harts_after_lossy-ok harts m (Err why) e = tt

pub harts_after_lossy-err : (harts : Harts) (m : Message) (r : Result (Packet × ℕ) DemuxFault)
    → r ≡ accepting_lossy harts m → OnErr r (harts_after_lossy harts m ≡ harts)
harts_after_lossy-err harts m (Ok taken) e = tt
harts_after_lossy-err harts m (Err why) e = kept harts m why (slice_get harts m.hart) refl (sym e)
