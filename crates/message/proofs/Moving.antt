-- What a demultiplexer expects after a message.
use Rattle.std.proofs.Common.{◌≡◌, Option, Some, None, Result, Ok, Err, refl, sym, ap, ◌∙◌, slice_get, slice_set, OnErr}
use Rattle.std.proofs.Common.{IfOk}
use Rattle.std.proofs.lemmas.List.{set-get_or}
use Rattle.std.proofs.lemmas.Option.{get_or_from_slice_get}
use Rattle.payload.specs.declared.packet.Packet.{Packet}
use Rattle.message.specs.Accepting.{answer_of, accepting, harts_after_found, harts_after, state_by, next_of}
use Rattle.message.specs.Harts.{Harts}
use Rattle.message.specs.declared.hart.Hart.{Hart}
use Rattle.message.specs.declared.message.Message.{Message}
use Rattle.message.specs.declared.fault.DemuxFault.{DemuxFault}
use Rattle.message.proofs.Answering.{answer-unpacked}

-- A message that is accepted moves its hart on by one.
moved : (harts : Harts) (m : Message) (packet : Packet) (o : Option Hart) → answer_of o m ≡ Ok packet
    → harts_after_found harts m o ≡ slice_set harts m.hart (next_of m.number packet)
moved harts m packet None e = absurd ((answer-unpacked None m (Ok packet)).0 e).0
moved harts m packet (Some h) e =
    let same = ((answer-unpacked (Some h) m (Ok packet)).0 e).0.1 in
    rw (e, same) refl

-- A refusal changes nothing.
kept : (harts : Harts) (m : Message) (why : DemuxFault) (o : Option Hart) → slice_get harts m.hart ≡ o
    → answer_of o m ≡ Err why → harts_after_found harts m o ≡ harts
kept harts m why None is e = refl
kept harts m why (Some h) is e =
    let here = get_or_from_slice_get harts m.hart h h is in
    ap (λ s. slice_set harts m.hart (state_by h s)) e ∙ ap (λ s. slice_set harts m.hart s) (sym here)
    ∙ set-get_or harts m.hart h

pub harts_after-ok : (harts : Harts) (m : Message) (r : Result Packet DemuxFault) → r ≡ accepting harts m
    → IfOk r (λ packet. harts_after harts m ≡ slice_set harts m.hart (next_of m.number packet))
harts_after-ok harts m (Ok packet) e = moved harts m packet (slice_get harts m.hart) (sym e)
harts_after-ok harts m (Err why) e = tt

pub harts_after-err : (harts : Harts) (m : Message) (r : Result Packet DemuxFault) → r ≡ accepting harts m
    → OnErr r (harts_after harts m ≡ harts)
harts_after-err harts m (Ok packet) e = tt
harts_after-err harts m (Err why) e = kept harts m why (slice_get harts m.hart) refl (sym e)
