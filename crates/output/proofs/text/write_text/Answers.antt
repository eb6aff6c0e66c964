-- The prover does not join what was written before with the next part of the text: the lemmas on it are handed to it.
use Rattle.std.proofs.Common.{◌<◌, refl, ap, ◌∙◌, sym, length, arith}
use Rattle.std.proofs.lemmas.Option.{IfSome_then}
use Rattle.output.proofs.Beginnings.{first_bytes}
use Rattle.output.proofs.Parts.{next_part, part_begun, part_written, last_written}
use Rattle.output.proofs.text.write_text.Goals as goal

pub returns-in_err-write_fmt-clause-begun : goal.returns-in_err-write_fmt-clause-begun
returns-in_err-write_fmt-clause-begun g c =
    IfSome_then _ c.loop-parts.invariant (λ text first. first_bytes text _ _ _ first)

pub returns-in_err-write_bytes-clause-begun : goal.returns-in_err-write_bytes-clause-begun
returns-in_err-write_bytes-clause-begun g c =
    IfSome_then _ (next_part _ _ _ _ _ _ _ c.as_slice.ensures.value refl c.new.ensures c.loop-parts.invariant
    c.in_ok-write_fmt.ensures.writes) (λ text next. part_begun _ _ _ _ _ text next c.write_bytes.ensures.begun)

pub returns-then-len-lt-ROOM-clause-whole : goal.returns-then-len-lt-ROOM-clause-whole
returns-then-len-lt-ROOM-clause-whole g c =
    let same = ap length c.as_slice.ensures.value ∙ sym c.len.ensures.value in
    let last : length c.as_slice.result.now < 512 = omega (arith, same, c.if-len-lt-ROOM.true) in
    IfSome_then _ (next_part _ _ _ _ _ _ _ c.as_slice.ensures.value refl c.new.ensures c.loop-parts.invariant
    c.in_ok-write_fmt.ensures.writes) (λ text next. last_written _ _ _ _ _ text next last
    c.in_ok-write_bytes.ensures.whole)

pub returns-then-len-lt-ROOM-clause-begun : goal.returns-then-len-lt-ROOM-clause-begun
returns-then-len-lt-ROOM-clause-begun g c =
    IfSome_then _ (next_part _ _ _ _ _ _ _ c.as_slice.ensures.value refl c.new.ensures c.loop-parts.invariant
    c.in_ok-write_fmt.ensures.writes) (λ text next. part_begun _ _ _ _ _ text next c.write_bytes.ensures.begun)

pub loop-parts-preserved : goal.loop-parts-preserved
loop-parts-preserved g c =
    IfSome_then _ (next_part _ _ _ _ _ _ _ c.as_slice.ensures.value refl c.new.ensures c.loop-parts.invariant
    c.in_ok-write_fmt.ensures.writes)
    (λ text next. part_written _ _ _ _ _ text next c.in_ok-write_bytes.ensures.whole)

pub returns-clause-begun : goal.returns-clause-begun
returns-clause-begun g c = IfSome_then _ c.loop-parts.invariant (λ text first. first_bytes text _ _ _ first)
