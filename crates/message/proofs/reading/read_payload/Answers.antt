-- The bytes that came are a head and a beginning of a payload: the lemmas on them are handed over.
use Rattle.std.proofs.Common.{◌≡◌, ◌++◌, length, ap, ◌∙◌, arith, rules, length-take-le}
use lib.Seq.{take-append-le}
use Rattle.std.proofs.KnownBytes.{Consumes-whole}
use Rattle.message.specs.Cut.{IsCut}
use Rattle.message.specs.steps.Filling.{AreBytes}
use Rattle.message.proofs.Heads.{head_bytes-read}
use Rattle.message.proofs.Cuts.{IsCut-payload}
use Rattle.message.proofs.reading.read_payload.Goals as goal

pub returns-then-branch-length-clause-short : goal.returns-then-branch-length-clause-short
returns-then-branch-length-clause-short g c =
    let filled = c.in_ok-fill.ensures.filled in
    let room : length c.fill.new.room ≡ c.in_ok-length.length = search rules in
    let bytes : AreBytes c.args.head.now = λ i. omega (arith, c.type_inv.head i) in
    let counted = c.in_ok-length.ensures.length in
    λ _. Consumes-whole _ _ _ (λ rest. IsCut (c.args.head.now ++ rest)) filled.consumed
    (filled.ended (omega (arith, room, c.if-branch-length.true)))
    (IsCut-payload c.args.head.now c.fill.new.room c.in_ok-fill.field-0 c.requires bytes filled.bytes (room ∙ counted.0)
    (omega (arith, room, counted.1)) (omega (arith, room, counted.2)) (omega (arith, room, c.if-branch-length.true)))

pub returns-clause-head : goal.returns-clause-head
returns-clause-head g c =
    let bytes : AreBytes c.args.head.now = λ i. omega (arith, c.type_inv.head i) in
    let room : length c.fill.new.room ≡ c.in_ok-length.length = search rules in
    let made = c.message_of.ensures.value in
    let payload : length c.message_of.result.payload ≡ c.in_ok-length.length =
    ap (λ m. length m.payload) made ∙ ap length (take-append-le c.in_ok-length.length c.fill.new.room _ (omega (arith, room)))
    ∙ length-take-le c.in_ok-length.length c.fill.new.room (omega (arith, room)) in
    head_bytes-read c.message_of.result c.args.head.now c.requires bytes (ap (λ m. m.hart) made)
    (ap (λ m. m.number) made) (payload ∙ c.in_ok-length.ensures.length.0)
