-- The prover needs the lemma on the first byte of a payload that is not closing.
use Rattle.std.proofs.Common.{◌∙◌, sym, ap}
use Rattle.std.proofs.lemmas.Bool.{ne_eqb}
use Rattle.payload.specs.Closing.{is_closing}
use Rattle.payload.proofs.FirstByte.{not_closing}
use Rattle.payload.proofs.payload.Payload.is_closing.Goals as goal

pub returns-else-bytes-eq-SUPPORT_BEGINNING : goal.returns-else-bytes-eq-SUPPORT_BEGINNING
returns-else-bytes-eq-SUPPORT_BEGINNING c =
    let other = c.if-bytes-eq-SUPPORT_BEGINNING.false in
    let none = not_closing c.bytes.result.now c.bytes.ensures.some other in
    ne_eqb _ _ other ∙ sym none ∙ ap is_closing c.bytes.ensures.same
