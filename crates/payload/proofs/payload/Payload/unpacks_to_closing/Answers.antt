-- The search does not carry the equation of what is unpacked under the test of it.
use Rattle.std.proofs.Common.{◌∙◌, ap, sym}
use Rattle.payload.specs.Closing.{is_closing_reading}
use Rattle.payload.specs.Reading.{reading}
use Rattle.payload.proofs.payload.Payload.unpacks_to_closing.Goals as goal

pub returns-in-Ok : goal.returns-in-Ok
returns-in-Ok c =
    c.is_closing.ensures ∙ ap is_closing_reading (sym c.in-Ok.is ∙ c.unpack.ensures.value
    ∙ ap reading c.bytes.ensures.same)
