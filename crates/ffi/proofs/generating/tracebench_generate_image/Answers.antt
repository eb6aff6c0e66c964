-- The bytes that are handed out are those of the image: by a constructor, which no tactic finds.
use Rattle.std.proofs.Common.{◌∙◌, subst, sym}
use Rattle.ffi.specs.Generated.{HandedOut}
use Rattle.ffi.specs.Handed.{IsHandedOut}
use Rattle.ffi.proofs.generating.tracebench_generate_image.Goals as goal

pub returns-in-Ok : goal.returns-in-Ok
returns-in-Ok c =
    HandedOut c.in-Some.mix (sym c.in-Some.ensures)
    (subst (λ bytes. IsHandedOut bytes c.hand_out.result c.hand_out.new.wanted c.args.buffer.now c.hand_out.new.buffer)
    (c.as_slice.ensures.value ∙ c.in-Ok.ensures) c.hand_out.ensures)
