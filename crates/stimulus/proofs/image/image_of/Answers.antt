-- The bytes of one slot more: the search does not look into the definition of the image.
use Rattle.std.proofs.Common.{◌∙◌, ◌++◌, ap, sym}
use Rattle.std.specs.Int.{w32, to_le_bytes}
use Rattle.stimulus.specs.ImageBytes.{slots_bytes}
use Rattle.stimulus.proofs.Slots.{slots_more, slots_none}
use Rattle.stimulus.proofs.image.image_of.Goals as goal

pub loop-slot-init : goal.loop-slot-init
loop-slot-init g c = c.in_ok-image.ensures.items ∙ sym (slots_none c.args.mix c.args.seed)

pub loop-slot-preserved : goal.loop-slot-preserved
loop-slot-preserved g c =
    let mix = c.args.mix in
    let seed = c.args.seed in
    let slot = c.loop-slot.slot in
    c.in_ok-extend_from_slice.ensures.items ∙ ap (λ l. l ++ c.to_le_bytes-bytes.result) c.loop-slot.invariant
    ∙ ap (λ l. slots_bytes mix seed slot ++ l) (c.to_le_bytes-bytes.ensures ∙ ap (to_le_bytes w32) c.drawn_word.ensures)
    ∙ sym (slots_more mix seed slot)
