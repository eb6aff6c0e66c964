-- Slots that threads decoded stretches into.
use Rattle.std.specs.Prelude.{◌≡◌, true, List, Some, slice_get}
use Rattle.retire.specs.declared.event.Event.{Event}
use Rattle.parallel_decode.specs.declared.slot.Slot.{Slot}
use Rattle.parallel_decode.specs.declared.stretch.Plan.{Plan}
use Rattle.parallel_decode.specs.declared.stretch.Stretch.{Stretch}
use Rattle.parallel_decode.specs.steps.Stretches.{IsPartOf, stretch_text}

-- If its text is whole, the slot has what the stretch at its place adds.
abbrev pub IsFilled : Plan → Slot → Type 0
IsFilled plan slot = slot.is_whole ≡ true → (stretch : Stretch) (part : List Event)
    → slice_get plan.stretches.now slot.place ≡ Some stretch → IsPartOf plan stretch part
    → slot.text.held.items ≡ stretch_text stretch part
