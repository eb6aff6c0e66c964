-- Facts that follow from what decoding of some harts is.
use Rattle.std.specs.Prelude.{◌≡◌, ◌≤◌, ◌^◌, List, length}
use Rattle.message.specs.Range.{every_hart}
use Rattle.retire.specs.declared.event.Event.{Event}
use Rattle.parallel_decode.specs.HartsText.{harts_text, harts_text_of}

-- The lines and the logs of all harts that a message may be of are those of all harts.
abbrev pub AllHartsHaveText : Type 0
AllHartsHaveText =
    (lists : List (List Event)) → length lists ≤ 2 ^ 16 → harts_text_of every_hart 0 lists ≡ harts_text 0 lists
