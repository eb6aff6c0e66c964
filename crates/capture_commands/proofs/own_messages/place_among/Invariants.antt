-- The place that is left to find is among the messages that are left.
use Rattle.std.proofs.Common.{◌≡◌, drop, get_or}
use Rattle.capture_commands.specs.Placed.{place_among, places_from}
use Rattle.capture_commands.proofs.own_messages.place_among.Given as goal

abbrev pub invariant-loop-place : goal.invariant-loop-place
invariant-loop-place l =
    place_among l.only l.messages l.own ≡ get_or (places_from l.only l.place (drop l.place l.messages)) l.left 0
