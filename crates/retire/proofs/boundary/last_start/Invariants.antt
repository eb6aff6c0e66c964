use Rattle.std.proofs.Common.{◌≡◌, ◌≤◌, take}
use Rattle.retire.specs.steps.Place.{place_after}
use Rattle.retire.specs.declared.boundary.Place.TheVariants as place
use Rattle.retire.proofs.boundary.last_start.Given as goal

-- The place after the bytes so far, and the last of them where a record may start.
abbrev pub invariant-loop-i : goal.invariant-loop-i
invariant-loop-i l = record {
  here : l.place ≡ place_after place.Start (take l.i l.text);
  within : l.last ≤ l.i;
  starts : place_after place.Start (take l.last l.text) ≡ place.Start;
}
