-- There are as many slots as rounds, each of them new, and the list has space for all.
use Rattle.std.proofs.Common.{◌≡◌, ◌≤◌, All, false, length}
use Rattle.std.specs.Vec.{vec_capacity}
use Rattle.parallel_decode.proofs.slot.slots_of.Given as goal

abbrev pub invariant-loop : goal.invariant-loop
invariant-loop l = record {
  count : length l.slots.items ≡ l.counter;
  new : All (λ slot. slot.is_whole ≡ false) l.slots.items;
  room : l.count ≤ vec_capacity l.slots;
}
