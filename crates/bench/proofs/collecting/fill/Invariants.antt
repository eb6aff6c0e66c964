-- The outcomes behind those whose lists are left have their events and their flags.
use Rattle.std.proofs.Common.{◌≡◌, ◌≤◌, drop, length, take}
use Rattle.receiver.specs.Received.{events_in}
use Rattle.bench.specs.steps.Collecting.{closed_in, decoded_in, taken_in}
use Rattle.bench.proofs.collecting.fill.Given as goal

abbrev pub invariant-loop-list : goal.invariant-loop-list
invariant-loop-list g l = record {
  count : length l.harts.items ≡ length l.fn.harts.items;
  few : length l.lists.items ≤ length l.fn.harts.items;
  taken : taken_in l.harts.items ≡ taken_in l.fn.harts.items;
  left : l.lists.items ≡ take (length l.lists.items) l.fn.lists.items;
  decoded : drop (length l.lists.items) (decoded_in l.harts.items)
      ≡ drop (length l.lists.items) (events_in l.fn.lists.items);
  closed : drop (length l.lists.items) (closed_in l.harts.items) ≡ drop (length l.lists.items) l.closed;
}

abbrev pub decreases-loop-list : goal.decreases-loop-list
decreases-loop-list g l = length l.lists.items
