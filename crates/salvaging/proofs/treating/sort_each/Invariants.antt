-- The harts before this one are sorted out, and the lists of the others are as they were.
use Rattle.std.proofs.Common.{◌≡◌, ◌≤◌, ℕ, List, length, slice_get, Some}
use Rattle.std.specs.Vec.{vec_capacity}
use Rattle.std.specs.declared.vec.Vec.{Vec}
use Rattle.rvclass.specs.Fetch.{words_of}
use Rattle.message.specs.declared.message.Message.{Message}
use Rattle.salvaging.specs.steps.SortedOut.{IsSortedOut}
use Rattle.salvaging.specs.steps.Arrivals.{arrivals_in, placed_from}
use Rattle.salvaging.specs.declared.received.ReceivedMessage.{ReceivedMessage}
use Rattle.salvaging.specs.declared.sorting_out.HartRows.{HartRows}
use Rattle.salvaging.proofs.treating.sort_each.Given as goal

abbrev pub invariant-loop-hart : goal.invariant-loop-hart
invariant-loop-hart g l = record {
  lines : l.lines.program.now ≡ l.program;
  lists_count : length l.lists.items ≡ length l.fn.lists.items;
  count : length l.harts.items ≡ l.hart;
  room : length l.fn.lists.items ≤ vec_capacity l.harts;
  left : (k : ℕ) (list : Vec ReceivedMessage _) → l.hart ≤ k → slice_get l.lists.items k ≡ Some list
      → slice_get l.fn.lists.items k ≡ Some list;
  done : (k : ℕ) (list : Vec ReceivedMessage _) (own : HartRows _) (messages : List Message)
      → slice_get l.fn.lists.items k ≡ Some list → slice_get l.harts.items k ≡ Some own
      → arrivals_in list.items ≡ placed_from 0 messages
      → IsSortedOut (words_of l.program) l.mode messages own;
}
