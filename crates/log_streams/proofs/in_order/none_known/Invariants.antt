use Rattle.std.proofs.Common.{◌≡◌, All, None, length}
use Rattle.log_streams.proofs.in_order.none_known.Given as goal

-- So many logs are in the list, and nothing is known of them.
abbrev pub invariant-loop : goal.invariant-loop
invariant-loop g l = (length l.all.items ≡ l.counter) × All (λ one. one ≡ None) l.all.items
