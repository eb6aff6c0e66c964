use Rattle.std.proofs.Common.{◌≡◌, ◌++◌, ◌-◌, List, ℕ, length, vec_len}
use Rattle.std.specs.Io.KnownBytes.{Keeps, prepend_known}
use Rattle.retire.proofs.fill.fill.Given as goal

-- What was given so far is held, and all bytes of the source stay the same.
abbrev pub invariant-loop-source : goal.invariant-loop-source
invariant-loop-source g l = record {
  came : (bytes : List ℕ) × (g.S.Source.given l.source ≡ g.S.Source.given l.fn.source ++ bytes)
      × (l.held.items ≡ l.fn.held.items ++ bytes);
  kept : Keeps (prepend_known (g.S.Source.given l.fn.source) (g.S.Source.left l.fn.source))
      (prepend_known (g.S.Source.given l.source) (g.S.Source.left l.source));
  same : length l.room ≡ length l.fn.room;
}

abbrev pub decreases-loop-source : goal.decreases-loop-source
decreases-loop-source g l = l.size - vec_len l.held
