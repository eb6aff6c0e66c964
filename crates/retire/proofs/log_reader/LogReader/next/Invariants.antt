use Rattle.std.proofs.Common.{◌≡◌, List, ℕ, vec_len}
use Rattle.std.specs.Io.KnownBytes.{Keeps}
use Rattle.retire.specs.HasRead.{HasRead, content_of}
use Rattle.retire.specs.declared.event.Event.{Event}
use Rattle.retire.proofs.log_reader.LogReader.next.Given as goal

-- No event was read so far.
abbrev pub invariant-loop : goal.invariant-loop
invariant-loop g l = record {
  count : l.before ≡ vec_len l.fn.events;
  read : (most : ℕ) (seen : List Event) → HasRead g.S.Source.given g.S.Source.left most seen l.fn.self
      → HasRead g.S.Source.given g.S.Source.left most seen l.self × (l.events.items ≡ l.fn.events.items);
  kept : Keeps (content_of g.S.Source.given g.S.Source.left l.fn.self)
      (content_of g.S.Source.given g.S.Source.left l.self);
}
