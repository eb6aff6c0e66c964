-- The flags and the marks so far, and those of the harts that are left.
use Rattle.std.proofs.Common.{◌≡◌, ◌++◌, map}
use Rattle.parallel_decode.specs.declared.hart.HartEnd.{HartEnd}
use Rattle.parallel_decode.proofs.surveying.survey_of.Given as goal

abbrev pub invariant-loop-end : goal.invariant-loop-end
invariant-loop-end l = record {
  closed : l.closed.items ++ map (λ (end : HartEnd). end.own.closed) l.end-iterator.rest.items
      ≡ map (λ (end : HartEnd). end.own.closed) l.fn.ends.items;
  marks : l.marks.items ++ map (λ (end : HartEnd). end.marks) l.end-iterator.rest.items
      ≡ map (λ (end : HartEnd). end.marks) l.fn.ends.items;
}
