-- One part more.
use Rattle.std.proofs.Common.{All, Global, IfOk, Result, Vec, subst, sym}
use Rattle.std.specs.declared.alloc.AllocError.{AllocError}
use Rattle.std.proofs.lemmas.List.Elements.{All-append, All-head, All-rest}
use Rattle.rvclass.specs.Fetch.{words_of}
use Rattle.parallel_decode.specs.declared.section_ends.SectionEnd.{SectionEnd}
use Rattle.parallel_decode.specs.steps.Sections.{IsOfHarts}
use Rattle.parallel_decode.proofs.section_groups.joined.Goals as goal

pub loop-part-preserved : goal.loop-part-preserved
loop-part-preserved c =
    let P = IsOfHarts (words_of c.args.work.now.program.now) c.args.work.now.announced c.args.work.now.bytes.now
    c.args.places.now in
    let Q = λ (part : Result (Vec SectionEnd Global) AllocError). IfOk part (λ ends. All P ends.items) in
    let left = c.loop-part.invariant.1 in
    let steps = c.in-Some.ensures.steps.0 in
    let head = All-head Q c.in-Some.part c.next.new.self.rest.items (subst (All Q) steps left) in
    let found = subst Q c.in-Ok.is head in (
      subst (All P) (sym c.in_ok-extend_from_slice-in-Ok.ensures.items)
          (All-append P c.loop-part.ends.items c.as_slice.result.now c.loop-part.invariant.0
          (subst (All P) (sym c.as_slice.ensures.value) found)),
      All-rest Q c.in-Some.part c.next.new.self.rest.items c.loop-part.part-iterator.rest.items steps left,
    )
