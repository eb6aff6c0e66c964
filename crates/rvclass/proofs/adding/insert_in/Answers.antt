-- A part that is put after those of at most its rank is a lemma about parts in order.
use Rattle.std.proofs.Common.{is_ok, subst, sym, ap, ◌∙◌}
use Rattle.rvclass.proofs.PlacedLemmas.{either, kept_in, part_in, placed_in}
use Rattle.rvclass.specs.steps.Parts.{AreKept, pieces_of}
use Rattle.rvclass.specs.steps.Search.{IsCountUpTo}
use Rattle.rvclass.proofs.adding.insert_in.Goals.{in-Ok, in-Err}
use Rattle.rvclass.proofs.adding.insert_in.Goals as goal

pub returns-clause-kept : goal.returns-clause-kept
returns-clause-kept g c =
    let parts = c.args.parts.now.items in
    let place = c.count_up_to-place.result in
    let part = c.args.part in
    let found = subst (λ l. IsCountUpTo part.rank l place) c.as_slice.ensures.value c.count_up_to-place.ensures.count in
    subst AreKept (sym c.insert.ensures.items)
    (either AreKept (is_ok c.insert.result) (part_in place part parts) parts
    (kept_in parts place part c.requires.kept c.requires.ranked found) c.requires.kept)

pub returns-clause-placed : goal.returns-clause-placed
returns-clause-placed g c =
    let parts = c.args.parts.now.items in
    let place = c.count_up_to-place.result in
    let part = c.args.part in
    let found = subst (λ l. IsCountUpTo part.rank l place) c.as_slice.ensures.value c.count_up_to-place.ensures.count in
    elim c.match-insert.branch [
      | in-Ok w ↦
          let items = rw w.in-Ok.is at c.insert.ensures.items in
          rw w.result-is (ap pieces_of items ∙ placed_in parts place part c.requires.kept c.requires.ranked found)
      | in-Err w ↦ rw w.result-is tt
    ]
