-- The counts of one hart are changed, as they are seen: by a lemma on lists.
use Rattle.std.proofs.Common.{◌≡◌, ◌∙◌, Some, ap, slice_get, sym}
use Rattle.std.proofs.lemmas.Option.{slice_get-get_or}
use Rattle.auditing.proofs.Moves.{changed_map}
use Rattle.auditing.specs.steps.Moving.{changed_at, counted_once}
use Rattle.auditing.proofs.exchange.count_moved.Goals as goal

pub returns-in-Some : goal.returns-in-Some
returns-in-Some g c =
    let moves = c.args.moves.now.items in
    let hart = c.args.hart in
    let own = c.in-Some.counts.now in
    let at : slice_get moves hart ≡ Some own =
    slice_get-get_or moves hart own c.in-Some.ensures.item.3.0 ∙ ap Some (sym c.in-Some.ensures.value) in
    changed_map (λ counts. counts.items) (λ counts. changed_at counted_once counts c.args.owner) moves hart own
    c.count_once.new.counts at c.count_once.ensures
