-- The first events that are left are handed out: by a lemma on what is left.
use Rattle.std.proofs.Common.{◌∙◌, ◌-◌, ◌++◌, Some, ap, sym, take, take-append-drop, vec_capacity, vec_len}
use Rattle.parallel_decode.proofs.LeftLemmas.{handed_out}
use Rattle.parallel_decode.specs.Left.{left_of}
use Rattle.parallel_decode.proofs.events.HartEvents.hand_out.Goals as goal

pub returns-in-Some-clause-hands : goal.returns-in-Some-clause-hands
returns-in-Some-clause-hands g c = λ rest has.
    let n = vec_capacity c.args.piece.now - vec_len c.args.piece.now in
    handed_out rest c.args.self.now has (take n c.in-Some.left) (Some c.next_piece.new.self) c.args.piece.now.items
    c.next_piece.new.piece.items
    (ap left_of c.in-Some.is ∙ sym (take-append-drop n c.in-Some.left)
    ∙ ap (λ l. take n c.in-Some.left ++ l) (sym c.next_piece.ensures.left))
    c.next_piece.ensures.appended
