-- Another piece is decoded where nothing is held: by lemmas on what is compared.
use Rattle.std.proofs.Common.{◌≤◌, ◌∙◌, ◌-◌, ◌++◌, ap, arith, length, refl, take, vec_capacity, vec_len}
use Rattle.capture_commands.proofs.BesideLemmas.{refilled_held, refilled_next}
use Rattle.capture_commands.proofs.beside.Beside.refill.Goals as goal

pub returns-then-has_held : goal.returns-then-has_held
returns-then-has_held c = λ log seen to.
    refilled_held log seen c.args.self.now to (c.has_held.ensures.held c.if-has_held.true)

pub returns : goal.returns
returns c = λ log seen to.
    let n = vec_capacity c.clear.new.self - vec_len c.clear.new.self in
    let empty = ap length c.clear.ensures.items in
    let one = to.piece in
    let capacity = c.clear.ensures.capacity in
    let room = c.next_piece.ensures.room in
    let some : 1 ≤ n = omega (arith, empty, one, capacity, c.clear.new.self.ok.0) in
    refilled_next log seen c.args.self.now to (c.has_held.ensures.none c.if-has_held.false) _ n some refl
    (c.next_piece.ensures.appended to.rest to.left ∙ ap (λ l. l ++ take n to.rest) c.clear.ensures.items)
    (c.next_piece.ensures.left to.rest to.left) refl (omega (arith, one, capacity, room))
