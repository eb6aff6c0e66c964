-- What is moved is what was held: by lemmas on parts of a list, which no tactic finds.
use Rattle.std.proofs.Common.{◌≡◌, ◌∙◌, ◌+◌, ◌-◌, ap, arith, drop, length, length-drop, sym, take}
use lib.Seq.{paste}
use Rattle.std.proofs.lemmas.List.{drop-take}
use Rattle.std.proofs.lemmas.List.Edits.{take-paste}
use Rattle.path_commands.proofs.message_stream.Block.move_to_front.Goals as goal

pub returns : goal.returns
returns c =
    let all = c.self.inside.bytes.items in
    let from = c.self.inside.from in
    let to = c.self.inside.to in
    let count = to - from in
    let none : count ≡ 0 + count = omega arith in
    let past : from + count ≡ to = omega arith in
    let rest = length-drop from all in
    ap (take count) c.copy_within.ensures.items
    ∙ ap (λ n. take n (paste all 0 (drop from all) count)) none
    ∙ take-paste all 0 (drop from all) count (omega (arith, rest)) (omega (arith, rest))
    ∙ sym (drop-take from count all)
    ∙ ap (λ n. drop from (take n all)) past
    ∙ c.self.view_is
