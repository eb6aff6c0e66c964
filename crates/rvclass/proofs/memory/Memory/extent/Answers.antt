-- Which piece has a number is a lemma about parts in order.
use Rattle.std.proofs.Common.{◌≡◌, ◌-◌, ◌^◌, List, ℕ, Some, length, nat_eq, if◌then◌else◌, option_map, arith}
use Rattle.std.proofs.Common.{sym, ap, ◌∙◌, subst}
use Rattle.std.specs.List.{slice_get}
use Rattle.rvclass.proofs.OrderedLemmas.{order_after, order_at, order_before}
use Rattle.rvclass.specs.Memory.{placed, rank_of}
use Rattle.rvclass.specs.Piece.{extent_of}
use Rattle.rvclass.specs.declared.part.Part.{Part}
use Rattle.rvclass.specs.steps.Kept.{others_of}
use Rattle.rvclass.specs.steps.Parts.{piece_of, pieces_of}
use Rattle.rvclass.specs.steps.Search.{IsCountUpTo}
use Rattle.rvclass.proofs.memory.Memory.extent.Goals as goal

pub returns-then-number-place : goal.returns-then-number-place
returns-then-number-place g c =
    let m = c.self.inside in
    let part : Part = record { rank = c.rank_of.result; base = m.base; bytes = m.bytes } in
    let ranked : part.rank ≡ rank_of (piece_of part) =
    c.rank_of.ensures ∙ ap (λ (l : List ℕ). if nat_eq (length l) 0 then 2 ^ 64 - 1 else m.base) c.bytes-length.ensures in
    let found = subst (λ l. IsCountUpTo part.rank l c.count_up_to-place.result) c.parts_in-others.ensures
    c.count_up_to-place.ensures.count in
    let few = ap length c.parts_in-others.ensures in
    let bound = c.count_up_to-place.ensures.bound in
    rw (← c.self.view_is)
    (ap (λ (l : List ℕ). Some (m.base, length l)) c.bytes-length.ensures
    ∙ sym (ap (option_map extent_of) (ap (slice_get (placed (piece_of part) (pieces_of (others_of m.others)))) c.if-number-place.true
    ∙ order_at (others_of m.others) _ part c.self.invariant.parts ranked found (omega (arith, few, bound)))))

pub returns-then-number-place-2 : goal.returns-then-number-place-2
returns-then-number-place-2 g c =
    let m = c.self.inside in
    let part : Part = record { rank = c.rank_of.result; base = m.base; bytes = m.bytes } in
    let ranked : part.rank ≡ rank_of (piece_of part) =
    c.rank_of.ensures ∙ ap (λ (l : List ℕ). if nat_eq (length l) 0 then 2 ^ 64 - 1 else m.base) c.bytes-length.ensures in
    let found = subst (λ l. IsCountUpTo part.rank l c.count_up_to-place.result) c.parts_in-others.ensures
    c.count_up_to-place.ensures.count in
    let few = ap length c.parts_in-others.ensures in
    let bound = c.count_up_to-place.ensures.bound in
    rw (← c.self.view_is)
    (c.extent_in.ensures
    ∙ ap (λ l. option_map extent_of (slice_get (pieces_of l) c.args.number)) c.parts_in-others.ensures
    ∙ sym (ap (option_map extent_of)
    (order_before (others_of m.others) _ part c.self.invariant.parts ranked found (omega (arith, few, bound))
    c.args.number c.if-number-place-2.true)))

pub returns : goal.returns
returns g c =
    let m = c.self.inside in
    let part : Part = record { rank = c.rank_of.result; base = m.base; bytes = m.bytes } in
    let ranked : part.rank ≡ rank_of (piece_of part) =
    c.rank_of.ensures ∙ ap (λ (l : List ℕ). if nat_eq (length l) 0 then 2 ^ 64 - 1 else m.base) c.bytes-length.ensures in
    let found = subst (λ l. IsCountUpTo part.rank l c.count_up_to-place.result) c.parts_in-others.ensures
    c.count_up_to-place.ensures.count in
    let few = ap length c.parts_in-others.ensures in
    let bound = c.count_up_to-place.ensures.bound in
    let other = c.if-number-place.false in
    let more = c.if-number-place-2.false in
    rw (← c.self.view_is)
    (c.extent_in-2.ensures
    ∙ ap (λ l. option_map extent_of (slice_get (pieces_of l) (c.args.number - 1))) c.parts_in-others.ensures
    ∙ sym (ap (option_map extent_of)
    (order_after (others_of m.others) _ part c.self.invariant.parts ranked found (omega (arith, few, bound))
    c.args.number (omega (arith, other, more)))))
