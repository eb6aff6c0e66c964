-- What stands before a place of the room and what was put there is one beginning of it: by a lemma on lists.
use Rattle.std.proofs.Common.{◌≡◌, ℕ, ◌+◌, ◌-◌, ◌≤◌, List, ◌++◌, rules, arith, length, take, drop, sym, ap, ◌∙◌, subst}
use Rattle.std.proofs.Common.{le_refl, drop_at, length-take-le}
use Rattle.std.proofs.lemmas.Slice.{take-put_mid_below}
use Rattle.std.specs.Io.KnownBytes.{Consumes}
use Rattle.std.proofs.KnownBytes.{Consumes-trans, Consumes-kept}
use borrow.Rule.Slice.PartMut.{put_mid, post_of}
use lib.Seq.{take-add, take-append-le}
use Rattle.message.proofs.reading.fill.Goals.{in-Ok, in-Err+else-ne}
use Rattle.message.proofs.reading.fill.Goals as goal

-- what stands before a place, and then what was put there
take-put_mid : (a k n : ℕ) (xs ys : List ℕ) → a ≤ length xs → n ≤ length ys
    → take a xs ++ take n ys ≡ take (a + n) (put_mid a k xs ys)
take-put_mid a k n xs ys within fits =
    let new = put_mid a k xs ys in
    let there : take n (drop a new) ≡ take n ys =
    ap (take n) (drop_at (take a xs) (ys ++ post_of a k xs) a (length-take-le a xs within))
    ∙ take-append-le n ys (post_of a k xs) fits in
    ap (λ l. l ++ take n ys) (sym (take-put_mid_below a k xs ys a (le_refl a) within))
    ∙ ap (λ l. take a new ++ l) (sym there) ∙ sym (take-add a n new)

pub loop-preserved : goal.loop-preserved
loop-preserved g c =
    let at = c.loop.count in
    let room = length c.loop.room - at in
    let within = c.loop.invariant.1 in
    elim c.match-read.branch [
      | in-Ok w ↦ rw w.count-is (
        search rules,
        search rules,
        subst (Consumes _ _)
            (take-put_mid at room w.in-Ok.more c.loop.room c.read.new.buf within w.in-Ok.ensures.bound.0)
            (Consumes-trans _ _ _ _ _ c.loop.invariant.2 w.in-Ok.ensures.bytes.0),
        λ i. omega (arith, c.type_inv.room i),
      )
      | in-Err+else-ne w ↦ rw w.count-is (
        search rules,
        search rules,
        subst (Consumes _ _) (sym (take-put_mid_below _ _ _ _ _ (le_refl _) within))
            (Consumes-kept _ _ _ _ c.loop.invariant.2 w.in-Err.ensures.bytes),
        λ i. omega (arith, c.type_inv.room i),
      )
    ]

pub returns-then-count-room-clause-filled : goal.returns-then-count-room-clause-filled
returns-then-count-room-clause-filled g c =
    record {
      within = c.loop.invariant.1;
      consumed = c.loop.invariant.2;
      bytes = c.loop.invariant.3;
      ended =
          λ less. absurd (omega (arith, less, c.if-count-room.true));
    }
