-- The prover does not part a text at the hart that is not written: the lemmas on it are handed to it.
use Rattle.std.proofs.Common.{◌+◌, ◌++◌, List, Global, Option, subst, sym, arith, take, ℕ}
use Rattle.std.proofs.KnownBytes.{Appends-trans}
use Rattle.std.proofs.lemmas.Grind.{common_steps}
use Rattle.std.specs.Io.KnownBytes.{Appends}
use Rattle.losses.specs.PartsIn.{parts_in}
use Rattle.losses.specs.declared.part.HartPieces.{HartPieces}
use Rattle.output.specs.Begun.{AppendsBeginning}
use Rattle.output.proofs.Beginnings.{begun_behind, begun_in_front}
use Rattle.parallel_decode.specs.EachHart.{each_hart, hart_line, numbered_hart, numbered_harts}
use Rattle.capture_commands.specs.Pieces.{parts_of, parts_text}
use Rattle.salvage_reports.proofs.HartLists.{each_of, from_begun, from_written}
use Rattle.capture_commands.proofs.lossy_decoding.write_pieces.Goals as goal
use Rattle.capture_commands.proofs.lossy_decoding.write_pieces.Goals.{After-write_text}

-- The text of a hart.
abbrev own_text : ℕ → HartPieces Global → List ℕ
own_text hart own = parts_text (parts_in own.parts.items)

module _ (g : _) (c : After-write_text g) where
  -- The texts of the harts before this one were written.
  before : Appends (g.O.Write.contents c.args.out.now) (g.O.Write.contents c.loop-place.out)
      (numbered_harts own_text c.args.first (take c.loop-place.place c.args.harts.now))
  before =
      subst (Appends (g.O.Write.contents c.args.out.now) (g.O.Write.contents c.loop-place.out))
      (each_of parts_text (λ (own : HartPieces Global). parts_in own.parts.items) c.args.first
      (take c.loop-place.place c.args.harts.now)) c.loop-place.invariant

  -- A beginning of this hart's line and text was written.
  begun : (new : Option (List ℕ))
      → AppendsBeginning
      (hart_line (c.args.first + c.loop-place.place)
      ++ own_text (c.args.first + c.loop-place.place) c.index-harts-place.result) (g.O.Write.contents c.loop-place.out) new
      → AppendsBeginning (each_hart parts_text c.args.first (parts_of c.args.harts.now)) (g.O.Write.contents c.args.out.now)
      new
  begun new own =
      subst (λ l. AppendsBeginning l (g.O.Write.contents c.args.out.now) new)
      (sym (each_of parts_text (λ (own : HartPieces Global). parts_in own.parts.items) c.args.first c.args.harts.now))
      (from_begun (numbered_hart own_text) c.args.first c.args.harts.now c.loop-place.place c.index-harts-place.result
      c.loop-place-test.true c.index-harts-place.is (g.O.Write.contents c.args.out.now)
      (g.O.Write.contents c.loop-place.out) new before own)

pub returns-in_err-write_text-clause-begun : goal.returns-in_err-write_text-clause-begun
returns-in_err-write_text-clause-begun g c =
    let mid = g.O.Write.contents c.loop-place.out in
    let new = g.O.Write.contents c.write_text.new.out in
    let place = c.loop-place.place in
    let hart = c.args.first + place in
    begun g (goal.at.returns-in_err-write_text-clause-begun g c).After-write_text new
    (begun_in_front (hart_line hart) (own_text hart c.index-harts-place.result) mid new
    (subst (λ n. AppendsBeginning (hart_line (n + place)) mid new) c.from.ensures c.write_text.ensures.begun))

pub returns-in_err-write_parts-clause-begun : goal.returns-in_err-write_parts-clause-begun
returns-in_err-write_parts-clause-begun g c =
    let mid = g.O.Write.contents c.loop-place.out in
    let line = g.O.Write.contents c.write_text.new.out in
    let new = g.O.Write.contents c.write_parts.new.out in
    let place = c.loop-place.place in
    let hart = c.args.first + place in
    let head : Appends mid line (hart_line (c.from.result + place)) = grind (arith, common_steps) in
    begun g (goal.at.returns-in_err-write_parts-clause-begun g c).After-write_text new
    (begun_behind (hart_line hart) (own_text hart c.index-harts-place.result) mid line new
    (subst (λ n. Appends mid line (hart_line (n + place))) c.from.ensures head)
    (subst (λ parts. AppendsBeginning (parts_text (parts_in parts)) line new) c.as_slice.ensures.value
    c.write_parts.ensures.begun))

pub loop-place-preserved : goal.loop-place-preserved
loop-place-preserved g c =
    let old = g.O.Write.contents c.args.out.now in
    let mid = g.O.Write.contents c.loop-place.out in
    let line = g.O.Write.contents c.write_text.new.out in
    let new = g.O.Write.contents c.write_parts.new.out in
    let place = c.loop-place.place in
    let head : Appends mid line (hart_line (c.from.result + place)) = grind (arith, common_steps) in
    let parts = subst (λ parts. Appends line new (parts_text (parts_in parts))) c.as_slice.ensures.value
    c.in_ok-write_parts.ensures.text in
    subst (Appends old new)
    (sym (each_of parts_text (λ (own : HartPieces Global). parts_in own.parts.items) c.args.first
    (take (place + 1) c.args.harts.now)))
    (from_written (numbered_hart own_text) c.args.first c.args.harts.now place c.index-harts-place.result
    c.loop-place-test.true c.index-harts-place.is old mid new
    (before g (goal.at.loop-place-preserved g c).After-write_text)
    (Appends-trans mid line new (hart_line (c.args.first + place))
    (own_text (c.args.first + place) c.index-harts-place.result)
    (subst (λ n. Appends mid line (hart_line (n + place))) c.from.ensures head) parts))
