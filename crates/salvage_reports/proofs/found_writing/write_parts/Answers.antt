-- The prover does not part a text at the part that is not written: the lemmas on it are handed to it.
use Rattle.std.specs.Prelude.{option_map}
use Rattle.std.proofs.Common.{◌+◌, ◌≤◌, ◌∷◌, List, arith, drop, le_trans, length, subst, ℕ}
use Rattle.std.proofs.KnownBytes.{Appends-trans}
use Rattle.std.specs.Io.KnownBytes.{Appends}
use Rattle.output.specs.Begun.{AppendsBeginning}
use Rattle.output.proofs.Beginnings.{begun_behind, begun_in_front, whole_begun}
use Rattle.salvaging.specs.LeftParts.{LeftPart}
use Rattle.salvaging.specs.PartsIn.{part_of, parts_in}
use Rattle.salvage_reports.specs.Layouts.{behind_item}
use Rattle.salvage_reports.specs.ShownParts.{shown_item}
use Rattle.salvage_reports.specs.SalvagedItems.{text_if}
use Rattle.salvage_reports.proofs.PartTexts.{HasWritten, all_written, next_begun, none_written, one_written, part_first}
use Rattle.salvage_reports.proofs.found_writing.write_parts.Goals.{After-write_if}
use Rattle.salvage_reports.proofs.found_writing.write_parts.Goals as goal

module _ (g : _) (c : After-write_if g) where
  abbrev part : LeftPart
  part = part_of c.part-item.result

  -- What is said of the part, and what comes after it.
  abbrev line : List ℕ
  line =
      text_if c.args.style.layout (shown_item c.args.reported.hart c.args.reported.offsets.now c.args.reported.gaps.now
      c.args.reported.far.now c.loop-part.gone part)

  abbrev log : List ℕ
  log = behind_item c.args.style.layout (option_map (λ file. file.now) c.args.style.symbols) part

  -- What is written so far, before the part.
  so_far : HasWritten c.args.style.layout (option_map (λ file. file.now) c.args.style.symbols) c.args.reported.hart
      c.args.reported.offsets.now c.args.reported.gaps.now c.args.reported.far.now (parts_in c.args.parts.now)
      (part ∷ parts_in (drop (c.loop-part.part-index + 1) c.args.parts.now)) c.loop-part.gone
      (g.O.Write.contents c.args.out.now) (g.O.Write.contents c.loop-part.out)
  so_far =
      subst (λ left. HasWritten c.args.style.layout (option_map (λ file. file.now) c.args.style.symbols)
      c.args.reported.hart c.args.reported.offsets.now c.args.reported.gaps.now c.args.reported.far.now
      (parts_in c.args.parts.now) left c.loop-part.gone (g.O.Write.contents c.args.out.now)
      (g.O.Write.contents c.loop-part.out))
      (part_first c.args.parts.now c.loop-part.part-index c.part-item.result c.loop-part-test.true c.part-item.is)
      c.loop-part.invariant.text

pub loop-part-init : goal.loop-part-init
loop-part-init g c = record {
  text = none_written c.args.style.layout (option_map (λ file. file.now) c.args.style.symbols) c.args.reported.hart
      c.args.reported.offsets.now c.args.reported.gaps.now c.args.reported.far.now (parts_in c.args.parts.now)
      (g.O.Write.contents c.args.out.now);
  room = omega arith;
}

pub returns-in_err-write_if-clause-begun : goal.returns-in_err-write_if-clause-begun
returns-in_err-write_if-clause-begun g c =
    let at = (goal.at.returns-in_err-write_if-clause-begun g c).After-write_if in
    let mid = g.O.Write.contents c.loop-part.out in
    let new = g.O.Write.contents c.write_if.new.out in
    next_begun c.args.style.layout (option_map (λ file. file.now) c.args.style.symbols) c.args.reported.hart
    c.args.reported.offsets.now c.args.reported.gaps.now c.args.reported.far.now (parts_in c.args.parts.now) _ (part g at)
    c.loop-part.gone (g.O.Write.contents c.args.out.now) mid (so_far g at) new
    (begun_in_front (line g at) (log g at) mid new
    (subst (λ one. AppendsBeginning (text_if c.args.style.layout one) mid new) c.shown_item.ensures
    c.write_if.ensures.begun))

pub returns-in_err-write_behind-clause-begun : goal.returns-in_err-write_behind-clause-begun
returns-in_err-write_behind-clause-begun g c =
    let at = (goal.at.returns-in_err-write_behind-clause-begun g c).After-write_if in
    let mid = g.O.Write.contents c.loop-part.out in
    let next = g.O.Write.contents c.write_if.new.out in
    let new = g.O.Write.contents c.write_behind.new.out in
    next_begun c.args.style.layout (option_map (λ file. file.now) c.args.style.symbols) c.args.reported.hart
    c.args.reported.offsets.now c.args.reported.gaps.now c.args.reported.far.now (parts_in c.args.parts.now) _ (part g at)
    c.loop-part.gone (g.O.Write.contents c.args.out.now) mid (so_far g at) new
    (begun_behind (line g at) (log g at) mid next new
    (subst (λ one. Appends mid next (text_if c.args.style.layout one)) c.shown_item.ensures c.in_ok-write_if.ensures.text)
    c.write_behind.ensures.begun)

pub loop-part-preserved : goal.loop-part-preserved
loop-part-preserved g c =
    let at = (goal.at.loop-part-preserved g c).After-write_if in
    let mid = g.O.Write.contents c.loop-part.out in
    let next = g.O.Write.contents c.write_if.new.out in
    let new = g.O.Write.contents c.write_behind.new.out in
    record {
      text = one_written c.args.style.layout (option_map (λ file. file.now) c.args.style.symbols) c.args.reported.hart
          c.args.reported.offsets.now c.args.reported.gaps.now c.args.reported.far.now (parts_in c.args.parts.now) _
          (part g at) c.loop-part.gone (g.O.Write.contents c.args.out.now) mid (so_far g at) c.gone_after-gone.result new
          c.gone_after-gone.ensures
          (Appends-trans mid next new (line g at) (log g at)
          (subst (λ one. Appends mid next (text_if c.args.style.layout one)) c.shown_item.ensures
          c.in_ok-write_if.ensures.text) c.in_ok-write_behind.ensures.text);
      room = le_trans c.loop-part.invariant.room c.write_behind.ensures.room;
    }

pub returns-clause-text : goal.returns-clause-text
returns-clause-text g c =
    let past = c.loop-part-test.false in
    let over : length c.args.parts.now ≤ c.loop-part.part-index = omega (arith, past) in
    all_written c.args.style.layout (option_map (λ file. file.now) c.args.style.symbols) c.args.reported.hart
    c.args.reported.offsets.now c.args.reported.gaps.now c.args.reported.far.now c.args.parts.now c.loop-part.part-index
    c.loop-part.gone (g.O.Write.contents c.args.out.now) (g.O.Write.contents c.loop-part.out) over
    c.loop-part.invariant.text

pub returns-clause-begun : goal.returns-clause-begun
returns-clause-begun g c =
    whole_begun _ (g.O.Write.contents c.args.out.now) (g.O.Write.contents c.loop-part.out) (returns-clause-text g c)
