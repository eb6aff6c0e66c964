-- The names of the columns, the rows of the harts and that of all come one after the other.
use Rattle.std.proofs.Common.{◌≡◌, ◌<◌, ◌≤◌, ◌++◌, length, sym, subst, ap, ◌∙◌, arith}
use Rattle.std.proofs.KnownBytes.{Appends-trans}
use Rattle.std.proofs.lemmas.List.{append-nil}
use Rattle.std.specs.Io.KnownBytes.{Appends}
use Rattle.std.specs.Prelude.{codes}
use Rattle.output.specs.Begun.{AppendsBeginning}
use Rattle.output.proofs.Beginnings.{begun_behind, begun_in_front, whole_begun}
use Rattle.captures.specs.Table.{column_names, hart_rows, measure_row, total_row}
use Rattle.captures.proofs.RowsInTurn.{total_row-few, total_row-several}
use Rattle.captures.proofs.measure_table.write_table.Goals as goal

pub returns-in_err-write_column_names-clause-begun : goal.returns-in_err-write_column_names-clause-begun
returns-in_err-write_column_names-clause-begun g c =
    let each = g.H.Harts.each c.args.harts.now in
    begun_in_front column_names (hart_rows 0 each ++ total_row each) (g.W.Write.contents c.args.sink.now)
    (g.W.Write.contents c.write_column_names.new.sink) c.write_column_names.ensures.begun

pub returns-in_err-all-clause-begun : goal.returns-in_err-all-clause-begun
returns-in_err-all-clause-begun g c =
    let each = g.H.Harts.each c.args.harts.now in
    let mid = g.W.Write.contents c.write_column_names.new.sink in
    let new = g.W.Write.contents c.write_harts.new.sink in
    begun_behind column_names (hart_rows 0 each ++ total_row each) (g.W.Write.contents c.args.sink.now) mid new
    c.in_ok-write_column_names.ensures.text
    (begun_in_front (hart_rows 0 each) (total_row each) mid new c.write_harts.ensures.begun)

pub returns-then-count-le1-clause-table : goal.returns-then-count-le1-clause-table
returns-then-count-le1-clause-table g c =
    let each = g.H.Harts.each c.args.harts.now in
    let old = g.W.Write.contents c.args.sink.now in
    let mid = g.W.Write.contents c.write_column_names.new.sink in
    let new = g.W.Write.contents c.write_harts.new.sink in
    let few : length each ≤ 1 = omega (arith, c.count.ensures, c.if-count-le1.true) in
    let rows = subst (Appends mid new) (sym (append-nil (hart_rows 0 each))) c.in_ok-all.ensures.text in
    Appends-trans old mid new column_names (hart_rows 0 each ++ total_row each) c.in_ok-write_column_names.ensures.text
    (subst (λ last. Appends mid new (hart_rows 0 each ++ last)) (sym (total_row-few each few)) rows)

pub returns-then-count-le1-clause-begun : goal.returns-then-count-le1-clause-begun
returns-then-count-le1-clause-begun g c =
    let each = g.H.Harts.each c.args.harts.now in
    whole_begun (column_names ++ (hart_rows 0 each ++ total_row each)) (g.W.Write.contents c.args.sink.now)
    (g.W.Write.contents c.write_harts.new.sink) (returns-then-count-le1-clause-table g c)

pub returns-in_err-write_text-clause-begun : goal.returns-in_err-write_text-clause-begun
returns-in_err-write_text-clause-begun g c =
    let each = g.H.Harts.each c.args.harts.now in
    let mid = g.W.Write.contents c.write_column_names.new.sink in
    let late = g.W.Write.contents c.write_harts.new.sink in
    let new = g.W.Write.contents c.write_text.new.out in
    let several : 1 < length each = omega (arith, c.count.ensures, c.if-count-le1.false) in
    begun_behind column_names (hart_rows 0 each ++ total_row each) (g.W.Write.contents c.args.sink.now) mid new
    c.in_ok-write_column_names.ensures.text
    (begun_behind (hart_rows 0 each) (total_row each) mid late new c.in_ok-all.ensures.text
    (subst (λ row. AppendsBeginning row late new)
    (ap (measure_row (codes "all")) c.in_ok-all.ensures.all ∙ sym (total_row-several each several))
    c.write_text.ensures.begun))

pub returns-clause-table : goal.returns-clause-table
returns-clause-table g c =
    let each = g.H.Harts.each c.args.harts.now in
    let mid = g.W.Write.contents c.write_column_names.new.sink in
    let late = g.W.Write.contents c.write_harts.new.sink in
    let new = g.W.Write.contents c.write_text.new.out in
    let several : 1 < length each = omega (arith, c.count.ensures, c.if-count-le1.false) in
    Appends-trans (g.W.Write.contents c.args.sink.now) mid new column_names (hart_rows 0 each ++ total_row each)
    c.in_ok-write_column_names.ensures.text
    (Appends-trans mid late new (hart_rows 0 each) (total_row each) c.in_ok-all.ensures.text
    (subst (Appends late new)
    (ap (measure_row (codes "all")) c.in_ok-all.ensures.all ∙ sym (total_row-several each several))
    c.in_ok-write_text.ensures.whole))

pub returns-clause-begun : goal.returns-clause-begun
returns-clause-begun g c =
    whole_begun _ (g.W.Write.contents c.args.sink.now) (g.W.Write.contents c.write_text.new.out)
    (returns-clause-table g c)
