-- One row more is made: by a lemma on lists, which no tactic finds.
use Rattle.std.proofs.Common.{◌∷◌, [], ◌++◌, ◌∙◌, sym, ap, arith}
use Rattle.std.proofs.lemmas.List.FromFn.{map-range_with_len_more}
use Rattle.auditing.specs.HartRows.{row_of}
use Rattle.auditing.specs.Known.{known_all}
use Rattle.ffi.specs.AuditedAll.{all_rows, row_reported}
use Rattle.ffi.proofs.path_harts.rows_of.Goals as goal

pub loop-hart-preserved : goal.loop-hart-preserved
loop-hart-preserved c = λ own came audits few.
    let sent = known_all c.args.path.now.by own in
    let received = known_all c.args.path.now.by came in
    let hart = c.loop-hart.hart in
    c.in_ok-push.ensures.items
    ∙ ap (λ rows. rows ++ c.row_reported.result ∷ []) (c.loop-hart.invariant own came audits few)
    ∙ ap (λ row. all_rows sent received hart ++ row ∷ []) (c.row_reported.ensures ∙ ap row_reported (c.row.ensures own came audits few))
    ∙ sym (map-range_with_len_more (λ hart. row_reported (row_of sent received hart)) 0 hart hart (omega arith))
