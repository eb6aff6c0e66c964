-- The rows are written one after the other: by lemmas on parts of a text, which no tactic finds.
use Rattle.std.proofs.Common.{◌<◌, ◌≤◌, ◌∙◌, ap, arith, length, subst}
use Rattle.std.specs.Io.KnownBytes.{Appends}
use Rattle.output.specs.Begun.{AppendsBeginning}
use Rattle.auditing.specs.Losing.{runs_of}
use Rattle.auditing.specs.Unset.{lost_in}
use Rattle.path_commands.specs.Rows.{run_rows}
use Rattle.std.proofs.lemmas.List.{get_or_read}
use Rattle.output.proofs.Beginnings.{whole_begun}
use Rattle.path_commands.proofs.MatchedLines.{own_begun, own_more, owns_all}
use Rattle.output.proofs.FieldParts.{part_none}
use Rattle.path_commands.specs.MatchedRows.{unmatched_rows}
use Rattle.path_commands.specs.UnnumberedText.{texts_from}
use Rattle.path_commands.proofs.matched_report.write_unmatched.Goals as goal

pub loop-hart-init : goal.loop-hart-init
loop-hart-init g c = part_none (texts_from (unmatched_rows c.args.format) 0 c.args.all.now)
    (g.O.Write.contents c.args.out.now)

pub loop-hart-preserved : goal.loop-hart-preserved
loop-hart-preserved g c =
    let hart = c.loop-hart.hart in
    let own = c.index-all-hart.result in
    let within : hart < length c.args.all.now = omega arith in
    let runs = c.new.ensures ∙ ap (λ flags. runs_of (lost_in 0 flags)) c.sent.ensures in
    let mid = g.O.Write.contents c.loop-hart.out in
    let new = g.O.Write.contents c.write_lost.new.out in
    own_more (unmatched_rows c.args.format) c.args.all.now hart (g.O.Write.contents c.args.out.now)
    (g.O.Write.contents c.loop-hart.out)
    c.loop-hart.invariant own (g.O.Write.contents c.write_lost.new.out) within
    (get_or_read c.args.all.now hart own within c.index-all-hart.is own)
    (subst (λ its. Appends mid new (run_rows c.args.format hart its)) runs c.in_ok-write_lost.ensures.text)

pub returns-in_err-write_lost-clause-begun : goal.returns-in_err-write_lost-clause-begun
returns-in_err-write_lost-clause-begun g c =
    let hart = c.loop-hart.hart in
    let own = c.index-all-hart.result in
    let within : hart < length c.args.all.now = omega arith in
    let runs = c.new.ensures ∙ ap (λ flags. runs_of (lost_in 0 flags)) c.sent.ensures in
    let mid = g.O.Write.contents c.loop-hart.out in
    let new = g.O.Write.contents c.write_lost.new.out in
    own_begun (unmatched_rows c.args.format) c.args.all.now hart (g.O.Write.contents c.args.out.now)
    (g.O.Write.contents c.loop-hart.out)
    c.loop-hart.invariant own (g.O.Write.contents c.write_lost.new.out) within
    (get_or_read c.args.all.now hart own within c.index-all-hart.is own)
    (subst (λ its. AppendsBeginning (run_rows c.args.format hart its) mid new) runs c.write_lost.ensures.begun)

pub returns-clause-text : goal.returns-clause-text
returns-clause-text g c =
    let past : length c.args.all.now ≤ c.loop-hart.hart = omega arith in
    owns_all (unmatched_rows c.args.format) c.args.all.now c.loop-hart.hart (g.O.Write.contents c.args.out.now)
    (g.O.Write.contents c.loop-hart.out) c.loop-hart.invariant past

pub returns-clause-begun : goal.returns-clause-begun
returns-clause-begun g c =
    whole_begun (texts_from (unmatched_rows c.args.format) 0 c.args.all.now) (g.O.Write.contents c.args.out.now)
    (g.O.Write.contents c.loop-hart.out) (returns-clause-text g c)
