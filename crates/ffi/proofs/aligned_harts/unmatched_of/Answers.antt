-- The lost numbers of one hart more are added: by lemmas on lists, which no tactic finds.
use Rattle.std.proofs.Common.{◌<◌, ◌∙◌, ◌++◌, length, map, ap, arith}
use Rattle.std.proofs.lemmas.List.{get_or_read}
use Rattle.auditing.specs.Losing.{runs_of}
use Rattle.auditing.specs.Matches.{Flags}
use Rattle.auditing.specs.Unset.{lost_in}
use Rattle.ffi.specs.AuditedAll.{lost_reported}
use Rattle.ffi.specs.AuditedUnnumbered.{all_unmatched, no_flags, unmatched_in}
use Rattle.ffi.proofs.HartsInTurn.{lost_all, lost_more}
use Rattle.ffi.proofs.aligned_harts.unmatched_of.Goals as goal

pub loop-hart-preserved : goal.loop-hart-preserved
loop-hart-preserved c =
    let all = c.args.all.now in
    let hart = c.loop-hart.hart in
    let within : hart < length all = omega arith in
    let own = get_or_read all hart c.index-all-hart.result within c.index-all-hart.is no_flags in
    let runs = c.new.ensures ∙ ap (λ flags. runs_of (lost_in 0 flags)) (c.sent.ensures ∙ ap (λ (f : Flags). f.sent) own) in
    lost_more (unmatched_in all) c.loop-hart.lost.items c.add_lost.new.lost.items (all_unmatched all) hart (length all)
    c.loop-hart.invariant within
    (c.in_ok-add_lost.ensures ∙ ap (λ its. c.loop-hart.lost.items ++ map (lost_reported hart) its) runs)

pub returns : goal.returns
returns c =
    lost_all (unmatched_in c.args.all.now) c.loop-hart.lost.items c.loop-hart.lost.items (all_unmatched c.args.all.now)
    c.loop-hart.hart (length c.args.all.now) c.loop-hart.invariant (omega arith)
