-- What the run leaves is put together from what its decoder stands for, which no tactic finds.
use Rattle.std.proofs.Common.{suc, [], length, refl, sym, subst, ◌∙◌}
use Rattle.losses.specs.steps.DecoderSteps.{Resumes}
use Rattle.losses.specs.steps.FollowingRuns.{FollowsRun}
use Rattle.salvaging.specs.Leaving.{kept}
use Rattle.salvaging.specs.LeftParts.{stretch}
use Rattle.salvaging.proofs.RunsEnded.{follows_anew, none_kept}
use Rattle.salvaging.proofs.trail.Trail.end_run.Goals as goal

pub returns-clause-ends : goal.returns-clause-ends
returns-clause-ends g c = λ words reads run next closed u.
    let mode = c.args.mode in
    let old = c.args.self.now in
    let gone = c.end_stretch.new.self in
    let packets = kept run.missing run.packets in
    let same = c.in_ok-end_stretch.ensures in
    let ends = same.ends next packets u.next_is u.begins
    (none_kept words reads run.missing run.packets old.events.items u.follows.described) in
    let resumes : Resumes mode gone.decoder c.resume.new.self = record {
      passes_over = c.resume.ensures.passes_over;
      mode_kept = c.resume.ensures.mode_kept;
    } in
    let follows = subst (FollowsRun words mode reads run.missing run.packets closed old.events.items) (sym same.decoder)
    u.follows in
    record {
      left = stretch next (length packets) old.events.items;
      leaves = (old.events.items, u.follows.described, refl);
      added = ends.added;
      under_way = λ lost. record {
        follows = subst (λ events. FollowsRun words mode reads (suc lost) [] closed events c.resume.new.self)
            (sym ends.none_left)
            (follows_anew words mode reads run.missing run.packets closed old.events.items gone.decoder
            c.resume.new.self follows resumes lost);
        first_reads = λ is. cc;
        next_is = same.next ∙ u.next_is;
        looking = refl;
        begins = refl;
      };
    }
