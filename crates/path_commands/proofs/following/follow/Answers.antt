-- Some text was appended, and then some more: by lemmas, which no tactic finds.
use Rattle.path_commands.proofs.FollowedRuns.{some_more}
use Rattle.path_commands.proofs.following.follow.Goals as goal

pub returns-in-Ok-None : goal.returns-in-Ok-None
returns-in-Ok-None g c =
    some_more (g.O.Write.contents c.args.out.now) (g.O.Write.contents c.loop.out) (g.O.Write.contents c.follow_sent.new.out)
    c.loop.invariant c.follow_sent.ensures

pub returns-in-Err-pass : goal.returns-in-Err-pass
returns-in-Err-pass g c =
    some_more (g.O.Write.contents c.args.out.now) (g.O.Write.contents c.loop.out) (g.O.Write.contents c.pass.new.out)
    c.loop.invariant c.pass.ensures

pub loop-preserved : goal.loop-preserved
loop-preserved g c =
    some_more (g.O.Write.contents c.args.out.now) (g.O.Write.contents c.loop.out) (g.O.Write.contents c.pass.new.out)
    c.loop.invariant c.pass.ensures
