-- Some text was appended, and then some more: by lemmas, which no tactic finds.
use Rattle.path_commands.proofs.FollowedRuns.{some_more}
use Rattle.path_commands.proofs.following.follow_sent.Goals as goal

pub returns-in-Ok-true : goal.returns-in-Ok-true
returns-in-Ok-true g c =
    some_more (g.O.Write.contents c.args.out.now) (g.O.Write.contents c.read_sent.new.out) (g.O.Write.contents c.end.new.out)
    (some_more (g.O.Write.contents c.args.out.now) (g.O.Write.contents c.loop.out)
    (g.O.Write.contents c.read_sent.new.out) c.loop.invariant c.read_sent.ensures) c.end.ensures

pub returns-in-Err : goal.returns-in-Err
returns-in-Err g c =
    some_more (g.O.Write.contents c.args.out.now) (g.O.Write.contents c.loop.out) (g.O.Write.contents c.read_sent.new.out)
    c.loop.invariant c.read_sent.ensures

pub loop-preserved : goal.loop-preserved
loop-preserved g c =
    some_more (g.O.Write.contents c.args.out.now) (g.O.Write.contents c.loop.out) (g.O.Write.contents c.read_sent.new.out)
    c.loop.invariant c.read_sent.ensures
