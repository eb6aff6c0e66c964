-- Some text was appended, and then some more: by lemmas, which no tactic finds.
use Rattle.path_commands.proofs.FollowedRuns.{some_more}
use Rattle.path_commands.proofs.following.write_rest.Goals as goal

pub returns : goal.returns
returns g c =
    some_more (g.O.Write.contents c.args.out.now) (g.O.Write.contents c.write_rows.new.out) (g.O.Write.contents c.write_ending.new.out)
    c.write_rows.ensures c.write_ending.ensures
