-- What was made of the log is added to what was made before.
use Rattle.std.proofs.Common.{is_ok, subst, sym}
use Rattle.log_streams.specs.steps.Allowed.{AreEntries, IsMadeAt, MayBeMadeIn}
use Rattle.log_streams.proofs.WorkLemmas.{added, at-get, at-place}
use Rattle.log_streams.proofs.work.read_log.Goals as goal

pub returns : goal.returns
returns g c =
    let work = c.args.work.now in
    let made = c.made_of_file-made.ensures in
    added (λ entry. MayBeMadeIn g.T.LogTask.Makes g.T.LogTask.MakesOfIllegal g.T.LogTask.MayRefuse g.F.Files.content
    g.F.Files.Gives work entry.place entry.made)
    c.reserve.new.self.items _ (is_ok c.push.result) c.push.new.self.items c.push.ensures.items
    (subst (AreEntries g.T.LogTask.Makes g.T.LogTask.MakesOfIllegal g.T.LogTask.MayRefuse g.F.Files.content
    g.F.Files.Gives work) (sym c.reserve.ensures.items) c.requires)
    (at-place (IsMadeAt (g.T.LogTask.Makes work.task.now work.program.now)
    (g.T.LogTask.MakesOfIllegal work.task.now work.program.now) (g.F.Files.content work.files.now)
    (g.F.Files.Gives work.files.now) work.program.now work.most)
    (g.T.LogTask.MayRefuse work.task.now) work.paths.now c.args.place c.made_of_file-made.result c.in-Some.path.now
    (at-get work.paths.now c.args.place c.in-Some.path.now c.in-Some.ensures.lookup.3.0 c.in-Some.ensures.lookup.1)
    (made.made, made.given) made.refused)
