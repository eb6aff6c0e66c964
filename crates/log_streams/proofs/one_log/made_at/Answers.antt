-- What the file gave is named by hand, and so are the lemmas on it.
use Rattle.std.proofs.Common.{◌≡◌, None, inl, inr, refl, subst}
use Rattle.log_streams.specs.Gave.{First, IsGiven, Whole}
use Rattle.log_streams.specs.steps.Confirmed.{IsConfirmedBy}
use Rattle.log_streams.proofs.FileLemmas.{all-through, made-given, made-in}
use Rattle.log_streams.proofs.one_log.made_at.Goals as goal

pub returns-in-Err : goal.returns-in-Err
returns-in-Err g c = record { made = inl refl; given = inl refl; refused = tt }

pub returns-in-Err-CannotRead-clause-given : goal.returns-in-Err-CannotRead-clause-given
returns-in-Err-CannotRead-clause-given g c = inr (inl (refl, tt))

pub returns-in-Err-Memory : goal.returns-in-Err-Memory
returns-in-Err-Memory g c = record { made = inl refl; given = inl refl; refused = tt }

pub returns : goal.returns
returns g c = record { made = inl refl; given = inl refl; refused = tt }

pub new-watched-requires-clause-leads : goal.new-watched-requires-clause-leads
new-watched-requires-clause-leads g c = λ gave may. c.requires gave (c.in-Ok-open_file.ensures.gives.1 gave may)

pub returns-then-is_confirmed-clause-refused : goal.returns-then-is_confirmed-clause-refused
returns-then-is_confirmed-clause-refused g c = c.made_of-found.ensures.refused

pub returns-then-is_confirmed-clause-made : goal.returns-then-is_confirmed-clause-made
returns-then-is_confirmed-clause-made g c =
    let known = g.F.Files.content c.args.at.files.now c.args.at.path.now in
    let found = c.made_of-found.result in
    let ended = IsGiven g.O.Origin.Gives (Whole (g.F.Reader.FileReader.given c.source.result.now.reader)) in
    made-in (g.T.LogTask.Makes c.args.task.now c.args.program.now)
    (g.T.LogTask.MakesOfIllegal c.args.task.now c.args.program.now) c.args.program.now c.args.most c.args.hart
    c.made_of-found.new.reader (λ file. g.F.Reader.FileReader.given file.reader)
    (λ file. g.F.Reader.FileReader.left file.reader) known
    (all-through known _ _ _ _ _ _ c.in-Ok-open_file.ensures.opened c.new-watched.ensures.given
    c.new-watched.ensures.left c.new-reader.ensures.content c.made_of-found.ensures.kept)
    ended found c.made_of-found.ensures.made
    (subst (λ left. IsConfirmedBy ended (left ≡ None) found) c.source.ensures.left
    (c.is_confirmed.ensures.confirmed c.if-is_confirmed.true))

pub returns-then-is_confirmed-clause-given : goal.returns-then-is_confirmed-clause-given
returns-then-is_confirmed-clause-given g c =
    let gives = g.O.Origin.Gives in
    let found = c.made_of-found.result in
    let failed = g.F.Reader.FileReader.left c.source.result.now.reader ≡ None in
    made-given (g.T.LogTask.Makes c.args.task.now c.args.program.now)
    (g.T.LogTask.MakesOfIllegal c.args.task.now c.args.program.now) c.args.program.now c.args.most c.args.hart
    c.made_of-found.new.reader (λ file. g.F.Reader.FileReader.given file.reader)
    (λ file. g.F.Reader.FileReader.left file.reader) gives
    (subst (λ bytes. IsGiven gives (First bytes)) c.source.ensures.given c.is_confirmed.ensures.first)
    failed found c.made_of-found.ensures.made
    (subst (λ bytes. IsConfirmedBy (IsGiven gives (Whole bytes)) failed found) c.source.ensures.given
    (c.is_confirmed.ensures.confirmed c.if-is_confirmed.true))
