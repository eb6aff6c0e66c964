-- What `command` says of no files is led to the lemma by hand.
use Rattle.transcripts.proofs.NoFiles.{not_whole}
use Rattle.transcripts.proofs.content.run_over_none.Goals as goal

pub returns : goal.returns
returns g c =
    not_whole _ _ _ _ _ _ _ _ _ c.new-shelf.ensures c.command.ensures.words c.command.ensures.printed
