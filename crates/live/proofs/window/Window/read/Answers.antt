-- A message was read: by a lemma on what is held, which no tactic finds.
use Rattle.live.proofs.Reading.{reads_on, refused_if}
use Rattle.live.proofs.window.Window.read.Goals as goal

pub returns-clause-read : goal.returns-clause-read
returns-clause-read g c = λ sent came front holds.
    reads_on sent came front c.args.self.now holds c.args.message c.add.result _ c.add.ensures.value c.add.ensures.read

pub returns-clause-refused : goal.returns-clause-refused
returns-clause-refused g c = λ sent came front holds.
    refused_if sent came front c.args.self.now holds c.args.message c.add.result c.add.ensures.value
