-- A text starts where the one before ends: by a lemma on the ends.
use Rattle.ffi.proofs.TextsRead.{start_after}
use Rattle.ffi.proofs.legal_texts.start_of_text.Goals as goal

pub returns-else-place-eq0 : goal.returns-else-place-eq0
returns-else-place-eq0 c = start_after c.args.ends.now c.args.place c.if-place-eq0.false c.requires
