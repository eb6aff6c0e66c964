-- What a piece adds is a lemma.
use Rattle.rvclass.proofs.AddedPieceLemmas.{added_byte, added_memory}
use Rattle.rvclass.proofs.laws.added_pieces_leave_the_others.Goals as goal

pub returns-clause-memory : goal.returns-clause-memory
returns-clause-memory c = λ m n base bytes memory e. added_memory m base bytes n memory e

pub returns-clause-bytes : goal.returns-clause-bytes
returns-clause-bytes c = λ m n base bytes addr e. added_byte m base bytes n addr e
