-- The laws are by induction on the bytes, which no search finds.
use Rattle.frames.proofs.PassedOver.{firm_passed_over, known_passed_over}
use Rattle.frames.proofs.laws.known_messages_are_taken.Goals as goal

pub returns-clause-known : goal.returns-clause-known
returns-clause-known c = known_passed_over

pub returns-clause-firm : goal.returns-clause-firm
returns-clause-firm c = firm_passed_over
