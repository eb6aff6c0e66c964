-- By a lemma on messages, and by induction over the lists.
use Rattle.std.proofs.Common.{arith}
use Rattle.message.proofs.Selecting.{all_selected}
use Rattle.retire.specs.LogText.{log_text}
use Rattle.parallel_decode.proofs.AllHarts.{all_texts}
use Rattle.parallel_decode.proofs.laws.all_harts_are_decoded.Goals as goal

pub returns-clause-decoded : goal.returns-clause-decoded
returns-clause-decoded c = all_selected

pub returns-clause-text : goal.returns-clause-text
returns-clause-text c = λ lists few. all_texts (λ number. log_text) 0 lists (omega (arith, few))
