-- The law is a recursion over the messages, which no search makes.
use Rattle.std.proofs.Common.{◌∙◌, [], ap, sym}
use Rattle.payload.specs.declared.by.By.TheVariants as by
use Rattle.auditing.proofs.AllWhole.{all_same}
use Rattle.auditing.proofs.DecodedAgain.{decoded_again}
use Rattle.auditing.proofs.KnownLemmas.{known-of_hart, known-turn}
use Rattle.auditing.specs.Known.{known_all}
use Rattle.auditing.specs.Sent.{known_harts}
use Rattle.auditing.proofs.laws.whole_decodes_again.Goals as goal

pub returns-clause-bytes : goal.returns-clause-bytes
returns-clause-bytes c = λ words harts sent received header messages others lists again closed flags stop program is whole
    all first second.
    decoded_again by.Bytes words harts sent received header messages others lists again closed flags stop program is.whole
    whole (λ hart. ap (known_all by.Bytes) (all_same header messages others is.in_turn all hart)) first second

pub returns-clause-known : goal.returns-clause-known
returns-clause-known c = λ how words harts sent received header messages others lists again closed flags stop program is
    whole all first second.
    decoded_again how words harts sent received header messages others lists again closed flags stop program is.whole
    whole
    (λ hart. sym (known-of_hart how hart others)
    ∙ all_same header (known_all how messages) (known_all how others)
    (known-turn how (known_harts header) [] messages is.in_turn) all hart ∙ known-of_hart how hart messages) first second
