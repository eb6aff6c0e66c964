-- Each message is taken: by a lemma on messages one after the other.
use Rattle.live.proofs.ReceivedWhole.{whole_first}
use Rattle.live.proofs.laws.framed_messages_are_taken.Goals as goal

pub returns : goal.returns
returns c = λ rule offset message messages all. whole_first rule offset message messages all
