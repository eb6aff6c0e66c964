-- The law counts each hart's messages by its entries, which no search does.
use Rattle.salvaging.proofs.CountedOnce.{counted_once}
use Rattle.salvaging.proofs.laws.messages_are_counted_once.Goals as goal

pub returns : goal.returns
returns g c = λ words mode harts messages salvaged is. counted_once words mode harts messages salvaged is
