-- By the bytes, one after the other.
use Rattle.live.proofs.Calls.{spans_read}
use Rattle.live.proofs.laws.calls_read_all_of_received.Goals as goal

pub returns : goal.returns
returns c = λ all state place own new rest found file receives next.
    spans_read all state place own new rest found file receives next
