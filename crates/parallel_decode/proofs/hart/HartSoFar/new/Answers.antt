-- Nothing was received: what two calls made is joined here.
use Rattle.std.proofs.Common.{[]}
use Rattle.parallel_decode.proofs.hart.HartSoFar.new.Goals as goal

pub returns : goal.returns
returns c = λ words announced messages. record {
  log = [];
  received = c.new.ensures words announced;
  made = c.new-2.ensures words;
}
