-- Nothing is expected but a newcomer: what calls made is joined here.
use Rattle.std.proofs.Common.{refl}
use Rattle.std.proofs.lemmas.List.Elements.{All-nil}
use Rattle.receiver.specs.Agreeing.{Agrees}
use Rattle.parallel_decode.proofs.own.Own.new.Goals as goal

pub returns : goal.returns
returns c = λ words announced. record {
  expected = refl;
  accepted = tt;
  agree = All-nil (Agrees announced);
  stands = c.new.ensures.stands words;
  closed = refl;
}
