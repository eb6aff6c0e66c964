-- The prover makes no product of so many parts: what each value is, is handed to it in order.
use Rattle.std.proofs.Common.{refl}
use Rattle.cli.proofs.asking.list_asked.Goals as goal

pub returns : goal.returns
returns c = (
  refl,
  c.in_ok-program_args.ensures,
  c.given_up_to.ensures,
  c.given_text.ensures,
  c.given_text-2.ensures,
  c.flag.ensures,
  c.flag-2.ensures,
  c.format.ensures,
  c.flag-3.ensures,
  c.text.ensures,
)
