-- Without a search it is the dump: the flag's value goes into the clauses, where no tactic puts it.
use Rattle.std.proofs.Common.{IfOk, OnErr, option_map, subst, sym}
use Rattle.captures.specs.Dump.{AppendsDump, BeginsDump}
use Rattle.capture_commands.specs.Dumping.{IsDumpAsked}
use Rattle.capture_commands.proofs.dumping.write_dump.Goals as goal

pub returns-else-asked-clause-dumped : goal.returns-else-asked-clause-dumped
returns-else-asked-clause-dumped g c =
    subst
    (λ search. IfOk c.dump_harts.result (λ dumped. AppendsDump (IsDumpAsked search (option_map (λ file. file.now) c.args.symbols) c.args.harts c.args.bytes.now) dumped.bad
    dumped.fault (g.O.Write.contents c.args.out.now) (g.O.Write.contents c.dump_harts.new.sink)))
    (sym c.if-asked.false) c.dump_harts.ensures.dumped

pub returns-else-asked-clause-begun : goal.returns-else-asked-clause-begun
returns-else-asked-clause-begun g c =
    subst
    (λ search. OnErr c.dump_harts.result (BeginsDump (IsDumpAsked search (option_map (λ file. file.now) c.args.symbols) c.args.harts c.args.bytes.now)
    (g.O.Write.contents c.args.out.now) (g.O.Write.contents c.dump_harts.new.sink)))
    (sym c.if-asked.false) c.dump_harts.ensures.begun
