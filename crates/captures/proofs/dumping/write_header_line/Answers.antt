-- The name of the mode is an equation, which goes into the text, where no tactic puts it.
use Rattle.std.proofs.Common.{◌++◌, codes, subst}
use Rattle.std.specs.Fmt.{decimal}
use Rattle.std.specs.Io.KnownBytes.{Appends}
use Rattle.captures.proofs.dumping.write_header_line.Goals as goal

pub returns-clause-text : goal.returns-clause-text
returns-clause-text g c =
    let header = c.args.header.now in
    subst
    (λ mode. Appends (g.W.Write.contents c.args.sink.now) (g.W.Write.contents c.write_text.new.out)
    (codes "capture 2 mode=" ++ (mode ++ (codes " period=" ++ (decimal header.period
    ++ (codes " harts=" ++ (decimal header.harts ++ codes "\n")))))))
    c.mode_text-mode.ensures c.in_ok-write_text.ensures.whole
