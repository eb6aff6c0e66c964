use Rattle.std.proofs.Common.{IfSome, ◌*◌, take}
use Rattle.std.specs.Io.KnownBytes.{Appends}
use Rattle.output.proofs.text.write_text.Given as goal

-- What was written so far is the first parts.
abbrev pub invariant-loop-parts : goal.invariant-loop-parts
invariant-loop-parts g l = IfSome (g.D.Display.output l.text)
    (λ bytes. Appends (g.W.Write.contents l.fn.out) (g.W.Write.contents l.out) (take (l.parts * 512) bytes))
