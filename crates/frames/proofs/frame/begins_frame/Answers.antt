-- That both ways to say it are one: by a lemma on the bytes of messages.
use Rattle.std.proofs.Common.{◌↔◌, IsTrue, sym, subst}
use Rattle.frames.specs.Frame.{BeginsFrame}
use Rattle.frames.proofs.FrameLemmas.{is_frame-begins}
use Rattle.frames.proofs.frame.begins_frame.Goals as goal

pub returns-clause-frame : goal.returns-clause-frame
returns-clause-frame c =
    subst (λ answer. IsTrue answer ↔ BeginsFrame c.args.known c.args.bytes.now) (sym c.is_frame.ensures.value)
    (is_frame-begins c.args.known c.args.bytes.now c.is_frame.ensures.bytes)
