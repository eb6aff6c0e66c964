-- The payload of a message is added, and a run of bytes has none: by the law of lists that are split.
use Rattle.std.proofs.Common.{◌++◌, ◌∷◌, [], subst, sym}
use Rattle.auditing.specs.Split.{AreSplit}
use Rattle.frames.specs.Counted.{messages_in}
use Rattle.ffi.proofs.aligned_reading.add_payload.Goals as goal

pub returns-in_ok-add-in-Frame-clause-split : goal.returns-in_ok-add-in-Frame-clause-split
returns-in_ok-add-in-Frame-clause-split c = λ harts messages split.
    subst (λ s. AreSplit c.args.payloads.now.by harts (messages ++ messages_in (s ∷ [])) c.add.new.self.lists)
    (sym c.in-Frame.is) (c.in_ok-add-in-Frame.ensures.split harts messages split)
