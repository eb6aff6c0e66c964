-- What closes the trace is read of the entry's message.
use Rattle.std.proofs.Common.{sym, ap, ◌∙◌}
use Rattle.salvaging.specs.steps.Ending.{closes}
use Rattle.salvaging.specs.steps.Grouping.{entry_of}
use Rattle.salvaging.proofs.ending.closes.Goals as goal

pub returns-in-Used : goal.returns-in-Used
returns-in-Used c = c.is_closing.ensures ∙ sym (ap (λ e. closes (entry_of e)) c.in-Used.is)
