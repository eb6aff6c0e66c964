-- The state of the funnel machine that a channel is in while all its ports are live.
use Rattle.std.specs.Prelude.{◌≡◌, ◌<◌, ◌++◌, ◌∷◌, ◌⊎◌, [], ℕ, List, length, Option}
use mathlib.Core.Option.{some}
use lib.ListN.{get_elem?}
use Rattle.message.specs.declared.message.Message.{Message}
use Rattle.funnel.specs.Machine.{Funnel, sent_by}
use Rattle.funnel.specs.Rule.{SendsOn, SendsLast}
use Rattle.funnel.specs.declared.rule.View.{View}
use Rattle.funnel.specs.declared.rule.View.TheVariants as V

-- The channel holds what waits. The outlet's view has what was taken, and counts the harts. Each hart has a live port,
-- whose view has what the hart sent.
pub record AreLive (queue : List Message) (views : List View) (state : Funnel) : Type 0 where
  pub waits : state.queue ≡ queue
  pub outlet : (pass : ℕ) × (settled : Option ℕ) × (list : List Message)
      × (get_elem? views pass ≡ some (V.Outlet (length state.sent) state.taken settled list))
  pub ports : (hart : ℕ) → hart < length state.sent
      → (pass : ℕ) × (get_elem? views pass ≡ some (V.Port hart (sent_by hart state)))

-- A send, ordinary or closing.
abbrev pub Sends : View → Message → View → Type 0
Sends before message after = SendsOn before message after ⊎ SendsLast before message after

-- The machine with one hart more, which sent nothing.
abbrev pub with_new_hart : Funnel → Funnel
with_new_hart state = record state { sent = state.sent ++ [] ∷ [] }
