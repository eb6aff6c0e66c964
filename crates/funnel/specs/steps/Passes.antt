-- What a pass of a funnel's channel knows.
use Rattle.std.specs.Prelude.{◌≡◌, ℕ, List, [], Option}
use Rattle.crossbeam_channel.specs.Claims.{Pass, view}
use Rattle.message.specs.declared.message.Message.{Message}
use Rattle.funnel.specs.declared.rule.View.{View}
use Rattle.funnel.specs.declared.rule.View.TheVariants as V
use Rattle.funnel.specs.Ends.{FunnelId}

-- The funnel that a pass belongs to.
abbrev pub id_of : Pass Message View → FunnelId
id_of pass = record { table = pass.table_id; key = pass.me.0.of }

-- What a pass knows.
abbrev pub knows : Pass Message View → View
knows pass = view pass

-- What a port's pass knows to be sent; nothing of any other pass.
abbrev pub sent_of : View → List Message
sent_of (V.Outlet _ _ _ _) = []
sent_of (V.Port hart sent) = sent
sent_of V.Spent = []

-- What the outlet's pass knows to be taken; nothing of any other pass.
abbrev pub taken_by_outlet : View → List Message
taken_by_outlet (V.Outlet _ taken _ _) = taken
taken_by_outlet (V.Port _ _) = []
taken_by_outlet V.Spent = []

-- The view is a live one of the hart's port.
abbrev pub IsPort : ℕ → View → Type 0
IsPort hart v = v ≡ V.Port hart (sent_of v)

-- The view is the outlet's, which counts this many ports.
pub record IsOutlet (made : ℕ) (v : View) : Type 0 where
  pub settled : Option ℕ
  pub list : List Message
  pub is : v ≡ V.Outlet made (taken_by_outlet v) settled list
