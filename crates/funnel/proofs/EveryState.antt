-- Every state that turns lead to from the opening keeps what the opening keeps.
use Rattle.std.proofs.Common.{ℕ, List, [], ◌∷◌}
use Rattle.funnel.specs.Machine.{Funnel, after_turn, after_turns, opening}
use Rattle.funnel.specs.declared.turn.Turn.{Turn}
use Rattle.funnel.specs.declared.turn.Turn.TheVariants as turn
use Rattle.funnel.proofs.Kept.{Keeps, opening-keeps}
use Rattle.funnel.proofs.KeptSending.{send_next-keeps}
use Rattle.funnel.proofs.KeptTaking.{take_front-keeps}

module _ (capacity : ℕ) (payloads : List (List (List ℕ))) where
  turn-keeps : (state : Funnel) (turn : Turn) → Keeps capacity payloads state
      → Keeps capacity payloads (after_turn capacity payloads turn state)
  turn-keeps state (turn.Hart hart) keeps = send_next-keeps capacity payloads state keeps hart
  turn-keeps state turn.Collect keeps = take_front-keeps capacity payloads state keeps

  pub turns-keep : (state : Funnel) (turns : List Turn) → Keeps capacity payloads state
      → Keeps capacity payloads (after_turns capacity payloads turns state)
  turns-keep state [] keeps = keeps
  turns-keep state (turn ∷ turns) keeps =
      turns-keep (after_turn capacity payloads turn state) turns (turn-keeps state turn keeps)

  pub every-keeps : (turns : List Turn)
      → Keeps capacity payloads (after_turns capacity payloads turns (opening payloads))
  every-keeps turns = turns-keep (opening payloads) turns (opening-keeps capacity payloads)
