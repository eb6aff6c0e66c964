-- The fates of all messages of RECEIVED.
use Rattle.std.specs.Prelude.{ℕ, ◌==◌, ◌&&◌, Bool, true, false, List, [], ◌∷◌, ◌++◌}
use Rattle.std.specs.List.{count_by}
use Rattle.message.specs.declared.message.Message.{Message}
use Rattle.auditing.specs.Fates.{fate_of}
use Rattle.auditing.specs.declared.fate.Fate.{Fate}
use Rattle.auditing.specs.declared.fate.Fate.TheVariants.{Stranger, Changed, Repeat, Late, InOrder}

-- A message that came, and its fate.
pub record Judged : Type 0 where
  pub message : Message
  pub fate : Fate

-- A message and its fate, by SENT and the messages before it.
abbrev pub judged_one : List Message → List Message → Message → Judged
judged_one sent before message = record { message = message; fate = fate_of sent before message }

-- The messages that came after these, each with its fate.
abbrev pub judged_behind : List Message → List Message → List Message → List Judged
judged_behind sent before [] = []
judged_behind sent before (message ∷ messages) =
    judged_one sent before message ∷ judged_behind sent (before ++ message ∷ []) messages

-- The messages of RECEIVED, each with its fate.
abbrev pub judged : List Message → List Message → List Judged
judged sent received = judged_behind sent [] received

-- Two fates are the same.
abbrev pub is_fate : Fate → Fate → Bool
is_fate Stranger Stranger = true
is_fate Changed Changed = true
is_fate Repeat Repeat = true
is_fate Late Late = true
is_fate InOrder InOrder = true
is_fate one other = false

-- How many messages of a hart in RECEIVED have this fate.
abbrev pub fates_counted : List Message → List Message → ℕ → Fate → ℕ
fates_counted sent received hart its =
    count_by (λ (one : Judged). one.message.hart == hart && is_fate its one.fate) (judged sent received)

-- How many messages of RECEIVED are strangers, of whatever hart.
abbrev pub strangers_in : List Message → List Message → ℕ
strangers_in sent received = count_by (λ (one : Judged). is_fate Stranger one.fate) (judged sent received)
