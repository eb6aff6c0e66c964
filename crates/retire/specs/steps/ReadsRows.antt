-- Rows that were read, and those that are left.
use Rattle.std.specs.Prelude.{◌≡◌, ◌+◌, ◌++◌, Bool, ℕ, List, [], ◌∷◌, length, true, Option, Some, None, Err}
use Rattle.csv.specs.declared.parser.State.TheVariants.{StartRecord}
use Rattle.retire.specs.Log.{events_up_to, is_header, log_up_to}
use Rattle.retire.specs.steps.RowsLeft.{MayFollow, records_left, with_events}
use Rattle.retire.specs.declared.event.Event.{Event}
use Rattle.retire.specs.declared.fault.LogFault.{LogFault}

-- Of the records of rows that follow on so many, the first ones were read, up to this count, and the rest is left.
-- Their events were appended to those before.
pub record ReadsRows (most rows : ℕ) (records : List (List (List ℕ))) (before after : List Event) (count : ℕ)
    (rest : List (List (List ℕ))) : Type 0 where
  pub piece : List Event
  pub appended : after ≡ before ++ piece
  pub counted : count ≡ rows + length piece
  pub read : events_up_to most (rows + 1) records ≡ with_events piece (events_up_to most (count + 1) rest)

-- Of the rows that a text begins with the first ones were read in the same way, and the rest of the text is left,
-- whatever follows it.
pub record ReadsFront (most rows : ℕ) (ended : Bool) (text : List ℕ) (before after : List Event) (count : ℕ)
    (rest : List ℕ) : Type 0 where
  pub piece : List Event
  pub appended : after ≡ before ++ piece
  pub counted : count ≡ rows + length piece
  pub read : (more : List ℕ) → MayFollow ended more
      → events_up_to most (rows + 1) (records_left StartRecord (text ++ more))
      ≡ with_events piece (events_up_to most (count + 1) (records_left StartRecord (rest ++ more)))

-- The first records of a log were read, the header first, and so many rows.
pub record ReadsFirst (most : ℕ) (records : List (List (List ℕ))) (before after : List Event) (count : ℕ) : Type 0 where
  pub first : List (List ℕ)
  pub rows : List (List (List ℕ))
  pub records_are : records ≡ first ∷ rows
  pub header : is_header first ≡ true
  pub read : ReadsRows most 0 rows before after count []

-- The same, or there is no record.
abbrev pub ReadsBeginning : ℕ → List (List (List ℕ)) → List Event → List Event → Option ℕ → Type 0
ReadsBeginning most records before after None = (records ≡ []) × (after ≡ before)
ReadsBeginning most records before after (Some count) = ReadsFirst most records before after count

-- There are first records of a log, which have this fault.
abbrev pub HasFault : ℕ → List (List (List ℕ)) → LogFault → Type 0
HasFault most [] why = ⊥
HasFault most (first ∷ rows) why = log_up_to most (first ∷ rows) ≡ Err why
