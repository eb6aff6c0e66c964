-- Copies: messages that came before with the same number and the same payload.
use Rattle.std.specs.Prelude.{ℕ, ◌≡◌, ◌+◌, All, List, [], ◌∷◌, Contains, length}
use Rattle.message.specs.declared.message.Message.{Message}

-- Two messages of a hart are alike: they have the same number and the same payload.
abbrev pub AreAlike : Message → Message → Type 0
AreAlike message other = (message.number ≡ other.number) × (message.payload ≡ other.payload)

-- One of these messages is like this one.
abbrev pub HasLike : List Message → Message → Type 0
HasLike messages message = (like : Message) × Contains messages like × AreAlike message like

-- No two of these messages are alike.
abbrev pub AllDiffer : List Message → Type 0
AllDiffer [] = Unit {0}
AllDiffer (message ∷ messages) = (¬ HasLike messages message) × AllDiffer messages

-- The distinct ones among a hart's messages: each message is like one of them, and no two of them are alike.
pub record AreDistinct (messages distinct : List Message) : Type 0 where
  pub some : All (Contains messages) distinct
  pub all : All (HasLike distinct) messages
  pub differ : AllDiffer distinct

-- So many of a hart's messages are copies: all but as many as there are distinct ones.
pub record AreCopies (messages : List Message) (count : ℕ) : Type 0 where
  pub distinct : List Message
  pub are_distinct : AreDistinct messages distinct
  pub others : count + length distinct ≡ length messages
