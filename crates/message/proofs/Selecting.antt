-- Which messages a range selects.
use Rattle.std.proofs.Common.{◌≡◌, ◌<◌, ◌^◌, ◌++◌, ℕ, true, false, List, [], ◌∷◌, refl, ap, arith}
use Rattle.std.specs.Prelude.{All}
use Rattle.std.proofs.lemmas.Bool.{le-leb}
use Rattle.std.proofs.lemmas.List.Elements.{All-head, All-tail, filter-append}
use Rattle.message.specs.Cut.{IsMessage}
use Rattle.message.specs.declared.message.Message.{Message}
use Rattle.message.specs.Range.{every_hart, selected, selects}
use Rattle.message.specs.declared.range.HartRange.{HartRange}

-- All harts that a message may be of are of the range of all harts.
pub every_hart_selects : (hart : ℕ) → hart < 2 ^ 16 → selects every_hart hart ≡ true
every_hart_selects hart fits =
    rw (le-leb 0 hart (omega arith), le-leb hart 65535 (omega (arith, fits))) refl

-- The range of all harts selects all messages.
pub all_selected : (messages : List Message) → All IsMessage messages → selected every_hart messages ≡ messages
all_selected [] are = refl
all_selected (m ∷ messages) are =
    rw (every_hart_selects m.hart (All-head IsMessage m messages are).hart)
    (ap (λ (l : List Message). m ∷ l) (all_selected messages (All-tail IsMessage m messages are)))

-- What is selected of two lists, one after the other.
pub selected-append : (range : HartRange) (front back : List Message)
    → selected range (front ++ back) ≡ selected range front ++ selected range back
selected-append range front back = filter-append (λ message. selects range message.hart) front back

-- A message that is selected, and one that is not.
pub one_selected : (range : HartRange) (m : Message) → selects range m.hart ≡ true → selected range (m ∷ []) ≡ m ∷ []
one_selected range m is = rw is refl

pub none_selected : (range : HartRange) (m : Message) → selects range m.hart ≡ false → selected range (m ∷ []) ≡ []
none_selected range m is = rw is refl
