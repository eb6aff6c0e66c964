-- What some harts have.
use Rattle.std.specs.Prelude.{◌≡◌, ◌+◌, ◌≤◌, ◌^◌, List, drop, length, take}
use Rattle.message.specs.Range.{every_hart}
use Rattle.message.specs.declared.range.HartRange.{HartRange}

-- Of what each hart has, from hart 0 on, what these harts have.
abbrev pub items_of : {X : Type 0} → HartRange → List X → List X
items_of harts items = drop harts.first (take (harts.last + 1) items)

-- Of what each hart has, all is what all harts that a message may be of have.
abbrev pub AllHartsHaveItems : Type 0 → Type 0
AllHartsHaveItems X = (items : List X) → length items ≤ 2 ^ 16 → items_of every_hart items ≡ items
