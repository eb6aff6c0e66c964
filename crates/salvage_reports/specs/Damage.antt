-- What is damaged of salvaged harts.
use Rattle.std.specs.Prelude.{◌||◌, ◌==◌, ◌+◌, ℕ, not, Bool, true, false, List, [], ◌∷◌, Option, Some, None, map}
use Rattle.std.specs.List.{list_any}
use Rattle.std.specs.declared.alloc.Global.{Global}
use Rattle.salvaging.specs.LeftParts.{LeftPart, Events}
use Rattle.salvaging.specs.PartsIn.{parts_in}
use Rattle.salvaging.specs.declared.salvaged.SalvagedHart.{SalvagedHart}

-- The part is no stretch: numbers did not come, or one is bad, doubtful or alone.
abbrev pub is_no_stretch : LeftPart → Bool
is_no_stretch (Events first last events) = false
is_no_stretch other = true

-- Some number of the hart did not come, or it is bad, doubtful or alone.
abbrev pub has_loss : SalvagedHart Global → Bool
has_loss own = list_any is_no_stretch (parts_in own.parts.items)

-- Some number of a hart did not come or is bad, doubtful or alone, or there is a stranger.
abbrev pub is_damaged : List (SalvagedHart Global) → ℕ → Bool
is_damaged harts strangers = list_any has_loss harts || not (strangers == 0)

-- Whether each hart is closed.
abbrev pub closed_harts : List (SalvagedHart Global) → List Bool
closed_harts harts = map (λ (own : SalvagedHart Global). own.closed) harts

-- The first of harts that is not closed, by these flags of the harts from this number on, if there is one.
abbrev pub first_unclosed : ℕ → List Bool → Option ℕ
first_unclosed hart [] = None
first_unclosed hart (false ∷ closed) = Some hart
first_unclosed hart (true ∷ closed) = first_unclosed (hart + 1) closed
