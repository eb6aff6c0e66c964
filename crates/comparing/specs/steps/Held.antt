-- What is held of the harts of a capture.
use Rattle.std.specs.Prelude.{ℕ, Bool, false, List, [], get_or}
use Rattle.bench.specs.Got.{Got}
use Rattle.retire.specs.declared.event.Event.{Event}
use Rattle.comparing.specs.Compared.{got_by}
use Rattle.comparing.specs.declared.hart_count.HartCount.{HartCount}

-- The count of a hart, or nothing.
abbrev pub count_in : List HartCount → ℕ → HartCount
count_in counts hart = get_or counts hart (record { taken = 0; bytes = 0 })

-- What is held of a hart.
abbrev pub got_at : List HartCount → List (List Event) → List Bool → ℕ → Got
got_at counts lists closed hart =
    got_by (count_in counts hart) (get_or lists hart []) (get_or closed hart false)
