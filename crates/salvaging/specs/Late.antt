-- Late messages: believed ones that came after one with a greater number.
use Rattle.std.specs.Prelude.{ℕ, suc, Bool, true, false, ◌&&◌, ◌||◌, nat_lt, List, [], ◌∷◌}
use Rattle.salvaging.specs.Entries.{Entry, Used, Doubtful}

-- A message came at this place, and of these entries, whose numbers are greater, one is believed and its message came
-- before that place. An entry is believed where it is used, and neither bad, alone nor far.
abbrev pub is_late : ℕ → List Entry → List Bool → Bool
is_late place [] believed = false
is_late place (entry ∷ entries) [] = false
is_late place (Used number before payload ∷ entries) (true ∷ believed) =
    nat_lt before place || is_late place entries believed
is_late place (entry ∷ entries) (one ∷ believed) = is_late place entries believed

-- One more than this where the test is true.
abbrev pub counted : Bool → ℕ → ℕ
counted true count = suc count
counted false count = count

-- How many of the believed messages are late, by the entries of a hart and by which of them are believed.
abbrev pub late : List Entry → List Bool → ℕ
late [] believed = 0
late (entry ∷ entries) [] = 0
late (Used number place payload ∷ entries) (one ∷ believed) =
    counted (one && is_late place entries believed) (late entries believed)
late (Doubtful number first second ∷ entries) (one ∷ believed) = late entries believed
