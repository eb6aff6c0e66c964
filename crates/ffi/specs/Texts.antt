-- What a call reports of a text about a capture.
use Rattle.std.specs.Prelude.{ℕ, ◌≡◌, ◌+◌, Bool, true, false, List, [], ◌∷◌, Result, Ok, Err}
use Rattle.ffi.specs.Handed.{IsHandedOut}
use Rattle.ffi.specs.Statuses.{fault_status}
use Rattle.ffi.specs.declared.fault.Fault.{Fault}
use Rattle.ffi.specs.declared.texts.TextEnd.{TextEnd}
use Rattle.ffi.specs.declared.texts.Written.{Written}

-- The lowest hart that is not closed by these flags; where each is, how many there are.
abbrev pub first_unclosed : List Bool → ℕ
first_unclosed [] = 0
first_unclosed (true ∷ closed) = 1 + first_unclosed closed
first_unclosed (false ∷ closed) = 0

-- A text was handed out, and it was reported how it ends; or nothing was written, and the status says why.
pub data ReportsText (written : Result Written Fault) (status wanted_before wanted : ℕ)
    (ended_before ended : TextEnd) (old new : List ℕ) : Type 0 where
  Handed : (found : Written) → written ≡ Ok found → IsHandedOut found.text.items status wanted old new
      → ended ≡ found.end → ReportsText written status wanted_before wanted ended_before ended old new
  Refused : (fault : Fault) → written ≡ Err fault → status ≡ fault_status fault
      → wanted ≡ wanted_before → ended ≡ ended_before → new ≡ old
      → ReportsText written status wanted_before wanted ended_before ended old new
