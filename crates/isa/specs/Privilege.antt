-- The privilege levels.
use Rattle.std.specs.Prelude.{◌≢◌, ◌≤◌, ◌==◌, ◌||◌, Bool, ℕ}

-- A number is a privilege level of this project's profile: 0 for user, 1 for supervisor, 3 for machine.
abbrev pub IsPrivilege : ℕ → Type 0
IsPrivilege priv = (priv ≤ 3) × (priv ≢ 2)

-- The test whether a number is a privilege level.
abbrev pub is_privilege : ℕ → Bool
is_privilege priv = (priv == 0) || (priv == 1) || (priv == 3)
