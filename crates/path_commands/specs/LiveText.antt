-- The rows that only a live audit has.
use Rattle.std.specs.Prelude.{ℕ, ◌++◌, List, codes}
use Rattle.std.specs.Fmt.{decimal}

-- The line of a message at a place of RECEIVED, with this hart and this number, that is too late.
abbrev pub too_late_line : ℕ → ℕ → ℕ → List ℕ
too_late_line place hart number =
    codes "message " ++ (decimal place ++ (codes ": hart " ++ (decimal hart ++ (codes " number "
    ++ (decimal number ++ codes ": too late\n")))))
