-- The verdict on a hart by counts alone.
use Rattle.std.specs.Prelude.{ℕ, ◌+◌, ◌==◌, ◌&&◌, Bool, if◌then◌else◌}
use Rattle.bench.specs.declared.verdict.Verdict.{Verdict}
use Rattle.bench.specs.declared.verdict.Verdict.TheVariants.{Whole, Beginning, Differs}

-- So many of the first events are alike, so many were decoded, and the log has so many.
abbrev pub verdict_at : Bool → ℕ → ℕ → ℕ → Verdict
verdict_at closed alike decoded events =
    if closed && (alike == decoded && alike == events) then Whole else
    if alike == decoded then Beginning else
    Differs (alike + 1)
