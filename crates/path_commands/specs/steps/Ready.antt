-- What the writer of a capture of lines may be given.
use Rattle.std.specs.Prelude.{◌≤◌, IfSome}
use Rattle.captures.specs.declared.line_settings.Settings.{Settings}
use Rattle.message.specs.Version.{most_harts}

-- The period is 1 at least, the count of harts is 1 at least and no more than a capture of the version has, and the
-- count of numbers is 2 at least.
abbrev pub IsReady : Settings → Type 0
IsReady settings = (1 ≤ settings.period)
    × IfSome settings.harts (λ harts. (1 ≤ harts) × (harts ≤ most_harts settings.version))
    × IfSome settings.numbers (λ numbers. 2 ≤ numbers)
