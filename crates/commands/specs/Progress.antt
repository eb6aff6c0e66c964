-- How much of some files is read, or how many of their messages are worked through, in words, and how often that is
-- written.
use Rattle.std.specs.Prelude.{◌++◌, ◌==◌, ◌*◌, ◌/◌, ◌-◌, ℕ, Bool, List, codes, if◌then◌else◌, nat_le, not}
use Rattle.std.specs.Fmt.{decimal}
use Rattle.commands.specs.declared.progress.Amount.{Amount}
use Rattle.commands.specs.declared.progress.Amount.TheVariants as amount

-- How much it is where so many bytes were read of so many, or so many messages were worked through: the bytes where the
-- total is 0, which says that it is not known, and else the share in hundredths, rounded down, and never more than 100.
abbrev pub amount_of : ℕ → ℕ → Amount
amount_of read total =
    if total == 0 then amount.Bytes read else if nat_le total read then amount.Share 100
    else amount.Share ((read * 100) / total)

-- How much it is, in words.
abbrev pub amount_text : Amount → List ℕ
amount_text (amount.Share share) = decimal share ++ codes " percent"
amount_text (amount.Bytes bytes) = decimal bytes ++ codes " bytes"

-- The clock is looked at where the count of messages passes a multiple of 64.
abbrev pub is_looked_at : ℕ → ℕ → Bool
is_looked_at before now = not ((before / 64) == (now / 64))

-- A line may be written again where it was written last at a time 100 milliseconds before, or earlier.
abbrev pub is_due : ℕ → ℕ → Bool
is_due last now = nat_le 100 (now - last)
