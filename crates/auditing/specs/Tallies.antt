-- What became of the messages of a hart.
use Rattle.std.specs.Prelude.{ℕ, Bool, List, length}
use Rattle.std.specs.Cmp.Lexicographic.{pointwise}
use Rattle.message.specs.OfHart.{of_hart}
use Rattle.message.specs.declared.message.Message.{Message}
use Rattle.auditing.specs.Fates.{is_same}
use Rattle.auditing.specs.Judged.{fates_counted}
use Rattle.auditing.specs.Losing.{lost_numbers}
use Rattle.auditing.specs.declared.fate.Fate.TheVariants as fate
use Rattle.auditing.specs.declared.tally.Tally.{Tally}

-- A hart is whole: its messages in RECEIVED are just those in SENT, in order.
abbrev pub is_whole : List Message → List Message → ℕ → Bool
is_whole sent received hart = pointwise is_same (of_hart hart received) (of_hart hart sent)

-- What became of the messages of a hart.
abbrev pub tally_of : List Message → List Message → ℕ → Tally
tally_of sent received hart = record {
  sent = length (of_hart hart sent);
  came = length (of_hart hart received);
  lost = length (lost_numbers sent received hart);
  repeated = fates_counted sent received hart fate.Repeat;
  late = fates_counted sent received hart fate.Late;
  changed = fates_counted sent received hart fate.Changed;
  whole = is_whole sent received hart;
}
