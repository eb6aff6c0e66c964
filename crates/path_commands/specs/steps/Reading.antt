-- Reading RECEIVED.
use Rattle.std.specs.Prelude.{ℕ, ◌+◌, ◌-◌, ◌^◌, min}
use Rattle.frames.specs.declared.span.Span.{Span}
use Rattle.frames.specs.declared.span.Span.TheVariants.{Frame, Bytes}
use Rattle.path_commands.specs.declared.received.Progress.{Progress}

-- So many more, or 2^64 - 1 where that is greater.
abbrev pub and_more : ℕ → ℕ → ℕ
and_more count more = min (count + more) (2 ^ 64 - 1)

-- How far RECEIVED is read after one message more, and after one run more of so many bytes.
abbrev pub with_message : Progress → Progress
with_message progress = record progress { messages = and_more progress.messages 1 }

abbrev pub with_bytes : Progress → ℕ → Progress
with_bytes progress count =
    record progress { bytes = and_more progress.bytes count; runs = and_more progress.runs 1 }

-- The same after one span more.
abbrev pub progress_after : Progress → Span → Progress
progress_after progress (Frame offset message) = with_message progress
progress_after progress (Bytes offset count) = with_bytes progress count
