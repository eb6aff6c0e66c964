-- What a reader gave as a source.
use Rattle.std.specs.Prelude.{ℕ, List, Option}
use Rattle.retire.specs.declared.source.ReaderSource.{ReaderSource}

-- The bytes that the calls gave so far.
abbrev pub given_by : {R : Type 0} → ReaderSource R → List ℕ
given_by source = source.given.bytes

-- The bytes that the reader has left, where they are known.
abbrev pub left_by : {R : Type 0} → (R → Option (List ℕ)) → ReaderSource R → Option (List ℕ)
left_by remaining source = remaining source.reader
