-- What is written where allocation or the output fails: a prefix of the text.
use Rattle.std.specs.Prelude.{ℕ, List, Option}
use Rattle.command_inputs.specs.declared.words.Asked.{Asked}
use Rattle.command_inputs.specs.Begun.{IsCutOf}
use Rattle.log_streams.specs.Known.{Content}
use Rattle.commands.specs.Meanings.{meaning_of}

-- The run may write a part of its text before allocation fails, as that of `check` may, that of `decode` where messages
-- may be lost, that of `list` where salvaging is not asked for, that of `audit` while messages come, and that of `capture`
-- of lines as they come.
abbrev pub WritesInParts : Asked → Type 0
WritesInParts asked = (meaning_of asked).WritesInParts

-- What may have been written where allocation fails: by `check` nothing or the lines of the first logs, by `decode` where
-- messages may be lost, by `audit` while messages come and by `capture` of lines as they come, nothing or a prefix of a
-- text that it may print, by `list` nothing or all lines before the message at which allocation failed, and by the others
-- nothing.
abbrev pub IsBegun : Content → Asked → Option (List ℕ) → Option (List ℕ) → Type 0
IsBegun content asked old new = (meaning_of asked).Begins content old new

-- Nothing was written, or a prefix of a text that the run may print. For `check` that text may also be the lines of the
-- first logs alone, for `list` the listing of a front of the capture.
abbrev pub IsCutOutput : Content → Asked → Option (List ℕ) → Option (List ℕ) → Type 0
IsCutOutput content asked = IsCutOf ((meaning_of asked).Cuts content)
