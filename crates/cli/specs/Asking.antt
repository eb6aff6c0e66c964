-- What arguments ask for, by what clap finds in them.
use Rattle.std.specs.Prelude.{◌≡◌, ◌≢◌, ◌≤◌, ◌<◌, ◌^◌, ℕ, codes, Bool, true, false, List, [], Option, map}
use Rattle.std.specs.Str.Parse.{IsNumeral, digits_value, without_leading_plus}
use Rattle.std.specs.Prelude.{Some, None, IfSome, option_map, unwrap_or}
use Rattle.clap.specs.Words.{Row, Text, all_of, fault_of, first_of, one_of, subcommand_of}
use Rattle.cli.specs.Grammar.{program_app}
use Rattle.message.specs.Capacity.{most_capacity}
use Rattle.message.specs.Version.{most_harts}
use Rattle.message.specs.declared.header.Version.{Version}
use Rattle.message.specs.declared.header.Version.TheVariants.{One, Two}
use Rattle.payload.specs.declared.mode.Mode.{Mode}
use Rattle.payload.specs.declared.mode.Mode.TheVariants.{Differential, Full}
use Rattle.command_inputs.specs.Kind.{IsGenerate, WritesAsItReads}
use Rattle.command_inputs.specs.Limits.{AreBitsIfGiven, IsUpToIfGiven, fewest_number_bits, greatest_first}
use Rattle.command_inputs.specs.Limits.{longest_burst, longest_period, most_in_view, most_messages, most_number_bits}
use Rattle.retire.specs.Log.{most_long_rows}
use Rattle.stimulus.specs.Mix.{IsNamed}
use Rattle.command_inputs.specs.declared.words.Asked.{Asked}
use Rattle.command_inputs.specs.declared.words.Format.{Format}
use Rattle.command_inputs.specs.declared.words.Format.TheVariants as format
use Rattle.command_inputs.specs.declared.words.Product.{Product}
use Rattle.command_inputs.specs.declared.words.Product.TheVariants as product
use Rattle.command_inputs.specs.declared.words.ProgramArgs.{ProgramArgs}
use Rattle.command_inputs.specs.declared.words.Asked.TheVariants.{Audit, Bench, Capture, Check, Decode, Dump, Encode}
use Rattle.command_inputs.specs.declared.words.Asked.TheVariants.{Compare, Generate, Listing, Measure, Replay, Salvage}

-- The first value of an argument, or no text where it has none.
abbrev pub text_of : Text → List Row → Text
text_of id rows = unwrap_or (first_of id rows) []

-- The values of an argument, in the order in which they are given, or none where it has none.
abbrev pub texts_of : Text → List Row → List Text
texts_of id rows = unwrap_or (all_of id rows) []

-- A flag is set by the value `true`, and not set by `false` or where it has no value.
abbrev pub IsFlag : Option Text → Bool → Type 0
IsFlag value is_set = (value ≡ Some (codes "true") → is_set ≡ true)
    × (value ≡ Some (codes "false") → is_set ≡ false) × (value ≡ None → is_set ≡ false)

-- Whether a mode is the one with full addresses.
abbrev pub is_full : Mode → Bool
is_full Differential = false
is_full Full = true

-- The mode is the full one exactly when the flag is set.
abbrev pub IsMode : Option Text → Mode → Type 0
IsMode value mode = IsFlag value (is_full mode)

-- Whether a version is the first, whose captures have no header.
abbrev pub is_one : Version → Bool
is_one One = true
is_one Two = false

-- The version is the first exactly when the flag is set.
abbrev pub IsVersion : Option Text → Version → Type 0
IsVersion value version = IsFlag value (is_one version)

-- The format is the one of this name, or another where the name is that of none.
pub record IsFormat (name : Text) (its : Format) : Type 0 where
  pub text : name ≡ codes "text" → its ≡ format.Text
  pub csv : name ≡ codes "csv" → its ≡ format.Csv
  pub other : name ≢ codes "text" → name ≢ codes "csv" → its ≡ format.Other

-- The number that a decimal text spells, which may begin with a plus sign.
abbrev pub decimal : Text → ℕ
decimal text = digits_value 10 (without_leading_plus text)

-- The text is a decimal number from 1 to `most`.
abbrev pub IsDecimalUpTo : ℕ → Text → Type 0
IsDecimalUpTo most text = IsNumeral 10 (without_leading_plus text) × (1 ≤ decimal text) × (decimal text ≤ most)

-- A number is from 1 to `most`. Where the argument's text spells such a number, it is that one.
abbrev pub IsUpTo : ℕ → Option Text → ℕ → Type 0
IsUpTo most value number = (1 ≤ number) × (number ≤ most)
    × ((text : Text) → value ≡ Some text → IsDecimalUpTo most text → number ≡ decimal text)

-- A period is 1 to 65535 retirements.
abbrev pub IsPeriod : Option Text → ℕ → Type 0
IsPeriod = IsUpTo longest_period

-- A capacity is 1 to 65536 messages.
abbrev pub IsCapacity : Option Text → ℕ → Type 0
IsCapacity = IsUpTo most_capacity

-- A capture is of 1 to 1024 harts.
abbrev pub IsHarts : Option Text → ℕ → Type 0
IsHarts = IsUpTo (most_harts Two)

-- A first hart is there only where the argument has a value, and is 0 to 1023. Where the argument's text spells such a
-- number in decimal, it is that one.
abbrev pub IsGivenFirst : Option Text → Option ℕ → Type 0
IsGivenFirst value given = (value ≡ None → given ≡ None)
    × IfSome given (λ first. first ≤ greatest_first)
    × ((text : Text) → value ≡ Some text → IsNumeral 10 (without_leading_plus text) → decimal text ≤ greatest_first
    → given ≡ Some (decimal text))

-- A count is there only where the argument has a value, and is 1 to `most`. Where the argument's text spells such a
-- number, it is that one.
abbrev pub IsGivenUpTo : ℕ → Option Text → Option ℕ → Type 0
IsGivenUpTo most value given = (value ≡ None → given ≡ None)
    × IsUpToIfGiven most given
    × ((text : Text) → value ≡ Some text → IsDecimalUpTo most text → given ≡ Some (decimal text))

-- A count of harts that may be left out is 1 to 1024.
abbrev pub IsGivenHarts : Option Text → Option ℕ → Type 0
IsGivenHarts = IsGivenUpTo (most_harts Two)

-- The seed is the number of 64 bits that the argument's text spells in decimal.
abbrev pub IsSeed : Option Text → ℕ → Type 0
IsSeed value seed = (text : Text) → value ≡ Some text → IsNumeral 10 (without_leading_plus text)
    → decimal text < 2 ^ 64 → seed ≡ decimal text

-- A seed that may be left out is there only where the argument has a value. Where the argument's text spells a number of
-- 64 bits in decimal, it is that one.
abbrev pub IsGivenSeed : Option Text → Option ℕ → Type 0
IsGivenSeed value given = (value ≡ None → given ≡ None)
    × ((text : Text) → value ≡ Some text → IsNumeral 10 (without_leading_plus text) → decimal text < 2 ^ 64
    → given ≡ Some (decimal text))

-- What is made is what has this name, or something else where the name is that of none.
pub record IsProduct (name : Text) (its : Product) : Type 0 where
  pub image : name ≡ codes "image" → its ≡ product.Image
  pub log : name ≡ codes "log" → its ≡ product.Log
  pub capture : name ≡ codes "capture" → its ≡ product.Capture
  pub other : name ≢ codes "image" → name ≢ codes "log" → name ≢ codes "capture" → its ≡ product.Other

-- The program that is asked for has the base, the further pieces and the image that these rows have for them.
abbrev pub AsksProgram : List Row → ProgramArgs → Type 0
AsksProgram rows asked = (asked.base.now ≡ text_of (codes "base") rows)
    × (map (λ piece. piece.now) asked.also.items ≡ texts_of (codes "also") rows)
    × (asked.image.now ≡ text_of (codes "IMAGE") rows)

-- A count of low bits is there only where the argument has a value, and is 4 to 32. Where the argument's text spells
-- such a number in decimal, it is that one.
abbrev pub AreGivenBits : Option Text → Option ℕ → Type 0
AreGivenBits value given = (value ≡ None → given ≡ None)
    × AreBitsIfGiven given
    × ((text : Text) → value ≡ Some text → IsNumeral 10 (without_leading_plus text)
    → fewest_number_bits ≤ decimal text → decimal text ≤ most_number_bits → given ≡ Some (decimal text))

-- What is asked is the subcommand of this name, with the values that these rows have for its arguments.
abbrev pub Asks : Text → List Row → Asked → Type 0
Asks name rows (Check asked) = (name ≡ codes "check") × AsksProgram rows asked.program
    × IsFlag (one_of (codes "explain") rows) asked.explain
    × (option_map (λ path. path.now) asked.symbols ≡ first_of (codes "symbols") rows)
    × IsFlag (one_of (codes "long") rows) asked.long
    × IsFlag (one_of (codes "progress") rows) asked.progress
    × (map (λ log. log.now) asked.logs.items ≡ texts_of (codes "LOG") rows)
Asks name rows (Encode asked) = (name ≡ codes "encode") × AsksProgram rows asked.program
    × IsPeriod (one_of (codes "period") rows) asked.period
    × IsMode (one_of (codes "full") rows) asked.mode × IsVersion (one_of (codes "v1") rows) asked.version
    × IsFlag (one_of (codes "hex") rows) asked.hex × IsGivenSeed (one_of (codes "mixed") rows) asked.mixed
    × IsGivenFirst (one_of (codes "first") rows) asked.first
    × IsGivenHarts (one_of (codes "of") rows) asked.of × IsFlag (one_of (codes "long") rows) asked.long
    × IsFlag (one_of (codes "progress") rows) asked.progress
    × (map (λ log. log.now) asked.logs.items ≡ texts_of (codes "LOG") rows)
Asks name rows (Dump asked) = (name ≡ codes "dump") × IsFlag (one_of (codes "search") rows) asked.search
    × (option_map (λ text. text.now) asked.only ≡ first_of (codes "only") rows)
    × (option_map (λ path. path.now) asked.symbols ≡ first_of (codes "symbols") rows)
    × IsFlag (one_of (codes "progress") rows) asked.progress
    × (asked.capture.now ≡ text_of (codes "CAPTURE") rows)
Asks name rows (Decode asked) = (name ≡ codes "decode") × AsksProgram rows asked.program
    × IsHarts (one_of (codes "harts") rows) asked.harts
    × (option_map (λ text. text.now) asked.only ≡ first_of (codes "only") rows)
    × IsFlag (one_of (codes "lossy") rows) asked.lossy × IsFlag (one_of (codes "progress") rows) asked.progress
    × (asked.capture.now ≡ text_of (codes "CAPTURE") rows)
Asks name rows (Replay asked) = (name ≡ codes "replay") × AsksProgram rows asked.program
    × IsPeriod (one_of (codes "period") rows) asked.period
    × IsMode (one_of (codes "full") rows) asked.mode
    × IsCapacity (one_of (codes "capacity") rows) asked.capacity
    × IsFlag (one_of (codes "progress") rows) asked.progress
    × (asked.schedule.now ≡ text_of (codes "SCHEDULE") rows)
    × (map (λ log. log.now) asked.logs.items ≡ texts_of (codes "LOG") rows)
Asks name rows (Bench asked) = (name ≡ codes "bench") × AsksProgram rows asked.program
    × IsPeriod (one_of (codes "period") rows) asked.period
    × IsMode (one_of (codes "full") rows) asked.mode
    × IsCapacity (one_of (codes "capacity") rows) asked.capacity
    × IsFlag (one_of (codes "progress") rows) asked.progress
    × (map (λ log. log.now) asked.logs.items ≡ texts_of (codes "LOG") rows)
Asks name rows (Audit asked) = (name ≡ codes "audit") × IsFlag (one_of (codes "packets") rows) asked.packets
    × IsFlag (one_of (codes "unnumbered") rows) asked.unnumbered × IsFlag (one_of (codes "live") rows) asked.live
    × IsGivenUpTo most_in_view (one_of (codes "window") rows) asked.window
    × (option_map (λ text. text.now) asked.only ≡ first_of (codes "only") rows)
    × IsFlag (one_of (codes "summary") rows) asked.summary
    × IsFormat (text_of (codes "format") rows) asked.format × IsFlag (one_of (codes "progress") rows) asked.progress
    × (asked.sent.now ≡ text_of (codes "SENT") rows) × (asked.received.now ≡ text_of (codes "RECEIVED") rows)
Asks name rows (Measure asked) = (name ≡ codes "measure") × AsksProgram rows asked.program
    × IsPeriod (one_of (codes "period") rows) asked.period
    × IsMode (one_of (codes "full") rows) asked.mode × IsFlag (one_of (codes "long") rows) asked.long
    × IsFlag (one_of (codes "progress") rows) asked.progress
    × (map (λ log. log.now) asked.logs.items ≡ texts_of (codes "LOG") rows)
Asks name rows (Listing asked) = (name ≡ codes "list") × AsksProgram rows asked.program
    × IsGivenHarts (one_of (codes "harts") rows) asked.harts
    × (option_map (λ text. text.now) asked.only ≡ first_of (codes "only") rows)
    × (option_map (λ path. path.now) asked.symbols ≡ first_of (codes "symbols") rows)
    × IsFlag (one_of (codes "rows") rows) asked.rows
    × IsFlag (one_of (codes "salvage") rows) asked.salvage
    × IsFormat (text_of (codes "format") rows) asked.format
    × IsFlag (one_of (codes "progress") rows) asked.progress
    × (asked.capture.now ≡ text_of (codes "CAPTURE") rows)
Asks name rows (Salvage asked) = (name ≡ codes "salvage") × AsksProgram rows asked.program
    × IsGivenHarts (one_of (codes "harts") rows) asked.harts
    × (option_map (λ text. text.now) asked.only ≡ first_of (codes "only") rows)
    × (option_map (λ path. path.now) asked.symbols ≡ first_of (codes "symbols") rows)
    × IsFlag (one_of (codes "summary") rows) asked.summary
    × IsFormat (text_of (codes "format") rows) asked.format × IsFlag (one_of (codes "progress") rows) asked.progress
    × (asked.capture.now ≡ text_of (codes "CAPTURE") rows)
Asks name rows (Capture asked) = (name ≡ codes "capture")
    × IsVersion (one_of (codes "v1") rows) asked.version × IsMode (one_of (codes "full") rows) asked.mode
    × IsPeriod (one_of (codes "period") rows) asked.period
    × IsGivenHarts (one_of (codes "harts") rows) asked.harts
    × AreGivenBits (one_of (codes "number-bits") rows) asked.number_bits
    × IsFlag (one_of (codes "skip") rows) asked.skip × (asked.lines.now ≡ text_of (codes "LINES") rows)
Asks name rows (Compare asked) = (name ≡ codes "compare") × AsksProgram rows asked.program
    × IsHarts (one_of (codes "harts") rows) asked.harts
    × (option_map (λ text. text.now) asked.only ≡ first_of (codes "only") rows)
    × IsFlag (one_of (codes "explain") rows) asked.explain
    × (option_map (λ path. path.now) asked.symbols ≡ first_of (codes "symbols") rows)
    × IsFlag (one_of (codes "long") rows) asked.long × IsFlag (one_of (codes "progress") rows) asked.progress
    × (asked.capture.now ≡ text_of (codes "CAPTURE") rows)
    × (map (λ log. log.now) asked.logs.items ≡ texts_of (codes "LOG") rows)
Asks name rows (Generate asked) = (name ≡ codes "generate") × IsProduct (text_of (codes "WHAT") rows) asked.product
    × IsSeed (one_of (codes "seed") rows) asked.seed × IsNamed (text_of (codes "mix") rows) asked.mix
    × (asked.base.now ≡ text_of (codes "base") rows) × IsGivenFirst (one_of (codes "hart") rows) asked.hart
    × IsGivenUpTo most_long_rows (one_of (codes "events") rows) asked.events
    × IsGivenHarts (one_of (codes "harts") rows) asked.harts
    × IsGivenUpTo most_messages (one_of (codes "messages") rows) asked.messages
    × IsGivenUpTo longest_period (one_of (codes "period") rows) asked.period
    × IsMode (one_of (codes "full") rows) asked.mode × IsVersion (one_of (codes "v1") rows) asked.version
    × IsGivenUpTo longest_burst (one_of (codes "burst") rows) asked.burst

-- A subcommand with its rows was found, and it is what is asked.
abbrev pub AsksFound : Option (Text × List Row) → Asked → Type 0
AsksFound None asked = ⊥
AsksFound (Some found) asked = Asks found.0 found.1 asked

-- The arguments ask for this.
abbrev pub WordsAsk : List Text → Asked → Type 0
WordsAsk words = AsksFound (subcommand_of program_app words)

-- The arguments ask for no run that writes before it has read its input.
abbrev pub AskToWriteAtOnce : List Text → Type 0
AskToWriteAtOnce words = (asked : Asked) → WordsAsk words asked → ¬ WritesAsItReads asked

-- The arguments ask for a run of `generate`.
abbrev pub AskGenerate : List Text → Type 0
AskGenerate words = (asked : Asked) × WordsAsk words asked × IsGenerate asked

-- `clap` finds a fault in the arguments; a call for help or for the version is one.
abbrev pub AreRefused : List Text → Type 0
AreRefused words = fault_of program_app words ≢ []
