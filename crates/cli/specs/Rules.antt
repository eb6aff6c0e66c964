-- The arguments that the program's subcommands take, in clap's own terms.
use Rattle.std.specs.Prelude.{◌≡◌, ◌^◌, ◌-◌, ℕ, codes, pos, [], ◌∷◌, Some, true, false}
use Rattle.clap.specs.Words.{Rule, Text, new_rule, rule_of}
use Rattle.clap.specs.Lexer.{usize_max}
use Rattle.clap.specs.declared.builder.arg.Arg.{Arg}
use Rattle.clap.specs.declared.builder.action.ArgAction.TheVariants.{Append, Set, SetTrue}
use Rattle.clap.specs.declared.builder.range.ValueRange.{ValueRange}
use Rattle.clap.specs.declared.builder.value_parser.ValueParser.{ValueParser}
use Rattle.clap.specs.declared.builder.value_parser.ValueParser.TheVariants.{Signed, Unsigned}
use Rattle.message.specs.Capacity.{most_capacity}
use Rattle.message.specs.Version.{most_harts}
use Rattle.retire.specs.Log.{most_long_rows}
use Rattle.message.specs.declared.header.Version.TheVariants.{Two}
use Rattle.command_inputs.specs.Limits.{fewest_number_bits, greatest_first, longest_burst, longest_period}
use Rattle.command_inputs.specs.Limits.{most_in_view, most_messages, most_number_bits}

-- `--name`, which takes no value.
abbrev pub flag_rule : Text → Rule
flag_rule name = record (new_rule name) { long = Some name; action = Some SetTrue }

-- A positional argument that has to be given.
abbrev pub file_rule : Text → Rule
file_rule name = record (new_rule name) { action = Some Set; required = true }

-- `--name value`, which may be left out.
abbrev pub option_rule : Text → Rule
option_rule name = record (new_rule name) { long = Some name; action = Some Set; value_names = 1 }

-- `--name value`, a number that this parser reads, which may be left out.
abbrev pub number_rule : Text → ValueParser → Rule
number_rule name parser = record (option_rule name) { parser = Some parser }

-- A number from 1 to 65535.
abbrev pub period_parser : ValueParser
period_parser = Signed (pos 1) (pos longest_period)

-- A number from 1 to 65536.
abbrev pub capacity_parser : ValueParser
capacity_parser = Signed (pos 1) (pos most_capacity)

-- A number from 1 to 1024.
abbrev pub harts_parser : ValueParser
harts_parser = Signed (pos 1) (pos (most_harts Two))

-- A number from 0 to 1023.
abbrev pub first_parser : ValueParser
first_parser = Signed (pos 0) (pos greatest_first)

-- A number from 4 to 32.
abbrev pub bits_parser : ValueParser
bits_parser = Signed (pos fewest_number_bits) (pos most_number_bits)

-- A number from 1 to 65535.
abbrev pub burst_parser : ValueParser
burst_parser = Signed (pos 1) (pos longest_burst)

-- A number of 64 bits, from 1 to this one.
abbrev pub long_parser : ℕ → ValueParser
long_parser most = Unsigned 1 most

-- Any number of 64 bits.
abbrev pub seed_parser : ValueParser
seed_parser = Unsigned 0 18446744073709551615

-- `--name H`, a hart, which may be left out.
abbrev pub hart_rule : Text → Rule
hart_rule name = number_rule name first_parser

-- `--name N`, a count of harts, which may be left out.
abbrev pub count_rule : Text → Rule
count_rule name = number_rule name harts_parser

-- One value or more.
abbrev pub one_or_more : ValueRange
one_or_more = record { start_inclusive = 1; end_inclusive = usize_max }

-- How each argument is read. The base and each file have to be given; what has a default is that where it is not given.
abbrev pub also : Rule
also = record (option_rule (codes "also")) { action = Some Append }

abbrev pub base : Rule
base = record (option_rule (codes "base")) { required = true }

abbrev pub burst : Rule
burst = number_rule (codes "burst") burst_parser

abbrev pub capacity : Rule
capacity = record (number_rule (codes "capacity") capacity_parser) { defaults = codes "16" ∷ [] }

abbrev pub capture : Rule
capture = file_rule (codes "CAPTURE")

abbrev pub given_harts : Rule
given_harts = count_rule (codes "harts")

abbrev pub events : Rule
events = number_rule (codes "events") (long_parser most_long_rows)

abbrev pub explain : Rule
explain = flag_rule (codes "explain")

abbrev pub first : Rule
first = hart_rule (codes "first")

abbrev pub format : Rule
format = record (option_rule (codes "format")) { defaults = codes "text" ∷ [] }

abbrev pub full : Rule
full = flag_rule (codes "full")

abbrev pub given_base : Rule
given_base = record (option_rule (codes "base")) { defaults = codes "80000000" ∷ [] }

abbrev pub given_period : Rule
given_period = number_rule (codes "period") period_parser

abbrev pub hart : Rule
hart = hart_rule (codes "hart")

abbrev pub harts : Rule
harts = record (count_rule (codes "harts")) { defaults = codes "1" ∷ [] }

abbrev pub hex : Rule
hex = flag_rule (codes "hex")

abbrev pub image : Rule
image = file_rule (codes "IMAGE")

abbrev pub lines : Rule
lines = file_rule (codes "LINES")

abbrev pub live : Rule
live = flag_rule (codes "live")

abbrev pub logs : Rule
logs = record (file_rule (codes "LOG")) { action = Some Append; range = Some one_or_more }

abbrev pub long : Rule
long = flag_rule (codes "long")

abbrev pub lossy : Rule
lossy = flag_rule (codes "lossy")

abbrev pub messages : Rule
messages = number_rule (codes "messages") (long_parser most_messages)

abbrev pub mix : Rule
mix = record (option_rule (codes "mix")) { defaults = codes "mixed" ∷ [] }

abbrev pub mixed : Rule
mixed = number_rule (codes "mixed") seed_parser

abbrev pub number_bits : Rule
number_bits = number_rule (codes "number-bits") bits_parser

abbrev pub of : Rule
of = count_rule (codes "of")

abbrev pub only : Rule
only = option_rule (codes "only")

abbrev pub packets : Rule
packets = flag_rule (codes "packets")

abbrev pub period : Rule
period = record (number_rule (codes "period") period_parser) { defaults = codes "1024" ∷ [] }

abbrev pub progress : Rule
progress = flag_rule (codes "progress")

abbrev pub received : Rule
received = file_rule (codes "RECEIVED")

abbrev pub rows : Rule
rows = flag_rule (codes "rows")

abbrev pub salvage : Rule
salvage = flag_rule (codes "salvage")

abbrev pub schedule : Rule
schedule = file_rule (codes "SCHEDULE")

abbrev pub search : Rule
search = flag_rule (codes "search")

abbrev pub seed : Rule
seed = record (number_rule (codes "seed") seed_parser) { defaults = codes "1" ∷ [] }

abbrev pub sent : Rule
sent = file_rule (codes "SENT")

abbrev pub skip : Rule
skip = flag_rule (codes "skip")

abbrev pub summary : Rule
summary = flag_rule (codes "summary")

abbrev pub symbols : Rule
symbols = option_rule (codes "symbols")

abbrev pub unnumbered : Rule
unnumbered = flag_rule (codes "unnumbered")

abbrev pub version_one : Rule
version_one = flag_rule (codes "v1")

abbrev pub what : Rule
what = file_rule (codes "WHAT")

abbrev pub window : Rule
window = number_rule (codes "window") (long_parser most_in_view)

-- The argument is read by this rule, and by its own subcommand alone.
abbrev pub IsReadBy : Rule → Arg → Type 0
IsReadBy rule a = (rule_of a ≡ rule) × (a.global ≡ false)
