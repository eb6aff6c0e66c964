-- What a row of the table of subcommands is in clap's own terms.
use Rattle.std.specs.Prelude.{[], ◌∷◌, Some, true}
use Rattle.std.specs.List.{fold}
use Rattle.clap.specs.Words.{App, Rule, new_app, with_rule, with_subcommand}
use Rattle.clap.specs.declared.builder.action.ArgAction.TheVariants.{Append}
use Rattle.cli.specs.Rules.{file_rule, flag_rule, number_rule, one_or_more, option_rule}
use Rattle.cli.specs.declared.grammar.Subcommand.{Subcommand}
use Rattle.cli.specs.declared.rules.Argument.{Argument}
use Rattle.cli.specs.declared.rules.Reading.{Reading}
use Rattle.cli.specs.declared.rules.Reading.TheVariants as reading

-- The rule of an argument that is read so.
abbrev pub reading_rule : Reading → Rule
reading_rule (reading.Flag name) = flag_rule name.now
reading_rule (reading.File name) = file_rule name.now
reading_rule (reading.Files name) = record (file_rule name.now) { action = Some Append; range = Some one_or_more }
reading_rule (reading.Required name value) = record (option_rule name.now) { required = true }
reading_rule (reading.Repeated name value) = record (option_rule name.now) { action = Some Append }
reading_rule (reading.Text name value) = option_rule name.now
reading_rule (reading.TextOr name value text) = record (option_rule name.now) { defaults = text.now ∷ [] }
reading_rule (reading.Number name value parser) = number_rule name.now parser
reading_rule (reading.NumberOr name value parser text) = record (number_rule name.now parser) { defaults = text.now ∷ [] }

-- The rule of an argument.
abbrev pub argument_rule : Argument → Rule
argument_rule argument = reading_rule argument.reading

-- One more argument of a subcommand.
abbrev pub with_argument : App → Argument → App
with_argument app argument = with_rule app (argument_rule argument)

-- The subcommand of a row.
abbrev pub app_of_subcommand : Subcommand → App
app_of_subcommand row = fold with_argument (new_app row.name.now) row.arguments.now

-- A program with the subcommand of one more row.
abbrev pub with_row : App → Subcommand → App
with_row program row = with_subcommand program (app_of_subcommand row).top
