-- The arguments that the program takes, in clap's own terms.
use Rattle.std.specs.Prelude.{◌≡◌, ◌⊎◌, codes, true, false, List, [], ◌∷◌, map}
use Rattle.std.specs.List.{fold}
use Rattle.clap.specs.Words.{App, Rule, Text, app_of, new_app}
use Rattle.clap.specs.Words.{with_rule, with_subcommand}
use Rattle.clap.specs.Simple.{on_top}
use Rattle.clap.specs.declared.builder.command.Command.{Command}
use Rattle.clap.specs.declared.builder.command.Command.TheViews.{out-Command as fields_of}
use Rattle.cli.specs.Rules as rule

-- A subcommand of this name with arguments that are read by these rules, in this order.
abbrev pub with_arguments : Text → List Rule → App
with_arguments name rules = fold with_rule (new_app name) rules

-- The program's subcommands, in the order in which help lists them, each with its arguments.
abbrev pub all_apps : List App
all_apps =
    with_arguments (codes "check") (rule.base ∷ rule.also ∷ rule.explain ∷ rule.symbols ∷ rule.long ∷ rule.progress ∷
    rule.image ∷ rule.logs ∷ []) ∷
    with_arguments (codes "encode") (rule.base ∷ rule.also ∷ rule.period ∷ rule.full ∷ rule.version_one ∷ rule.hex ∷
    rule.mixed ∷ rule.first ∷ rule.of ∷ rule.long ∷ rule.progress ∷ rule.image ∷ rule.logs ∷ []) ∷
    with_arguments (codes "dump") (rule.search ∷ rule.only ∷ rule.symbols ∷ rule.progress ∷ rule.capture ∷ []) ∷
    with_arguments (codes "decode") (rule.base ∷ rule.also ∷ rule.harts ∷ rule.only ∷ rule.lossy ∷ rule.progress ∷
    rule.image ∷ rule.capture ∷ []) ∷
    with_arguments (codes "replay") (rule.base ∷ rule.also ∷ rule.period ∷ rule.full ∷ rule.capacity ∷
    rule.progress ∷ rule.image ∷ rule.schedule ∷ rule.logs ∷ []) ∷
    with_arguments (codes "bench") (rule.base ∷ rule.also ∷ rule.period ∷ rule.full ∷ rule.capacity ∷ rule.progress ∷
    rule.image ∷ rule.logs ∷ []) ∷
    with_arguments (codes "audit") (rule.packets ∷ rule.unnumbered ∷ rule.live ∷ rule.window ∷ rule.only ∷
    rule.summary ∷ rule.format ∷ rule.progress ∷ rule.sent ∷ rule.received ∷ []) ∷
    with_arguments (codes "measure") (rule.base ∷ rule.also ∷ rule.period ∷ rule.full ∷ rule.long ∷ rule.progress ∷
    rule.image ∷ rule.logs ∷ []) ∷
    with_arguments (codes "list") (rule.base ∷ rule.also ∷ rule.given_harts ∷ rule.only ∷ rule.symbols ∷ rule.rows ∷
    rule.salvage ∷ rule.format ∷ rule.progress ∷ rule.image ∷ rule.capture ∷ []) ∷
    with_arguments (codes "salvage") (rule.base ∷ rule.also ∷ rule.given_harts ∷ rule.only ∷ rule.symbols ∷
    rule.summary ∷ rule.format ∷ rule.progress ∷ rule.image ∷ rule.capture ∷ []) ∷
    with_arguments (codes "capture") (rule.version_one ∷ rule.full ∷ rule.period ∷ rule.given_harts ∷
    rule.number_bits ∷ rule.skip ∷ rule.lines ∷ []) ∷
    with_arguments (codes "compare") (rule.base ∷ rule.also ∷ rule.harts ∷ rule.only ∷ rule.explain ∷ rule.symbols ∷
    rule.long ∷ rule.progress ∷ rule.image ∷ rule.capture ∷ rule.logs ∷ []) ∷
    with_arguments (codes "generate") (rule.what ∷ rule.seed ∷ rule.mix ∷ rule.given_base ∷ rule.hart ∷ rule.events ∷
    rule.given_harts ∷ rule.messages ∷ rule.given_period ∷ rule.full ∷ rule.version_one ∷ rule.burst ∷ []) ∷ []

-- The program without its subcommands, one of which has to be there. It has a version.
abbrev pub bare_program : App
bare_program = on_top (λ s. record s { has_version = true; subcommand_required = true })
    (new_app (codes "tracebench"))

-- The program with its subcommands.
abbrev pub program_app : App
program_app = fold (λ program app. with_subcommand program app.top) bare_program all_apps

-- The text is one of these.
abbrev pub IsOneOf : List Text → Text → Type 0
IsOneOf [] text = ⊥
IsOneOf (first ∷ rest) text = (text ≡ first) ⊎ IsOneOf rest text

-- The text is the name of one of the program's subcommands.
abbrev pub IsSubcommand : Text → Type 0
IsSubcommand = IsOneOf (map (λ app. app.top.name) all_apps)

-- The command has this grammar, and no argument that its subcommands share.
abbrev pub HasGrammar : App → Command → Type 0
HasGrammar app c = (app_of c ≡ app) × ((fields_of c).has_globals ≡ false)
