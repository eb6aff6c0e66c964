-- How a command's grammar grows as it is built.
use Rattle.std.proofs.Common.{◌≡◌, ◌∙◌, ◌+◌, ◌<◌, ◌≤◌, ap, ap₂, subst, sym, ◌||◌, ℕ, Bor, true, List, Some}
use Rattle.std.proofs.Common.{drop, get_or, length}
use Rattle.std.proofs.lemmas.List.{drop_all, drop_more}
use Rattle.std.specs.List.{fold}
use Rattle.clap.specs.Words.{AddsArg, AddsSubcommand, App, Rule, with_rule, with_subcommand}
use Rattle.clap.specs.Simple.{app_of_fields, on_top}
use Rattle.clap.specs.declared.builder.arg.Arg.{Arg}
use Rattle.clap.specs.declared.builder.command.Command.{Command}
use Rattle.clap.specs.declared.builder.command.Command.TheViews.{out-Command as fields_of}
use Rattle.cli.specs.Rules.{IsReadBy}
use Rattle.cli.specs.Grammar.{HasGrammar}

-- A text at the top of help changes no grammar.
pub with_about : (old new : Command) (text : Bor (List ℕ)) (app : App)
    → fields_of new ≡ record (fields_of old) { about = Some text } → HasGrammar app old → HasGrammar app new
with_about old new text app is has = (ap app_of_fields is ∙ has.0, ap (λ f. f.has_globals) is ∙ has.1)

-- Nor does one at its end.
pub with_end : (old new : Command) (text : Bor (List ℕ)) (app : App)
    → fields_of new ≡ record (fields_of old) { after_help = Some text } → HasGrammar app old → HasGrammar app new
with_end old new text app is has = (ap app_of_fields is ∙ has.0, ap (λ f. f.has_globals) is ∙ has.1)

-- A version.
pub with_version : (old new : Command) (text : Bor (List ℕ)) (app : App)
    → fields_of new ≡ record (fields_of old) { version = Some text } → HasGrammar app old
    → HasGrammar (on_top (λ s. record s { has_version = true }) app) new
with_version old new text app is has = (
  ap app_of_fields is ∙ ap (on_top (λ s. record s { has_version = true })) has.0,
  ap (λ f. f.has_globals) is ∙ has.1,
)

-- A subcommand has to be there.
pub with_required : (old new : Command) (app : App)
    → fields_of new ≡ record (fields_of old) { subcommand_required = true } → HasGrammar app old
    → HasGrammar (on_top (λ s. record s { subcommand_required = true }) app) new
with_required old new app is has = (
  ap app_of_fields is ∙ ap (on_top (λ s. record s { subcommand_required = true })) has.0,
  ap (λ f. f.has_globals) is ∙ has.1,
)

-- One more argument.
pub adds_rule : (old : Command) (a : Arg) (new : Command) (app : App) (rule : Rule)
    → HasGrammar app old → IsReadBy rule a → AddsArg old a new → HasGrammar (with_rule app rule) new
adds_rule old a new app rule has reads adds = (
  adds.shape reads.1 ∙ ap₂ with_rule has.0 reads.0,
  adds.globals ∙ ap₂ (λ x y. x || y) has.1 reads.1,
)

-- One more subcommand.
pub adds_subcommand : (old sub new : Command) (app inner : App)
    → HasGrammar app old → HasGrammar inner sub → AddsSubcommand old sub new
    → HasGrammar (with_subcommand app inner.top) new
adds_subcommand old sub new app inner has holds adds = (
  adds.shape holds.1 ∙ ap₂ with_subcommand has.0 (ap (λ (x : App). x.top) holds.0),
  adds.globals ∙ ap₂ (λ x y. x || y) has.1 holds.1,
)

-- What is left of a list leads from the command's grammar to this one, by a step for each.
abbrev pub LeadsTo : {X : Type 0} → (App → X → App) → App → List X → Command → Type 0
LeadsTo step goal rest command = (app : App) × HasGrammar app command × (fold step app rest ≡ goal)

module _ {X : Type 0} (step : App → X → App) (goal : App) (all : List X) (i : ℕ) where
  -- One step more.
  pub leads_on : (none : X) (old new : Command) → i < length all → LeadsTo step goal (drop i all) old
      → ((app : App) → HasGrammar app old → HasGrammar (step app (get_or all i none)) new)
      → LeadsTo step goal (drop (i + 1) all) new
  leads_on none old new within leads grows = (
    step leads.0 (get_or all i none),
    grows leads.0 leads.1,
    subst (λ rest. fold step leads.0 rest ≡ goal) (drop_more all i none within) leads.2,
  )

  -- No step is left.
  pub led : (command : Command) → length all ≤ i → LeadsTo step goal (drop i all) command → HasGrammar goal command
  led command end leads =
      subst (λ app. HasGrammar app command) (sym (ap (fold step leads.0) (drop_all i all end)) ∙ leads.2) leads.1
