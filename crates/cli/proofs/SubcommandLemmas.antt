-- Words with no fault name one of the program's own subcommands.
use Rattle.std.proofs.Common.{◌≡◌, ◌≢◌, ◌∙◌, ◌&&◌, ◌||◌, ap, subst, refl, codes, cond, Bool, true, false, not}
use Rattle.std.proofs.Common.{true≢false, if◌then◌else◌, is_some, List, [], ◌∷◌, Option, Some, None, ◌⊎◌, inl, inr}
use Rattle.std.proofs.Common.{⊎_elim, map, option_map, unwrap_or, sym}
use Rattle.std.specs.List.{fold, list_all, list_any}
use Rattle.clap.specs.Facts.{explicit_source}
use Rattle.clap.specs.Takes.{is_given}
use Rattle.std.specs.Prelude.{Box, find}
use Rattle.std.specs.Box.{box_value}
use Rattle.clap.specs.declared.parser.matches.SubCommand.{SubCommand}
use Rattle.clap.specs.declared.parser.matches.ArgMatches.TheViews.{out-SubCommand}
use Rattle.std.specs.Str.{bytes_eq}
use Rattle.clap.specs.declared.error.kind.ErrorKind.{ErrorKind}
use Rattle.clap.specs.Lexer.{long_of, short_of}
use Rattle.clap.specs.Kinds.{Kinds, check_kinds, or_else}
use Rattle.clap.specs.Faults.{built_fault, check_fault, defaults_fault, entered_fault, fault_of, other_fault}
use Rattle.clap.specs.Faults.{settle_fault, step_fault, turn_fault, walk_fault, word_fault}
use Rattle.clap.specs.Simple.{App, Shape, argument_words, built, entered, names_of, rows_at, subcommand_of}
use Rattle.clap.specs.Simple.{subcommand_rows, label_of}
use Rattle.clap.specs.Walk.{Held, Names, Outcome, Row, Rule, Step, Text, Waiting, Walk, finished, nothing_held, settled}
use Rattle.clap.specs.Walk.{walk, walk_from}
use Rattle.std.proofs.lemmas.Slice.Eq.{bytes_eq-Decides}
use Rattle.clap.specs.Words.{HasMatchesOf, app_of, is_simple, is_simple_and_free, subcommand_rows_of}
use Rattle.clap.specs.declared.builder.command.Command.{Command}
use Rattle.clap.specs.declared.parser.matches.ArgMatches.{ArgMatches}
use Rattle.std.proofs.Math.Bool.{or-false}
use Rattle.clap.specs.Kinds.{HasKind, IsAmong}
use Rattle.clap.specs.Words.{kind_of}
use Rattle.clap.specs.declared.error.kind.ErrorKind.TheVariants.{OutOfMemory}
use Rattle.clap.specs.Matches.{found_of, subcommand_name_of}
use Rattle.clap.specs.Walk.{rows_of}
use Rattle.clap.specs.declared.error.Error.{Error}
use Rattle.clap.specs.declared.parser.matches.ArgMatches.TheViews.{out-ArgMatches}
use Rattle.std.proofs.lemmas.Option.{same_Some}
use Rattle.cli.specs.Asking.{AreRefused, Asks, AsksFound, WordsAsk}
use Rattle.cli.specs.Grammar.{HasGrammar, IsOneOf, IsSubcommand, all_apps, program_app}
use Rattle.command_inputs.specs.declared.words.Asked.{Asked}
use Rattle.clap.specs.Walk.{done, waits, plain, refused, next, trailing, subcommand, value, idle, option, positional}
use Rattle.clap.specs.Walk.{answers_to}
use Rattle.clap.specs.Walk.{after_flag, after_step, arg_by_index, arg_by_long, bundle, long_met, long_or_other}
use Rattle.clap.specs.Walk.{plain_word, short_or_plain}
use Rattle.clap.specs.Walk.{subcommand_met, subcommand_or_other, to_positional, walked, walked_from, word_met}

abbrev help : Text
help = codes "help"

-- The walk has not stopped at `help`.
abbrev AvoidsHelp : Option (Text × List Text) → Type 0
AvoidsHelp None = Unit {0}
AvoidsHelp (Some stop) = stop.0 ≡ help → ⊥

abbrev IsNoSubcommand : Step → Type 0
IsNoSubcommand (subcommand name) = ⊥
IsNoSubcommand _ = Unit {0}

-- ---- only a word that is a subcommand's name is read as one

plain_words : (rules : List Rule) (waiting : Waiting) (word : Text) (h : Held)
    → IsNoSubcommand (plain_word rules waiting word h).1
plain_words rules idle word h = tt
plain_words rules (option id) word h = tt
plain_words rules positional word h = tt

flags : (rules : List Rule) (waiting : Waiting) (word : Text) (h : Held) (o : Outcome)
    → IsNoSubcommand (after_flag rules waiting word h o).1
flags rules waiting word h done = tt
flags rules waiting word h (waits id) = tt
flags rules waiting word h plain = plain_words rules waiting word h
flags rules waiting word h refused = plain_words rules waiting word h

shorts : (rules : List Rule) (waiting : Waiting) (word : Text) (short : Option Text) (h : Held)
    → IsNoSubcommand (short_or_plain rules waiting word short h).1
shorts rules waiting word None h = plain_words rules waiting word h
shorts rules waiting word (Some short) h = flags rules waiting word (bundle rules short h).0 (bundle rules short h).1

longs : (rules : List Rule) (waiting : Waiting) (word : Text) (long : Option (Text × Option Text)) (h : Held)
    → IsNoSubcommand (long_or_other rules waiting word long h).1
longs rules waiting word None h = shorts rules waiting word (short_of word) h
longs rules waiting word (Some long) h =
    let met = long_met rules (arg_by_long rules long.0) long.1 h in flags rules waiting word met.0 met.1

-- ---- a turn with no fault

goes_on : (rules : List Rule) (word : Text) (w : Walk) (h : Held) (step : Step) → w.stopped ≡ None
    → IsNoSubcommand step → (after_step rules word w h step).stopped ≡ None
goes_on rules word w h (next waiting) none is = none
goes_on rules word w h (trailing position) none is = none
goes_on rules word w h (subcommand name) none is = absurd is
goes_on rules word w h value none is = go (arg_by_index rules w.position)
  where
    go : (a : Option Rule) → (to_positional rules a word w h).stopped ≡ None
    go None = none
    go (Some a) = refl

first_none : (a b : Kinds) → or_else a b ≡ [] → a ≡ []
first_none [] b none = refl
first_none (k ∷ ks) b none = none

second_none : (a b : Kinds) → or_else a b ≡ [] → b ≡ []
second_none [] b none = none
second_none (k ∷ ks) b none = cc

-- The word is no call for help, where the test of it gives no kind.
avoids : (name : Text) (kinds : Kinds) (k : ErrorKind) (disabled : Bool) → disabled ≡ false
    → (if bytes_eq name help && not disabled then k ∷ kinds else []) ≡ [] → name ≡ help → ⊥
avoids name kinds k disabled enabled none same =
    let is : bytes_eq name help ≡ true = (bytes_eq-Decides name help).1 same in
    let both : (bytes_eq name help && not disabled) ≡ true = rw (is, enabled) refl in
    let kept : (if bytes_eq name help && not disabled then k ∷ kinds else []) ≡ k ∷ kinds = rw both refl in
    let bad : k ∷ kinds ≡ [] = sym kept ∙ none in cc

-- The walk after a word that is no call for help, as its parts find it.
word_avoids : (s : Shape) (names : Names) (w : Walk) (word : Text) → s.disable_help_subcommand ≡ false
    → w.stopped ≡ None → (is_trailing : Bool) (name : Option Text)
    → or_else (if is_trailing then [] else other_fault s name word w.held)
    (step_fault s w.position (if is_trailing then (w.held, value) else subcommand_or_other s.rules name w.waiting
    w.position word w.held).0
    (if is_trailing then (w.held, value) else subcommand_or_other s.rules name w.waiting w.position word w.held).1) ≡ []
    → AvoidsHelp (after_step s.rules word w
    (if is_trailing then (w.held, value) else subcommand_or_other s.rules name w.waiting w.position word w.held).0
    (if is_trailing then (w.held, value) else subcommand_or_other s.rules name w.waiting w.position word
    w.held).1).stopped
word_avoids s names w word enabled going true name none = rw (goes_on s.rules word w w.held value going tt) tt
word_avoids s names w word enabled going false (Some name) none = avoids name _ _ s.disable_help_subcommand enabled
    (first_none _ _ none)
word_avoids s names w word enabled going false None none = dashes (bytes_eq word (45 ∷ 45 ∷ []))
  where
    dashes : (b : Bool) → AvoidsHelp (after_step s.rules word w
        (if b then (w.held, trailing w.position) else long_or_other s.rules w.waiting word (long_of word) w.held).0
        (if b then (w.held, trailing w.position) else long_or_other s.rules w.waiting word (long_of word)
        w.held).1).stopped
    dashes true = rw going tt
    dashes false =
        let met = long_or_other s.rules w.waiting word (long_of word) w.held in
        rw (goes_on s.rules word w met.0 met.1 going (longs s.rules w.waiting word (long_of word) w.held)) tt

turn_avoids : (s : Shape) (names : Names) (w : Walk) (word : Text) → s.disable_help_subcommand ≡ false
    → turn_fault s names w word ≡ [] → AvoidsHelp w.stopped → AvoidsHelp (walked s.rules names w word).stopped
unfolding walked
turn_avoids s names w word enabled none so_far = go w.stopped refl none so_far
  where
    go : (stop : Option (Text × List Text)) → w.stopped ≡ stop
        → (if is_some stop then [] else or_else (word_fault s names w.is_trailing w.waiting word w.held)
        (step_fault s w.position (word_met s.rules names w.is_trailing w.waiting w.position word w.held).0
        (word_met s.rules names w.is_trailing w.waiting w.position word w.held).1)) ≡ []
        → AvoidsHelp stop → AvoidsHelp (walked_from s.rules names stop w word).stopped
    go None going none so_far = word_avoids s names w word enabled going w.is_trailing
        (subcommand_met names w.waiting word) none
    go (Some stop) going none so_far = so_far

walk_avoids : (s : Shape) (names : Names) (w : Walk) (words : List Text) → s.disable_help_subcommand ≡ false
    → walk_fault s names w words ≡ [] → AvoidsHelp w.stopped → AvoidsHelp (fold (walked s.rules names) w words).stopped
unfolding walk_fault
walk_avoids s names w [] enabled none so_far = so_far
walk_avoids s names w (word ∷ rest) enabled none so_far =
    walk_avoids s names (walked s.rules names w word) rest enabled (second_none _ _ none)
    (turn_avoids s names w word enabled (first_none _ _ none) so_far)

-- ---- a parse with no fault

none_wanted : (wants_help wants_subcommand wants_argument : Bool)
    → check_kinds wants_help wants_subcommand wants_argument ≡ []
    → wants_subcommand ≡ false
none_wanted true wants_subcommand wants_argument none = cc
none_wanted false true wants_argument none = cc
none_wanted false false wants_argument none = refl

-- The last check passes only where a subcommand that is required was entered.
entered_required : (s : Shape) (rows : List Row) (has : Bool) → s.subcommand_required ≡ true → check_fault s rows has
    ≡ [] → has ≡ true
entered_required s rows true required none = refl
entered_required s rows false required none =
    let unwanted = none_wanted
    (true && (s.arg_required_else_help && not (list_any (λ r. explicit_source r.source) rows)))
    (true && s.subcommand_required)
    (not (s.subcommand_negates_reqs && false) && list_any (λ a. a.required && not (is_given a.id rows)) s.rules) none in
    absurd (true≢false (sym required ∙ unwanted))

first_and_last : (a b c d e : Kinds) → or_else a (or_else b (or_else c (or_else d e))) ≡ [] → (a ≡ []) × (e ≡ [])
first_and_last a b c d e none = (
  first_none a _ none,
  second_none d e (second_none c _ (second_none b _ (second_none a _ none))),
)

-- Where a subcommand is required, one that is not `help` was entered.
level_enters : (a : App) (words : List Text) → a.top.disable_help_subcommand ≡ false → a.top.subcommand_required ≡ true
    → built_fault a nothing_held words ≡ []
    → (is_some (entered a (walk a.top.rules (names_of a) nothing_held words).stopped) ≡ true)
    × AvoidsHelp (walk a.top.rules (names_of a) nothing_held words).stopped
level_enters a words enabled required none =
    let end = walk a.top.rules (names_of a) nothing_held words in
    let rows = finished a.top.rules end.held in
    let has = is_some (entered a end.stopped) in
    let parts = first_and_last (walk_fault a.top (names_of a) (walk_from nothing_held) words)
    (entered_fault a end.stopped)
    (settle_fault a.top.rules a.top.args_override_self end.held) (defaults_fault (settled a.top.rules end.held).rows
    a.top.rules)
    (check_fault a.top rows has) none in (
      entered_required a.top rows has required parts.1,
      walk_avoids a.top (names_of a) (walk_from nothing_held) words enabled parts.0 tt,
    )

-- Each is one of the program's subcommands, or `help`.
abbrev AreKnown : List Shape → Type 0
AreKnown [] = Unit {0}
AreKnown (s ∷ ss) = (IsSubcommand s.name ⊎ ((s.name ≡ help) × (s.aliases ≡ []))) × AreKnown ss

-- ---- whether each is known, which computes

abbrev own_names : List Text
own_names = map (λ app. app.top.name) all_apps

abbrev is_named : List Text → Text → Bool
is_named names name = list_any (λ n. bytes_eq name n) names

abbrev has_none : List Text → Bool
has_none [] = true
has_none (x ∷ xs) = false

abbrev is_help : Shape → Bool
is_help s = bytes_eq s.name help && has_none s.aliases

abbrev are_known : List Shape → Bool
are_known ss = list_all (λ s. is_named own_names s.name || is_help s) ss

or_true : (a b : Bool) → (a || b) ≡ true → (a ≡ true) ⊎ (b ≡ true)
or_true true b is = inl refl
or_true false b is = inr is

and_true : (a b : Bool) → (a && b) ≡ true → (a ≡ true) × (b ≡ true)
and_true true b is = (refl, is)
and_true false b is = absurd (true≢false (sym is))

one_of : (names : List Text) (name : Text) → is_named names name ≡ true → IsOneOf names name
one_of [] name is = absurd (true≢false (sym is))
one_of (n ∷ ns) name is = ⊎_elim (λ same. inl ((bytes_eq-Decides name n).0 same)) (λ other. inr (one_of ns name other))
    (or_true (bytes_eq name n) (is_named ns name) is)

no_alias : (aliases : List Text) → has_none aliases ≡ true → aliases ≡ []
no_alias [] is = refl
no_alias (x ∷ xs) is = absurd (true≢false (sym is))

own_or_help : (s : Shape) → (is_named own_names s.name || is_help s) ≡ true
    → IsSubcommand s.name ⊎ ((s.name ≡ help) × (s.aliases ≡ []))
own_or_help s is = ⊎_elim (λ own. inl (one_of own_names s.name own)) (λ other.
    let parts = and_true (bytes_eq s.name help) (has_none s.aliases) other in
    inr ((bytes_eq-Decides s.name help).0 parts.0, no_alias s.aliases parts.1))
    (or_true (is_named own_names s.name) (is_help s) is)

all_known : (ss : List Shape) → are_known ss ≡ true → AreKnown ss
all_known [] is = tt
all_known (s ∷ ss) is =
    let parts = and_true (is_named own_names s.name || is_help s) (are_known ss) is in
    (own_or_help s parts.0, all_known ss parts.1)

-- A subcommand of the program's own was found, with its rows.
abbrev pub FindsOwn : Option (Text × List Row) → Type 0
FindsOwn None = ⊥
FindsOwn (Some found) = IsSubcommand found.0

-- What is entered of these subcommands by this name.
abbrev entered_of : List Shape → Text → List Text → Option (Text × List Row)
entered_of subs name words = option_map (λ s. rows_at s words) (find (λ s. answers_to name (label_of s)) subs)

finds : (subs : List Shape) (name : Text) (words : List Text) → AreKnown subs → (name ≡ help → ⊥)
    → is_some (entered_of subs name words) ≡ true → FindsOwn (entered_of subs name words)
finds [] name words known other some = absurd (true≢false (sym some))
finds (s ∷ ss) name words known other some = go (answers_to name (label_of s)) refl (finds ss name words known.1 other)
    some
  where
    as_help : answers_to name (label_of s) ≡ true → (s.name ≡ help) × (s.aliases ≡ []) → ⊥
    as_help answers is =
        let no_alias : (answers_to name (label_of s)) ≡ (bytes_eq s.name name || false) = rw is.1 refl in
        let named : bytes_eq s.name name ≡ true = sym (or-false (bytes_eq s.name name)) ∙ sym no_alias ∙ answers in
        other (sym ((bytes_eq-Decides s.name name).0 named) ∙ is.0)

    go : (t : Bool) → answers_to name (label_of s) ≡ t
        → (is_some (entered_of ss name words) ≡ true → FindsOwn (entered_of ss name words))
        → is_some (option_map (λ s. rows_at s words) (cond t (Some s) (find (λ s. answers_to name (label_of s)) ss)))
        ≡ true
        → FindsOwn (option_map (λ s. rows_at s words) (cond t (Some s) (find (λ s. answers_to name (label_of s)) ss)))
    go true answers later some = ⊎_elim (λ own. own) (λ is. absurd (as_help answers is)) known.0
    go false answers later some = later some

enters_known : (a : App) (stop : Option (Text × List Text)) → AreKnown a.subs → AvoidsHelp stop
    → is_some (entered a stop) ≡ true
    → FindsOwn (entered a stop)
enters_known a None known other some = absurd (true≢false (sym some))
enters_known a (Some stop) known other some = finds a.subs stop.0 stop.1 known other some

finds_own : (words : List Text) → fault_of program_app words ≡ [] → FindsOwn (subcommand_of program_app words)
finds_own words none =
    let met = level_enters (built program_app) (argument_words program_app words) refl refl none in
    enters_known (built program_app) _ (all_known (built program_app).subs refl) met.1 met.0

-- ---- the same of a command with the program's grammar

pub is_ruled : (c : Command) → HasGrammar program_app c → is_simple_and_free (app_of c) ≡ true
is_ruled c has = ap is_simple_and_free has.0

pub faultless : (c : Command) (words : List Text) → HasGrammar program_app c → fault_of (app_of c) words ≡ []
    → fault_of program_app words ≡ []
faultless c words has none = ap (λ a. fault_of a words) (sym has.0) ∙ none

pub matches_own : (c : Command) (words : List Text) (m : ArgMatches) → HasGrammar program_app c
    → fault_of (app_of c) words ≡ []
    → HasMatchesOf (app_of c) words m → FindsOwn (subcommand_rows_of m)
matches_own c words m has none matches =
    let found = (matches (ap is_simple has.0)).1 ∙ ap (λ a. subcommand_of a words) has.0 in
    subst FindsOwn (sym found) (finds_own words (faultless c words has none))

-- ---- as the getters of the matches give it

pub never_none : (found : Option (Text × List Row)) → FindsOwn found → None ≡ option_map (λ f. f.1) found → ⊥
never_none None finds is = finds
never_none (Some found) finds is = cc

module _ {Z : Type 0} where
  pub named : (met : Option (Box SubCommand Z)) (name : Text) → FindsOwn (subcommand_rows met)
      → Some name ≡ option_map (λ b. (out-SubCommand (box_value b)).name.now) met → IsSubcommand name
  named None name own is = absurd own
  named (Some b) name own is = subst IsSubcommand (sym (ap (λ (o : Option Text). unwrap_or o name) is)) own

-- A fault that `clap` finds by the command is one by the program's grammar.
pub fails_own : (c : Command) (words : List Text) (e : Error) → HasGrammar program_app c
    → HasKind (fault_of (app_of c) words) e → HasKind (fault_of program_app words) e
fails_own c words e has fails = subst (λ a. HasKind (fault_of a words) e) has.0 fails

among_some : (kind : ErrorKind) (kinds : Kinds) → IsAmong kind kinds → kinds ≢ []
among_some kind [] among = absurd among
among_some kind (other ∷ kinds) among = λ same. cc

-- An error is a failed allocation, or the words are refused.
pub refused_by : (words : List Text) (e : Error) → HasKind (fault_of program_app words) e
    → (kind_of e ≡ OutOfMemory) ⊎ AreRefused words
refused_by words e (inl memory) = inl memory
refused_by words e (inr among) = inr (among_some (kind_of e) (fault_of program_app words) among)

module _ {Z : Type 0} where
  asks_met : (met : Option (Box SubCommand Z)) (name : Text) (rows : List Row) (asked : Asked)
      → Some name ≡ option_map (λ b. (out-SubCommand (box_value b)).name.now) met
      → Some rows ≡ option_map (λ p. p.1) (subcommand_rows met) → Asks name rows asked
      → AsksFound (subcommand_rows met) asked
  asks_met None name rows asked is has asks = cc
  asks_met (Some b) name rows asked is has asks =
      subst (λ n. Asks n (rows_of (found_of (out-SubCommand (box_value b)).matches)) asked) (same_Some _ _ is)
      (subst (λ r. Asks name r asked) (same_Some _ _ has) asks)

-- What the subcommand asks that was found is what the words ask.
pub words_ask : (c : Command) (words : List Text) (m : ArgMatches) (name : Text) (rows : List Row) (asked : Asked)
    → HasGrammar program_app c → HasMatchesOf (app_of c) words m → Some name ≡ subcommand_name_of m
    → Some rows ≡ option_map (λ p. p.1) (subcommand_rows_of m) → Asks name rows asked → WordsAsk words asked
words_ask c words m name rows asked has matches is found asks =
    let same = (matches (ap is_simple has.0)).1 ∙ ap (λ a. subcommand_of a words) has.0 in
    subst (λ f. AsksFound f asked) same (asks_met (out-ArgMatches m).subcommand name rows asked is found asks)
