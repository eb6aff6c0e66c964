-- The program's grammar is too large to be searched in: what the command keeps of it is handed over.
use Rattle.std.proofs.Common.{◌≡◌, Err, Global, map, string_bytes, subst, sym, arith}
use Rattle.std.proofs.lemmas.Grind.{common_steps}
use Rattle.std.specs.Prelude.{◌⊎◌, IfErr}
use Rattle.clap.specs.Words.{FailsBy, fault_of, found_of, kind_of, rows_of}
use Rattle.clap.specs.declared.error.kind.ErrorKind.TheVariants.{OutOfMemory}
use Rattle.cli.specs.Asking.{AreRefused}
use Rattle.cli.specs.Grammar.{program_app}
use Rattle.cli.proofs.NumberLemmas.{within_limits}
use Rattle.cli.proofs.SubcommandLemmas.{fails_own, faultless, is_ruled, matches_own, named, never_none, refused_by}
use Rattle.cli.proofs.SubcommandLemmas.{words_ask}
use Rattle.cli.proofs.asking.asked.Goals as goal

pub unreachable-requires : goal.unreachable-requires
unreachable-requires c =
    let none = c.in_ok-matches.ensures.kinds (is_ruled _ c.in_ok-program.ensures) in
    never_none _ (matches_own _ _ _ c.in_ok-program.ensures none c.in_ok-matches.ensures.matches) c.in-None.ensures.rows

pub asked_of-requires : goal.asked_of-requires
asked_of-requires c =
    let none = c.in_ok-matches.ensures.kinds (is_ruled _ c.in_ok-program.ensures) in
    named _ _ (matches_own _ _ _ c.in_ok-program.ensures none c.in_ok-matches.ensures.matches) c.in-Some.ensures.name

pub returns-in_err-matches-clause-refused : goal.returns-in_err-matches-clause-refused
returns-in_err-matches-clause-refused c =
    let why = c.in_err-matches.field-0.0 in
    let words = map (string_bytes {Z = Global}) c.args.words.now in
    let is : c.from_residual-in_err-matches.result ≡ Err why = grind (arith, common_steps) in
    let kinds = c.in_err-matches.ensures.kinds (is_ruled _ c.in_ok-program.ensures) in
    subst (λ r. FailsBy (fault_of program_app words) r) (sym is) (fails_own _ words why c.in_ok-program.ensures kinds)

pub returns-in_err-matches-clause-fault : goal.returns-in_err-matches-clause-fault
returns-in_err-matches-clause-fault c =
    let why = c.in_err-matches.field-0.0 in
    let words = map (string_bytes {Z = Global}) c.args.words.now in
    let is : c.from_residual-in_err-matches.result ≡ Err why = grind (arith, common_steps) in
    let kinds = c.in_err-matches.ensures.kinds (is_ruled _ c.in_ok-program.ensures) in
    subst (λ r. IfErr r (λ error. (kind_of error ≡ OutOfMemory) ⊎ AreRefused words)) (sym is)
    (refused_by words why (fails_own _ words why c.in_ok-program.ensures kinds))

pub returns-clause-found : goal.returns-clause-found
returns-clause-found c =
    words_ask _ _ _ c.in-Some.name.now (rows_of (found_of c.in-Some.given.now)) c.in_ok-asked_of-in-Some.field-0
    c.in_ok-program.ensures c.in_ok-matches.ensures.matches c.in-Some.ensures.name c.in-Some.ensures.rows
    c.in_ok-asked_of-in-Some.ensures

pub returns-clause-refused : goal.returns-clause-refused
returns-clause-refused c =
    faultless _ _ c.in_ok-program.ensures (c.in_ok-matches.ensures.kinds (is_ruled _ c.in_ok-program.ensures))

pub returns-clause-limits : goal.returns-clause-limits
returns-clause-limits c =
    within_limits c.in-Some.name.now (rows_of (found_of c.in-Some.given.now)) c.in_ok-asked_of-in-Some.field-0
    c.in_ok-asked_of-in-Some.ensures
